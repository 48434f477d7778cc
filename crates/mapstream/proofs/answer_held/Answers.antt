-- `answer_held` meets its contract. Assumes nothing.
use Rattle.linetexts.proofs.Lists.{skipped_text_lem}
use Rattle.mapstream.specs.Texts.{map_list}
use Rattle.mapstream.proofs.Held.{skipped_ended, stray_state, stray_text, asked_state, asked_text}
use borrow.Author.Rules.{rules}
use Rattle.mapstream.proofs.answer_held.Goals as goal

pub returns-then-skips : goal.returns-then-skips
returns-then-skips c = record { ended_value = search (rules, skipped_ended); text = search (rules, skipped_text_lem map_list); scratch = search rules }

pub returns-then-seen : goal.returns-then-seen
returns-then-seen c = record { ended_value = search (rules, asked_state); text = search (rules, asked_text); scratch = search rules }

pub returns : goal.returns
returns c =
    let a = c.args in
    let said = c.say_malformed in
    let look = c.look-seen in
    let tested = c.skips.ensures in
    let left = c.if-skips.false in
    let stray = c.if-seen.false in
    record { ended_value = stray_state a.state.now a.ended _ _ _ tested left _ look.ensures.value stray said.result.ended (said.ensures a.state.now).ended; text = stray_text a.state.now a.ended _ _ _ tested left _ look.ensures.value _ _ said.result stray said.ensures; scratch = search rules }
