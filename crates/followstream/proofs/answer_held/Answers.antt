-- `answer_held` meets its contract. Assumes nothing.
use Rattle.linetexts.proofs.Lists.{skipped_state, skipped_text_lem}
use Rattle.followstream.specs.Texts.{follow_list}
use Rattle.followstream.proofs.Held.{held_state, held_text}
use borrow.Author.Rules.{rules}
use Rattle.followstream.proofs.answer_held.Goals as goal

pub returns-then-skips : goal.returns-then-skips
returns-then-skips c = search (rules, skipped_state follow_list, skipped_text_lem follow_list)

pub returns : goal.returns
returns c = record { ended_value = search (rules, held_state); text = search (rules, held_text); scratch = search rules }
