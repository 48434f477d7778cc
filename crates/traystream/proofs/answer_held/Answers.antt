-- `answer_held` meets its contract. Assumes nothing.
use Rattle.linetexts.proofs.Lists.{skipped_state, skipped_text_lem}
use Rattle.traystream.specs.Texts.{tray_list}
use Rattle.traystream.proofs.Held.{held_state, held_text}
use borrow.Author.Rules.{rules}
use Rattle.traystream.proofs.answer_held.Goals as goal

pub returns-then-skips : goal.returns-then-skips
returns-then-skips c = search (rules, skipped_state tray_list, skipped_text_lem tray_list)

pub returns : goal.returns
returns c = record { ended_value = search (rules, held_state); text = search (rules, held_text); scratch = search rules }
