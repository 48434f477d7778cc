-- `ask` meets its contract. Assumes nothing.
use Rattle.linebuffer.proofs.Standing.{locate_inside, diagnose_state, diagnose_text, locate_state, locate_text}
use borrow.Author.Rules.{rules}
use Rattle.linebuffer.proofs.ask.Goals as goal

pub slice_bounds-ask_location-count : goal.slice_bounds-ask_location-count
slice_bounds-ask_location-count c = search (rules, locate_inside)

pub slice_bounds-ask_location-start : goal.slice_bounds-ask_location-start
slice_bounds-ask_location-start c = search (rules, locate_inside)

pub returns-in-Diagnose : goal.returns-in-Diagnose
returns-in-Diagnose c = record { ended_value = search (rules, diagnose_state); text = search (rules, diagnose_text); scratch = search rules }

pub returns-in-Locate : goal.returns-in-Locate
returns-in-Locate c = record { ended_value = search (rules, locate_state); text = search (rules, locate_text); scratch = search rules }
