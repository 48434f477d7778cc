-- `finish` meets its contract. Assumes nothing.
use Rattle.linetexts.specs.Lists.{list_teller}
use Rattle.linetexts.proofs.Lists.{skipped_text_lem}
use Rattle.linetexts.proofs.Ends.{none_written, last_written}
use Rattle.stream.specs.Texts.{call_list}
use Rattle.stream.proofs.Held.{read_whole, verdict_text, ask_inside, ask_text, run_inside, run_text}
use borrow.Author.Rules.{rules}
use Rattle.stream.proofs.finish.Goals as goal

pub returns-then-held-eq0 : goal.returns-then-held-eq0
returns-then-held-eq0 c = search (rules, none_written (list_teller call_list))

pub returns-then-skips : goal.returns-then-skips
returns-then-skips c = search (rules, last_written (list_teller call_list), skipped_text_lem call_list)

pub slice_bounds-ask-end : goal.slice_bounds-ask-end
slice_bounds-ask-end c = search (rules, read_whole)

pub ask-said-requires : goal.ask-said-requires
ask-said-requires c = search (rules, ask_inside)

pub slice_bounds-run-end : goal.slice_bounds-run-end
slice_bounds-run-end c = search (rules, read_whole)

pub run-run-requires : goal.run-run-requires
run-run-requires c = search (rules, run_inside)

pub returns-in-Verdict : goal.returns-in-Verdict
returns-in-Verdict c = search (rules, last_written (list_teller call_list), verdict_text)

pub returns-in-Asks : goal.returns-in-Asks
returns-in-Asks c = search (rules, last_written (list_teller call_list), ask_text)

pub returns-in-Runs : goal.returns-in-Runs
returns-in-Runs c = search (rules, last_written (list_teller call_list), run_text)
