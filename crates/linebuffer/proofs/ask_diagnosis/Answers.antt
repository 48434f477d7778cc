-- `ask_diagnosis` meets its contract. Assumes nothing.
use Rattle.linebuffer.proofs.Standing.{found_text}
use borrow.Author.Rules.{rules}
use Rattle.linebuffer.proofs.ask_diagnosis.Goals as goal

pub returns : goal.returns
returns c = search (rules, found_text)
