-- `ask_verdict` meets its contract. Assumes nothing.
use Rattle.linebuffer.proofs.Standing.{asked_text}
use borrow.Author.Rules.{rules}
use Rattle.linebuffer.proofs.ask_verdict.Goals as goal

pub returns : goal.returns
returns c = search (rules, asked_text)
