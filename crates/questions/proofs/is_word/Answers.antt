-- `is_word` meets its contract. Assumes nothing.
use Rattle.questions.proofs.Readings.{other_length, same_length}
use borrow.Author.Rules.{rules}
use Rattle.questions.proofs.is_word.Goals as goal

pub returns-then-line-word : goal.returns-then-line-word
returns-then-line-word c = search (rules, other_length)

pub returns : goal.returns
returns c = search (rules, same_length)
