-- `word_on` meets its contract. Assumes nothing.
use borrow.Author.Rules.{rules}
use Rattle.mergescan.proofs.Kept.{word_stray, word_more, word_ends}
use Rattle.mergescan.proofs.word_on.Goals as goal

pub returns-then-c-letter : goal.returns-then-c-letter
returns-then-c-letter c = search (rules, word_stray)

pub returns-then-at-last_letter : goal.returns-then-at-last_letter
returns-then-at-last_letter c = search (rules, word_more)

pub returns : goal.returns
returns c = search (rules, word_ends)
