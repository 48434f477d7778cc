-- `put_answer` meets its contract. Assumes nothing.
use Rattle.mergescan.proofs.Kept.{ends_start, ends_word, ends_first, ends_second, ends_stray}
use borrow.Author.Rules.{rules}
use Rattle.mergescan.proofs.put_answer.Goals as goal

pub returns-in-Second : goal.returns-in-Second
returns-in-Second c = search (rules, ends_second)

pub returns-in-Start : goal.returns-in-Start
returns-in-Start c = search (rules, ends_start)

pub returns-in-Word : goal.returns-in-Word
returns-in-Word c = search (rules, ends_word)

pub returns-in-First : goal.returns-in-First
returns-in-First c = search (rules, ends_first)

pub returns-in-Stray : goal.returns-in-Stray
returns-in-Stray c = search (rules, ends_stray)
