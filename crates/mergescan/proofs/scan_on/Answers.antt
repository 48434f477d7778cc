-- `scan_on` meets its contract. Assumes nothing.
use borrow.Author.Rules.{rules}
use Rattle.mergescan.proofs.Kept.{scan_start, scan_word, scan_space, scan_first, scan_second, scan_stray}
use Rattle.mergescan.proofs.scan_on.Goals as goal

pub returns-then-c-eq32 : goal.returns-then-c-eq32
returns-then-c-eq32 c = search (rules, scan_start, scan_word, scan_space, scan_first, scan_second, scan_stray)

pub returns-in-Start : goal.returns-in-Start
returns-in-Start c = search (rules, scan_start, scan_word, scan_space, scan_first, scan_second, scan_stray)

pub returns-in-Word : goal.returns-in-Word
returns-in-Word c = search (rules, scan_start, scan_word, scan_space, scan_first, scan_second, scan_stray)

pub returns-else-c-eq32 : goal.returns-else-c-eq32
returns-else-c-eq32 c = search (rules, scan_start, scan_word, scan_space, scan_first, scan_second, scan_stray)

pub returns-in-Second : goal.returns-in-Second
returns-in-Second c = search (rules, scan_start, scan_word, scan_space, scan_first, scan_second, scan_stray)

pub returns-in-Stray : goal.returns-in-Stray
returns-in-Stray c = search (rules, scan_start, scan_word, scan_space, scan_first, scan_second, scan_stray)
