-- `report_by_bytes` meets its contract. Assumes nothing.
use Rattle.calls.proofs.Ways.{bytes_none, bytes_some}
use borrow.Author.Rules.{rules}
use Rattle.verdicts.proofs.report_by_bytes.Goals as goal

pub returns-then-bytes-eq0 : goal.returns-then-bytes-eq0
returns-then-bytes-eq0 c = search (rules, bytes_none)

pub returns : goal.returns
returns c = search (rules, bytes_some)
