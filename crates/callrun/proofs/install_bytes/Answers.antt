-- `install_bytes` meets its contract. Assumes nothing.
use borrow.Author.Rules.{rules}
use Rattle.callrun.proofs.Carried.{other_bytes, rule_bytes}
use Rattle.callrun.proofs.install_bytes.Goals as goal

pub returns-then-bytes-ne-PACKED : goal.returns-then-bytes-ne-PACKED
returns-then-bytes-ne-PACKED c = search (rules, other_bytes)

pub returns : goal.returns
returns c = search (rules, rule_bytes)
