-- `compare_files` meets its contract. Assumes nothing.
use Rattle.mergetext.proofs.Ways.{read_rule}
use Rattle.mergetext.proofs.Others.{compared_answered}
use Rattle.mergetext.proofs.compare_files.Goals as goal

pub returns : goal.returns
returns c =
    let a = c.args in
    let one = read_rule a.one.now c.in_ok-first.first c.in_ok-first.ensures in
    let two = read_rule a.two.now c.in_ok-second.second c.in_ok-second.ensures in
    compared_answered a.one.now a.two.now one.0 two.0 _ _ one.1 two.1 c.compare.result c.compare.ensures
