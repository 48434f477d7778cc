-- `put_targets` meets its contract. The loop's invariant: the arrows to the states below t are
-- written. Assumes nothing.
use Rattle.dotgraph.specs.DotText.{arrow_lines}
use Rattle.dotlabels.proofs.Rows.{Row}
use Rattle.dotgraph.proofs.put_targets.Given as goal

abbrev pub invariant-loop-t : goal.invariant-loop-t
invariant-loop-t l = Row (arrow_lines l.targets l.k l.q.0) 69 l.n l.initial.out l.start l.out l.at l.t
