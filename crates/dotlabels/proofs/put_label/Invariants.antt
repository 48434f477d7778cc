-- `put_label` meets its contract. The loop's invariant: the pieces of the symbols below s are
-- written. Assumes nothing.
use Rattle.dotlabels.specs.Labels.{leads, piece}
use Rattle.dotlabels.proofs.Rows.{Row}
use Rattle.dotlabels.proofs.put_label.Given as goal

abbrev pub invariant-loop-s : goal.invariant-loop-s
invariant-loop-s l = Row (piece (leads l.targets l.k l.q.0 l.t.0)) 3 l.k l.initial.out l.start l.out l.at l.s
