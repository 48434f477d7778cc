-- `put_arrows` meets its contract. The loop's invariant: the arrows from the states below q are
-- written. Assumes nothing.
use Rattle.dotgraph.specs.DotText.{arrows_from}
use Rattle.dotlabels.proofs.Rows.{Row}
use Rattle.dotgraph.proofs.put_arrows.Given as goal

abbrev pub invariant-loop-q : goal.invariant-loop-q
invariant-loop-q l = Row (arrows_from l.targets l.n l.k) 2208 l.n l.initial.out l.start l.out l.at l.q
