-- `put_initials` meets its contract. The loop's invariant: the lines of the initial states below q
-- are written. Assumes nothing.
use Rattle.dotgraph.specs.DotText.{initial_lines}
use Rattle.dotlabels.proofs.Rows.{Row}
use Rattle.dotgraph.proofs.put_initials.Given as goal

abbrev pub invariant-loop-q : goal.invariant-loop-q
invariant-loop-q l = Row (initial_lines l.initials) 30 l.n l.initial.out l.start l.out l.at l.q
