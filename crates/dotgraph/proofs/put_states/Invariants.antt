-- `put_states` meets its contract. The loop's invariant: the lines of the first q states are
-- written. Assumes nothing.
use Rattle.dotgraph.specs.DotText.{state_line}
use Rattle.dotlabels.proofs.Rows.{Row}
use Rattle.dotgraph.proofs.put_states.Given as goal

abbrev pub invariant-loop-q : goal.invariant-loop-q
invariant-loop-q l = Row (state_line l.finals) 25 l.n l.initial.out l.start l.out l.at l.q
