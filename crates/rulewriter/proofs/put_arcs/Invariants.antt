-- `put_arcs` meets its contract. The loop's invariant: the arcs to the first t states are written.
-- Assumes nothing.
use Rattle.rulewriter.proofs.Parts.{Parts}
use Rattle.rulewriter.specs.Written.{arc_to}
use Rattle.rulewriter.proofs.put_arcs.Given as goal

abbrev pub invariant-loop-t : goal.invariant-loop-t
invariant-loop-t l = Parts (arc_to l.mask l.symbol) l.n l.initial.out l.start l.out l.at l.t
