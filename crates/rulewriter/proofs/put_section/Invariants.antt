-- `put_section` meets its contract. The loop's invariant: the arcs by the first s symbols are written.
-- Assumes nothing.
use Rattle.rulewriter.proofs.Parts.{Parts}
use Rattle.rulewriter.specs.Written.{arcs_by}
use Rattle.automaton.specs.Rules.{target_mask}
use mathlib.Core.List.{List}
use Prim.Native.Nat.{ℕ}
use Rattle.rulewriter.proofs.put_section.Given as goal

-- the arcs of state q by symbol s
abbrev pub part : List ℕ → ℕ → ℕ → ℕ → List ℕ
part ts n q s = arcs_by n (target_mask ts q s) s

abbrev pub invariant-loop-s : goal.invariant-loop-s
invariant-loop-s l = Parts (part l.targets l.n l.q.0) l.k l.initial.out l.start l.out l.at l.s
