-- `pairs` meets its contract: `out` is the union over the members below q, and `at` is q * n2.
-- Assumes nothing.
use mathlib.Core.Path.{◌≡◌}
use Prim.Native.Nat.{◌*◌, ◌^◌}
use Rattle.masks.specs.Masks.{union}
use Rattle.merge.proofs.pairs.Given as goal

abbrev pub invariant-loop-q : goal.invariant-loop-q
invariant-loop-q l = (l.at ≡ l.q * l.n2) × (l.out ≡ union (λ p. l.b * 2 ^ (p * l.n2)) l.a l.q)
