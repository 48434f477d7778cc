-- `arcs_break` meets its contract. The loop's invariant: no section before q has a bad arc. Each
-- section lies in the file, since condition 7 does not hold. Assumes nothing.
use Rattle.base.specs.Conditions.{any_below}
use Rattle.ruleformat.specs.Refusals.{bad_pairs, bad_section}
use Rattle.ruleformat.specs.Format.{state_count, symbol_count, section}
use lib.ListN.{length}
use Prim.Native.Nat.{◌+◌, ◌*◌, ◌≤◌, ◌<◌}
use mathlib.Core.Bool.{false}
use mathlib.Core.Path.{◌≡◌}
use Rattle.rulefile.proofs.arcs_break.Given as goal

abbrev pub invariant-loop-q : goal.invariant-loop-q
invariant-loop-q l =
    (l.n ≡ state_count l.file) × (l.k ≡ symbol_count l.file) × (l.n < 256) × (10 + 4 * l.n ≤ length l.file) × (bad_pairs l.file ≡ false)
    × (any_below (λ p. bad_section (state_count l.file) (symbol_count l.file) (section l.file p)) l.q ≡ false)
