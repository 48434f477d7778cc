-- The numbers that C is given, read back: by cases of what merging answers. Assumes nothing.
use mathlib.Core.Path.{◌≡◌, refl}
use mathlib.Core.Option.{Option, none, some}
use Prim.Native.Nat.{ℕ, ◌≤◌}
use native.Mathlib.Omega.{arith}
use borrow.Author.Tests.{ne_eqb}
use Rattle.flags.proofs.Flags as flags
use Rattle.automaton.specs.declared.Rule.{Rule}
use Rattle.merging.specs.declared.Way.TheVariants.{Interleaving}
use Rattle.merging.specs.Merged.{merged_of}
use Rattle.merging.specs.Merging.{way_of, merge_number, merging_by}
use Rattle.c_merge.specs.Numbers.{merge_shown, merge_read_back}
use Rattle.c_merge.specs.Claims.{Claims}

pub merge_by : (number : Option ℕ) (r : Rule) → merge_read_back (merge_shown (merging_by number r)) ≡ merging_by number r
merge_by none r = refl
merge_by (some x) r = refl

way_other : (x : ℕ) → 2 ≤ x → way_of x ≡ Interleaving
way_other x h = rw (ne_eqb x 0 (λ e. omega (arith, h, e)), ne_eqb x 1 (λ e. omega (arith, h, e))) refl

pub claims : Claims
claims = record {
  flags = λ m. (flags.claims).flags m.number;
  rule = λ m. refl;
  merge_read_back_lem = λ way one two. merge_by (merge_number way one two) (merged_of way one two);
  way_0 = refl;
  way_1 = refl;
  way_other = way_other;
}
