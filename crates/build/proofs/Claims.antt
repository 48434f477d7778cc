-- The proof of all that specs/Claims.antt claims: the claims of the numbered sets and of the merged
-- starts, brought to the built rule. Assumes nothing.
use mathlib.Core.Path.{◌≡◌, ◌∙◌}
use Prim.Native.Nat.{ℕ, ◌≤◌, ◌<◌}
use native.Mathlib.Omega.{arith}
use lib.ListN.{length, get_or}
use borrow.Author.Tests.{ltb-false}
use Rattle.base.proofs.Lists.{cell_of_lem}
use Rattle.masks.specs.Masks.{single}
use Rattle.automaton.specs.declared.Rule.{Rule}
use Rattle.automaton.specs.Rules.{WellFormed}
use Rattle.subsets.specs.Sets.{sets_of, too_many, set_cells}
use Rattle.subsets.specs.Claims.{fits}
use Rattle.subsets.specs.mirror.Singles.{singleton_number}
use Rattle.delegates.proofs.Claims as delegates
use Rattle.build.specs.mirror.Building.{built_of}
use Rattle.build.specs.Claims.{Claims}

module _ (r : Rule) (good : WellFormed r) (f : fits r) where
  few : length (sets_of r.targets r.n r.k) ≤ 512
  unfolding too_many
  few = ltb-false 512 (length (sets_of r.targets r.n r.k)) f

  names : (q : ℕ) → q < r.n → (get_or (built_of r).singles q 0 < (built_of r).setcount) × (get_or (built_of r).sets (get_or (built_of r).singles q 0) 0 ≡ single q)
  names q h =
      let s = (delegates.claims).singles r good f q h in
      let number = singleton_number (set_cells r.targets r.n r.k) (length (sets_of r.targets r.n r.k)) in
      let e : get_or (built_of r).singles q 0 ≡ number q = cell_of_lem 32 number q 0 (omega (arith, good.states)) in
      let m = few in
      (rw e s.0, rw e (cell_of_lem 512 (λ i. get_or (sets_of r.targets r.n r.k) i 0) (number q) 0 (omega (arith, s.0)) ∙ s.1))

pub claims : Claims
claims = record {
  delegates = (delegates.claims).merged;
  singles = names;
}
