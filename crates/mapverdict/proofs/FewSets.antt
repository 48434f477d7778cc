-- A rule of at most eight states has fewer than 256 sets, so it is never refused with 9. Assumes
-- that the profile takes the rule, and nothing else.
use mathlib.Core.Path.{◌≡◌, ◌∙◌, subst}
use mathlib.Core.Bool.{false}
use mathlib.Core.List.{List}
use mathlib.Core.Option.{none}
use Prim.Native.Nat.{ℕ, ◌<◌}
use native.Mathlib.Nat.{lt_of_lt_of_le}
use native.Mathlib.Omega.{arith}
use lib.ListN.{get_or}
use lib.Pow.{pow-lt, pow_mono}
use Rattle.base.specs.Lists.{list_from}
use Rattle.base.proofs.Lists.{length_list_from, cell_of_lem}
use Rattle.base.proofs.Tests.{by_test}
use Rattle.masks.specs.Masks.{single}
use Rattle.automaton.specs.declared.Rule.{Rule}
use Rattle.automaton.proofs.Laws.{after_below}
use Rattle.rulecheck.proofs.Claims as check
use Rattle.numbering.proofs.Numbers.{Has, stands}
use Rattle.numbering.proofs.Pigeonhole.{at_most}
use Rattle.subsets.specs.Sets.{too_many}
use Rattle.subsets.specs.Claims.{Reach}
use Rattle.subsets.proofs.Claims as subsets
use Rattle.mappings.specs.Claims.{Small}
use Rattle.profile.specs.Claims.{Takes}
use Rattle.profile.proofs.Claims as profile
use Rattle.calls.specs.Calls.{install_number}
use Rattle.calls.proofs.Conditions.{install_number_lem}

-- the masks of eight bits
abbrev masks : List ℕ
masks = list_from 0 256 (λ m. m)

among : (m : ℕ) → m < 256 → Has masks m
among m b = stands masks m m (rw (length_list_from 0 256 (λ x. x)) b) (cell_of_lem 256 (λ x. x) m 0 b)

module _ (r : Rule) (small : Small r) where
  reached_low : (m : ℕ) → Reach r m → m < 256
  reached_low m h =
      subst (λ (x : ℕ). x < 256) h.leads
      (lt_of_lt_of_le (after_below r small.good (single h.state) h.text (pow-lt h.below)) (pow_mono small.states))

  few_sets_lem : too_many r.targets r.n r.k ≡ false
  few_sets_lem =
      by_test (too_many r.targets r.n r.k)
      (λ t.
      let o = ((subsets.claims).nine r small.good).0 t in
      let most = at_most o.0 masks o.2 (λ i b. among (get_or o.0 i 0) (reached_low (get_or o.0 i 0) (o.3 i (omega (arith, o.1))))) in
      absurd (omega (arith, o.1, length_list_from 0 256 (λ x. x))))
      (λ f. f)

pub installs : (r : Rule) → Takes r → install_number r ≡ none
installs r takes =
    let small = (((profile.claims).takes r).0 takes).0 in
    install_number_lem r ∙ rw (((check.claims).passes r).1 small.good, few_sets_lem r small)
