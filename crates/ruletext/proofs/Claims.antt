-- The proof of all that specs/Claims.antt claims. A file is refused with a number below 10. A rule
-- that is built is well formed: it has at most 32 states and no more starts than states. Assumes
-- nothing.
--
--   low           the number with which a file is refused
--   few_starts    M is at most the number of states
use mathlib.Core.Path.{◌≡◌, refl}
use mathlib.Core.Logic.{⊎_elim}
use mathlib.Core.Bool.{true}
use mathlib.Core.List.{List, [], ◌∷◌}
use mathlib.Core.Option.{Option, none, some}
use Prim.Native.Nat.{ℕ, zero, suc, ◌≤◌, ◌<◌}
use native.Mathlib.Omega.{arith}
use lib.Dec.{eqb}
use lib.ListN.{length, get_or}
use Rattle.base.specs.Conditions.{Condition, on, FirstHolds}
use Rattle.base.proofs.Conditions.{first_law}
use Rattle.base.proofs.Tests.{by_test}
use Rattle.automaton.specs.declared.Rule.{Rule}
use Rattle.automaton.specs.Rules.{WellFormed}
use Rattle.ruleformat.specs.Refusals.{file_conditions, refusal}
use Rattle.ruleformat.specs.Reader.{rule_of}
use Rattle.ruleformat.proofs.Claims as ruleformat
use Rattle.subsets.specs.Sets.{too_many}
use Rattle.subsets.specs.Claims.{fits}
use Rattle.delegates.specs.Alike.{start_count}
use Rattle.build.specs.mirror.Building.{built_of, build_of}
use Rattle.build.proofs.Claims as build
use Rattle.ruletext.specs.RuleText.{refused_text}
use Rattle.ruletext.specs.Printing.{built_text, text_by, most_bytes}
use Rattle.ruletext.specs.Claims.{Claims}
use Rattle.ruletext.proofs.Reading.{determines, dash_exactly}
use Rattle.ruletext.proofs.Lengths.{rule_most, refused_most}

-- ---- a refused file
-- no number of the conditions is above most
abbrev Numbers : ℕ → List Condition → Type 0
Numbers most [] = Unit {0}
Numbers most (on number test ∷ cs) = (number ≤ most) × Numbers most cs

first_low : (most x : ℕ) (cs : List Condition) → Numbers most cs → FirstHolds x cs → x ≤ most
first_low most x [] h y = absurd y
first_low most x (on number test ∷ cs) h y = ⊎_elim (λ z. omega (arith, z.1, h.0)) (λ z. first_low most x cs h.1 z.1) y

pub low : (f : List ℕ) (x : ℕ) → refusal f ≡ some x → x ≤ 8
unfolding refusal
low f x e =
    first_low 8 x (file_conditions f)
    (omega arith, (omega arith, (omega arith, (omega arith, (omega arith, (omega arith, (omega arith, (omega arith, tt))))))))
    ((first_law x (file_conditions f)).0 e)

pub refused_fits : (f : List ℕ) (x : ℕ) → refusal f ≡ some x → length (refused_text x) ≤ 12
refused_fits f x e = refused_most x (omega (arith, low f x e))

-- ---- a rule that is built
few_starts : (d : List ℕ) (n : ℕ) → start_count d n ≤ n
unfolding start_count
few_starts d zero = omega arith
few_starts d (suc n) = let l = few_starts d n in by_test (eqb (get_or d n 0) n) (λ e. rw e (omega arith)) (λ e. rw e (omega arith))

module _ (r : Rule) (good : WellFormed r) (f : fits r) where
  pub starts_low : (built_of r).startcount < 256
  starts_low =
      let m = (build.claims).delegates r good f in
      omega (arith, good.states, m.starts, few_starts (built_of r).delegates r.n)

  whole_fits : length (built_text (build_of r).answer (build_of r).built) ≤ most_bytes
  unfolding build_of
  whole_fits = rw f (rule_most (built_of r) starts_low)

module _ (r : Rule) where
  over_fits : too_many r.targets r.n r.k ≡ true → length (built_text (build_of r).answer (build_of r).built) ≤ most_bytes
  unfolding build_of
  over_fits e = let l = refused_most 9 (omega arith) in rw e (omega arith)

  built_fits : WellFormed r → length (built_text (build_of r).answer (build_of r).built) ≤ most_bytes
  built_fits good = by_test (too_many r.targets r.n r.k) over_fits (whole_fits r good)

-- ---- any file
by_number : (f : List ℕ) (o : Option ℕ) → refusal f ≡ o → length (text_by o (build_of (rule_of f))) ≤ most_bytes
by_number f none e = built_fits (rule_of f) ((ruleformat.claims).well_formed f e)
by_number f (some x) e = let l = refused_fits f x e in omega arith

pub claims : Claims
claims = record { determines = determines; dash_exactly = dash_exactly; fits = λ f. by_number f (refusal f) refl }
