-- Rules A and B of document 01, from their bytes: what sets they have, and that their delegates are
-- 0 1 2 and 0 1 1. States are told apart by a text over which the one has an accepting run and the
-- other none. Assumes nothing.
use mathlib.Core.Path.{◌≡◌, refl, sym, ap, ap₂, ◌∙◌}
use mathlib.Core.Bool.{Bool, true, false, true≢false}
use mathlib.Core.List.{List, [], ◌∷◌}
use mathlib.Core.Option.{some}
use Prim.Native.Nat.{ℕ, zero, suc, ◌≤◌, ◌<◌}
use native.Mathlib.Omega.{arith}
use lib.Dec.{lit<}
use borrow.Author.Count.{below_none, below_more}
use lib.ListN.{length, get_or, replicate, get_or-replicate}
use lib.Seq.{ext_get_or}
use Rattle.base.specs.Lists.{list_from}
use Rattle.masks.specs.Masks.{single, union, shares}
use Rattle.automaton.specs.declared.Rule.{Rule}
use Rattle.automaton.specs.Automaton.{Automaton, Text}
use Rattle.automaton.specs.Rules.{automaton_of, WellFormed}
use Rattle.automaton.specs.Successor.{successor, after}
use Rattle.ruleformat.specs.Reader.{targets_up_to, rule_of}
use Rattle.ruleformat.specs.Worked.{file_A, file_B}
use Rattle.ruleformat.proofs.Claims as rulefile
use Rattle.numbering.specs.Numbering.{index_of, numbered, expand_from, close_from, keys_up_to}
use Rattle.subsets.specs.Sets.{sets_of, too_many}
use Rattle.subsets.specs.Claims.{fits}
use Rattle.subsets.proofs.Claims as subsets
use Rattle.delegates.specs.Alike.{Alike, Live, Lowest, Delegate, delegate_cell, start_count, Merged}
use Rattle.delegates.proofs.Tests.{le_by}
use Rattle.delegates.proofs.Alike.{alike_self, one_delegate}
use Rattle.delegates.proofs.Acceptance.{from_law}
use Rattle.delegates.specs.Claims.{starts_in}
use Rattle.histories.proofs.Running.{merged}

-- ---- delegates
-- the lowest state alike to q
lowest_alike : (a : Automaton) (q d : ℕ) → d < a.n → Alike a q d → ((p : ℕ) → p < d → Alike a q p → ⊥) → Lowest a q d
lowest_alike a q d h alike apart = record { state = h; alike = alike; lowest = λ p l x. le_by d p (λ b. apart p b x) }

-- some accepting run over w starts in q
abbrev accepting : Rule → ℕ → List ℕ → Bool
accepting r q w = shares (after r.targets (single q) w) r.finals

module _ (r : Rule) (good : WellFormed r) (fit : fits r) where
  apart_by : (p q : ℕ) → p < r.n → q < r.n → (w : List ℕ) → Text r.k w → accepting r p w ≡ true → accepting r q w ≡ false
      → Alike (automaton_of r) p q → ⊥
  apart_by p q hp hq w x t f alike =
      let law = from_law subsets.claims r good fit in
      true≢false (sym ((law q hq w).0 ((alike w x).0 ((law p hp w).1 t))) ∙ f)

  live_by : (q : ℕ) → q < r.n → (w : List ℕ) → accepting r q w ≡ true → Live (automaton_of r) q
  live_by q h w t = record { text = w; accepts = (from_law subsets.claims r good fit q h w).1 t }

  alike_by : (p q : ℕ) → p < r.n → q < r.n → ((w : List ℕ) → Text r.k w → accepting r p w ≡ accepting r q w) → Alike (automaton_of r) p q
  alike_by p q hp hq same w x =
      let law = from_law subsets.claims r good fit in
      (λ t. (law q hq w).1 (sym (same w x) ∙ (law p hp w).0 t), λ t. (law p hp w).1 (same w x ∙ (law q hq w).0 t))

-- ---- the list of the delegates of three states
abbrev pub listed : ℕ → ℕ → ℕ → List ℕ
listed x y z = x ∷ y ∷ z ∷ replicate 29 0

list_is : (d : List ℕ) (x y z : ℕ) → length d ≡ 32 → get_or d 0 0 ≡ x → get_or d 1 0 ≡ y → get_or d 2 0 ≡ z → ((q : ℕ) → 3 ≤ q → get_or d q 0 ≡ 0)
    → d ≡ listed x y z
list_is d x y z len e0 e1 e2 zeros = ext_get_or 0 d (listed x y z) len (λ c h. cell c (rw len at h))
  where
    cell : (c : ℕ) → c < 32 → get_or d c 0 ≡ get_or (listed x y z) c 0
    cell zero h = e0
    cell (suc zero) h = e1
    cell (suc (suc zero)) h = e2
    cell (suc (suc (suc c))) h = zeros (suc (suc (suc c))) (omega arith) ∙ sym (get_or-replicate 29 c 0 0 (omega arith))

-- of a rule with three states, with the delegates x, y, z
only_listed : (a : Automaton) (x y z : ℕ) → a.n ≡ 3 → Delegate a 0 (some x) → Delegate a 1 (some y) → Delegate a 2 (some z)
    → (d : List ℕ) (m : ℕ) → Merged a d m → (d ≡ listed x y z) × (m ≡ start_count (listed x y z) 3)
only_listed a x y z three dx dy dz d m given =
    let known : (q e : ℕ) → q < 3 → Delegate a q (some e) → get_or d q 0 ≡ e =
    λ q e h x. let o = given.delegates q (rw three h) in o.2 ∙ ap delegate_cell (one_delegate a q o.0 (some e) o.1 x) in
    let e : d ≡ listed x y z =
    list_is d x y z given.cells (known 0 x (lit< tt) dx) (known 1 y (lit< tt) dy) (known 2 z (lit< tt) dz)
    (λ q h. given.zeros q (rw three h)) in
    (e, given.starts ∙ rw (three, e))

-- so these are what the definition gives
starts_are : (r : Rule) (x y z : ℕ) → WellFormed r → fits r → r.n ≡ 3
    → Delegate (automaton_of r) 0 (some x) × Delegate (automaton_of r) 1 (some y) × Delegate (automaton_of r) 2 (some z)
    → starts_in r ≡ record { delegates = listed x y z; startcount = start_count (listed x y z) 3 }
starts_are r x y z good fit three ds =
    let o = only_listed (automaton_of r) x y z three ds.0 ds.1 ds.2 (starts_in r).delegates (starts_in r).startcount (merged r good fit) in
    ap₂ (λ (d : List ℕ) (m : ℕ). record { delegates = d; startcount = m }) o.0 o.1

-- ---- rule A
sets_A : sets_of (rule_of file_A).targets (rule_of file_A).n (rule_of file_A).k ≡ 1 ∷ 3 ∷ 5 ∷ 2 ∷ 4 ∷ []
unfolding union list_from targets_up_to index_of numbered expand_from close_from keys_up_to sets_of
sets_A = refl

fits_A : fits (rule_of file_A)
unfolding too_many
fits_A = rw sets_A

good_A : WellFormed (rule_of file_A)
good_A = (rulefile.claims).well_formed file_A (rulefile.claims).accepted_A

-- every state is live, by the texts 0 1, 1 and the empty one; over the text 1 an accepting run
-- starts in 1 and not in 0; state 2 is final, and 0 and 1 are not
delegates_A_lem : Delegate (automaton_of (rule_of file_A)) 0 (some 0) × Delegate (automaton_of (rule_of file_A)) 1 (some 1) × Delegate (automaton_of (rule_of file_A)) 2 (some 2)
unfolding union list_from targets_up_to
delegates_A_lem =
    let a = automaton_of (rule_of file_A) in
    let live = live_by (rule_of file_A) good_A fits_A in
    let apart = apart_by (rule_of file_A) good_A fits_A in (
      (live 0 (lit< tt) (0 ∷ 1 ∷ []) refl, lowest_alike a 0 0 (lit< tt) (alike_self a 0) (below_none _)),
      (
        live 1 (lit< tt) (1 ∷ []) refl,
        lowest_alike a 1 1 (lit< tt) (alike_self a 1)
            (below_more (λ p. Alike a 1 p → ⊥) 0 (below_none _) (apart 1 0 (lit< tt) (lit< tt) (1 ∷ []) (lit< tt, tt) refl refl)),
      ),
      (
        live 2 (lit< tt) [] refl,
        lowest_alike a 2 2 (lit< tt) (alike_self a 2)
            (below_more (λ p. Alike a 2 p → ⊥) 1
            (below_more (λ p. Alike a 2 p → ⊥) 0 (below_none _) (apart 2 0 (lit< tt) (lit< tt) [] tt refl refl))
            (apart 2 1 (lit< tt) (lit< tt) [] tt refl refl)),
      ),
    )

pub starts_A : starts_in (rule_of file_A) ≡ record { delegates = listed 0 1 2; startcount = 3 }
unfolding start_count
starts_A = starts_are (rule_of file_A) 0 1 2 good_A fits_A refl delegates_A_lem

-- ---- rule B
sets_B : sets_of (rule_of file_B).targets (rule_of file_B).n (rule_of file_B).k ≡ 1 ∷ 6 ∷ 2 ∷ 4 ∷ []
unfolding union list_from targets_up_to index_of numbered expand_from close_from keys_up_to sets_of
sets_B = refl

fits_B : fits (rule_of file_B)
unfolding too_many
fits_B = rw sets_B

good_B : WellFormed (rule_of file_B)
good_B = (rulefile.claims).well_formed file_B (rulefile.claims).accepted_B

-- states 1 and 2 are final and lead to {0}
to_0 : (s : ℕ) → s < 1 → (successor (rule_of file_B).targets (single 2) s ≡ 1) × (successor (rule_of file_B).targets (single 1) s ≡ 1)
unfolding union list_from targets_up_to
to_0 zero h = (refl, refl)
to_0 (suc s) h = absurd (omega arith)

alike_2_1 : Alike (automaton_of (rule_of file_B)) 2 1
alike_2_1 = alike_by (rule_of file_B) good_B fits_B 2 1 (lit< tt) (lit< tt) same
  where
    same : (w : List ℕ) → Text 1 w → accepting (rule_of file_B) 2 w ≡ accepting (rule_of file_B) 1 w
    same [] x = refl
    same (s ∷ w) x =
        let e = to_0 s x.0 in
        ap (λ (m : ℕ). shares (after (rule_of file_B).targets m w) (rule_of file_B).finals) (e.0 ∙ sym e.1)

-- every state is live, by the text 0 and the empty one; state 0 is not final, and 1 and 2 are
delegates_B_lem : Delegate (automaton_of (rule_of file_B)) 0 (some 0) × Delegate (automaton_of (rule_of file_B)) 1 (some 1) × Delegate (automaton_of (rule_of file_B)) 2 (some 1)
unfolding union list_from targets_up_to
delegates_B_lem =
    let b = automaton_of (rule_of file_B) in
    let live = live_by (rule_of file_B) good_B fits_B in
    let apart = apart_by (rule_of file_B) good_B fits_B in (
      (live 0 (lit< tt) (0 ∷ []) refl, lowest_alike b 0 0 (lit< tt) (alike_self b 0) (below_none _)),
      (
        live 1 (lit< tt) [] refl,
        lowest_alike b 1 1 (lit< tt) (alike_self b 1)
            (below_more (λ p. Alike b 1 p → ⊥) 0 (below_none _) (apart 1 0 (lit< tt) (lit< tt) [] tt refl refl)),
      ),
      (
        live 2 (lit< tt) [] refl,
        lowest_alike b 2 1 (lit< tt) alike_2_1
            (below_more (λ p. Alike b 2 p → ⊥) 0 (below_none _) (apart 2 0 (lit< tt) (lit< tt) [] tt refl refl)),
      ),
    )

pub starts_B : starts_in (rule_of file_B) ≡ record { delegates = listed 0 1 1; startcount = 2 }
unfolding start_count
starts_B = starts_are (rule_of file_B) 0 1 1 good_B fits_B refl delegates_B_lem
