-- No file of bytes that conditions 1 and 3 to 8 let pass has more than 32,906 bytes, and that of
-- the rule with every arc has so many: 10, 4 for each of 32 states, and 2 for each state, symbol
-- and target. Assumes nothing.
use mathlib.Core.Path.{◌≡◌, refl, ap, ◌∙◌, subst}
use mathlib.Core.Logic.{⊎_elim}
use mathlib.Core.Bool.{Bool, true, cond, not}
use mathlib.Core.List.{List, [], ◌∷◌}
use Prim.Native.Nat.{ℕ, ◌+◌, ◌*◌, ◌^◌, ◌≤◌, ◌<◌}
use native.Mathlib.Omega.{arith}
use lib.Dec.{ltb}
use lib.ListN.{length, get_or, replicate, length-replicate, get_or-replicate, get_or-eq_default}
use borrow.Author.Tests.{lt-ltb, le-ltb, ltb-true, ltb-false, not-false}
use Rattle.base.specs.Conditions.{NoneHolds, any_below}
use Rattle.base.specs.Lists.{joined}
use Rattle.base.proofs.Conditions.{none_at}
use Rattle.base.proofs.Lists.{length_exact}
use Rattle.base.proofs.Tests.{by_test}
use Rattle.masks.specs.Masks.{has}
use Rattle.automaton.specs.Rules.{target_mask, WellFormed}
use Rattle.ruleformat.specs.Refusals.{conditions_but2}
use Rattle.ruleformat.specs.Reader.{rule_of}
use Rattle.ruleformat.specs.Writing.{Bytes, section_of, file_of}
use Rattle.ruleformat.specs.Worked.{full_rule}
use Rattle.ruleformat.proofs.Accepted.{accepted_by}
use Rattle.ruleformat.proofs.Language as language
use Rattle.ruleformat.proofs.Writing.{size_is}
use Rattle.ruleformat.proofs.Written.{file_size}
use Rattle.ruleformat.proofs.Rewritten.{whole}

pub longest : (f : List ℕ) → Bytes f → NoneHolds (conditions_but2 f) → length f ≤ 32906
longest f b e =
    let a = accepted_by f e in
    subst (λ (x : List ℕ). length x ≤ 32906) (whole f b a) (file_size (rule_of f) (language.well_formed f a))

-- ---- the rule with every arc
-- every state is in the mask
full_has : (t : ℕ) → t < 32 → has 0xFFFFFFFF t ≡ true
unfolding any_below
full_has t l = not-false (has 0xFFFFFFFF t) (none_at (λ q. not (has 0xFFFFFFFF q)) 32 t refl l)

abbrev masks : ℕ → ℕ → ℕ
masks = target_mask (replicate 512 0xFFFFFFFF)

inside : (q s : ℕ) → q < 32 → s < 16 → masks q s ≡ 0xFFFFFFFF
inside q s hq hs = rw (lt-ltb s 16 hs) (get_or-replicate 512 (q * 16 + s) 0xFFFFFFFF 0 (omega arith))

past : (n x i : ℕ) → n ≤ i → get_or (replicate n x) i 0 ≡ 0
past n x i h = get_or-eq_default (replicate n x) 0 (rw (length-replicate {A = ℕ} n x) h)

no_state : (q s : ℕ) → 32 ≤ q → masks q s ≡ 0
no_state q s h =
    by_test (ltb s 16)
    (λ e. rw e (past 512 0xFFFFFFFF (q * 16 + s) (omega arith)))
    (λ e. rw e)

no_symbol : (q s : ℕ) → 16 ≤ s → masks q s ≡ 0
no_symbol q s h = rw (le-ltb s 16 h)

mask_below : (q s : ℕ) → masks q s < 2 ^ 32
mask_below q s =
    by_test (ltb q 32)
    (λ e.
    by_test (ltb s 16)
    (λ f. omega (arith, inside q s (ltb-true q 32 e) (ltb-true s 16 f)))
    (λ f. omega (arith, no_symbol q s (ltb-false s 16 f))))
    (λ e. omega (arith, no_state q s (ltb-false q 32 e)))

pub well_formed : WellFormed full_rule
unfolding full_rule
well_formed = record {
  states = (omega arith, omega arith);
  symbols = (omega arith, omega arith);
  initials_below = omega arith;
  finals_below = omega arith;
  targets_below = λ q s _. mask_below q s;
  zero_outside = λ q s _. ⊎_elim (no_state q s) (no_symbol q s);
}

section_full : (q : ℕ) → q < 32 → length (section_of 32 16 (masks q)) ≡ 1024
section_full q l =
    length_exact (λ s. joined (λ t. cond (has (masks q s) t) (s ∷ t ∷ []) []) 32) 16 64 λ s hs.
    length_exact (λ t. cond (has (masks q s) t) (s ∷ t ∷ []) []) 32 2 λ t ht.
    ap (λ (m : ℕ). length (cond (has m t) (s ∷ t ∷ []) [])) (inside q s l hs)
    ∙ ap (λ (b : Bool). length (cond b (s ∷ t ∷ []) [])) (full_has t ht)

pub length_full : length (file_of full_rule) ≡ 32906
unfolding full_rule
length_full =
    size_is 32 16 0xFFFFFFFF 0xFFFFFFFF (λ q. section_of 32 16 (masks q))
    ∙ ap (λ (x : ℕ). 10 + 4 * 32 + x) (length_exact (λ q. section_of 32 16 (masks q)) 32 1024 section_full)
