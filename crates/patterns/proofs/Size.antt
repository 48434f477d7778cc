-- Each letter is the target of at most one arc from a state, since it has one symbol, and the start
-- is the target of none: so a pattern's rule file has at most 2,122 bytes. Assumes at most 31
-- letters.
use mathlib.Core.Path.{◌≡◌, refl, sym, ap, ◌∙◌}
use mathlib.Core.Bool.{Bool, true, false, cond}
use mathlib.Core.List.{List, [], ◌∷◌}
use Prim.Native.Nat.{ℕ, zero, suc, ◌+◌, ◌*◌, ◌≤◌, ◌<◌}
use native.Mathlib.Omega.{arith}
use lib.ListN.{length}
use Rattle.base.specs.Lists.{joined}
use Rattle.base.specs.Totals.{total}
use Rattle.base.proofs.Tests.{by_test}
use Rattle.base.proofs.Lists.{length_joined, joined_length}
use Rattle.base.proofs.Totals.{total_same, total_but_one}
use Rattle.masks.specs.Masks.{◌∈◌, has}
use Rattle.masks.proofs.Laws.{member_of}
use Rattle.automaton.specs.Rules.{target_mask}
use Rattle.ruleformat.specs.Writing.{section_of, file_of}
use Rattle.ruleformat.proofs.Writing.{size_is}
use Rattle.patterns.specs.Patterns.{Pattern, count}
use Rattle.patterns.specs.Positions.{position_rule}
use Rattle.patterns.proofs.Theory.{letter_at}
use Rattle.patterns.proofs.Numbers.{same_place, positions_of_lem}
use Rattle.patterns.proofs.Language.{target_of, member_of_cell, after_above}

-- ---- sums
total-add : (f g : ℕ → ℕ) (n : ℕ) → total (λ i. f i + g i) n ≡ total f n + total g n
unfolding total
total-add f g zero = refl
total-add f g (suc n) = omega (arith, total-add f g n)

total-zero : (f : ℕ → ℕ) (n : ℕ) → ((i : ℕ) → i < n → f i ≡ 0) → total f n ≡ 0
unfolding total
total-zero f zero h = refl
total-zero f (suc n) h = omega (arith, total-zero f n (λ i l. h i (omega arith)), h n (omega arith))

total_swap : (f : ℕ → ℕ → ℕ) (m n : ℕ) → total (λ s. total (f s) n) m ≡ total (λ t. total (λ s. f s t) m) n
unfolding total
total_swap f zero n = sym (total-zero (λ t. 0) n (λ i l. refl))
total_swap f (suc m) n = omega (arith, total_swap f m n, total-add (λ t. total (λ s. f s t) m) (f m) n)

-- ---- two bytes where a test says yes
module _ (b : ℕ → Bool) (piece : ℕ → List ℕ) (two : (s : ℕ) → length (piece s) ≡ 2) where
  bytes : ℕ → ℕ
  bytes s = length (cond (b s) (piece s) [])

  some_bytes : (s : ℕ) → b s ≡ true → bytes s ≡ 2
  unfolding bytes
  some_bytes s e = rw e (two s)

  no_bytes : (s : ℕ) → b s ≡ false → bytes s ≡ 0
  unfolding bytes
  no_bytes s e = rw e

  -- at most one of them says yes
  one_most : (m : ℕ) → ((s r : ℕ) → b s ≡ true → b r ≡ true → s ≡ r) → total bytes m ≤ 2
  unfolding total
  one_most zero u = omega arith
  one_most (suc m) u =
      by_test (b m)
      (λ e.
      omega (
        arith,
        some_bytes m e,
        total-zero bytes m (λ i l. by_test (b i) (λ d. absurd (omega (arith, u i m d e))) (λ d. no_bytes i d)),
      ))
      (λ e. omega (arith, no_bytes m e, one_most m u))

-- ---- arcs
module _ (p : Pattern) (few : count p ≤ 31) where
  abbrev masks : ℕ → ℕ → ℕ
  masks = target_mask (position_rule p).targets

  -- the letter of a target
  one_symbol : (q t s r : ℕ) → t ∈ masks q s → t ∈ masks q r → s ≡ r
  one_symbol q t s r e f =
      let a = member_of_cell p few q s t e in
      let b = member_of_cell p few q r t f in
      let x = positions_of_lem p 0 s t (target_of p q s t (omega (arith, a.0)) a.1 e).1 in
      let y = positions_of_lem p 0 r t (target_of p q r t (omega (arith, b.0)) b.1 f).1 in
      sym x.holds ∙ ap (letter_at p) (same_place p 0 x.at y.at (x.is ∙ sym y.is)) ∙ y.holds

  -- no arc leads to the start
  not_start : (q s : ℕ) → 0 ∈ masks q s → ⊥
  not_start q s e =
      let a = member_of_cell p few q s 0 e in
      omega (arith, after_above p few q 0 (target_of p q s 0 (omega (arith, a.0)) a.1 e).0)

  arc : ℕ → ℕ → ℕ → ℕ
  arc q t s = bytes (λ s. has (masks q s) t) (λ s. s ∷ t ∷ []) (λ s. refl) s

  arcs_to : (q t : ℕ) → total (arc q t) 16 ≤ 2
  unfolding arc
  arcs_to q t =
      one_most (λ s. has (masks q s) t) (λ s. s ∷ t ∷ []) (λ s. refl) 16
      (λ s r e f. one_symbol q t s r (member_of (masks q s) t e) (member_of (masks q r) t f))

  none_to_start : (q : ℕ) → total (arc q 0) 16 ≡ 0
  unfolding arc
  none_to_start q =
      total-zero (arc q 0) 16 λ s l.
      by_test (has (masks q s) 0)
      (λ e. absurd (not_start q s (member_of (masks q s) 0 e)))
      (λ e. no_bytes (λ s. has (masks q s) 0) (λ s. s ∷ 0 ∷ []) (λ s. refl) s e)

  abbrev sections : ℕ → List ℕ
  sections q = section_of (suc (count p)) 16 (masks q)

  section_is : (q : ℕ) → length (sections q) ≡ total (λ t. total (arc q t) 16) (suc (count p))
  unfolding arc bytes
  section_is q =
      length_joined (λ s. joined (λ t. cond (has (masks q s) t) (s ∷ t ∷ []) []) (suc (count p))) 16
      ∙ total_same (λ s. length (joined (λ t. cond (has (masks q s) t) (s ∷ t ∷ []) []) (suc (count p))))
      (λ s. total (λ t. arc q t s) (suc (count p))) 16
      (λ s l. length_joined (λ t. cond (has (masks q s) t) (s ∷ t ∷ []) []) (suc (count p)))
      ∙ total_swap (λ s t. arc q t s) 16 (suc (count p))

  section_size : (q : ℕ) → length (sections q) ≤ 2 * count p
  section_size q =
      omega (
        arith,
        section_is q,
        total_but_one (λ t. total (arc q t) 16) 2 (suc (count p)) 0 (omega arith) (none_to_start q) (λ t l. arcs_to q t),
      )

  pub small_file : length (file_of (position_rule p)) ≤ 2122
  small_file =
      omega (
        arith,
        joined_length sections (suc (count p)) 62 (λ q l. omega (arith, section_size q)),
        size_is (suc (count p)) 16 (position_rule p).initials (position_rule p).finals sections,
      )
