-- What an accepted form is, and that a form is refused with 40 exactly for the reasons that document
-- 02 names. Assumes nothing.
use mathlib.Core.Path.{◌≡◌, refl, sym, ap, ◌∙◌}
use mathlib.Core.Logic.{◌↔◌, ◌⊎◌, inl, inr, ⊎_elim}
use mathlib.Core.Bool.{Bool, true, false, not, ◌&&◌, and-eq-true_iff}
use mathlib.Core.List.{List, [], ◌∷◌}
use mathlib.Core.Option.{none, some}
use Prim.Native.Nat.{ℕ, ◌+◌, ◌/◌, ◌%◌, ◌^◌, ◌≤◌, ◌<◌}
use native.Mathlib.Omega.{arith}
use lib.Dec.{eqb, leb}
use lib.ListN.{get_or}
use lib.Pow.{shr-shr}
use borrow.Author.Tests.{ne_eqb, lt-leb, leb-true, leb-false, eqb-true, eqb-false, not-true, not-false}
use Rattle.base.specs.Conditions.{on, first_of, outside}
use Rattle.base.proofs.Conditions.{any_found, none_at, none_all, outside_law, is_outside, none_law, first_law}
use Rattle.base.proofs.Options.{none-some}
use Rattle.base.proofs.Tests.{by_test, not_both, or_left, or_right, or_neither}
use Rattle.limits.specs.Limits.{most_symbols, most_sets, empty_set}
use Rattle.masks.specs.Masks.{◌∈◌, has}
use Rattle.masks.proofs.Laws.{members_below, low_bits, some_member}
use Rattle.forms.specs.declared.Form.{Form}
use Rattle.forms.specs.Back.{kept_count, not_below, lacking, bad_numbers, some_not_below, first_lacks, stray_bits, some_lacking, back_conditions, back_number}
use Rattle.forms.specs.Claims.{Wrong, not-below, left_out, no_symbol, lacks, no_set, many_sets_lem, nothing_to_read, many_symbols}

pub record Accepted (f : Form) : Type 0 where
  pub some_set : 1 ≤ f.sets
  pub sets : f.sets ≤ most_sets
  pub some_symbol : 1 ≤ f.symbols
  pub symbols : f.symbols ≤ most_symbols
  pub down : (t : ℕ) → 0 < t → t < f.sets → get_or f.failure t 0 < t
  pub whole : (s : ℕ) → s < f.symbols → has (get_or f.kept 0 0) s ≡ true
  pub only : (t : ℕ) → t < f.sets → get_or f.kept t 0 < 2 ^ f.symbols
  pub names : (i : ℕ) → i < kept_count f → (get_or f.cells i 0 ≡ empty_set) ⊎ (get_or f.cells i 0 < f.sets)

-- ---- single tests
and_fails : (a b : Bool) → a ≡ true → a && b ≡ false → b ≡ false
and_fails a b e h = let z : true && b ≡ false = rw e at h in z

pub is_below : (l : List ℕ) (t : ℕ) → 0 < t → not_below l t ≡ false → get_or l t 0 < t
is_below l t z e =
    leb-false t (get_or l t 0)
    (and_fails (not (eqb t 0)) (leb t (get_or l t 0)) (ap not (ne_eqb t 0 (λ q. absurd (omega arith)))) e)

below_is : (l : List ℕ) (t : ℕ) → (0 < t → get_or l t 0 < t) → not_below l t ≡ false
below_is l t h =
    by_test (eqb t 0)
    (λ e. rw e)
    (λ e. rw (e, lt-leb t (get_or l t 0) (h (omega (arith, eqb-false t 0 e)))))

is_named : (n x : ℕ) → lacking n x ≡ false → (x ≡ empty_set) ⊎ (x < n)
is_named n x e =
    by_test (eqb x empty_set)
    (λ t. inl (eqb-true x empty_set t))
    (λ t. inr (leb-false n x (and_fails (not (eqb x empty_set)) (leb n x) (ap not t) e)))

pub named_is : (n x : ℕ) → (x ≡ empty_set) ⊎ (x < n) → lacking n x ≡ false
named_is n x o =
    by_test (eqb x empty_set)
    (λ e. rw e)
    (λ e. rw (e, lt-leb n x (⊎_elim (λ q. absurd (eqb-false x empty_set e q)) (λ h. h) o)))

-- ---- all of them
module _ (f : Form) where
  pub parts : back_number f ≡ none → Accepted f
  unfolding back_number
  parts e =
      let h = (none_law (back_conditions f)).0 e in
      let n = (outside_law 1 most_sets f.sets).0 (or_left (outside 1 most_sets f.sets) (outside 1 most_symbols f.symbols) h.0) in
      let k = (outside_law 1 most_symbols f.symbols).0 (or_right (outside 1 most_sets f.sets) (outside 1 most_symbols f.symbols) h.0) in
      record {
        some_set = n.0;
        sets = n.1;
        some_symbol = k.0;
        symbols = k.1;
        down = λ t z l. is_below f.failure t z (none_at (not_below f.failure) f.sets t h.1.0 l);
        whole = λ s l. not-false (has (get_or f.kept 0 0) s) (none_at (λ s. not (has (get_or f.kept 0 0) s)) f.symbols s h.1.1.0 l);
        only = λ t l. leb-false (2 ^ f.symbols) (get_or f.kept t 0) (none_at (λ t. leb (2 ^ f.symbols) (get_or f.kept t 0)) f.sets t h.1.1.1.0 l);
        names = λ i l. is_named f.sets (get_or f.cells i 0) (none_at (λ i. lacking f.sets (get_or f.cells i 0)) (kept_count f) i h.1.1.1.1.0 l);
      }

  pub accepted_of : Accepted f → back_number f ≡ none
  unfolding back_number
  accepted_of a =
      (none_law (back_conditions f)).1 (
        or_neither (outside 1 most_sets f.sets) (outside 1 most_symbols f.symbols)
            ((outside_law 1 most_sets f.sets).1 (a.some_set, a.sets))
            ((outside_law 1 most_symbols f.symbols).1 (a.some_symbol, a.symbols)),
        (
          none_all (not_below f.failure) f.sets (λ t l. below_is f.failure t (λ z. a.down t z l)),
          (
            none_all (λ s. not (has (get_or f.kept 0 0) s)) f.symbols (λ s l. ap not (a.whole s l)),
            (
              none_all (λ t. leb (2 ^ f.symbols) (get_or f.kept t 0)) f.sets (λ t l. lt-leb (2 ^ f.symbols) (get_or f.kept t 0) (a.only t l)),
              (none_all (λ i. lacking f.sets (get_or f.cells i 0)) (kept_count f) (λ i l. named_is f.sets (get_or f.cells i 0) (a.names i l)), tt),
            ),
          ),
        ),
      )

-- a mask that is not below 2 ^ n has a member at n or above
high_member : (n m : ℕ) → 2 ^ n ≤ m → (q : ℕ) × (n ≤ q) × (q ∈ m)
high_member n m h =
    let r = some_member (m / 2 ^ n) (λ z. let l = low_bits n m z in omega arith) in
    (n + r.0, omega arith, sym (ap (λ (x : ℕ). x % 2) (shr-shr m n r.0)) ∙ r.1)

five : (a b c d e : Bool) → (first_of (on 40 a ∷ on 40 b ∷ on 40 c ∷ on 40 d ∷ on 40 e ∷ []) ≡ none) ⊎ (first_of (on 40 a ∷ on 40 b ∷ on 40 c ∷ on 40 d ∷ on 40 e ∷ []) ≡ some 40)
five true b c d e = inr refl
five false true c d e = inr refl
five false false true d e = inr refl
five false false false true e = inr refl
five false false false false true = inr refl
five false false false false false = inl refl

module _ (f : Form) where
  pub none_or_40 : (back_number f ≡ none) ⊎ (back_number f ≡ some 40)
  unfolding back_number
  none_or_40 =
      five (bad_numbers f.sets f.symbols)
      (some_not_below f.sets f.failure)
      (first_lacks f.symbols f.kept)
      (stray_bits f.sets f.symbols f.kept)
      (some_lacking f.sets (kept_count f) f.cells)

  pub no_other : (x : ℕ) → back_number f ≡ some x → x ≡ 40
  no_other x e = ⊎_elim (λ n. none-some n e) (λ s. let z : some x ≡ some 40 = sym e ∙ s in cc) none_or_40

  -- a form with a reason is not accepted
  not_accepted : Wrong f → Accepted f → ⊥
  not_accepted (not-below t z l h) a = let g = a.down t z l in omega arith
  not_accepted (left_out s l h) a = not_both (a.whole s l) h
  not_accepted (no_symbol t s l h m) a = let g = members_below f.symbols (get_or f.kept t 0) s (a.only t l) m in omega arith
  not_accepted (lacks i l e h) a = ⊎_elim e (λ g. omega arith) (a.names i l)
  not_accepted (no_set e) a = omega (arith, a.some_set)
  not_accepted (many_sets_lem h) a = omega (arith, a.sets)
  not_accepted (nothing_to_read e) a = omega (arith, a.some_symbol)
  not_accepted (many_symbols h) a = omega (arith, a.symbols)

  -- the reason for each condition
  numbers : bad_numbers f.sets f.symbols ≡ true → Wrong f
  numbers e =
      by_test (outside 1 most_sets f.sets)
      (λ t. ⊎_elim (λ h. no_set (omega arith)) many_sets_lem ((is_outside 1 most_sets f.sets).0 t))
      (λ t. let g : outside 1 most_symbols f.symbols ≡ true = rw t at e in
      ⊎_elim (λ h. nothing_to_read (omega arith)) many_symbols ((is_outside 1 most_symbols f.symbols).0 g))

  failures : some_not_below f.sets f.failure ≡ true → Wrong f
  failures e =
      let x = any_found (not_below f.failure) f.sets e in
      let b = (and-eq-true_iff (not (eqb x.0 0)) (leb x.0 (get_or f.failure x.0 0))).0 x.2 in
      not-below x.0 (omega (arith, eqb-false x.0 0 (not-true (eqb x.0 0) b.0))) x.1 (leb-true x.0 (get_or f.failure x.0 0) b.1)

  first : first_lacks f.symbols f.kept ≡ true → Wrong f
  first e =
      let x = any_found (λ s. not (has (get_or f.kept 0 0) s)) f.symbols e in
      left_out x.0 x.1 (not-true (has (get_or f.kept 0 0) x.0) x.2)

  bits : stray_bits f.sets f.symbols f.kept ≡ true → Wrong f
  bits e =
      let x = any_found (λ t. leb (2 ^ f.symbols) (get_or f.kept t 0)) f.sets e in
      let b = high_member f.symbols (get_or f.kept x.0 0) (leb-true (2 ^ f.symbols) (get_or f.kept x.0 0) x.2) in
      no_symbol x.0 b.0 x.1 b.1 b.2

  cells : some_lacking f.sets (kept_count f) f.cells ≡ true → Wrong f
  cells e =
      let x = any_found (λ i. lacking f.sets (get_or f.cells i 0)) (kept_count f) e in
      let c = get_or f.cells x.0 0 in
      let b = (and-eq-true_iff (not (eqb c empty_set)) (leb f.sets c)).0 x.2 in
      lacks x.0 x.1 (eqb-false c empty_set (not-true (eqb c empty_set) b.0)) (leb-true f.sets c b.1)

  pub refused_exactly : (back_number f ≡ some 40) ↔ Wrong f
  unfolding back_number
  refused_exactly = (
    (λ e.
        ⊎_elim (λ x. numbers x.0) (λ r1.
        ⊎_elim (λ x. failures x.0) (λ r2.
        ⊎_elim (λ x. first x.0) (λ r3.
        ⊎_elim (λ x. bits x.0) (λ r4.
        ⊎_elim (λ x. cells x.0) (λ r5. absurd r5.1) r4.1) r3.1) r2.1) r1.1) ((first_law 40 (back_conditions f)).0 e)),
    λ w. ⊎_elim (λ n. absurd (not_accepted w (parts f n))) (λ s. s) none_or_40,
  )
