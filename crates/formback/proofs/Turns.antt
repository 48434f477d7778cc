-- A turn of each loop that looks for a reason to refuse, and the ways out of the tests, over plain
-- variables. Assumes nothing.
use mathlib.Core.Path.{◌≡◌, sym, ◌∙◌}
use mathlib.Core.Bool.{Bool, true, false, ◌||◌}
use mathlib.Core.List.{List}
use mathlib.Core.Option.{none, some}
use Prim.Native.Nat.{ℕ, ◌+◌, ◌≤◌, ◌<◌}
use native.Mathlib.Omega.{arith}
use lib.Dec.{leb}
use lib.ListN.{get_or}
use borrow.Author.Tests.{eq-eqb, ne_eqb}
use Rattle.base.specs.Conditions.{outside, any_below}
use Rattle.base.proofs.Conditions.{any_at, none_yet, none_more, outside_law}
use Rattle.base.proofs.Tests.{or_left, or_right}
use Rattle.limits.specs.Limits.{most_symbols, most_sets, empty_set}
use Rattle.forms.specs.declared.Form.{Form}
use Rattle.forms.specs.Back.{kept_count, not_below, lacking, bad_numbers, some_not_below, first_lacks, stray_bits, some_lacking, back_number}

-- ---- no reason among the numbers passed
module _ (p : ℕ → Bool) (n : ℕ) where
  abbrev pub Passed : ℕ → Type 0
  Passed i = (i ≤ n) × (any_below p i ≡ false)

  pub passed_none : Passed 0
  passed_none = (omega arith, none_yet p)

  pub passed_more : (i : ℕ) (r : Bool) → i < n → r ≡ p i → r ≡ false → Passed i → Passed (i + 1)
  passed_more i r b e f h = (omega arith, none_more p i h.1 (sym e ∙ f))

  pub passed_all : (i : ℕ) → n ≤ i → Passed i → false ≡ any_below p n
  passed_all i b h = let e : i ≡ n = omega arith in sym (rw e at h.1)

  pub found : (i : ℕ) (r : Bool) → i < n → r ≡ p i → r ≡ true → true ≡ any_below p n
  found i r b e f = sym (any_at p n i b (sym e ∙ f))

-- ---- single tests
pub first_set_lem : (l : List ℕ) (t : ℕ) → t ≡ 0 → false ≡ not_below l t
first_set_lem l t e = rw (eq-eqb t 0 e)

pub other_set : (l : List ℕ) (t w : ℕ) → (t ≡ 0 → ⊥) → w ≡ get_or l t 0 → leb t w ≡ not_below l t
other_set l t w e q = rw (ne_eqb t 0 e, q)

pub empty_cell : (n x : ℕ) → x ≡ empty_set → false ≡ lacking n x
empty_cell n x e = rw (eq-eqb x empty_set e)

pub other_cell : (n x : ℕ) → (x ≡ empty_set → ⊥) → leb n x ≡ lacking n x
other_cell n x e = rw (ne_eqb x empty_set e)

pub first_bad : (a b r : Bool) → r ≡ a → r ≡ true → true ≡ (a || b)
first_bad a b r e t = let z : a ≡ true = sym e ∙ t in rw z

pub second_bad : (a b r q : Bool) → r ≡ a → r ≡ false → q ≡ b → q ≡ (a || b)
second_bad a b r q e f h = let z : a ≡ false = sym e ∙ f in rw z h

-- ---- the numbers of an answer, by the tests on the way
pub few : (n k : ℕ) (r : Bool) → r ≡ bad_numbers n k → r ≡ false → (n ≤ most_sets) × (k ≤ most_symbols)
few n k r e f =
    let z : bad_numbers n k ≡ false = sym e ∙ f in (
      ((outside_law 1 most_sets n).0 (or_left (outside 1 most_sets n) (outside 1 most_symbols k) z)).1,
      ((outside_law 1 most_symbols k).0 (or_right (outside 1 most_sets n) (outside 1 most_symbols k) z)).1,
    )

module _ (f : Form) {r1 : Bool} (e1 : r1 ≡ bad_numbers f.sets f.symbols) where
  pub on_1 : r1 ≡ true → some 40 ≡ back_number f
  unfolding back_number
  on_1 t = let z : bad_numbers f.sets f.symbols ≡ true = sym e1 ∙ t in rw z

  module _ (h1 : r1 ≡ false) {r2 : Bool} (e2 : r2 ≡ some_not_below f.sets f.failure) where
    pub on_2 : r2 ≡ true → some 40 ≡ back_number f
    unfolding back_number
    on_2 t =
        let y : bad_numbers f.sets f.symbols ≡ false = sym e1 ∙ h1 in
        let z : some_not_below f.sets f.failure ≡ true = sym e2 ∙ t in rw (y, z)

    module _ (h2 : r2 ≡ false) {r3 : Bool} (e3 : r3 ≡ first_lacks f.symbols f.kept) where
      pub on_3 : r3 ≡ true → some 40 ≡ back_number f
      unfolding back_number
      on_3 t =
          let x : bad_numbers f.sets f.symbols ≡ false = sym e1 ∙ h1 in
          let y : some_not_below f.sets f.failure ≡ false = sym e2 ∙ h2 in
          let z : first_lacks f.symbols f.kept ≡ true = sym e3 ∙ t in rw (x, y, z)

      module _ (h3 : r3 ≡ false) {r4 : Bool} (e4 : r4 ≡ stray_bits f.sets f.symbols f.kept) where
        pub on_4 : r4 ≡ true → some 40 ≡ back_number f
        unfolding back_number
        on_4 t =
            let w : bad_numbers f.sets f.symbols ≡ false = sym e1 ∙ h1 in
            let x : some_not_below f.sets f.failure ≡ false = sym e2 ∙ h2 in
            let y : first_lacks f.symbols f.kept ≡ false = sym e3 ∙ h3 in
            let z : stray_bits f.sets f.symbols f.kept ≡ true = sym e4 ∙ t in rw (w, x, y, z)

        module _ (h4 : r4 ≡ false) {r5 : Bool} {count : ℕ} (c : count ≡ kept_count f) (e5 : r5 ≡ some_lacking f.sets count f.cells) where
          pub on_5 : r5 ≡ true → some 40 ≡ back_number f
          unfolding back_number
          on_5 t =
              let v : bad_numbers f.sets f.symbols ≡ false = sym e1 ∙ h1 in
              let w : some_not_below f.sets f.failure ≡ false = sym e2 ∙ h2 in
              let x : first_lacks f.symbols f.kept ≡ false = sym e3 ∙ h3 in
              let y : stray_bits f.sets f.symbols f.kept ≡ false = sym e4 ∙ h4 in
              let z : some_lacking f.sets (kept_count f) f.cells ≡ true = rw c at (sym e5 ∙ t) in rw (v, w, x, y, z)

          pub passed : r5 ≡ false → none ≡ back_number f
          unfolding back_number
          passed t =
              let v : bad_numbers f.sets f.symbols ≡ false = sym e1 ∙ h1 in
              let w : some_not_below f.sets f.failure ≡ false = sym e2 ∙ h2 in
              let x : first_lacks f.symbols f.kept ≡ false = sym e3 ∙ h3 in
              let y : stray_bits f.sets f.symbols f.kept ≡ false = sym e4 ∙ h4 in
              let z : some_lacking f.sets (kept_count f) f.cells ≡ false = rw c at (sym e5 ∙ t) in rw (v, w, x, y, z)
