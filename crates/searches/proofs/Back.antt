-- The way back fills an array from its end. Assumes the table of the keys of a walk.
use mathlib.Core.Path.{◌≡◌, sym, ap, ◌∙◌}
use mathlib.Core.List.{List, [], ◌∷◌, ◌++◌, append-nil, append_assoc}
use Prim.Native.Nat.{ℕ, suc, ◌-◌, ◌/◌, ◌%◌, ◌≤◌, ◌<◌}
use native.Mathlib.Omega.{arith}
use lib.ListN.{length, set, drop, length-append, length-set, length-drop, drop_of_length-le}
use lib.Seq.{drop-cons, drop-set-lt, get_or-set_same}
use Rattle.searches.specs.Search.{first_cell, word_back, word_to}
use Rattle.searches.specs.mirror.Tables.{Tabled}
use Rattle.searches.proofs.Cells.{word_short, word_more, tabled_back}

-- what follows the text to `at` stands from `from` on
pub record Back (cells : List ℕ) (k j : ℕ) (text : List ℕ) (from at : ℕ) : Type 0 where
  pub tabled : Tabled cells k at
  pub short : length (word_to cells j) ≤ 511
  pub inside : from ≤ 511
  pub long : length text ≡ 511
  pub spells : word_to cells j ≡ word_to cells at ++ drop from text

pub back_begins : (cells : List ℕ) (k j : ℕ) (text : List ℕ) → Tabled cells k j → length text ≡ 511 → Back cells k j text 511 j
back_begins cells k j text t long = record {
  tabled = t;
  short = word_short cells k j t;
  inside = omega arith;
  long = long;
  spells = sym (ap (λ (x : List ℕ). word_to cells j ++ x) (drop_of_length-le text {i = 511} (omega arith)) ∙ append-nil (word_to cells j));
}

filled : (text : List ℕ) (i s : ℕ) → i < length text → drop i (set text i s) ≡ s ∷ drop (suc i) text
filled text i s b =
    drop-cons (set text i s) i 0 (rw length-set b)
    ∙ ap (λ (x : ℕ). x ∷ drop (suc i) (set text i s)) (get_or-set_same text i s 0 b)
    ∙ ap (λ (x : List ℕ). s ∷ x) (drop-set-lt (suc i) text i s (omega arith))

module _ (cells : List ℕ) (k j : ℕ) (text : List ℕ) (from at : ℕ) (h : Back cells k j text from at) where
  module _ (some : 0 < at) where
    pub room : 1 ≤ from
    room =
        let p = first_cell cells at / 16 in
        let s = first_cell cells at % 16 in
        omega
        (arith, h.short, h.inside, h.long, ap length h.spells, length-append (word_to cells at) (drop from text), length-drop from text, ap length (word_more cells k at h.tabled some), length-append (word_to cells p) (s ∷ []))

    pub back_more : Back cells k j (set text (from - 1) (first_cell cells at % 16)) (from - 1) (first_cell cells at / 16)
    back_more =
        let p = first_cell cells at / 16 in
        let s = first_cell cells at % 16 in
        let some-room = room in
        let e : suc (from - 1) ≡ from = omega arith in
        let f : drop (from - 1) (set text (from - 1) s) ≡ s ∷ drop from text =
        filled text (from - 1) s (omega (arith, h.inside, h.long)) ∙ ap (λ (x : ℕ). s ∷ drop x text) e in
        record {
          tabled = tabled_back cells k at h.tabled some;
          short = h.short;
          inside = omega (arith, h.inside);
          long = length-set text (from - 1) s ∙ h.long;
          spells = h.spells
              ∙ ap (λ (x : List ℕ). x ++ drop from text) (word_more cells k at h.tabled some)
              ∙ append_assoc (word_to cells p) (s ∷ []) (drop from text)
              ∙ ap (λ (x : List ℕ). word_to cells p ++ x) (sym f);
        }

  pub back_ends : at ≡ 0 → drop from text ≡ word_to cells j
  unfolding word_back
  back_ends e = sym (h.spells ∙ ap (λ (x : ℕ). word_to cells x ++ drop from text) e)
