-- The laws of writing pieces one after the other. Assumes nothing.
--
--   wrote_none, wrote_byte   nothing, one byte
--   wrote_more               a piece and then another is both in one
--   wrote_length             the buffer keeps its length
use mathlib.Core.Path.{◌≡◌, refl, sym, ap, ap₂, ◌∙◌}
use mathlib.Core.List.{List, [], ◌∷◌, ◌++◌, append_assoc}
use Prim.Native.Nat.{ℕ, ◌+◌, ◌≤◌, ◌<◌}
use native.Mathlib.Numerals.{add-one}
use native.Mathlib.Omega.{arith}
use lib.ListN.{length, take, drop, set, length-append, length-drop, take-append-drop}
use lib.Seq.{length-take-le, take_at, drop-append-add, drop-drop, set_split}
use Rattle.text.specs.Writing.{written, Wrote}

pub wrote_none : (before : List ℕ) (at : ℕ) → Wrote before at [] before at
wrote_none before at =
    let e : at + 0 ≡ at = omega arith in
    record { is = sym (ap (λ (x : ℕ). take at before ++ drop x before) e ∙ take-append-drop at before); ends = sym e }

pub wrote_byte : (before : List ℕ) (at b : ℕ) → at < length before → Wrote before at (b ∷ []) (set before at b) (at + 1)
wrote_byte before at b h = record {
  is = set_split before at b h ∙ ap (λ (x : ℕ). take at before ++ (b ∷ drop x before)) (sym (add-one at));
  ends = refl;
}

module _ (before : List ℕ) (at : ℕ) where
  pub wrote_length : (p after : List ℕ) (e : ℕ) → at + length p ≤ length before → Wrote before at p after e → length after ≡ length before
  wrote_length p after e fits w =
      ap length w.is
      ∙ length-append (take at before) (p ++ drop (at + length p) before)
      ∙ ap₂ (λ (x y : ℕ). x + y) (length-take-le at before (omega arith)) (length-append p (drop (at + length p) before) ∙ ap (λ (x : ℕ). length p + x) (length-drop (at + length p) before))
      ∙ omega arith

  module _ (p q : List ℕ) (fits : at + length p ≤ length before) where
    -- the first part, up to where p ends
    first : List ℕ
    first = take at before ++ p

    first_length : length first ≡ at + length p
    unfolding first
    first_length = length-append (take at before) p ∙ ap (λ (x : ℕ). x + length p) (length-take-le at before (omega arith))

    split : written before at p ≡ first ++ drop (at + length p) before
    unfolding first
    split = sym (append_assoc (take at before) p (drop (at + length p) before))

    head : take (at + length p) (written before at p) ≡ first
    head = ap (take (at + length p)) split ∙ take_at first (drop (at + length p) before) (at + length p) first_length

    tail : drop (at + length p + length q) (written before at p) ≡ drop (at + length p + length q) before
    tail =
        ap (drop (at + length p + length q)) split
        ∙ ap (λ (x : ℕ). drop (x + length q) (first ++ drop (at + length p) before)) (sym first_length)
        ∙ drop-append-add first (drop (at + length p) before) (length q)
        ∙ drop-drop (length q) (at + length p) before

    pub wrote_more : (mid after : List ℕ) (e f : ℕ) → Wrote before at p mid e → Wrote mid e q after f → Wrote before at (p ++ q) after f
    unfolding first
    wrote_more mid after e f w v =
        let sum : at + length p + length q ≡ at + length (p ++ q) = omega (arith, length-append p q) in
        record {
          is =
              v.is
              ∙ ap₂ (λ (l : List ℕ) (x : ℕ). written l x q) w.is w.ends
              ∙ ap₂ (λ (x y : List ℕ). x ++ (q ++ y)) head tail
              ∙ append_assoc (take at before) p (q ++ drop (at + length p + length q) before)
              ∙ ap (λ (x : List ℕ). take at before ++ x) (sym (append_assoc p q (drop (at + length p + length q) before)))
              ∙ ap (λ (x : ℕ). take at before ++ ((p ++ q) ++ drop x before)) sum;
          ends = v.ends ∙ ap (λ (x : ℕ). x + length q) w.ends ∙ sum;
        }
