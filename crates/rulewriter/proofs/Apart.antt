-- Two pieces written at places apart from each other: either may be written first. Assumes nothing.
use mathlib.Core.Path.{◌≡◌, refl, sym, ap, ap₂, ◌∙◌}
use mathlib.Core.List.{List, ◌++◌, append_assoc}
use Prim.Native.Nat.{ℕ, ◌+◌, ◌≤◌}
use native.Mathlib.Nat.{zero-add}
use native.Mathlib.Omega.{arith}
use lib.ListN.{length, take, drop, take-append-drop}
use lib.Seq.{take-append-le, drop-append-le, take_at, drop-append-add, length-take-le}
use Rattle.text.specs.Writing.{written}
use Rattle.text.proofs.Pieces.{wrote_length}

module _ (a b p : List ℕ) where
  -- a piece in the first of two parts
  in_front : (i : ℕ) → i + length p ≤ length a → written (a ++ b) i p ≡ written a i p ++ b
  in_front i h =
      ap₂ (λ (x y : List ℕ). x ++ (p ++ y)) (take-append-le i a b (omega arith)) (drop-append-le (i + length p) a b h)
      ∙ simp append_assoc

  -- a piece at the start of the second
  in_back : (m : ℕ) → length a ≡ m → written (a ++ b) m p ≡ a ++ written b 0 p
  in_back m e =
      ap₂ (λ (x y : List ℕ). x ++ (p ++ y)) (take_at a b m e)
      (ap (λ (x : ℕ). drop (x + length p) (a ++ b)) (sym e) ∙ drop-append-add a b (length p) ∙ ap (λ (x : ℕ). drop x b) (sym (zero-add (length p))))

pub apart : (l p s : List ℕ) (i m : ℕ) → m ≤ length l → i + length p ≤ m
    → written (written l m s) i p ≡ written (written l i p) m s
apart l p s i m low h =
    let a = take m l in
    let b = drop m l in
    let whole : l ≡ a ++ b = sym (take-append-drop m l) in
    let size : length a ≡ m = length-take-le m l low in
    let room : i + length p ≤ length a = omega arith in
    let kept : length (written a i p) ≡ m =
    wrote_length a i p (written a i p) (i + length p) room (record { is = refl; ends = refl }) ∙ size in
    ap (λ (x : List ℕ). written x i p) (ap (λ (x : List ℕ). written x m s) whole ∙ in_back a b s m size)
    ∙ in_front a (written b 0 s) p i room
    ∙ sym (in_back (written a i p) b s m kept)
    ∙ ap (λ (x : List ℕ). written x m s) (sym (in_front a b p i room) ∙ ap (λ (x : List ℕ). written x i p) (sym whole))
