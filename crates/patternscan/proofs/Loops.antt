-- What a loop over the bytes says of the bytes that are left: one byte more, and at the end.
-- Assumes nothing.
use Rattle.std.specs.Prelude as code
use Rattle.std.proofs.Common.{Some, None}
use mathlib.Core.Path.{◌≡◌, sym, ap, ◌∙◌}
use mathlib.Core.Bool.{Bool, true, false}
use mathlib.Core.List.{List, ◌∷◌}
use Prim.Native.Nat.{ℕ, zero, suc, ◌+◌, ◌≤◌, ◌<◌}
use native.Mathlib.Numerals.{add-one}
use native.Mathlib.Omega.{arith}
use lib.Dec.{eqb}
use lib.ListN.{length, get_or, drop, length-append, drop_of_length-le}
use lib.Seq.{drop-cons}
use Rattle.patternscan.specs.declared.Sign.{Sign}
use Rattle.patternscan.specs.declared.Sign.TheVariants.{Letter, Bar, Opens, Closes, Star, Foreign}
use Rattle.patternscan.specs.Signs.{sign_of, symbols_of, letters_in}
use Rattle.patternscan.specs.Scanning.{scan_means, Scan, lost, within, step, scan, whole}
use Rattle.patternscan.proofs.Decision.{scan_lost}

-- the bytes from i on
pub rest : (bs : List ℕ) (i : ℕ) → i < length bs → drop i bs ≡ get_or bs i 0 ∷ drop (i + 1) bs
rest bs i h = rw (add-one, drop-cons bs i 0)

module _ (bs : List ℕ) (i : ℕ) where
  pub count_more : (n k x : ℕ) (s : Sign) → i < length bs → s ≡ sign_of (get_or bs i 0) → k ≡ length (symbols_of s)
      → n + length (letters_in (drop i bs)) ≡ x → n + k + length (letters_in (drop (i + 1) bs)) ≡ x
  count_more n k x s h e f g =
      let here = symbols_of (sign_of (get_or bs i 0)) in
      let l : length (letters_in (drop i bs)) ≡ length here + length (letters_in (drop (i + 1) bs)) =
      ap (λ (w : List ℕ). length (letters_in w)) (rest bs i h) ∙ length-append here (letters_in (drop (i + 1) bs)) in
      omega (arith, f ∙ ap (λ (y : Sign). length (symbols_of y)) e)

  pub count_end : (n x : ℕ) → length bs ≤ i → n + length (letters_in (drop i bs)) ≡ x → n ≡ x
  count_end n x h g =
      let l : length (letters_in (drop i bs)) ≡ 0 = ap (λ (w : List ℕ). length (letters_in w)) (drop_of_length-le bs h) in
      omega arith

  pub scan_more : (d e : ℕ) (f g : Bool) (o : code.Option (ℕ × Bool)) (s : Sign) (x : Bool) → i < length bs → s ≡ sign_of (get_or bs i 0)
      → scan_means o ≡ step s (within d f) → o ≡ Some (e, g) → whole (scan (within d f) (drop i bs)) ≡ x
      → whole (scan (within e g) (drop (i + 1) bs)) ≡ x
  scan_more d e f g o s x h a b c j =
      ap (λ (y : Scan). whole (scan y (drop (i + 1) bs))) (sym (ap scan_means c) ∙ b ∙ ap (λ (y : Sign). step y (within d f)) a)
      ∙ sym (ap (λ (l : List ℕ). whole (scan (within d f) l)) (rest bs i h))
      ∙ j

  pub scan_never : (d : ℕ) (f : Bool) (o : code.Option (ℕ × Bool)) (s : Sign) (x : Bool) → i < length bs → s ≡ sign_of (get_or bs i 0)
      → scan_means o ≡ step s (within d f) → o ≡ None → whole (scan (within d f) (drop i bs)) ≡ x → false ≡ x
  scan_never d f o s x h a b c j =
      ap whole (sym (scan_lost (drop (i + 1) bs)))
      ∙ ap (λ (y : Scan). whole (scan y (drop (i + 1) bs))) (sym (ap scan_means c) ∙ b ∙ ap (λ (y : Sign). step y (within d f)) a)
      ∙ sym (ap (λ (l : List ℕ). whole (scan (within d f) l)) (rest bs i h))
      ∙ j

  pub scan-end : (d : ℕ) (f x : Bool) → length bs ≤ i → whole (scan (within d f) (drop i bs)) ≡ x → eqb d 0 ≡ x
  scan-end d f x h j = sym (ap (λ (l : List ℕ). whole (scan (within d f) l)) (drop_of_length-le bs h)) ∙ j

-- one sign opens at most one bracket
opens_one : (s : Sign) (d e : ℕ) (f g : Bool) (o : Scan) → o ≡ step s (within d f) → o ≡ within e g → e ≤ d + 1
opens_one s d e f g o a b = depth_of s d f e g (sym b ∙ a)
  where
    same_depth : {d e : ℕ} {f g : Bool} → within e g ≡ within d f → e ≡ d
    same_depth p = cc

    never : {e : ℕ} {g : Bool} → within e g ≡ lost → ⊥
    never p = let z : ◌≡◌ {A = ℕ} 0 1 = cc in omega arith

    depth_of : (s : Sign) (d : ℕ) (f : Bool) (e : ℕ) (g : Bool) → within e g ≡ step s (within d f) → e ≤ d + 1
    depth_of (Letter a) d f e g p = omega (arith, same_depth p)
    depth_of Bar d f e g p = omega (arith, same_depth p)
    depth_of Opens d f e g p = omega (arith, same_depth p)
    depth_of Closes zero f e g p = absurd (never p)
    depth_of Closes (suc d) f e g p = omega (arith, same_depth p)
    depth_of Star d true e g p = omega (arith, same_depth p)
    depth_of Star d false e g p = absurd (never p)
    depth_of Foreign d f e g p = absurd (never p)

pub deeper : (s : Sign) (d e i : ℕ) (f g : Bool) (o : Scan) → o ≡ step s (within d f) → o ≡ within e g → d ≤ i → e ≤ i + 1
deeper s d e i f g o a b h = omega (arith, opens_one s d e f g o a b)
