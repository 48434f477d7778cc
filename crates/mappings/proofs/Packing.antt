-- A mapping as one number, and back. Assumes nothing.
use mathlib.Core.Path.{◌≡◌, sym, ap, ◌∙◌}
use mathlib.Core.List.{List, [], ◌∷◌}
use Prim.Native.Nat.{ℕ, zero, suc, ◌+◌, ◌*◌, ◌-◌, ◌/◌, ◌%◌, ◌^◌, ◌≤◌, ◌<◌}
use native.Mathlib.Nat.{lt_of_lt_of_le}
use native.Mathlib.Numerals.{add-one}
use native.Mathlib.Omega.{arith}
use lib.ListN.{length, get_or, drop, length-drop, drop_of_length-le}
use lib.Pow.{pow-add, pow_mono, shr-shr, high, low}
use lib.Seq.{drop-cons, get_or-drop}
use Rattle.base.specs.Lists.{list_from}
use Rattle.base.proofs.Lists.{is_list_from}
use Rattle.mappings.specs.Mappings.{Value}
use Rattle.mappings.specs.Packing.{pack, unpack}

-- each mask is below 2 ^ 8
abbrev Masks : List ℕ → Type 0
Masks f = (q : ℕ) → q < length f → get_or f q 0 < 2 ^ 8

rest_masks : (m : ℕ) (f : List ℕ) → Masks (m ∷ f) → Masks f
rest_masks m f h q b = h (suc q) (omega arith)

pack_at : (f : List ℕ) → Masks f → (q : ℕ) → q < length f → pack f / 2 ^ (8 * q) % 2 ^ 8 ≡ get_or f q 0
unfolding pack
pack_at [] h q b = absurd (omega arith)
pack_at (m ∷ f) h zero b =
    let l : m < 2 ^ 8 = h 0 (omega arith) in
    let e : (pack f * 2 ^ 8 + m) / 2 ^ (8 * 0) ≡ pack f * 2 ^ 8 + m = omega arith in
    rw e (low (pack f) 8 l)
pack_at (m ∷ f) h (suc q) b =
    let l : m < 2 ^ 8 = h 0 (omega arith) in
    let e : 8 * suc q ≡ 8 + 8 * q = omega arith in
    ap (λ (x : ℕ). (pack f * 2 ^ 8 + m) / 2 ^ x % 2 ^ 8) e
    ∙ ap (λ (x : ℕ). x % 2 ^ 8) (sym (shr-shr (pack f * 2 ^ 8 + m) 8 (8 * q)))
    ∙ ap (λ (x : ℕ). x / 2 ^ (8 * q) % 2 ^ 8) (high (pack f) 8 l)
    ∙ pack_at f (rest_masks m f h) q (omega arith)

value_masks : (f : List ℕ) → Value f → Masks f
value_masks f is q b = is.masks q (omega (arith, is.eight))

pub unpacked : (f : List ℕ) → Value f → unpack (pack f) ≡ f
unpacked f is =
    sym
    (is_list_from f 8 (λ q. pack f / 2 ^ (8 * q) % 2 ^ 8) is.eight
    (λ q b. sym (pack_at f (value_masks f is) q (omega (arith, is.eight)))))

pub pack_lt : (f : List ℕ) → Masks f → pack f < 2 ^ (8 * length f)
unfolding pack
pack_lt [] h = omega arith
pack_lt (m ∷ f) h =
    let l : m < 2 ^ 8 = h 0 (omega arith) in
    let i = pack_lt f (rest_masks m f h) in
    let e : 8 * suc (length f) ≡ 8 * length f + 8 = omega arith in
    let p : 2 ^ (8 * suc (length f)) ≡ 2 ^ (8 * length f) * 2 ^ 8 = ap (λ (x : ℕ). 2 ^ x) e ∙ pow-add 2 (8 * length f) 8 in
    omega arith

pub packed : (f : List ℕ) → Value f → pack f < 2 ^ 64
packed f is = let l = pack_lt f (value_masks f is) in rw is.eight at l

-- the digits from q on, put together, are what is left above them
repack_from : (x i n : ℕ) → x / 2 ^ (8 * i) < 2 ^ (8 * n) → pack (list_from i n (λ q. x / 2 ^ (8 * q) % 2 ^ 8)) ≡ x / 2 ^ (8 * i)
unfolding pack list_from
repack_from x i zero h = omega arith
repack_from x i (suc n) h =
    let e : 8 * i + 8 ≡ 8 * suc i = omega arith in
    let up : x / 2 ^ (8 * i) / 2 ^ 8 ≡ x / 2 ^ (8 * suc i) = shr-shr x (8 * i) 8 ∙ ap (λ (y : ℕ). x / 2 ^ y) e in
    let f : 8 * suc n ≡ 8 * n + 8 = omega arith in
    let p : 2 ^ (8 * suc n) ≡ 2 ^ (8 * n) * 2 ^ 8 = ap (λ (y : ℕ). 2 ^ y) f ∙ pow-add 2 (8 * n) 8 in
    let ih : pack (list_from (suc i) n (λ q. x / 2 ^ (8 * q) % 2 ^ 8)) ≡ x / 2 ^ (8 * suc i) = repack_from x (suc i) n (omega arith) in
    rw ih (omega arith)

pub repacked : (x : ℕ) → x < 2 ^ 64 → pack (unpack x) ≡ x
repacked x h =
    let e : x / 2 ^ (8 * 0) ≡ x = omega arith in
    repack_from x 0 8 (rw e h) ∙ e

-- ---- from the last mask to the first
pub pack_none : (f : List ℕ) → length f ≡ 8 → pack (drop 8 f) ≡ 0
unfolding pack
pack_none f e = let h : length f ≤ 8 = omega arith in rw (drop_of_length-le f h)

module _ (f : List ℕ) (is : Value f) where
  -- p is what the masks after that of q come to
  pub pack_more : (p q : ℕ) → q < 8 → p ≡ pack (drop (q + 1) f) → p * 2 ^ 8 + get_or f q 0 ≡ pack (drop q f)
  unfolding pack
  pack_more p q b e = rw (e, drop-cons f q 0 (omega (arith, is.eight)), add-one)

  drop_masks : (q : ℕ) → Masks (drop q f)
  drop_masks q i b = rw (get_or-drop q f i 0) (is.masks (q + i) (omega (arith, length-drop q f, is.eight)))

  pub pack_from_lt : (q : ℕ) → q ≤ 8 → pack (drop q f) < 2 ^ (8 * (8 - q))
  pack_from_lt q b = let l = pack_lt (drop q f) (drop_masks q) in rw (length-drop q f, is.eight) at l

  -- there is room for one more
  pub pack_room : (p q : ℕ) → q < 8 → p ≡ pack (drop (q + 1) f) → p * 2 ^ 8 + get_or f q 0 < 2 ^ 64
  pack_room p q b e =
      let l = pack_from_lt q (omega arith) in
      let most : 8 * (8 - q) ≤ 64 = omega arith in
      let up : 2 ^ (8 * (8 - q)) ≤ 2 ^ 64 = pow_mono most in
      rw (pack_more p q b e) (lt_of_lt_of_le l up)
