-- A made text is filled in symbol by symbol: what is filled in, and then the text made from the
-- value reached, is the whole text. Assumes nothing.
--
--   filled_none, filled_more, filled_all   nothing yet, one symbol more, all of it
--   filled_less                            so much less is left
--   below_byte                             a symbol is a byte
use mathlib.Core.Path.{◌≡◌, refl, sym, ◌∙◌}
use mathlib.Core.List.{List, [], ◌∷◌, ◌++◌, append_assoc, append-nil}
use Prim.Native.Nat.{ℕ, suc, ◌+◌, ◌-◌, ◌%◌, ◌≤◌, ◌<◌}
use native.Mathlib.Nat.{mod-lt}
use native.Mathlib.Numerals.{add-one}
use native.Mathlib.Omega.{arith}
use lib.ListN.{length, take, set, length-set}
use lib.Seq.{take-suc-set, take_all}
use Rattle.madetexts.specs.Values.{next_value, made_text}

pub made_more : (k x n : ℕ) → made_text k x (suc n) ≡ (next_value x % k) ∷ made_text k (next_value x) n
unfolding made_text
made_more k x n = refl

pub filled_none : (k seed : ℕ) (t : List ℕ) → made_text k seed (length t) ≡ take 0 t ++ made_text k seed (length t - 0)
filled_none k seed t = let q : length t - 0 ≡ length t = omega arith in rw q

module _ (whole : List ℕ) (k x n i : ℕ) (t : List ℕ) where
  pub filled_more : (y : ℕ) → y ≡ next_value x → i < length t → length t ≡ n → whole ≡ take i t ++ made_text k x (n - i)
      → (i + 1 ≤ length (set t i (y % k))) × (length (set t i (y % k)) ≡ n)
      × (whole ≡ take (i + 1) (set t i (y % k)) ++ made_text k y (n - (i + 1)))
  filled_more y d h l e =
      let q : n - i ≡ suc (n - (i + 1)) = omega arith in
      let b : length (set t i (y % k)) ≡ length t = length-set t i (y % k) in (
        omega arith,
        omega arith,
        rw d
            (e ∙ rw (q, made_more k x (n - (i + 1)), add-one i, take-suc-set t i (next_value x % k) h, append_assoc (take i t) ((next_value x % k) ∷ []) (made_text k (next_value x) (n - suc i)))),
      )

  pub filled_all : n ≤ i → length t ≡ n → whole ≡ take i t ++ made_text k x (n - i) → t ≡ whole
  unfolding made_text
  filled_all h l e =
      let q : n - i ≡ 0 = omega arith in
      let r : take i t ≡ t = take_all i t (omega arith) in
      sym (e ∙ rw (q, r) (append-nil t))

pub filled_less : (t : List ℕ) (i v : ℕ) → i < length t → length (set t i v) - (i + 1) < length t - i
filled_less t i v h = omega (arith, length-set t i v)

pub below_byte : (x k : ℕ) → 1 ≤ k → k ≤ 16 → x % k < 256
below_byte x k h b = let m : x % k < k = mod-lt x h in omega arith
