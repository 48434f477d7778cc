-- The laws of numbers in bytes, over the width. Assumes nothing.
--
--   little_length, numbers_length      how many bytes they have
--   little_bytes, numbers_bytes        each is a byte
--   little_back, numbers_back          what is written is read back
--   little_below, numbers-below        what is read has room in so many bytes
--   numbers_count                      as many numbers are read as asked for
--   little_cut, numbers_cut            bytes are those of what is read from them, and the rest
--   cell_in, numbers_are               number i of those that are read; numbers that are those
--   little_split                       the lower bytes and the upper ones
--   single_of, single_in               one number alone
use Rattle.std.proofs.Common.{◌≡◌, ℕ, zero, suc, ◌+◌, ◌*◌, ◌/◌, ◌%◌, ◌^◌, ◌<◌, ◌≤◌, List, [], ◌∷◌, ◌++◌, length, get_or, drop, sym, refl, ap, ◌∙◌, ap₂, append_assoc, append-nil, mod-lt, pow-suc, arith, lit<, length-append, length-drop, get_or-drop, drop-drop, ext_get_or, drop_at}
use native.Mathlib.Nat.{pow-succ', one-le-pow, div-div-eq-div-mul}
use lib.Arith.{mod-mul}
use Rattle.ruleformat.specs.Writing.{Bytes}
use Rattle.ruleformat.proofs.Writing.{bytes_append}
use Rattle.saved_judge.specs.Little.{little_of, little_in, little_at, numbers_of, numbers_in, numbers_at}

pub bytes_drop : (s : List ℕ) (i : ℕ) → Bytes s → Bytes (drop i s)
bytes_drop s i h k = rw get_or-drop (h (i + k))

-- ---- one number
pub little_length : (w x : ℕ) → length (little_of w x) ≡ w
unfolding little_of
little_length zero x = refl
little_length (suc w) x = ap suc (little_length w (x / 256))

pub little_bytes : (w x : ℕ) → Bytes (little_of w x)
unfolding little_of
little_bytes zero x i = omega arith
little_bytes (suc w) x zero = mod-lt x (lit< tt)
little_bytes (suc w) x (suc i) = little_bytes w (x / 256) i

pub little_back : (w x : ℕ) (r : List ℕ) → x < 256 ^ w → little_in w (little_of w x ++ r) ≡ x
unfolding little_of little_in
little_back zero x r h = omega arith
little_back (suc w) x r h =
    let p = pow-succ' 256 w in
    let e = little_back w (x / 256) r (omega arith) in
    omega (arith, e)

pub little_below : (w : ℕ) (s : List ℕ) → Bytes s → little_in w s < 256 ^ w
unfolding little_in
little_below zero s h = omega arith
little_below (suc w) [] h = one-le-pow (suc w) 256 (lit< tt)
little_below (suc w) (x ∷ s) h =
    let p = pow-succ' 256 w in
    let l = little_below w s (λ i. h (suc i)) in
    omega (arith, l, h 0)

pub little_cut : (w : ℕ) (s : List ℕ) → w ≤ length s → Bytes s → s ≡ little_of w (little_in w s) ++ drop w s
unfolding little_of little_in
little_cut zero s l h = refl
little_cut (suc w) [] l h = absurd (omega arith)
little_cut (suc w) (x ∷ s) l h =
    let y = little_in w s in
    let low : x ≡ (x + 256 * y) % 256 = omega (arith, h 0) in
    let high : y ≡ (x + 256 * y) / 256 = omega (arith, h 0) in
    ap₂ ◌∷◌ low (little_cut w s (omega arith) (λ i. h (suc i)) ∙ ap (λ (z : ℕ). little_of w z ++ drop w s) high)

-- the lower bytes and the upper ones
pub little_split : (v w x : ℕ) → little_of (v + w) x ≡ little_of v (x % 256 ^ v) ++ little_of w (x / 256 ^ v)
unfolding little_of
little_split zero w x =
    let e : 0 + w ≡ w = omega arith in
    let f : x / 1 ≡ x = omega arith in
    rw (e, f)
little_split (suc v) w x =
    let sum : suc v + w ≡ suc (v + w) = omega arith in
    let p : 256 ^ suc v ≡ 256 ^ v * 256 = pow-suc 256 v in
    let q : 256 ^ suc v ≡ 256 * 256 ^ v = pow-succ' 256 v in
    let m : x % 256 ^ suc v ≡ x / 256 % 256 ^ v * 256 + x % 256 = ap (λ (n : ℕ). x % n) p ∙ mod-mul x (one-le-pow v 256 (lit< tt)) (lit< tt) in
    let low : x % 256 ^ suc v % 256 ≡ x % 256 = omega (arith, m) in
    let high : x % 256 ^ suc v / 256 ≡ x / 256 % 256 ^ v = omega (arith, m) in
    let up : x / 256 ^ suc v ≡ x / 256 / 256 ^ v = ap (λ (n : ℕ). x / n) q ∙ sym (div-div-eq-div-mul x 256 (256 ^ v)) in
    rw (sum, low, high, up) (ap (λ (l : List ℕ). x % 256 ∷ l) (little_split v w (x / 256)))

-- ---- numbers one after the other
pub numbers_length : (w : ℕ) (xs : List ℕ) → length (numbers_of w xs) ≡ w * length xs
unfolding numbers_of
numbers_length w [] = omega arith
numbers_length w (x ∷ xs) = omega (arith, length-append (little_of w x) (numbers_of w xs), little_length w x, numbers_length w xs)

pub numbers_bytes : (w : ℕ) (xs : List ℕ) → Bytes (numbers_of w xs)
unfolding numbers_of
numbers_bytes w [] = λ i. omega arith
numbers_bytes w (x ∷ xs) = bytes_append (little_of w x) (numbers_of w xs) (little_bytes w x) (numbers_bytes w xs)

pub numbers_back : (w : ℕ) (xs r : List ℕ) → ((i : ℕ) → get_or xs i 0 < 256 ^ w) → numbers_in w (length xs) (numbers_of w xs ++ r) ≡ xs
unfolding numbers_of numbers_in
numbers_back w [] r h = refl
numbers_back w (x ∷ xs) r h =
    rw (append_assoc (little_of w x) (numbers_of w xs) r, little_back w x (numbers_of w xs ++ r) (h 0), drop_at (little_of w x) (numbers_of w xs ++ r) w (little_length w x))
    (ap (λ (l : List ℕ). x ∷ l) (numbers_back w xs r (λ i. h (suc i))))

pub numbers_count : (w n : ℕ) (s : List ℕ) → length (numbers_in w n s) ≡ n
unfolding numbers_in
numbers_count w zero s = refl
numbers_count w (suc n) s = ap suc (numbers_count w n (drop w s))

pub numbers-below : (w n : ℕ) (s : List ℕ) → Bytes s → (i : ℕ) → get_or (numbers_in w n s) i 0 < 256 ^ w
unfolding numbers_in
numbers-below w zero s h i = one-le-pow w 256 (lit< tt)
numbers-below w (suc n) s h zero = little_below w s h
numbers-below w (suc n) s h (suc i) = numbers-below w n (drop w s) (bytes_drop s w h) i

pub numbers_cut : (w n : ℕ) (s : List ℕ) → w * n ≤ length s → Bytes s → s ≡ numbers_of w (numbers_in w n s) ++ drop (w * n) s
unfolding numbers_of numbers_in
numbers_cut w zero s l h = let e : w * 0 ≡ 0 = omega arith in rw e
numbers_cut w (suc n) s l h =
    let e : w * suc n ≡ w + w * n = omega arith in
    let rest = numbers_cut w n (drop w s) (rw (length-drop w s) (omega (arith, l, e))) (bytes_drop s w h) in
    little_cut w s (omega (arith, l, e)) h
    ∙ ap (λ (z : List ℕ). little_of w (little_in w s) ++ z) rest
    ∙ sym (append_assoc (little_of w (little_in w s)) (numbers_of w (numbers_in w n (drop w s))) (drop (w * n) (drop w s)))
    ∙ ap (λ (z : List ℕ). (little_of w (little_in w s) ++ numbers_of w (numbers_in w n (drop w s))) ++ z) (drop-drop (w * n) w s ∙ ap (λ (m : ℕ). drop m s) (sym e))

pub cell_in : (w n : ℕ) (s : List ℕ) (i : ℕ) → i < n → get_or (numbers_in w n s) i 0 ≡ little_in w (drop (w * i) s)
unfolding numbers_in
cell_in w zero s i h = absurd (omega arith)
cell_in w (suc n) s zero h = let e : 0 ≡ w * 0 = omega arith in ap (λ (m : ℕ). little_in w (drop m s)) e
cell_in w (suc n) s (suc i) h =
    let e : w + w * i ≡ w * suc i = omega arith in
    cell_in w n (drop w s) i (omega arith) ∙ ap (little_in w) (drop-drop (w * i) w s ∙ ap (λ (m : ℕ). drop m s) e)

pub numbers_are : (w n : ℕ) (b : List ℕ) (at : ℕ) (cells : List ℕ) → length cells ≡ n
    → ((i : ℕ) → i < n → get_or cells i 0 ≡ little_at w b (at + w * i)) → cells ≡ numbers_at w n b at
numbers_are w n b at cells l h =
    ext_get_or 0 cells (numbers_at w n b at) (l ∙ sym (numbers_count w n (drop at b)))
    (λ i m. h i (omega (arith, m, l)) ∙ sym (cell_in w n (drop at b) i (omega (arith, m, l)) ∙ ap (little_in w) (drop-drop (w * i) at b)))

-- ---- one number alone
pub single_of : (w x : ℕ) → numbers_of w (x ∷ []) ≡ little_of w x
unfolding numbers_of
single_of w x = append-nil (little_of w x)

pub single_in : (w : ℕ) (s : List ℕ) → numbers_in w 1 s ≡ little_in w s ∷ []
unfolding numbers_in
single_in w s = refl
