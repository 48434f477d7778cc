-- The laws of the digest of bytes. Assumes nothing.
--
--   Summed, summed_begin, summed_more, summed_done   the loop over the bytes
--   step_sum          a step, from the sum that the code mixes
--   square_below, sum_below   the numbers on the way to a mixed one have 64 bits
--   mixed_below, mixed_one   a number of 64 bits, mixed, is one, and mixing is one to one
--   from_below        a digest is a number of 64 bits
--   step_in_digest, step_in_byte   a step is one to one in the digest, and in the byte
--   from_one          so are bytes behind a digest in it
--   one_byte          where one byte is another, so is the digest
use Rattle.std.proofs.Common.{◌≡◌, ℕ, zero, suc, ◌+◌, ◌*◌, ◌/◌, ◌%◌, ◌^◌, ◌<◌, ◌≤◌, List, [], ◌∷◌, length, get_or, drop, set, sym, refl, ap, ◌∙◌, ap₂, add_assoc, mod-lt, mod-eq_of_lt, mul_assoc, add-mul, mul-le-mul, mul-one, mul-add, add-one, arith, lit<, drop_of_length-le, drop-cons}
use native.Mathlib.Nat.{mod-add-div, mod-add-mod, add-mul-mod_self_left, add-mul-mod_self_right}
use Rattle.ruleformat.specs.Writing.{Bytes}
use Rattle.saved_judge.specs.Digest.{mixed, digest_step, digest_from, digest_of}

module _ (s : List ℕ) where
  pub record Summed (h i : ℕ) : Type 0 where
    pub most : i ≤ length s
    pub same : digest_of s ≡ digest_from h (drop i s)

  pub summed_begin : Summed 0 0
  summed_begin = record { most = omega arith; same = refl }

  module _ (h i : ℕ) (is : Summed h i) where
    pub summed_more : (x : ℕ) → i < length s → x ≡ digest_step h (get_or s i 0) → Summed x (i + 1)
    unfolding digest_from
    summed_more x b e = record { most = omega arith; same = is.same ∙ rw (drop-cons s i 0 b, e, add-one) }

    pub summed_done : length s ≤ i → h ≡ digest_of s
    unfolding digest_from
    summed_done b = sym (is.same ∙ rw (drop_of_length-le s b))

pub step_sum : (h x s r : ℕ) → s ≡ (h * 131073 + x + 1) % 2 ^ 64 → r ≡ mixed s → r ≡ digest_step h x
unfolding digest_step
step_sum h x s r e f = f ∙ ap mixed e

-- ---- mixing
both_below : (a x : ℕ) → a < 4294967296 → x < 4294967296 → a * 4294967296 + x < 18446744073709551616
both_below a x l m = omega arith

upper_below : (t : ℕ) → t < 2 ^ 64 → t / 4294967296 < 4294967296
upper_below t l = omega arith

square_most : (a : ℕ) → a < 4294967296 → a * a ≤ 18446744065119617025
square_most a l = let most : a ≤ 4294967295 = omega arith in mul-le-mul most most

fits_above : (l s : ℕ) → l < 4294967296 → s ≤ 18446744065119617025 → l + s < 18446744073709551616
fits_above l s b c = omega arith

-- every number on the way has 64 bits
pub square_below : (t : ℕ) → t < 2 ^ 64 → t / 4294967296 * (t / 4294967296) < 2 ^ 64
square_below t l = omega (arith, square_most (t / 4294967296) (upper_below t l))

pub sum_below : (t : ℕ) → t < 2 ^ 64 → t % 4294967296 + t / 4294967296 * (t / 4294967296) < 2 ^ 64
sum_below t l =
    fits_above (t % 4294967296) (t / 4294967296 * (t / 4294967296)) (mod-lt _ (lit< tt)) (square_most (t / 4294967296) (upper_below t l))

pub mixed_below : (t : ℕ) → t < 2 ^ 64 → mixed t < 2 ^ 64
unfolding mixed
mixed_below t l =
    both_below ((t % 4294967296 + t / 4294967296 * (t / 4294967296)) % 4294967296) (t / 4294967296) (mod-lt _ (lit< tt)) (upper_below t l)

above : (a b x y : ℕ) → x < 4294967296 → y < 4294967296 → a * 4294967296 + x ≡ b * 4294967296 + y → a ≡ b
above a b x y l m e = omega arith

below : (a b x y : ℕ) → x < 4294967296 → y < 4294967296 → a * 4294967296 + x ≡ b * 4294967296 + y → x ≡ y
below a b x y l m e = omega arith

-- what stands before the same number, below 2 ^ 32
before : (l m a : ℕ) → l < 4294967296 → m < 4294967296 → (l + a) % 4294967296 ≡ (m + a) % 4294967296 → l ≡ m
before l m a b c e = omega arith

abbrev sum : ℕ → ℕ → ℕ
sum lower upper = (lower + upper * upper) % 4294967296

pub mixed_one : (t u : ℕ) → t < 2 ^ 64 → u < 2 ^ 64 → mixed t ≡ mixed u → t ≡ u
unfolding mixed
mixed_one t u b c e =
    let a : ℕ = sum (t % 4294967296) (t / 4294967296) in
    let d : ℕ = sum (u % 4294967296) (u / 4294967296) in
    let upper : t / 4294967296 ≡ u / 4294967296 = below a d (t / 4294967296) (u / 4294967296) (upper_below t b) (upper_below u c) e in
    let sums : a ≡ d = above a d (t / 4294967296) (u / 4294967296) (upper_below t b) (upper_below u c) e in
    let same : a ≡ sum (u % 4294967296) (t / 4294967296) = sums ∙ ap (sum (u % 4294967296)) (sym upper) in
    let lower : t % 4294967296 ≡ u % 4294967296 = before (t % 4294967296) (u % 4294967296) (t / 4294967296 * (t / 4294967296)) (mod-lt _ (lit< tt)) (mod-lt _ (lit< tt)) same in
    sym (mod-add-div t 4294967296) ∙ ap₂ (λ (k m : ℕ). k + 4294967296 * m) lower upper ∙ mod-add-div u 4294967296

step_below : (h x : ℕ) → digest_step h x < 2 ^ 64
unfolding digest_step
step_below h x = mixed_below ((h * 131073 + x + 1) % 2 ^ 64) (mod-lt _ (lit< tt))

pub from_below : (h : ℕ) (xs : List ℕ) → h < 2 ^ 64 → digest_from h xs < 2 ^ 64
unfolding digest_from
from_below h [] l = l
from_below h (x ∷ xs) l = from_below (digest_step h x) xs (step_below h x)

-- ---- one to one
part_mod : (n c m : ℕ) → n * c % m ≡ n % m * c % m
part_mod n c m =
    ap (λ (k : ℕ). k * c % m) (sym (mod-add-div n m))
    ∙ ap (λ (k : ℕ). k % m) (add-mul (n % m) (m * (n / m)) c ∙ ap (λ (k : ℕ). n % m * c + k) (mul_assoc m (n / m) c))
    ∙ add-mul-mod_self_left (n % m * c) m (n / m * c)

times_mod : (a b c m : ℕ) → a % m ≡ b % m → a * c % m ≡ b * c % m
times_mod a b c m e = part_mod a c m ∙ ap (λ (r : ℕ). r * c % m) e ∙ sym (part_mod b c m)

-- what stands before the same number
alone_mod : (a y : ℕ) → a % 18446744073709551616 ≡ ((a + y) % 18446744073709551616 + y * 18446744073709551615) % 18446744073709551616
alone_mod a y =
    let sum : a + y * 18446744073709551616 ≡ a + y + y * 18446744073709551615 = omega arith in
    sym (add-mul-mod_self_right a y 18446744073709551616)
    ∙ ap (λ (k : ℕ). k % 18446744073709551616) sum
    ∙ sym (mod-add-mod (a + y) 18446744073709551616 (y * 18446744073709551615))

plus_mod : (a b y : ℕ) → (a + y) % 18446744073709551616 ≡ (b + y) % 18446744073709551616 → a % 18446744073709551616 ≡ b % 18446744073709551616
plus_mod a b y e =
    alone_mod a y ∙ ap (λ (r : ℕ). (r + y * 18446744073709551615) % 18446744073709551616) e ∙ sym (alone_mod b y)

-- times a number that is 1 more than a multiple of m changes nothing below m
times_one : (h q m : ℕ) → h < m → h * (1 + q * m) % m ≡ h
times_one h q m l =
    ap (λ (k : ℕ). k % m) (mul-add h 1 (q * m) ∙ ap₂ ◌+◌ (mul-one h) (sym (mul_assoc h q m)))
    ∙ add-mul-mod_self_right h (h * q) m
    ∙ mod-eq_of_lt l

-- 131,073 times 18,444,492,291,075,604,481 is 1 more than 131,057 times 2 ^ 64
back : (h : ℕ) → h < 2 ^ 64 → h * 131073 * 18444492291075604481 % 18446744073709551616 ≡ h
back h l =
    ap (λ (k : ℕ). k % 18446744073709551616) (mul_assoc h 131073 18444492291075604481) ∙ times_one h 131057 18446744073709551616 l

sums_one : (a b : ℕ) → mixed (a % 2 ^ 64) ≡ mixed (b % 2 ^ 64) → a % 2 ^ 64 ≡ b % 2 ^ 64
sums_one a b e = mixed_one (a % 2 ^ 64) (b % 2 ^ 64) (mod-lt _ (lit< tt)) (mod-lt _ (lit< tt)) e

bytes_one : (h x y : ℕ) → x < 256 → y < 256 → (h * 131073 + x + 1) % 2 ^ 64 ≡ (h * 131073 + y + 1) % 2 ^ 64 → x ≡ y
bytes_one h x y b c e = omega arith

pub step_in_digest : (h k x : ℕ) → h < 2 ^ 64 → k < 2 ^ 64 → digest_step h x ≡ digest_step k x → h ≡ k
unfolding digest_step
step_in_digest h k x b c e =
    let g : (h * 131073 + x + 1) % 18446744073709551616 ≡ (k * 131073 + x + 1) % 18446744073709551616 = sums_one (h * 131073 + x + 1) (k * 131073 + x + 1) e in
    let f : (h * 131073 + (x + 1)) % 18446744073709551616 ≡ (k * 131073 + (x + 1)) % 18446744073709551616 = rw (← add_assoc (h * 131073) x 1, ← add_assoc (k * 131073) x 1) g in
    let same : h * 131073 % 18446744073709551616 ≡ k * 131073 % 18446744073709551616 = plus_mod (h * 131073) (k * 131073) (x + 1) f in
    sym (back h b) ∙ times_mod (h * 131073) (k * 131073) 18444492291075604481 18446744073709551616 same ∙ back k c

pub step_in_byte : (h x y : ℕ) → x < 256 → y < 256 → digest_step h x ≡ digest_step h y → x ≡ y
unfolding digest_step
step_in_byte h x y b c e = bytes_one h x y b c (sums_one (h * 131073 + x + 1) (h * 131073 + y + 1) e)

pub from_one : (h k : ℕ) (xs : List ℕ) → h < 2 ^ 64 → k < 2 ^ 64 → digest_from h xs ≡ digest_from k xs → h ≡ k
unfolding digest_from
from_one h k [] b c e = e
from_one h k (x ∷ xs) b c e =
    step_in_digest h k x b c (from_one (digest_step h x) (digest_step k x) xs (step_below h x) (step_below k x) e)

-- where one byte is another, the digest is
pub one_byte : (h : ℕ) (s : List ℕ) (i x : ℕ) → h < 2 ^ 64 → Bytes s → i < length s → x < 256 → digest_from h (set s i x) ≡ digest_from h s → x ≡ get_or s i 0
unfolding digest_from
one_byte h [] i x b bytes l y e = absurd (omega arith)
one_byte h (z ∷ s) zero x b bytes l y e =
    step_in_byte h x z y (bytes 0) (from_one (digest_step h x) (digest_step h z) s (step_below h x) (step_below h z) e)
one_byte h (z ∷ s) (suc i) x b bytes l y e = one_byte (digest_step h z) s i x (step_below h z) (λ k. bytes (suc k)) (omega arith) y e
