-- The laws of digests. Assumes nothing.
--
--   step_sums          half a step, as the code does it with sums that wrap
--   step_halves        a step is two of these
--   digest_below       a digest is a number of 64 bits
--   from-append        one list of numbers behind another
--   Passed, passed_none, passed_more, passed_all   the cells passed
--   front_cells, whole_cells   the digest with the first cells of an array, and with all of them
--   first_of           the first cells of an array that is made cell by cell
--   digest_parts       the digest of a built rule, part by part
use Rattle.std.proofs.Common.{◌≡◌, ℕ, ◌+◌, ◌*◌, ◌/◌, ◌%◌, ◌^◌, ◌<◌, ◌≤◌, List, [], ◌∷◌, ◌++◌, get_or, sym, refl, ap, ◌∙◌, mod-lt, arith, lit<, length, take, length-take-le, get_or-take}
use native.Mathlib.Nat.{mod-add-mod}
use Rattle.std.specs.List.{AllZip, each_same}
use Rattle.std.proofs.lemmas.List.{take_more, take_all}
use Rattle.std.proofs.lemmas.Slice.Zip.{all_zipped_more}
use Rattle.base.specs.Lists.{list_from}
use Rattle.base.proofs.Lists.{cell_of_lem, same_list, is_list_from}
use Rattle.build.specs.declared.Built.{Built}
use Rattle.digests.specs.Digests.{stirred, half_step, digest_step, digest_from, first_cells, sets_in, digested, digest_of}

pub step_sums : (h x p s t : ℕ) → p ≡ (h * 2 ^ 17 % 2 ^ 64 + h) % 2 ^ 64 → s ≡ (p + x) % 2 ^ 64 → t ≡ (s + s / 2 ^ 23) % 2 ^ 64 → t ≡ half_step h x
unfolding half_step stirred
step_sums h x p s t e f g =
    let sum : h * 2 ^ 17 + h + x ≡ h * 131073 + x = omega arith in
    let product : p ≡ (h * 2 ^ 17 + h) % 2 ^ 64 = e ∙ mod-add-mod (h * 2 ^ 17) (2 ^ 64) h in
    let same : s ≡ (h * 131073 + x) % 2 ^ 64 =
    f ∙ ap (λ (y : ℕ). (y + x) % 2 ^ 64) product ∙ mod-add-mod (h * 2 ^ 17 + h) (2 ^ 64) x ∙ ap (λ (y : ℕ). y % 2 ^ 64) sum in
    g ∙ ap stirred same

pub step_halves : (h x m t : ℕ) → m ≡ half_step h (x % 65536) → t ≡ half_step m (x / 65536) → t ≡ digest_step h x
unfolding digest_step
step_halves h x m t e f = f ∙ ap (λ (y : ℕ). half_step y (x / 65536)) e

pub from-append : (h : ℕ) (xs ys : List ℕ) → digest_from h (xs ++ ys) ≡ digest_from (digest_from h xs) ys
unfolding digest_from
from-append h [] ys = refl
from-append h (x ∷ xs) ys = from-append (digest_step h x) xs ys

-- the digest h of the first i cells, which convert to numbers by R
module _ {T : Type 0} (R : T → ℕ → Type 0) (start : ℕ) (cells : List T) where
  pub record Passed (h i : ℕ) : Type 0 where
    pub most : i ≤ length cells
    pub numbers : List ℕ
    pub each : AllZip R (take i cells) numbers
    pub same : h ≡ digest_from start numbers

  pub passed_none : Passed start 0
  unfolding digest_from
  passed_none = record { most = omega arith; numbers = []; each = tt; same = refl }

  module _ (h i : ℕ) (p : Passed h i) where
    pub passed_more : (x : T) (n k : ℕ) → i < length cells → x ≡ get_or cells i x → R x n → k ≡ digest_step h n → Passed k (i + 1)
    unfolding digest_from
    passed_more x n k b e r f =
        let more : take (i + 1) cells ≡ take i cells ++ (x ∷ []) = take_more cells i x b ∙ ap (λ (y : T). take i cells ++ (y ∷ [])) (sym e) in
        record {
          most = omega arith;
          numbers = p.numbers ++ (n ∷ []);
          each = rw more (all_zipped_more R (take i cells) p.numbers x n p.each r);
          same = f ∙ ap (λ (y : ℕ). digest_step y n) p.same ∙ sym (from-append start p.numbers (n ∷ []));
        }

    pub passed_all : length cells ≤ i → (numbers : List ℕ) × AllZip R cells numbers × (h ≡ digest_from start numbers)
    passed_all b = (p.numbers, rw (take_all i cells b) at p.each, p.same)

-- a number of 64 bits
from_below : (h : ℕ) (xs : List ℕ) → h < 2 ^ 64 → digest_from h xs < 2 ^ 64
unfolding digest_from digest_step half_step stirred
from_below h [] l = l
from_below h (x ∷ xs) l = from_below (digest_step h x) xs (mod-lt _ (lit< tt))

pub digest_below : (b : Built) → digest_of b < 2 ^ 64
unfolding digest_of
digest_below b = from_below 0 (digested b) (lit< tt)

-- the first n cells of an array, and the whole of it
take_first : (l : List ℕ) (n : ℕ) → n ≤ length l → take n l ≡ first_cells l n
take_first l n b =
    is_list_from (take n l) n (λ i. get_or l i 0) (length-take-le n l b) (λ i h. get_or-take n l i 0 h)

pub front_cells : (l : List ℕ) (n h r : ℕ) → n ≤ length l
    → (numbers : List ℕ) × AllZip (λ x y. y ≡ x) (take n l) numbers × (r ≡ digest_from h numbers) → r ≡ digest_from h (first_cells l n)
front_cells l n h r b v = v.2 ∙ ap (digest_from h) (each_same (take n l) v.0 v.1 ∙ take_first l n b)

pub whole_cells : (l : List ℕ) (n h r : ℕ) → length l ≡ n
    → (numbers : List ℕ) × AllZip (λ x y. y ≡ x) l numbers × (r ≡ digest_from h numbers) → r ≡ digest_from h (first_cells l n)
whole_cells l n h r e v =
    v.2 ∙ ap (digest_from h) (each_same l v.0 v.1 ∙ sym (take_all n l (omega arith)) ∙ take_first l n (omega arith))

-- the first cells of an array that is made cell by cell
pub first_of : (g : ℕ → ℕ) (m n : ℕ) → n ≤ m → first_cells (list_from 0 m g) n ≡ list_from 0 n g
first_of g m n l = same_list n (λ i. get_or (list_from 0 m g) i 0) g (λ i b. cell_of_lem m g i 0 (omega arith))

-- part by part
pub digest_parts : (b : Built) (start own singles counted count sets r : ℕ)
    → start ≡ digest_step (digest_step (digest_step (digest_step 0 b.n) b.k) b.initials) b.finals
    → own ≡ digest_from start (first_cells b.delegates 32)
    → singles ≡ digest_from own (first_cells b.singles 32)
    → counted ≡ digest_step singles b.setcount
    → count ≡ sets_in b
    → sets ≡ digest_from counted (first_cells b.sets count)
    → r ≡ digest_from sets (first_cells b.next (count * 16))
    → r ≡ digest_of b
unfolding digest_of digest_from
digest_parts b start own singles counted count sets r e f g h i j k = k ∙ rw (j, i, h, g, f, e) (sym (simp from-append))
