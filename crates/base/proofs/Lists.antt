-- The laws of lists that are made cell by cell (`list_from`) or part by part (`joined`). Assumes
-- nothing.
--
--   length_list_from, cell_of_lem  the length of `list_from` and its cells
--   is_list_from, same_list   an array with those cells is that list; the same cells, the same list
--   zero_cells                every cell of a list of zeros
--   stored, cell_stored       one cell more: what holds of each cell passed, and what each has
--   each_stored               one cell changed: what holds of every cell
--   joined-none, joined_suc, joined-more      no part, and one part more
--   joined_first              one part more before the others
--   joined_same               equal parts make equal lists
--   joined_length, length_exact, length_joined   the length, by that of each part
--   joined_split              part i stands after those before it
--   cut                       a list that is cut at some places is its parts, joined, and the rest
--   part_at, part-byte        the part that stands after another, and its members
--   before_part, in_part, after_part, length_replaced   a list of which a part is replaced
use mathlib.Core.Path.{◌≡◌, refl, sym, ap, ap₂, ◌∙◌}
use mathlib.Core.Logic.{⊎_elim}
use mathlib.Core.List.{List, [], ◌++◌, append_assoc, append-nil}
use Prim.Native.Nat.{ℕ, zero, suc, ◌+◌, ◌-◌, ◌*◌, ◌≤◌, ◌<◌}
use native.Mathlib.Nat.{eq-or-lt_of_le, le_of_suc-le-suc, suc-mul}
use native.Mathlib.Numerals.{add-one}
use native.Mathlib.Omega.{arith}
use lib.ListN.{length, get_or, set, take, drop, replicate, length-append, length-drop, get_or-append}
use lib.Seq.{ext_get_or, get_or-set_same, get_or-set_other, take_at, drop_at, get_or-take, get_or-drop, get_or-append-add, length-take-le}
use borrow.Author.Count.{below_more}
use borrow.Author.Tests.{eqb-true, eqb-false}
use lib.Dec.{eqb}
use Rattle.base.specs.Lists.{list_from, joined}
use Rattle.base.specs.Totals.{total}
use Rattle.base.proofs.Tests.{by_test}

-- ---- cell by cell
pub length_list_from : (i len : ℕ) (g : ℕ → ℕ) → length (list_from i len g) ≡ len
unfolding list_from
length_list_from i zero g = refl
length_list_from i (suc len) g = ap suc (length_list_from (suc i) len g)

get_D_list_from : (i len : ℕ) (g : ℕ → ℕ) (c d : ℕ) → c < len → get_or (list_from i len g) c d ≡ g (i + c)
unfolding list_from
get_D_list_from i zero g c d h = absurd (omega arith)
get_D_list_from i (suc len) g zero d h = let e : i ≡ i + 0 = omega arith in ap g e
get_D_list_from i (suc len) g (suc c) d h = let e : suc i + c ≡ i + suc c = omega arith in get_D_list_from (suc i) len g c d (omega arith) ∙ ap g e

pub cell_of_lem : (len : ℕ) (g : ℕ → ℕ) (c d : ℕ) → c < len → get_or (list_from 0 len g) c d ≡ g c
cell_of_lem len g c d h = let e : 0 + c ≡ c = omega arith in get_D_list_from 0 len g c d h ∙ ap g e

pub is_list_from : (t : List ℕ) (len : ℕ) (g : ℕ → ℕ) → length t ≡ len → ((c : ℕ) → c < len → get_or t c 0 ≡ g c) → t ≡ list_from 0 len g
is_list_from t len g l h =
    ext_get_or 0 t (list_from 0 len g) (l ∙ sym (length_list_from 0 len g)) (λ c b. h c (rw l at b) ∙ sym (cell_of_lem len g c 0 (rw l at b)))

pub same_list : (len : ℕ) (f g : ℕ → ℕ) → ((c : ℕ) → c < len → f c ≡ g c) → list_from 0 len f ≡ list_from 0 len g
same_list len f g same = is_list_from (list_from 0 len f) len g (length_list_from 0 len f) (λ c h. cell_of_lem len f c 0 h ∙ same c h)

pub zero_cells : (n i : ℕ) → get_or {A = ℕ} (replicate n 0) i 0 ≡ 0
zero_cells zero i = refl
zero_cells (suc n) zero = refl
zero_cells (suc n) (suc i) = zero_cells n i

-- a loop that fills a list from the front: what holds of each cell passed
pub stored : (P : ℕ → ℕ → Type 0) (l : List ℕ) (i v : ℕ) → i < length l → ((b : ℕ) → b < i → P b (get_or l b 0)) → P i v
    → (b : ℕ) → b < i + 1 → P b (get_or (set l i v) b 0)
stored P l i v h all here =
    below_more
    (λ b. P b (get_or (set l i v) b 0))
    i
    (λ b m. rw (get_or-set_other l i b v 0 (λ e. omega arith)) (all b m))
    (rw (get_or-set_same l i v 0 h) here)

pub cell_stored : (t : List ℕ) (g : ℕ → ℕ) (i x : ℕ) → i < length t → x ≡ g i → ((c : ℕ) → c < i → get_or t c 0 ≡ g c)
    → (c : ℕ) → c < i + 1 → get_or (set t i x) c 0 ≡ g c
cell_stored t g i x h e f = stored (λ c y. y ≡ g c) t i x h f e

pub each_stored : (P : ℕ → ℕ → Type 0) (l : List ℕ) (i v : ℕ) → i < length l → ((b : ℕ) → P b (get_or l b 0)) → P i v
    → (b : ℕ) → P b (get_or (set l i v) b 0)
each_stored P l i v h all here b =
    by_test (eqb b i)
    (λ t. let e = eqb-true b i t in rw (e, get_or-set_same l i v 0 h) here)
    (λ t. rw (get_or-set_other l i b v 0 (eqb-false b i t)) (all b))

-- ---- part by part
pub joined_same : (p p' : ℕ → List ℕ) (n : ℕ) → ((i : ℕ) → i < n → p i ≡ p' i) → joined p n ≡ joined p' n
unfolding joined
joined_same p p' zero e = refl
joined_same p p' (suc n) e = ap₂ (λ (a b : List ℕ). a ++ b) (joined_same p p' n (λ i l. e i (omega arith))) (e n (omega arith))

module _ (p : ℕ → List ℕ) where
  pub joined-none : joined p 0 ≡ []
  unfolding joined
  joined-none = refl

  pub joined_suc : (n : ℕ) → joined p (suc n) ≡ joined p n ++ p n
  unfolding joined
  joined_suc n = refl

  pub joined-more : (i : ℕ) → joined p (i + 1) ≡ joined p i ++ p i
  joined-more i = rw add-one (joined_suc i)

  pub joined_first : (n : ℕ) → joined p (suc n) ≡ p 0 ++ joined (λ i. p (suc i)) n
  unfolding joined
  joined_first zero = sym (append-nil (p 0))
  joined_first (suc n) =
      ap (λ (x : List ℕ). x ++ p (suc n)) (joined_first n) ∙ append_assoc (p 0) (joined (λ i. p (suc i)) n) (p (suc n))

  -- parts of c members each
  pub length_exact : (n c : ℕ) → ((i : ℕ) → i < n → length (p i) ≡ c) → length (joined p n) ≡ n * c
  unfolding joined
  length_exact zero c e = omega arith
  length_exact (suc n) c e =
      length-append (joined p n) (p n) ∙ ap₂ ◌+◌ (length_exact n c (λ i l. e i (omega arith))) (e n (omega arith))
      ∙ sym (suc-mul n c)

  -- parts of at most so many members each
  pub joined_length : (n most : ℕ) → ((i : ℕ) → i < n → length (p i) ≤ most) → length (joined p n) ≤ n * most
  unfolding joined
  joined_length zero most h = omega arith
  joined_length (suc n) most h =
      let l = joined_length n most (λ i b. h i (omega arith)) in
      let s : suc n * most ≡ n * most + most = suc-mul n most in
      omega (arith, length-append (joined p n) (p n), h n (omega arith))

  pub length_joined : (n : ℕ) → length (joined p n) ≡ total (λ i. length (p i)) n
  unfolding joined total
  length_joined zero = refl
  length_joined (suc n) = length-append (joined p n) (p n) ∙ ap (λ (x : ℕ). x + length (p n)) (length_joined n)

  pub joined_split : (n i : ℕ) → i < n → (r : List ℕ) × (joined p n ≡ joined p i ++ (p i ++ r))
  unfolding joined
  joined_split zero i l = absurd (let x = l in omega arith)
  joined_split (suc n) i l =
      ⊎_elim
      (λ e. ([], rw e (ap (λ (x : List ℕ). joined p n ++ x) (sym (append-nil (p n))))))
      (λ b. let r = joined_split n i b in (r.0 ++ p n, ap (λ (x : List ℕ). x ++ p n) r.1 ∙ simp append_assoc))
      (eq-or-lt_of_le (le_of_suc-le-suc l))

  pub cut : (f : List ℕ) (place : ℕ → ℕ) (n : ℕ) → ((i : ℕ) → i < n → drop (place i) f ≡ p i ++ drop (place (suc i)) f)
      → drop (place 0) f ≡ joined p n ++ drop (place n) f
  unfolding joined
  cut f place zero h = refl
  cut f place (suc n) h =
      cut f place n (λ i l. h i (omega arith))
      ∙ ap (λ (x : List ℕ). joined p n ++ x) (h n (omega arith))
      ∙ sym (append_assoc (joined p n) (p n) (drop (place (suc n)) f))

-- ---- a part of a list
pub part_at : (f a b c : List ℕ) (m : ℕ) → f ≡ a ++ (b ++ c) → length a ≡ m → take (length b) (drop m f) ≡ b
part_at f a b c m e l =
    ap (λ (x : List ℕ). take (length b) (drop m x)) e ∙ ap (take (length b)) (drop_at a (b ++ c) m l) ∙ take_at b c (length b) refl

pub part-byte : (f b : List ℕ) (m j : ℕ) → take (length b) (drop m f) ≡ b → j < length b → get_or f (m + j) 0 ≡ get_or b j 0
part-byte f b m j e l =
    sym (get_or-drop m f j 0) ∙ sym (get_or-take (length b) (drop m f) j 0 l) ∙ ap (λ (x : List ℕ). get_or x j 0) e

-- n members from i on are replaced by those of b
module _ (l b : List ℕ) (i n : ℕ) (fits : i + n ≤ length l) (size : length b ≡ n) where
  abbrev replaced : List ℕ
  replaced = take i l ++ (b ++ drop n (drop i l))

  head : length (take i l) ≡ i
  head = length-take-le i l (omega arith)

  -- what stands k places behind the first i
  behind : (k : ℕ) → get_or replaced (i + k) 0 ≡ get_or (b ++ drop n (drop i l)) k 0
  behind k = ap (λ (x : ℕ). get_or replaced (x + k) 0) (sym head) ∙ get_or-append-add (take i l) (b ++ drop n (drop i l)) k 0

  pub before_part : (k : ℕ) → k < i → get_or replaced k 0 ≡ get_or l k 0
  before_part k h = get_or-append (take i l) (b ++ drop n (drop i l)) 0 k (omega (arith, head)) ∙ get_or-take i l k 0 h

  pub in_part : (k : ℕ) → k < n → get_or replaced (i + k) 0 ≡ get_or b k 0
  in_part k h = behind k ∙ get_or-append b (drop n (drop i l)) 0 k (omega arith)

  pub after_part : (k : ℕ) → i + n ≤ k → get_or replaced k 0 ≡ get_or l k 0
  after_part k h =
      let here : k ≡ i + (n + (k - (i + n))) = omega arith in
      let there : length b + (k - (i + n)) ≡ n + (k - (i + n)) = omega arith in
      ap (λ (x : ℕ). get_or replaced x 0) here
      ∙ behind (n + (k - (i + n)))
      ∙ ap (λ (x : ℕ). get_or (b ++ drop n (drop i l)) x 0) (sym there)
      ∙ get_or-append-add b (drop n (drop i l)) (k - (i + n)) 0
      ∙ get_or-drop n (drop i l) (k - (i + n)) 0
      ∙ get_or-drop i l (n + (k - (i + n))) 0
      ∙ ap (λ (x : ℕ). get_or l x 0) (sym here)

  pub length_replaced : length replaced ≡ length l
  length_replaced = simp (length-append, length-drop) (omega (arith, head))
