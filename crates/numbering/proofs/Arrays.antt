-- The laws of a key's turn, and of the step from a key, over the array of the keys: one lemma for
-- each way out of a search, of a turn and of a step, and what their answers tell. Assumes nothing.
--
--   limited-.., whole_of, over_of   an answer and the limit of 512 keys
--   cells-..                        the keys as an array
--   keys_long, count-is             how long the array is, and the list of its first cells
--   read_back                       the keys are read off the array again
--   found-..                        a search among the first cells
--   entered-..                      a key's turn
--   stepped-..                      a key is expanded by a symbol
use mathlib.Core.Path.{◌≡◌, refl, sym, ap, ◌∙◌, subst}
use mathlib.Core.Bool.{Bool, true, false, cond}
use mathlib.Core.List.{List, [], ◌∷◌, ◌++◌}
use mathlib.Core.Option.{Option, none, some}
use Prim.Native.Nat.{ℕ, zero, suc, ◌+◌, ◌*◌, ◌≤◌, ◌<◌, min}
use native.Mathlib.Omega.{arith}
use lib.Dec.{eqb, ltb}
use lib.ListN.{length, get_or, take, set, length-append, length-set, length-take}
use lib.Seq.{ext_get_or, get_or-take, length-take-le, get_or-append_seam, get_or-set_same, get_or-set_other}
use borrow.Author.Tests.{lt-ltb, le-ltb, eqb-true, eqb-false, ltb-true, ltb-false}
use Rattle.base.proofs.Lists.{length_list_from, cell_of_lem, is_list_from, same_list}
use Rattle.base.proofs.Tests.{by_test, zero_one}
use Rattle.numbering.specs.Numbering.{index_of, numbered}
use Rattle.numbering.specs.mirror.Arrays.{limited, found_in, key_cells, turn_of, Entered, target, after_step, Stepped}
use Rattle.numbering.specs.mirror.Begins.{Begins}
use Rattle.numbering.proofs.Numbers.{Has, nowhere, number_is, begins_at, number_taken, numbered_skipped, numbered_kept, numbered_taken}

-- ---- at most 512
told_some : (over : Bool) (count c : ℕ) → some c ≡ cond over none (some count) → (over ≡ false) × (c ≡ count)
told_some true count c e = zero_one cc
told_some false count c e = (refl, cc)

told_none : (over : Bool) (count : ℕ) → none ≡ cond over none (some count) → over ≡ true
told_none true count e = refl
told_none false count e = zero_one cc

module _ (f : List ℕ) where
  pub limited_whole : length f ≤ 512 → some (length f) ≡ limited f
  limited_whole h = rw (le-ltb 512 (length f) h)

  pub limited_over : 512 < length f → none ≡ limited f
  limited_over h = rw (lt-ltb 512 (length f) h)

  pub whole_of : (c : ℕ) → some c ≡ limited f → (length f ≤ 512) × (c ≡ length f)
  whole_of c e = let x = told_some (ltb 512 (length f)) (length f) c e in (ltb-false 512 (length f) x.0, x.1)

  pub over_of : none ≡ limited f → 512 < length f
  over_of e = ltb-true 512 (length f) (told_none (ltb 512 (length f)) (length f) e)

-- ---- a search among the first cells
module _ (keys : List ℕ) (count m most : ℕ) (is : most ≡ min count (length keys)) where
  first_long : length (take count keys) ≡ most
  first_long = length-take count keys ∙ sym is

  pub found_none : ((j : ℕ) → j < most → get_or keys j 0 ≡ m → ⊥) → none ≡ found_in (take count keys) m
  found_none h =
      let b : length (take count keys) ≤ index_of (take count keys) m =
      nowhere (take count keys) m (λ j b e. let d : j < most = omega (arith, first_long) in h j d (sym (get_or-take count keys j 0 (omega arith)) ∙ e)) in
      rw (le-ltb (index_of (take count keys) m) (length (take count keys)) b)

  pub found_at : (i : ℕ) → i < most → get_or keys i 0 ≡ m → ((j : ℕ) → j < i → get_or keys j 0 ≡ m → ⊥) → some i ≡ found_in (take count keys) m
  found_at i b e h =
      let l = take count keys in
      let n : index_of l m ≡ i =
      number_is l m i (rw first_long b) (get_or-take count keys i 0 (omega arith) ∙ e) (λ j c d. h j c (sym (get_or-take count keys j 0 (omega arith)) ∙ d)) in
      rw (n, first_long, lt-ltb i most b)

-- what it said
pub found_has : (l : List ℕ) (m j : ℕ) → found_in l m ≡ some j → Has l m × (j ≡ index_of l m)
found_has l m j e = go (ltb (index_of l m) (length l)) refl e
  where
    go : (b : Bool) → ltb (index_of l m) (length l) ≡ b → cond b (some (index_of l m)) none ≡ some j → Has l m × (j ≡ index_of l m)
    go true t h = (ltb-true (index_of l m) (length l) t, cc)
    go false t h = zero_one cc

pub found_not : (l : List ℕ) (m : ℕ) → found_in l m ≡ none → length l ≤ index_of l m
found_not l m e = go (ltb (index_of l m) (length l)) refl e
  where
    go : (b : Bool) → ltb (index_of l m) (length l) ≡ b → cond b (some (index_of l m)) none ≡ none → length l ≤ index_of l m
    go true t h = zero_one cc
    go false t h = ltb-false (index_of l m) (length l) t

-- ---- the keys as an array
pub cells_long : (l : List ℕ) → length (key_cells l) ≡ 512
cells_long l = length_list_from 0 512 (λ i. get_or l i 0)

pub cells_at : (l : List ℕ) (c : ℕ) → c < 512 → get_or (key_cells l) c 0 ≡ get_or l c 0
cells_at l c h = cell_of_lem 512 (λ i. get_or l i 0) c 0 h

snoc_other : (l : List ℕ) (m c : ℕ) → (c ≡ length l → ⊥) → get_or (l ++ (m ∷ [])) c 0 ≡ get_or l c 0
snoc_other [] m zero ne = absurd (ne refl)
snoc_other [] m (suc c) ne = refl
snoc_other (x ∷ l) m zero ne = refl
snoc_other (x ∷ l) m (suc c) ne = snoc_other l m c (λ e. ne (ap suc e))

-- a new key goes to the first cell that is not in use
pub cells_snoc : (l : List ℕ) (m : ℕ) → length l < 512 → set (key_cells l) (length l) m ≡ key_cells (l ++ (m ∷ []))
cells_snoc l m h =
    is_list_from (set (key_cells l) (length l) m) 512 (λ i. get_or (l ++ (m ∷ [])) i 0) (length-set (key_cells l) (length l) m ∙ cells_long l)
    (λ c b.
    by_test (eqb c (length l))
    (λ t.
    let e : c ≡ length l = eqb-true c (length l) t in
    rw e (get_or-set_same (key_cells l) (length l) m 0 (rw cells_long h) ∙ sym (get_or-append_seam l m [] 0)))
    (λ t.
    let ne : c ≡ length l → ⊥ = eqb-false c (length l) t in
    get_or-set_other (key_cells l) (length l) c m 0 ne ∙ cells_at l c b ∙ sym (snoc_other l m c ne)))

-- a list of 512 keys that goes on has the same first cells
pub cells_full : (l f : List ℕ) → Begins l f → 512 ≤ length l → key_cells f ≡ key_cells l
cells_full l f g h = same_list 512 (λ i. get_or f i 0) (λ i. get_or l i 0) (λ c b. begins_at g c (omega arith))

-- the keys are read off the array again
pub read_back : (f keys : List ℕ) (c : ℕ) → length f ≤ 512 → c ≡ length f → keys ≡ key_cells f → take c keys ≡ f
read_back f keys c h e are =
    rw (e, are)
    (let n : length (take (length f) (key_cells f)) ≡ length f = length-take-le (length f) (key_cells f) (rw cells_long h) in
    ext_get_or 0 (take (length f) (key_cells f)) f n
    (λ i b. let d : i < length f = omega arith in get_or-take (length f) (key_cells f) i 0 d ∙ cells_at f i (omega arith)))

-- ---- a key's turn
module _ (keys : List ℕ) (count : ℕ) (most : count ≤ 512) (are : keys ≡ key_cells (take count keys)) where
  pub keys_long : length keys ≡ 512
  keys_long = ap length are ∙ cells_long (take count keys)

  pub count-is : length (take count keys) ≡ count
  count-is = length-take-le count keys (omega (arith, keys_long))

  module _ (skips : ℕ → Bool) (m : ℕ) (ne : skips m ≡ false) where
    abbrev l : List ℕ
    l = take count keys

    pub entered_kept : (j : ℕ) → found_in l m ≡ some j → Entered skips l m (some (j, count)) keys
    entered_kept j e =
        let h = found_has l m j e in
        let k : numbered skips l m ≡ l = numbered_kept skips l m ne h.0 in
        record { number = rw (k, count-is, le-ltb 512 count most, h.1); keys_are = rw k are }

    module _ (missing : found_in l m ≡ none) where
      no_number : length l ≤ index_of l m
      no_number = found_not l m missing

      taken : numbered skips l m ≡ l ++ (m ∷ [])
      taken = numbered_taken skips l m ne no_number

      one_more : length (l ++ (m ∷ [])) ≡ count + 1
      one_more = length-append l (m ∷ []) ∙ omega (arith, count-is)

      pub entered_taken : count < 512 → Entered skips l m (some (count, count + 1)) (set keys count m)
      entered_taken b = record {
        number = rw (taken, one_more, number_taken l m no_number, count-is, le-ltb 512 (count + 1) (omega arith));
        keys_are = ap (λ (x : List ℕ). set x count m) are
            ∙ ap (λ (c : ℕ). set (key_cells l) c m) (sym count-is)
            ∙ cells_snoc l m (omega (arith, count-is))
            ∙ sym (ap key_cells taken);
      }

      pub entered_full : 512 ≤ count → Entered skips l m none keys
      entered_full b = record {
        number = rw (taken, one_more, lt-ltb 512 (count + 1) (omega arith));
        keys_are = are ∙ sym (cells_full l (numbered skips l m) (record { rest = m ∷ []; is = taken }) (omega (arith, count-is)));
      }

-- the turn of a key is the same whatever other keys are left out
numbered_same : (one other : ℕ → Bool) (l : List ℕ) (m : ℕ) → one m ≡ other m → numbered one l m ≡ numbered other l m
unfolding numbered
numbered_same one other l m e = rw e

pub entered_any : (one other : ℕ → Bool) (l : List ℕ) (m : ℕ) → one m ≡ other m → {r : Option (ℕ × ℕ)} {keys : List ℕ} → Entered one l m r keys → Entered other l m r keys
entered_any one other l m e h =
    let same : numbered one l m ≡ numbered other l m = numbered_same one other l m e in
    record { number = h.number ∙ rw same; keys_are = h.keys_are ∙ ap key_cells same }

-- what a key's turn answered
module _ (skips : ℕ → Bool) (l : List ℕ) (m : ℕ) where
  turn : Bool → Option (ℕ × ℕ)
  turn b = cond b none (some (index_of (numbered skips l m) m, length (numbered skips l m)))

  pub entered_as : (j c : ℕ) → some (j, c) ≡ turn_of skips l m
      → (length (numbered skips l m) ≤ 512) × (j ≡ index_of (numbered skips l m) m) × (c ≡ length (numbered skips l m))
  unfolding turn
  entered_as j c e = go (ltb 512 (length (numbered skips l m))) refl e
    where
      go : (b : Bool) → ltb 512 (length (numbered skips l m)) ≡ b → some (j, c) ≡ turn b
          → (length (numbered skips l m) ≤ 512) × (j ≡ index_of (numbered skips l m) m) × (c ≡ length (numbered skips l m))
      go true t g = zero_one cc
      go false t g =
          let p : ◌≡◌ {A = ℕ × ℕ} (j, c) (index_of (numbered skips l m) m, length (numbered skips l m)) = cc in
          (ltb-false 512 (length (numbered skips l m)) t, ap (λ (x : ℕ × ℕ). x.0) p, ap (λ (x : ℕ × ℕ). x.1) p)

  pub entered_over : none ≡ turn_of skips l m → 512 < length (numbered skips l m)
  unfolding turn
  entered_over e = go (ltb 512 (length (numbered skips l m))) refl e
    where
      go : (b : Bool) → ltb 512 (length (numbered skips l m)) ≡ b → none ≡ turn b → 512 < length (numbered skips l m)
      go true t g = ltb-true 512 (length (numbered skips l m)) t
      go false t g = zero_one cc

-- ---- a key is expanded by a symbol
module _ (step : ℕ → ℕ → ℕ) (skips : ℕ → Bool) (keys next : List ℕ) (count i s m : ℕ) (most : count ≤ 512) (are : keys ≡ key_cells (take count keys))
    (below : i < count) (is : m ≡ step (get_or keys i 0) s) where
  abbrev before : List ℕ
  before = take count keys

  is_target : m ≡ target step skips before i s
  is_target = is ∙ ap (λ (x : ℕ). step x s) (sym (get_or-take count keys i 0 below))

  pub stepped_skipped : skips m ≡ true → Stepped step skips before i s (some count) keys next next
  stepped_skipped z =
      let n : length before ≡ count = count-is keys count most are in
      let e : skips (target step skips before i s) ≡ true = ap skips (sym is_target) ∙ z in
      let k : after_step step skips before i s ≡ before = numbered_skipped skips before (target step skips before i s) e in
      record {
        count = ap some (sym n) ∙ limited_whole before (omega arith) ∙ sym (ap limited k);
        keys_are = are ∙ sym (ap key_cells k);
        next_are = rw e;
      }

  module _ (ne : skips m ≡ false) (r : Option (ℕ × ℕ)) (after : List ℕ) (entered : Entered skips before m r after) where
    h : Entered skips before (target step skips before i s) r after
    h = subst (λ (x : ℕ). Entered skips before x r after) is_target entered

    pub stepped_whole : (j c : ℕ) → r ≡ some (j, c) → Stepped step skips before i s (some c) after next (set next (i * 16 + s) j)
    stepped_whole j c e =
        let x = entered_as skips before (target step skips before i s) j c (sym e ∙ h.number) in
        let n : skips (target step skips before i s) ≡ false = ap skips (sym is_target) ∙ ne in
        record {
          count = ap some x.2 ∙ limited_whole (after_step step skips before i s) x.0;
          keys_are = h.keys_are;
          next_are = rw (n, le-ltb 512 (length (after_step step skips before i s)) x.0, x.1);
        }

    pub stepped_over : r ≡ none → Stepped step skips before i s none after next next
    stepped_over e =
        let b = entered_over skips before (target step skips before i s) (sym e ∙ h.number) in
        let n : skips (target step skips before i s) ≡ false = ap skips (sym is_target) ∙ ne in
        record {
          count = limited_over (after_step step skips before i s) b;
          keys_are = h.keys_are;
          next_are = rw (n, lt-ltb 512 (length (after_step step skips before i s)) b);
        }
