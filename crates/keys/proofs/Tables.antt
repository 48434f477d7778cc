-- What `add` leaves, from one key, is the table. Assumes nothing.
--
--   full_at, used                 the cells of the table, and of those that are in use
--   known                         what a filled cell leads to has a number
--   table_left, table_by_lem      what `add` leaves is the table
--   one_whole                     with at most 512 keys that is the whole table
use Rattle.std.proofs.Common as code
use Rattle.std.proofs.Common.{Some, None}
use mathlib.Core.Path.{◌≡◌, refl, sym, ap, ◌∙◌}
use mathlib.Core.Logic.{⊎_elim}
use mathlib.Core.Bool.{Bool, true, false, cond}
use mathlib.Core.List.{List, [], ◌∷◌, ◌++◌}
use mathlib.Core.Option.{Option, none, some}
use Prim.Native.Nat.{ℕ, suc, ◌+◌, ◌*◌, ◌/◌, ◌%◌, ◌≤◌, ◌<◌, min}
use native.Mathlib.Nat.{eq-or-lt_of_le, le_of_suc-le-suc}
use native.Mathlib.Omega.{arith}
use lib.Dec.{ltb}
use lib.ListN.{length, get_or, length-append, get_or-append}
use lib.Seq.{get_or-append_seam}
use borrow.Author.Tests.{lt-ltb, ltb-true, ltb-false}
use Rattle.base.specs.Options.{option_of}
use Rattle.base.proofs.Lists.{length_list_from, cell_of_lem, is_list_from}
use Rattle.base.proofs.Options.{none-some}
use Rattle.base.proofs.Tests.{by_test}
use Rattle.numbering.specs.Numbering.{Walk, index_of, numbered, keys_up_to}
use Rattle.numbering.specs.mirror.Begins.{Begins}
use Rattle.numbering.specs.mirror.Arrays.{limited, key_cells, target, after_step, Stepped, ArraysHold, Expanded, grown_by, Added}
use Rattle.numbering.proofs.Numbers.{Has, number_le, nowhere, stands, number_is, begins_self, begins_at, begins_length, begins_number, begins_trans, number_taken, numbered_kept, numbered_taken, numbered_begins, numbered_has}
use Rattle.numbering.proofs.Arrays.{limited_whole, limited_over, whole_of, over_of, cells_full}
use Rattle.numbering.proofs.Reached.{covered}
use Rattle.numbering.proofs.Table.{row_test_lem}
use Rattle.keys.specs.declared.Kind.{Kind}
use Rattle.keys.specs.declared.KeyTable.{KeyTable}
use Rattle.keys.specs.Kinds.{walk_by}
use Rattle.keys.specs.Tables.{Table, table_as, table_outcome, keys_by, cell_of, cells_of, cells_to, table_for, table_by}

-- a key without a number has none either where another key is numbered
other_key : (l : List ℕ) (m : ℕ) → length l ≤ index_of l m → length l < index_of (l ++ (suc m ∷ [])) m
other_key l m new =
    let n : length (l ++ (suc m ∷ [])) ≡ suc (length l) = rw length-append (omega arith) in
    omega (
      arith,
      nowhere (l ++ (suc m ∷ [])) m
          (λ j b e.
          ⊎_elim
          (λ z. let u : suc m ≡ m = sym (get_or-append_seam l (suc m) [] 0) ∙ ap (λ (x : ℕ). get_or (l ++ (suc m ∷ [])) x 0) (sym z) ∙ e in omega arith)
          (λ z. let u : Has l m = stands l m j z (sym (get_or-append l (suc m ∷ []) 0 j z) ∙ e) in omega arith)
          (eq-or-lt_of_le (le_of_suc-le-suc (rw n at b)))),
    )

module _ (a : Walk) (l : List ℕ) where
  pub full_at : (c : ℕ) → c < 8192 → get_or (cells_of a l) c 0 ≡ cell_of a l (c / 16) (c % 16)
  full_at c b = cell_of_lem 8192 (λ x. cell_of a l (x / 16) (x % 16)) c 0 b

  -- a cell that holds a number above 0 is in use
  pub used : (i s j : ℕ) → 0 < j → cell_of a l i s ≡ j → (i < length l) × (s < a.k) × (index_of l (a.step (get_or l i 0) s) ≡ j)
  used i s j above e =
      by_test (ltb i (length l))
      (λ t.
      by_test (ltb s a.k)
      (λ u. (ltb-true i (length l) t, ltb-true s a.k u, rw (t, u) at e))
      (λ u. absurd (let z : 0 ≡ j = rw (t, u) at e in omega arith)))
      (λ t. absurd (let z : 0 ≡ j = rw t at e in omega arith))

module _ (kind : Kind) (ts us : List ℕ) (k : ℕ) where
  abbrev a : Walk
  a = walk_by kind ts us k

  -- the key that the cell c of the keys l leads to
  abbrev led : List ℕ → ℕ → ℕ
  led l c = a.step (get_or l (c / 16) 0) (c % 16)

  -- what a filled cell leads to has a number: the cell is the same however the keys go on
  known : (l keys next : List ℕ) (upto : ℕ) → ArraysHold a 0 l upto keys next → (c : ℕ) → c < 8192 → c < upto → c % 16 < k → c / 16 < length l
      → Has l (led l c)
  known l keys next upto h c b low column row =
      let m : ℕ = led l c in
      by_test (ltb (index_of l m) (length l)) (ltb-true (index_of l m) (length l))
      (λ t.
      let new = ltb-false (index_of l m) (length l) t in
      let f : List ℕ = l ++ (suc m ∷ []) in
      let g : Begins l f = record { rest = suc m ∷ []; is = refl } in
      let here : get_or next c 0 ≡ index_of l m = h.cells l (begins_self l) c b ∙ rw (lt-ltb c upto low, lt-ltb (c % 16) k column) in
      let there : get_or next c 0 ≡ index_of f m =
      h.cells f g c b ∙ rw (lt-ltb c upto low, lt-ltb (c % 16) k column, begins_at g (c / 16) row) in
      absurd (omega (arith, number_le l m, other_key l m new)))

  -- ---- at most 512 keys
  module _ (l : List ℕ) (most : length l ≤ 512) (has : (c : ℕ) → c < 8192 → c / 16 < length l → c % 16 < k → Has l (led l c)) where
    nowhere_512 : 8192 ≤ index_of (cells_of a l) 512
    nowhere_512 =
        let n : length (cells_of a l) ≡ 8192 = length_list_from 0 8192 (λ x. cell_of a l (x / 16) (x % 16)) in
        omega (
          arith,
          n,
          nowhere (cells_of a l) 512
              (λ c b e.
              let d : c < 8192 = omega arith in
              let u = used a l (c / 16) (c % 16) 512 (omega arith) (sym (full_at a l c d) ∙ e) in
              omega (arith, u.2, has c d u.0 u.1)),
        )

    cells_whole : cells_to a l ≡ cells_of a l
    cells_whole =
        is_list_from (cells_to a l) 8192 (λ x. cell_of a l (x / 16) (x % 16)) (length_list_from 0 8192 (λ c. cond (ltb c (index_of (cells_of a l) 512)) (get_or (cells_of a l) c 0) 0))
        (λ c b.
        cell_of_lem 8192 (λ x. cond (ltb x (index_of (cells_of a l) 512)) (get_or (cells_of a l) x 0) 0) c 0 b
        ∙ rw (lt-ltb c (index_of (cells_of a l) 512) (omega (arith, nowhere_512)))
        (full_at a l c b))

  -- the keys from one key
  pub one_whole : (m : ℕ) → length (keys_up_to a (λ _. m) 1) ≤ 512 → cells_to a (keys_up_to a (λ _. m) 1) ≡ cells_of a (keys_up_to a (λ _. m) 1)
  one_whole m most =
      cells_whole (keys_up_to a (λ _. m) 1) most (λ c b row column. covered a (λ _. m) 1 most (c / 16) (c % 16) row column refl)

  table_whole : (f keys next : List ℕ) (count : ℕ) → count ≤ 512 → length f ≡ count → ArraysHold a 0 f (count * 16) keys next
      → table_as (Some count) keys next ≡ table_for a f
  table_whole f keys next count most n h =
      let cells : next ≡ cells_of a f =
      is_list_from next 8192 (λ c. cell_of a f (c / 16) (c % 16)) h.next_long
      (λ c b. h.cells f (begins_self f) c b ∙ rw (← n, row_test_lem (length f) c)) in
      let same : cells_to a f ≡ cells_of a f =
      cells_whole f (omega arith) (λ c b row column. known f keys next (count * 16) h c b (omega arith) column row) in
      let c : some count ≡ limited f = ap some (sym n) ∙ limited_whole f (omega arith) in
      rw (same, ← cells, ← c, ← h.keys_are)

  -- ---- the 513th key turns up: at symbol s of key i, with the keys l, of f
  module _ (l keys next : List ℕ) (i s : ℕ) (most : length l ≤ 512) (low : i < length l) (symbol : s < k) (column : k ≤ 16)
      (h : ArraysHold a 0 l (i * 16 + min s 16) keys next) {r : Option ℕ} {keys' next' : List ℕ}
      (st : Stepped a.step a.skips l i s r keys' next next') (over : r ≡ none)
      (f : List ℕ) (begins : Begins (after_step a.step a.skips l i s) f) where
    abbrev m : ℕ
    m = target a.step a.skips l i s

    abbrev after : List ℕ
    after = after_step a.step a.skips l i s

    long : 512 < length after
    long = over_of after (sym over ∙ st.count)

    grows : Begins l f
    grows = begins_trans (numbered_begins a.skips l m) begins

    new : length l ≤ index_of l m
    new =
        by_test (ltb (index_of l m) (length l))
        (λ t.
        absurd (omega (arith, long, ap length (numbered_kept a.skips l m refl (ltb-true (index_of l m) (length l) t)))))
        (ltb-false (index_of l m) (length l))

    after_is : after ≡ l ++ (m ∷ [])
    after_is = numbered_taken a.skips l m refl new

    full : length l ≡ 512
    full = omega (arith, long, ap length after_is, length-append l (m ∷ []))

    turned : index_of f m ≡ 512
    turned = begins_number begins m (numbered_has a.skips l m refl) ∙ ap (λ (x : List ℕ). index_of x m) after_is ∙ number_taken l m new ∙ full

    at : ℕ
    at = i * 16 + s

    cut : index_of (cells_of a f) 512 ≡ at
    unfolding at
    cut =
        let row : (i * 16 + s) / 16 ≡ i = omega arith in
        let place : (i * 16 + s) % 16 ≡ s = omega arith in
        let longer = begins_length grows in
        number_is (cells_of a f) 512 (i * 16 + s) (rw length_list_from (omega (arith, full)))
        (full_at a f (i * 16 + s) (omega (arith, full))
        ∙ rw (row, place, lt-ltb i (length f) (omega arith), lt-ltb s k symbol, begins_at grows i low) turned)
        (λ c b e.
        let d : c < 8192 = omega (arith, full) in
        let u = used a f (c / 16) (c % 16) 512 (omega arith) (sym (full_at a f c d) ∙ e) in
        let z : get_or f (c / 16) 0 ≡ get_or l (c / 16) 0 = begins_at grows (c / 16) (omega arith) in
        let has = known l keys next (i * 16 + min s 16) h c d (omega arith) u.1 (omega arith) in
        let is : index_of f (led l c) ≡ 512 = ap (λ (x : ℕ). index_of f (a.step x (c % 16))) (sym z) ∙ u.2 in
        omega (arith, begins_number grows (led l c) has, full))

    next-is : next ≡ cells_to a f
    unfolding at
    next-is =
        is_list_from next 8192 (λ c. cond (ltb c (index_of (cells_of a f) 512)) (get_or (cells_of a f) c 0) 0) h.next_long
        (λ c b.
        let least : min s 16 ≡ s = omega arith in
        let row : c / 16 < length f = omega (arith, full, begins_length grows) in
        h.cells f grows c b
        ∙ rw (cut, least, full_at a f c b, lt-ltb (c / 16) (length f) row)
        (by_test (ltb c (i * 16 + s)) (λ t. rw t) (λ t. rw t)))

    table_over : table_as None keys' next' ≡ table_for a f
    table_over =
        let n : next' ≡ cells_to a f = st.next_are ∙ rw (lt-ltb 512 (length after) long) next-is in
        let c : none ≡ limited f = limited_over f (omega (arith, long, begins_length begins)) in
        let cells : keys' ≡ key_cells f = st.keys_are ∙ sym (cells_full after f begins (omega (arith, long))) in
        rw (n, ← c, cells)

  -- ---- the ways out
  table_left : k ≤ 16 → (f : List ℕ) (r : code.Option ℕ) (keys next : List ℕ) → Expanded a 0 f (option_of r) keys next → table_as r keys next ≡ table_for a f
  table_left columns f (Some c) keys next x =
      let n = whole_of f c x.grown.count in
      table_whole f keys next c (omega arith) (sym n.1) (rw n.1 (x.grown.held n.0))
  table_left columns f None keys next x =
      let t = x.stopped (over_of f x.grown.count) in
      table_over t.l t.keys₀ t.next₀ t.i t.s t.few t.row t.symbol columns t.held t.last refl f t.goes_on

-- ---- the keys from one key, with x symbols as the code has them
pub table_by_lem : (kind : Kind) (ts us : List ℕ) (k m x : ℕ) → x ≡ min k 16 → (r : code.Option ℕ) (keys next : List ℕ) → Added (walk_by kind ts us x) 0 [] m (option_of r) keys next
    → table_as r keys next ≡ table_by kind ts us k m
unfolding table_by keys_up_to numbered index_of
table_by_lem kind ts us k m x most r keys next h =
    table_left kind ts us x (omega (arith, most)) (grown_by (walk_by kind ts us x) 0 [] m) r keys next (record { grown = h.grown; stopped = h.stopped (omega arith) })
    ∙ ap (λ (y : ℕ). table_for (walk_by kind ts us y) (grown_by (walk_by kind ts us y) 0 [] m)) most

-- ---- what an answer tells
count_of_lem : (b : Bool) (n : ℕ) (o : Option ℕ) → o ≡ cond b none (some n) → (c : ℕ) → o ≡ some c → (b ≡ false) × (c ≡ n)
count_of_lem true n o is c e = none-some is e
count_of_lem false n o is c e = (refl, let f : some c ≡ some n = sym e ∙ is in cc)

pub most_keys : (kind : Kind) (ts us : List ℕ) (k m : ℕ) (t : KeyTable) → table_outcome t ≡ table_by kind ts us k m → (c : ℕ) → t.count ≡ Some c → c ≤ 512
unfolding table_by
most_keys kind ts us k m t is c e =
    let n : ℕ = length (keys_by kind ts us k m) in
    let x = count_of_lem (ltb 512 n) n (option_of t.count) (ap (λ (y : Table). y.count) is) c (ap option_of e) in
    omega (arith, ltb-false 512 n x.0, x.1)
