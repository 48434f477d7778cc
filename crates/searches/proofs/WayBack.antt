-- The way back from a number spells the text over which its key was found. For a key that a turn
-- led to, the turn's cell is the first that holds its number: all turns before it led to lower
-- numbers, and a cell that is not in use holds 0. Of the first 512 keys no turn is past the one
-- that led to the 513th, where the table ends. Assumes a walk from one key that leaves no key out,
-- over at most 16 symbols.
--
--   way_back    from a number above 0 the way leads to a lower one, and its symbol ends the text
--   word_of     the text of the way back is that over which the key was found
use mathlib.Core.Path.{◌≡◌, refl, sym, ap, ◌∙◌, subst}
use mathlib.Core.Bool.{false, cond}
use mathlib.Core.List.{List, [], ◌∷◌, ◌++◌}
use Prim.Native.Nat.{ℕ, zero, suc, ◌+◌, ◌*◌, ◌/◌, ◌%◌, ◌≤◌, ◌<◌}
use mathlib.Core.Logic.{inl, inr, ⊎_elim}
use native.Mathlib.Nat.{eq-or-lt_of_le}
use native.Mathlib.Omega.{arith}
use lib.Dec.{eqb, ltb}
use lib.ListN.{length, get_or, length-append}
use borrow.Author.Tests.{eq-eqb, ne_eqb, lt-ltb, ltb-true, ltb-false}
use Rattle.base.proofs.Lists.{length_list_from, cell_of_lem}
use Rattle.base.proofs.Tests.{by_test}
use Rattle.numbering.specs.Numbering.{Walk, index_of, keys_up_to}
use Rattle.numbering.proofs.Numbers.{number_at, number_is}
use Rattle.numbering.proofs.OneSeed.{settled_one, first_key, some_key}
use Rattle.numbering.proofs.Reached.{own, once}
use Rattle.numbering.proofs.Found.{Prior, TurnsBelow, Found, seeded, turned, up_to_found}
use Rattle.keys.specs.Tables.{cell_of, cells_of, cells_to}
use Rattle.keys.proofs.Tables.{full_at, used}
use Rattle.searches.specs.Search.{first_cell, word_back, word_to}

module _ (a : Walk) (m : ℕ) (columns : a.k ≤ 16) (kept : (x : ℕ) → a.skips x ≡ false) where
  abbrev pub keys : List ℕ
  keys = keys_up_to a (λ _. m) 1

  abbrev pub key : ℕ → ℕ
  key j = get_or keys j 0

  abbrev pub cells : List ℕ
  cells = cells_to a keys

  abbrev pub Came : ℕ → ℕ → List ℕ → Type 0
  Came j q w = Found a (λ _. m) keys j q w

  -- where the table ends
  abbrev cut : ℕ
  cut = index_of (cells_of a keys) 512

  cell-is : (c : ℕ) → c < 8192 → get_or cells c 0 ≡ cond (ltb c cut) (cell_of a keys (c / 16) (c % 16)) 0
  cell-is c b = cell_of_lem 8192 (λ x. cond (ltb x cut) (get_or (cells_of a keys) x 0) 0) c 0 b ∙ rw (full_at a keys c b)

  -- a cell that holds a number above 0 is in use
  pub in_use : (c j : ℕ) → c < 8192 → 0 < j → get_or cells c 0 ≡ j
      → (c / 16 < length keys) × (c % 16 < a.k) × (index_of keys (a.step (key (c / 16)) (c % 16)) ≡ j)
  in_use c j b above e =
      let f : cond (ltb c cut) (cell_of a keys (c / 16) (c % 16)) 0 ≡ j = sym (cell-is c b) ∙ e in
      by_test (ltb c cut)
      (λ t. used a keys (c / 16) (c % 16) j above (rw t at f))
      (λ t. absurd (let z : 0 ≡ j = rw t at f in omega arith))

  prior_of : (c i s : ℕ) → s < 16 → c < i * 16 + s → Prior (c / 16) (c % 16) i s
  prior_of c i s b h = by_test (ltb (c / 16) i) (λ t. inl (ltb-true (c / 16) i t)) (λ t. let d = ltb-false (c / 16) i t in inr (omega arith, omega arith))

  -- the turn that led to one of the first 512 keys
  module _ (j i s : ℕ) (b : j < length keys) (small : j < 512) (low : i < j) (c : s < a.k) (e : a.step (key i) s ≡ key j)
      (before : TurnsBelow a (λ _. m) keys j i s) where
    row : (i * 16 + s) / 16 ≡ i
    row = omega arith

    column : (i * 16 + s) % 16 ≡ s
    column = omega arith

    number : index_of keys (a.step (key i) s) ≡ j
    number = ap (index_of keys) e ∙ own a (λ _. m) 1 j b

    in_table : i * 16 + s < cut
    in_table =
        by_test (ltb (i * 16 + s) cut) (ltb-true (i * 16 + s) cut)
        (λ t.
        let past = ltb-false (i * 16 + s) cut t in
        let n : length (cells_of a keys) ≡ 8192 = length_list_from 0 8192 (λ x. cell_of a keys (x / 16) (x % 16)) in
        let there : get_or (cells_of a keys) cut 0 ≡ 512 = number_at (cells_of a keys) 512 (omega (arith, n)) in
        let u = used a keys (cut / 16) (cut % 16) 512 (omega arith) (sym (full_at a keys cut (omega arith)) ∙ there) in
        absurd
        (⊎_elim
        (λ z.
        let f : index_of keys (a.step (key ((i * 16 + s) / 16)) ((i * 16 + s) % 16)) ≡ 512 =
        subst (λ (x : ℕ). index_of keys (a.step (key (x / 16)) (x % 16)) ≡ 512) z u.2 in
        let g : index_of keys (a.step (key i) s) ≡ 512 = rw (row, column) at f in
        omega (arith, number))
        (λ z. omega (arith, u.2, before (cut / 16) (cut % 16) u.1 (prior_of cut i s (omega arith) z) (kept (a.step (key (cut / 16)) (cut % 16)))))
        (eq-or-lt_of_le past)))

    turn_cell : first_cell cells j ≡ i * 16 + s
    turn_cell =
        number_is cells j (i * 16 + s) (rw length_list_from (omega arith))
        (cell-is (i * 16 + s) (omega arith)
        ∙ rw (lt-ltb (i * 16 + s) cut in_table, row, column, lt-ltb i (length keys) (omega arith), lt-ltb s a.k c) number)
        (λ x h z.
        let u = in_use x j (omega arith) (omega arith) z in
        omega (arith, u.2, before (x / 16) (x % 16) u.1 (prior_of x i s (omega arith) h) (kept (a.step (key (x / 16)) (x % 16)))))

  -- the seed is number 0
  seed_zero : (j : ℕ) → j < length keys → m ≡ key j → j ≡ 0
  seed_zero j b e = once a (λ _. m) 1 j 0 b (some_key a m (kept m)) (sym e ∙ sym (first_key a m (kept m)))

  back : {j q : ℕ} {w : List ℕ} (left : ℕ) → j ≤ left → j < length keys → j < 512 → Came j q w → word_back cells left j ≡ w
  unfolding word_back
  back {j} zero h b small (seeded e x y) = refl
  back {j} (suc left) h b small (seeded e x y) = rw (eq-eqb j 0 (seed_zero j b e))
  back {j} zero h b small (turned i s f low c e x y) = absurd (omega arith)
  back {j} (suc left) h b small (turned {w = w} i s f low c e x y) =
      let cell = turn_cell j i s b small low c e y in
      let row : first_cell cells j / 16 ≡ i = omega arith in
      let column : first_cell cells j % 16 ≡ s = omega arith in
      let ne : eqb j 0 ≡ false = ne_eqb j 0 (λ z. omega arith) in
      rw (ne, row, column) (ap (λ (v : List ℕ). v ++ (s ∷ [])) (back left (omega arith) (omega arith) (omega arith) f))

  came_short : {j q : ℕ} {w : List ℕ} → Came j q w → length w ≤ j
  came_short (seeded e x y) = omega arith
  came_short {j} (turned {w = w} i s f low c e x y) = omega (arith, came_short f, length-append w (s ∷ []))

  pub record Word (j : ℕ) : Type 0 where
    pub from : ℕ
    pub below : from < 1
    pub came : Came j from (word_to cells j)
    pub short : length (word_to cells j) ≤ j

  pub word_of : (j : ℕ) → j < length keys → j < 512 → Word j
  word_of j b small =
      let o = up_to_found a (λ _. m) 1 (settled_one a m) j b in
      let e : o.1 ≡ word_to cells j = sym (back j (omega arith) b small o.3) in
      record {
        from = o.0;
        below = o.2;
        came = subst (Came j o.0) e o.3;
        short = subst (λ (w : List ℕ). length w ≤ j) e (came_short o.3);
      }

  pub record Step (j : ℕ) : Type 0 where
    pub lower : first_cell cells j / 16 < j
    pub symbol : first_cell cells j % 16 < a.k
    pub more : word_to cells j ≡ word_to cells (first_cell cells j / 16) ++ ((first_cell cells j % 16) ∷ [])

  step_by : {j q : ℕ} {w : List ℕ} → 0 < j → j < length keys → j < 512 → Came j q w → Step j
  step_by {j} some b small (seeded e x y) = absurd (omega (arith, seed_zero j b e))
  step_by {j} some b small (turned {w = w} i s f low c e x y) =
      let cell = turn_cell j i s b small low c e y in
      let row : first_cell cells j / 16 ≡ i = omega arith in
      let column : first_cell cells j % 16 ≡ s = omega arith in
      record {
        lower = rw row low;
        symbol = rw column c;
        more = back j (omega arith) b small (turned i s f low c e x y)
            ∙ rw (row, column) (ap (λ (v : List ℕ). v ++ (s ∷ [])) (sym (back i (omega arith) (omega arith) (omega arith) f)));
      }

  pub way_back : (j : ℕ) → 0 < j → j < length keys → j < 512 → Step j
  way_back j some b small = step_by some b small (word_of j b small).came
