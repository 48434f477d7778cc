-- How `ArraysHold` goes on: over a step, to the next key; and what it comes to at the end. Assumes
-- that a step of a key that is not left out goes to a cell of the key's own row (`column`), and
-- nothing else.
use mathlib.Core.Path.{◌≡◌, refl, sym, ap, ◌∙◌}
use mathlib.Core.Bool.{Bool, true, false, ◌&&◌}
use mathlib.Core.List.{List}
use mathlib.Core.Option.{Option}
use Prim.Native.Nat.{ℕ, ◌+◌, ◌*◌, ◌/◌, ◌%◌, ◌≤◌, ◌<◌, min}
use native.Mathlib.Omega.{arith}
use lib.Dec.{eqb, ltb}
use lib.ListN.{length, get_or, set, length-set}
use lib.Seq.{get_or-set_same, get_or-set_other}
use borrow.Author.Tests.{lt-ltb, le-ltb, eqb-true, eqb-false, ltb-true, ltb-false}
use Rattle.base.specs.Lists.{list_from}
use Rattle.base.proofs.Lists.{is_list_from}
use Rattle.base.proofs.Tests.{by_test}
use Rattle.numbering.specs.Numbering.{Walk, index_of}
use Rattle.numbering.specs.mirror.Begins.{Begins}
use Rattle.numbering.specs.mirror.Arrays.{key_cells, target, after_step, Stepped, number_or_free, cell_to, ArraysHold}
use Rattle.numbering.proofs.Numbers.{begins_self, begins_trans, begins_length, begins_at, begins_number, numbered_begins, numbered_has}

and_same : (x y z : Bool) → (z ≡ true → x ≡ y) → (x && z) ≡ (y && z)
and_same x y true h = ap (λ (b : Bool). b && true) (h refl)
and_same true true false h = refl
and_same true false false h = refl
and_same false true false h = refl
and_same false false false h = refl

same_test : (a b c d : ℕ) → (a < b → c < d) → (c < d → a < b) → ltb a b ≡ ltb c d
same_test a b c d f g =
    by_test (ltb a b)
    (λ t. t ∙ sym (lt-ltb c d (f (ltb-true a b t))))
    (λ t. by_test (ltb c d) (λ u. absurd (let x = g (ltb-true c d u) in omega (arith, ltb-false a b t))) (λ u. t ∙ sym u))

-- a cell is one of a row in use
pub row_test_lem : (n c : ℕ) → ltb c (n * 16) ≡ ltb (c / 16) n
row_test_lem n c = same_test c (n * 16) (c / 16) n (λ x. omega arith) (λ x. omega arith)

module _ (a : Walk) (free : ℕ) where
  -- the cells before x and those before y are the same but for symbols from k on
  same_cell : (f : List ℕ) (x y c : ℕ) → (c % 16 < a.k → c < x → c < y) → (c % 16 < a.k → c < y → c < x) → cell_to a free f x c ≡ cell_to a free f y c
  same_cell f x y c to from =
      rw (and_same (ltb c x) (ltb c y) (ltb (c % 16) a.k) (λ t. let d = ltb-true (c % 16) a.k t in same_test c x c y (to d) (from d)))

  module _ {l : List ℕ} {upto : ℕ} {keys next : List ℕ} (h : ArraysHold a free l upto keys next) where
    holds_to : (b : ℕ) → ((c : ℕ) → c % 16 < a.k → c < upto → c < b) → ((c : ℕ) → c % 16 < a.k → c < b → c < upto) → ArraysHold a free l b keys next
    holds_to b to from = record {
      keys_are = h.keys_are;
      next_long = h.next_long;
      cells = λ f g c d. h.cells f g c d ∙ same_cell f upto b c (to c) (from c);
    }

    -- the keys go on
    pub holds_more : (l' keys' : List ℕ) → Begins l l' → keys' ≡ key_cells l' → ArraysHold a free l' upto keys' next
    holds_more l' keys' b e = record { keys_are = e; next_long = h.next_long; cells = λ f g c d. h.cells f (begins_trans b g) c d }

  module _ {l : List ℕ} {keys next : List ℕ} (i : ℕ) where
    -- the symbols of key i are still to come, and are all passed
    pub row_begins : ArraysHold a free l (i * 16) keys next → ArraysHold a free l (i * 16 + min 0 16) keys next
    row_begins h = holds_to h (i * 16 + min 0 16) (λ c x y. omega arith) (λ c x y. omega arith)

    pub row_ends : (s : ℕ) → a.k ≤ s → ArraysHold a free l (i * 16 + min s 16) keys next → ArraysHold a free l ((i + 1) * 16) keys next
    row_ends s e h = holds_to h ((i + 1) * 16) (λ c x y. omega arith) (λ c x y. omega arith)

  -- ---- a step
  module _ (l : List ℕ) (i s : ℕ) (below : i < length l) (symbol : s < a.k) where
    abbrev m : ℕ
    m = target a.step a.skips l i s

    abbrev l' : List ℕ
    l' = after_step a.step a.skips l i s

    here : (f : List ℕ) → Begins l f → s < 16 → cell_to a free f (i * 16 + min (s + 1) 16) (i * 16 + s) ≡ number_or_free a free f m
    here f g b =
        let d : (i * 16 + s) / 16 ≡ i = omega arith in
        let r : (i * 16 + s) % 16 ≡ s = omega arith in
        rw (d, r, lt-ltb (i * 16 + s) (i * 16 + min (s + 1) 16) (omega arith), lt-ltb s a.k symbol, begins_at g i below)

    -- the cell of this step is right and is the only one that changes
    step_cells : (next next' f : List ℕ) → Begins l f → (s < 16 → get_or next' (i * 16 + s) 0 ≡ number_or_free a free f m)
        → ((c : ℕ) → (s < 16 → c ≡ i * 16 + s → ⊥) → get_or next' c 0 ≡ get_or next c 0)
        → ((c : ℕ) → c < 8192 → get_or next c 0 ≡ cell_to a free f (i * 16 + min s 16) c)
        → (c : ℕ) → c < 8192 → get_or next' c 0 ≡ cell_to a free f (i * 16 + min (s + 1) 16) c
    step_cells next next' f g new same old c d =
        by_test (ltb s 16)
        (λ t.
        let b = ltb-true s 16 t in
        by_test (eqb c (i * 16 + s))
        (λ u. let e : c ≡ i * 16 + s = eqb-true c (i * 16 + s) u in rw e (new b ∙ sym (here f g b)))
        (λ u.
        let ne : c ≡ i * 16 + s → ⊥ = eqb-false c (i * 16 + s) u in
        same c (λ _ e. ne e) ∙ old c d ∙ same_cell f (i * 16 + min s 16) (i * 16 + min (s + 1) 16) c (λ _ x. omega arith) (λ _ x. omega arith)))
        (λ t.
        let b = ltb-false s 16 t in
        same c (λ x e. omega arith) ∙ old c d ∙ same_cell f (i * 16 + min s 16) (i * 16 + min (s + 1) 16) c (λ _ x. omega arith) (λ _ x. omega arith))

    module _ (column : a.skips m ≡ false → s < 16) {keys next : List ℕ} (h : ArraysHold a free l (i * 16 + min s 16) keys next)
        {r : Option ℕ} {keys' next' : List ℕ} (st : Stepped a.step a.skips l i s r keys' next next') (fits : length l' ≤ 512) where
      grows : Begins l l'
      grows = numbered_begins a.skips l m

      small : i < 512
      small = omega (arith, begins_length grows)

      old : (f : List ℕ) → Begins l' f → (c : ℕ) → c < 8192 → get_or next c 0 ≡ cell_to a free f (i * 16 + min s 16) c
      old f g = h.cells f (begins_trans grows g)

      -- no cell is written for a key that is left out
      step-none : a.skips m ≡ true → ArraysHold a free l' (i * 16 + min (s + 1) 16) keys' next'
      step-none z =
          let e : next' ≡ next = st.next_are ∙ rw z in
          record {
            keys_are = st.keys_are;
            next_long = ap length e ∙ h.next_long;
            cells = λ f g.
                step_cells next next' f (begins_trans grows g)
                (λ b.
                ap (λ (x : List ℕ). get_or x (i * 16 + s) 0) e
                ∙ old f g (i * 16 + s) (omega (arith, small))
                ∙ rw (le-ltb (i * 16 + s) (i * 16 + min s 16) (omega arith), z))
                (λ c _. ap (λ (x : List ℕ). get_or x c 0) e)
                (old f g);
          }

      step-some : a.skips m ≡ false → ArraysHold a free l' (i * 16 + min (s + 1) 16) keys' next'
      step-some ne =
          let b : s < 16 = column ne in
          let at : ℕ = i * 16 + s in
          let e : next' ≡ set next at (index_of l' m) = st.next_are ∙ rw (ne, le-ltb 512 (length l') fits) in
          record {
            keys_are = st.keys_are;
            next_long = ap length e ∙ length-set next at (index_of l' m) ∙ h.next_long;
            cells = λ f g.
                step_cells next next' f (begins_trans grows g)
                (λ _.
                ap (λ (x : List ℕ). get_or x at 0) e
                ∙ get_or-set_same next at (index_of l' m) 0 (omega (arith, small, h.next_long))
                ∙ sym (begins_number g m (numbered_has a.skips l m ne))
                ∙ rw ne)
                (λ c x. ap (λ (y : List ℕ). get_or y c 0) e ∙ get_or-set_other next at c (index_of l' m) 0 (x b))
                (old f g);
          }

      pub step_holds : ArraysHold a free l' (i * 16 + min (s + 1) 16) keys' next'
      step_holds = by_test (a.skips m) step-none step-some

  -- ---- at the end
  pub next_whole : (l keys next : List ℕ) → ArraysHold a free l (length l * 16) keys next
      → next ≡ list_from 0 8192 (λ c. cell_to a free l (length l * 16) c)
  next_whole l keys next h = is_list_from next 8192 (cell_to a free l (length l * 16)) h.next_long (h.cells l (begins_self l))
