-- What makes the failure form believable; proofs/Claims.antt proves it.
--
--   differences l k t u   in how many symbols the sets t and u have different cells
--   bits m                how many bits of a 16-bit mask are 1
--   Numbered n k l   n sets and k symbols, and each cell in use is 512 or the number of a set
--   IsTable n k l    l is moreover the whole of such a table: a cell that is not in use is 512
--   Wrong f          one of the five reasons to refuse the form f, in the words of document 02
--   Alike f g        the forms f and g have the same in all that is read
use Rattle.std.specs.Prelude.{◌≡◌, ◌↔◌, ◌⊎◌, false, cond, List, ℕ, ◌+◌, ◌/◌, ◌%◌, ◌≤◌, ◌<◌, eqb, length, get_or}
use Rattle.std.proofs.Math.Option.{none, some}
use Rattle.base.specs.Totals.{total}
use Rattle.limits.specs.Limits.{most_symbols, most_sets, empty_set, table_cells}
use Rattle.masks.specs.Masks.{bit, ◌∈◌, has}
use Rattle.forms.specs.declared.Form.{Form}
use Rattle.forms.specs.Form.{cell, equal_cells, failure_of, kept_mask, form_of}
use Rattle.forms.specs.Back.{rank, kept_count, back_number, table_of, no_table, back_of}

abbrev pub differences : List ℕ → ℕ → ℕ → ℕ → ℕ
differences l k t u = total (λ s. cond (eqb (cell l t s) (cell l u s)) 0 1) k

abbrev pub bits : ℕ → ℕ
bits m = total (bit m) most_symbols

pub record Numbered (n k : ℕ) (l : List ℕ) : Type 0 where
  pub some_set : 1 ≤ n
  pub sets : n ≤ most_sets
  pub some_symbol : 1 ≤ k
  pub symbols : k ≤ most_symbols
  pub names : (t s : ℕ) → t < n → s < k → (cell l t s ≡ empty_set) ⊎ (cell l t s < n)

pub record IsTable (n k : ℕ) (l : List ℕ) : Type 0 where
  pub numbered : Numbered n k l
  pub long : length l ≡ table_cells
  pub unused : (c : ℕ) → c < table_cells → (n ≤ c / most_symbols) ⊎ (k ≤ c % most_symbols) → get_or l c 0 ≡ empty_set

pub data Wrong (f : Form) : Type 0 where
  -- a set above 0 whose failure set is not below it
  not-below : (t : ℕ) → 0 < t → t < f.sets → t ≤ get_or f.failure t 0 → Wrong f
  -- a cell left out of set 0
  left_out : (s : ℕ) → s < f.symbols → has (get_or f.kept 0 0) s ≡ false → Wrong f
  -- a mask bit for no symbol
  no_symbol : (t s : ℕ) → t < f.sets → f.symbols ≤ s → s ∈ get_or f.kept t 0 → Wrong f
  -- a cell naming a set the table lacks
  lacks : (i : ℕ) → i < kept_count f → (get_or f.cells i 0 ≡ empty_set → ⊥) → f.sets ≤ get_or f.cells i 0 → Wrong f
  -- a table without 1 to 512 sets and 1 to 16 symbols
  no_set : f.sets ≡ 0 → Wrong f
  many_sets_lem : most_sets < f.sets → Wrong f
  nothing_to_read : f.symbols ≡ 0 → Wrong f
  many_symbols : most_symbols < f.symbols → Wrong f

pub record Alike (f g : Form) : Type 0 where
  pub sets : f.sets ≡ g.sets
  pub symbols : f.symbols ≡ g.symbols
  pub failure : (t : ℕ) → 0 < t → t < f.sets → get_or f.failure t 0 ≡ get_or g.failure t 0
  pub kept : (t : ℕ) → t < f.sets → get_or f.kept t 0 ≡ get_or g.kept t 0
  pub cells : (i : ℕ) → i < kept_count f → get_or f.cells i 0 ≡ get_or g.cells i 0

pub record Claims : Type 0 where
  -- the failure set is below, no set below has more equal cells, and a lower one has fewer
  pub below : (k t : ℕ) (l : List ℕ) → 0 < t → failure_of l k t < t
  pub most : (k t u : ℕ) (l : List ℕ) → u < t → equal_cells l k t u ≤ equal_cells l k t (failure_of l k t)
  pub lowest : (k t u : ℕ) (l : List ℕ) → u < failure_of l k t → equal_cells l k t u < equal_cells l k t (failure_of l k t)
  -- in other words: two sets are equal in the symbols in which they do not differ; a set above 0
  -- keeps as many cells as it differs in from its failure set; no set below it differs in fewer,
  -- and one below its failure set in more
  pub not_different : (k t u : ℕ) (l : List ℕ) → equal_cells l k t u + differences l k t u ≡ k
  pub kept_differ : (k t : ℕ) (l : List ℕ) → k ≤ most_symbols → 0 < t → bits (kept_mask l k t) ≡ differences l k t (failure_of l k t)
  pub fewest : (k t u : ℕ) (l : List ℕ) → k ≤ most_symbols → u < t → bits (kept_mask l k t) ≤ differences l k t u
  pub lowest_fewest : (k t u : ℕ) (l : List ℕ) → k ≤ most_symbols → u < failure_of l k t → bits (kept_mask l k t) < differences l k t u
  -- set 0's is 0
  pub first_failure : (k : ℕ) (l : List ℕ) → failure_of l k 0 ≡ 0
  -- set 0 keeps all its cells, and another set exactly those that are not equal to its failure
  -- set's; no mask has a bit for no symbol
  pub first_keeps : (k s : ℕ) (l : List ℕ) → s < k → s ∈ kept_mask l k 0
  pub kept : (k t s : ℕ) (l : List ℕ) → 0 < t → s < k → (s ∈ kept_mask l k t) ↔ (cell l t s ≡ cell l (failure_of l k t) s → ⊥)
  pub only_symbols : (k t s : ℕ) (l : List ℕ) → s ∈ kept_mask l k t → s < k
  -- the form has the failure set and the mask of each set, and zeros for what is no set
  pub failure_of_lem : (n k t : ℕ) (l : List ℕ) → n ≤ most_sets → t < n → get_or (form_of n k l).failure t 0 ≡ failure_of l k t
  pub mask_of_lem : (n k t : ℕ) (l : List ℕ) → n ≤ most_sets → t < n → get_or (form_of n k l).kept t 0 ≡ kept_mask l k t
  pub no_set : (n k t : ℕ) (l : List ℕ) → n ≤ t
      → (get_or (form_of n k l).failure t 0 ≡ 0) × (get_or (form_of n k l).kept t 0 ≡ 0)
  -- the kept cell of set t and symbol s stands behind those before it, and zeros behind the last
  pub packed : (n k t s : ℕ) (l : List ℕ) → n ≤ most_sets → k ≤ most_symbols → t < n → s < k → s ∈ kept_mask l k t
      → get_or (form_of n k l).cells (rank (form_of n k l) t s) 0 ≡ cell l t s
  pub zeros : (n k i : ℕ) (l : List ℕ) → kept_count (form_of n k l) ≤ i → get_or (form_of n k l).cells i 0 ≡ 0
  -- the form of a table is accepted, and gives the same table
  pub round_trip : (n k : ℕ) (l : List ℕ) → IsTable n k l
      → back_of (form_of n k l) ≡ record { number = none; table = record { sets = n; symbols = k; next = l } }
  -- 40 exactly for the five reasons; there is no other number
  pub refused_exactly : (f : Form) → (back_number f ≡ some 40) ↔ Wrong f
  pub no_other : (f : Form) (x : ℕ) → back_number f ≡ some x → x ≡ 40
  -- a refusal carries zeros
  pub zeros_refused : (f : Form) (x : ℕ) → back_number f ≡ some x → (back_of f).table ≡ no_table
  -- of an accepted form each cell is the kept one, or that of the failure set; it is empty or names
  -- a set of the table
  pub looked_up_lem : (f : Form) → back_number f ≡ none → (t s : ℕ) → t < f.sets → s < f.symbols
      → cell (table_of f).next t s ≡ cond (has (get_or f.kept t 0) s) (get_or f.cells (rank f t s) 0) (cell (table_of f).next (get_or f.failure t 0) s)
  pub a_table : (f : Form) → back_number f ≡ none → IsTable f.sets f.symbols (table_of f).next
  -- what is not read changes no answer: the failure set of set 0, the failure sets and masks of what
  -- is no set, and the cells behind the last kept one
  pub not_read : (f g : Form) → Alike f g → back_of f ≡ back_of g
