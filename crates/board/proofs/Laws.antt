-- The laws of the board, place by place: a new board, a board with one place changed, which filling
-- and clearing are, and what the empty places and the summed count come to. Assumes the lengths of
-- the arrays (`Sized`), which a new board has and every change keeps.
--
--   sized_empty, empty_all, empty_held, empty_count,  a new board: all places empty, no end sets,
--   empty_length, empty_last                          counts and lengths 0, no revision
--   Changed                                           one place has been changed, and the others
--                                                     are as before
--   filled_at_lem, cleared_at                             filling and clearing change their place
--                                                     alone, and to what
--   empty_law, summed_law, bytes_law                  the empty places, the summed count and the
--                                                     summed bytes, from what is known of each
--                                                     place
use mathlib.Core.Path.{◌≡◌, refl, ap, ◌∙◌, subst}
use mathlib.Core.List.{List}
use mathlib.Core.Bool.{Bool, true, false, cond}
use Prim.Native.Nat.{ℕ, ◌+◌, ◌*◌, ◌<◌}
use native.Mathlib.Omega.{arith}
use lib.Dec.{eqb}
use lib.ListN.{length, get_or, set, replicate, length-set, length-replicate}
use lib.Seq.{get_or-set_same, get_or-set_other, set-get_or}
use borrow.Author.Tests.{eq-eqb}
use Rattle.base.specs.Totals.{total}
use Rattle.base.proofs.Lists.{zero_cells}
use Rattle.base.proofs.Totals.{total_same}
use Rattle.chunks.specs.declared.Runs.{Runs}
use Rattle.board.specs.declared.Board.{Board}
use Rattle.board.specs.Boards.{places_of, held, is_empty, last_at, empty_board, row_set, filled_at, cleared_at, empty_places, summed_count, summed_bytes}
use Rattle.board.proofs.Rows.{row_length, row_own, row_other}

pub record Sized (b : Board) : Type 0 where
  pub filled_cells : length b.filled ≡ 64
  pub counts_cells : length b.counts ≡ 64
  pub lengths_cells : length b.lengths ≡ 64
  pub revisions_cells : length b.revisions ≡ 64
  pub ends_cells : length b.ends ≡ 2048

-- ---- a new board
module _ (n : ℕ) where
  pub sized_empty : Sized (empty_board n)
  unfolding empty_board
  sized_empty = record {
    filled_cells = length-replicate {A = ℕ} 64 0;
    counts_cells = length-replicate {A = ℕ} 64 0;
    lengths_cells = length-replicate {A = ℕ} 64 0;
    revisions_cells = length-replicate {A = ℕ} 64 0;
    ends_cells = length-replicate {A = ℕ} 2048 0;
  }

  pub empty_all : (p : ℕ) → is_empty (empty_board n) p ≡ true
  unfolding empty_board
  empty_all p = eq-eqb (get_or (replicate 64 0) p 0) 0 (zero_cells 64 p)

  pub empty_held : (p q : ℕ) → held (empty_board n) p q ≡ 0
  unfolding empty_board
  empty_held p q = zero_cells 2048 (p * 32 + q)

  pub empty_count : (p : ℕ) → get_or (empty_board n).counts p 0 ≡ 0
  unfolding empty_board
  empty_count p = zero_cells 64 p

  pub empty_length : (p : ℕ) → get_or (empty_board n).lengths p 0 ≡ 0
  unfolding empty_board
  empty_length p = zero_cells 64 p

  pub empty_last : (p : ℕ) → last_at (empty_board n) p ≡ 0
  unfolding empty_board
  empty_last p = zero_cells 64 p

-- ---- one place changed
-- c is b but for place p: whether that is empty, its count, its length, its last revision and its
-- end sets are as said
pub record Changed (b c : Board) (p : ℕ) (empty : Bool) (count bytes last : ℕ) (ends : ℕ → ℕ) : Type 0 where
  pub sized : Sized c
  pub places_same : c.places ≡ b.places
  pub empty_own : is_empty c p ≡ empty
  pub empty_other : (i : ℕ) → (i ≡ p → ⊥) → is_empty c i ≡ is_empty b i
  pub count_own : get_or c.counts p 0 ≡ count
  pub count_other : (i : ℕ) → (i ≡ p → ⊥) → get_or c.counts i 0 ≡ get_or b.counts i 0
  pub length_own : get_or c.lengths p 0 ≡ bytes
  pub length_other : (i : ℕ) → (i ≡ p → ⊥) → get_or c.lengths i 0 ≡ get_or b.lengths i 0
  pub last_own : last_at c p ≡ last
  pub last_other : (i : ℕ) → (i ≡ p → ⊥) → last_at c i ≡ last_at b i
  pub held_own : (q : ℕ) → q < 32 → held c p q ≡ ends q
  pub held_other : (i q : ℕ) → i < 64 → q < 32 → (i ≡ p → ⊥) → held c i q ≡ held b i q

module _ (b : Board) (p : ℕ) (sized : Sized b) (h : p < 64) where
  changed_at : (mark count bytes last : ℕ) (g : ℕ → ℕ)
      → Changed b (record {
        places = b.places;
        filled = set b.filled p mark;
        counts = set b.counts p count;
        lengths = set b.lengths p bytes;
        revisions = set b.revisions p last;
        ends = row_set b.ends p g;
      }) p (eqb mark 0) count bytes last g
  changed_at mark count bytes last g = record {
    sized = record {
      filled_cells = length-set b.filled p mark ∙ sized.filled_cells;
      counts_cells = length-set b.counts p count ∙ sized.counts_cells;
      lengths_cells = length-set b.lengths p bytes ∙ sized.lengths_cells;
      revisions_cells = length-set b.revisions p last ∙ sized.revisions_cells;
      ends_cells = row_length b.ends p g;
    };
    places_same = refl;
    empty_own = ap (λ (x : ℕ). eqb x 0) (get_or-set_same b.filled p mark 0 (omega (arith, sized.filled_cells)));
    empty_other = λ i ne. ap (λ (x : ℕ). eqb x 0) (get_or-set_other b.filled p i mark 0 ne);
    count_own = get_or-set_same b.counts p count 0 (omega (arith, sized.counts_cells));
    count_other = λ i ne. get_or-set_other b.counts p i count 0 ne;
    length_own = get_or-set_same b.lengths p bytes 0 (omega (arith, sized.lengths_cells));
    length_other = λ i ne. get_or-set_other b.lengths p i bytes 0 ne;
    last_own = get_or-set_same b.revisions p last 0 (omega (arith, sized.revisions_cells));
    last_other = λ i ne. get_or-set_other b.revisions p i last 0 ne;
    held_own = row_own b.ends p g h;
    held_other = row_other b.ends p g;
  }

  pub filled_at_lem : (v : ℕ) (s : Runs) → Changed b (filled_at b p v s) p false s.count s.bytes (v + 1) (λ q. get_or s.ends q 0)
  unfolding filled_at
  filled_at_lem v s = changed_at 1 s.count s.bytes (v + 1) (λ q. get_or s.ends q 0)

  -- the revision stays
  pub cleared_at_lem : Changed b (cleared_at b p) p true 0 0 (last_at b p) (λ q. 0)
  unfolding cleared_at
  cleared_at_lem =
      subst (λ (l : List ℕ). Changed b (record {
        places = b.places;
        filled = set b.filled p 0;
        counts = set b.counts p 0;
        lengths = set b.lengths p 0;
        revisions = l;
        ends = row_set b.ends p (λ q. 0);
      }) p true 0 0 (last_at b p) (λ q. 0))
      (set-get_or b.revisions p 0)
      (changed_at 0 0 0 (last_at b p) (λ q. 0))

-- ---- empty places
module _ (b : Board) where
  pub empty_law : (f : ℕ → Bool) → ((p : ℕ) → p < places_of b → is_empty b p ≡ f p) → empty_places b ≡ total (λ p. cond (f p) 1 0) (places_of b)
  unfolding empty_places
  empty_law f h = total_same (λ p. cond (is_empty b p) 1 0) (λ p. cond (f p) 1 0) (places_of b) (λ p l. ap (λ (t : Bool). cond t 1 0) (h p l))

  -- ---- the summed count
  pub summed_law : (f : ℕ → ℕ) → ((p : ℕ) → p < places_of b → get_or b.counts p 0 ≡ f p) → summed_count b ≡ total f (places_of b)
  unfolding summed_count
  summed_law f h = total_same (λ p. get_or b.counts p 0) f (places_of b) h

  -- ---- the summed bytes
  pub bytes_law : (f : ℕ → ℕ) → ((p : ℕ) → p < places_of b → get_or b.lengths p 0 ≡ f p) → summed_bytes b ≡ total f (places_of b)
  unfolding summed_bytes
  bytes_law f h = total_same (λ p. get_or b.lengths p 0) f (places_of b) h
