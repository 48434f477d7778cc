-- What `fill` leaves, with the sets as masks and the singletons' numbers, is the table; and where it
-- tells of more than 512 sets the table is zeros. Assumes nothing.
--
--   told-..                   what is told of so many sets
--   masks_are, cells_are      the lower halves of the sets are the sets, and the cells those of the
--                             table
--   table_whole, table_over   the ways out
use Rattle.std.proofs.Common as code
use Rattle.std.proofs.Common.{Some, None}
use mathlib.Core.Path.{◌≡◌, refl, sym, ap, ◌∙◌}
use mathlib.Core.Bool.{Bool, true, false, cond}
use mathlib.Core.List.{List, [], ◌∷◌}
use Prim.Native.Nat.{ℕ, ◌+◌, ◌*◌, ◌/◌, ◌%◌, ◌^◌, ◌<◌, min}
use native.Mathlib.Nat.{mod-eq_of_lt}
use native.Mathlib.Omega.{arith}
use lib.Dec.{ltb, lit<}
use lib.ListN.{length, get_or, get_or-eq_default}
use lib.Pow.{pow-lt}
use borrow.Author.Tests.{le-ltb, lt-ltb, ltb-true, ltb-false}
use Rattle.base.specs.Lists.{list_from}
use Rattle.base.specs.Options.{option_of}
use Rattle.base.proofs.Lists.{cell_of_lem, same_list}
use Rattle.base.proofs.Tests.{by_test, zero_one}
use Rattle.masks.specs.Masks.{single}
use Rattle.masks.proofs.Laws.{union_lt}
use Rattle.automaton.specs.Rules.{target_mask}
use Rattle.automaton.specs.Successor.{successor}
use Rattle.numbering.specs.Texts.{follow}
use Rattle.numbering.specs.mirror.Arrays.{cell_to, ArraysHold, Grown}
use Rattle.numbering.proofs.Claims as numbering
use Rattle.numbering.proofs.Arrays.{whole_of, over_of}
use Rattle.numbering.proofs.Table.{next_whole, row_test_lem}
use Rattle.subsets.specs.Sets.{set_walk, sets_of, too_many, next_set, set_cells, next_cells}
use Rattle.subsets.specs.mirror.Singles.{singles_of}
use Rattle.subsets.specs.mirror.Answer.{counted, refused, table_outcome, table_of}

-- ---- at most 512, where `over` says whether they are too many
pub told_counted : (over : Bool) (count c : ℕ) → counted c ≡ cond over (refused 9) (counted count) → (over ≡ false) × (c ≡ count)
told_counted true count c e = zero_one cc
told_counted false count c e = (refl, cc)

pub told_refused : (over : Bool) (count : ℕ) → refused 9 ≡ cond over (refused 9) (counted count) → over ≡ true
told_refused true count e = refl
told_refused false count e = zero_one cc

module _ (ts : List ℕ) (n k : ℕ) (words : (i : ℕ) → get_or ts i 0 < 2 ^ 32) where
  -- ---- a set is a mask of 32 bits
  successor_lt : (m s : ℕ) → successor ts m s < 2 ^ 32
  successor_lt m s =
      union_lt (λ q. target_mask ts q s) m 32 32
      (λ q _. by_test (ltb s 16) (λ t. rw t (words (q * 16 + s))) (λ t. rw t (lit< tt)))

  follow_lt : (m : ℕ) (w : List ℕ) → m < 2 ^ 32 → follow (set_walk ts k) m w < 2 ^ 32
  follow_lt m [] h = h
  follow_lt m (s ∷ w) h = follow_lt (successor ts m s) w (successor_lt m s)

  set_lt : (i : ℕ) → get_or (sets_of ts n k) i 0 < 2 ^ 32
  unfolding sets_of
  set_lt i =
      by_test (ltb i (length (sets_of ts n k)))
      (λ t.
      let r = (numbering.claims).sound (set_walk ts k) single (min n 32) i (ltb-true i (length (sets_of ts n k)) t) in
      rw (← r.leads) (follow_lt (single r.from) r.text (pow-lt {j = 32} (omega (arith, r.below)))))
      (λ t. rw (get_or-eq_default (sets_of ts n k) 0 {n = i} (ltb-false i (length (sets_of ts n k)) t)) (lit< tt))

  masks_are : (sets : List ℕ) → sets ≡ set_cells ts n k → list_from 0 512 (λ i. get_or sets i 0 % 2 ^ 32) ≡ set_cells ts n k
  masks_are sets are =
      same_list 512 (λ i. get_or sets i 0 % 2 ^ 32) (λ i. get_or (sets_of ts n k) i 0)
      (λ i b. rw (are, cell_of_lem 512 (λ j. get_or (sets_of ts n k) j 0) i 0 b) (mod-eq_of_lt (set_lt i)))

  -- ---- the cells are those of the table
  cells_are : (sets next : List ℕ) → ArraysHold (set_walk ts k) 512 (sets_of ts n k) (length (sets_of ts n k) * 16) sets next → next ≡ next_cells ts n k
  unfolding next_set
  cells_are sets next h =
      let f = sets_of ts n k in
      next_whole (set_walk ts k) 512 f sets next h
      ∙ same_list 8192 (cell_to (set_walk ts k) 512 f (length f * 16)) (λ c. next_set ts n k (c / 16) (c % 16)) (λ c b. rw (row_test_lem (length f) c))

  module _ (r : code.Option ℕ) (sets next : List ℕ) (grown : Grown (set_walk ts k) 512 (sets_of ts n k) (option_of r) sets next) where
    pub table_whole : (c : ℕ) → r ≡ Some c → (singles masks : List ℕ) → singles ≡ singles_of sets c → masks ≡ list_from 0 512 (λ i. get_or sets i 0 % 2 ^ 32)
        → table_outcome (Some (record { count = c; sets = masks; next = next; singles = singles })) ≡ table_of ts n k
    unfolding table_of too_many
    table_whole c e singles masks are low =
        let x = whole_of (sets_of ts n k) c (sym (ap option_of e) ∙ grown.count) in
        let h = grown.held x.0 in
        rw (are, low ∙ masks_are sets h.keys_are, le-ltb 512 (length (sets_of ts n k)) x.0, h.keys_are, cells_are sets next h, x.1)

    pub table_over : r ≡ None → table_outcome None ≡ table_of ts n k
    unfolding table_of too_many
    table_over e =
        rw (lt-ltb 512 (length (sets_of ts n k)) (over_of (sets_of ts n k) (sym (ap option_of e) ∙ grown.count)))
