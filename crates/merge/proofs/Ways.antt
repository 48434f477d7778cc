-- Each way out of the definitions that the functions are held to: the facts that lead there, in the
-- order in which the code finds them. Assumes nothing.
--
--   way_both, way_either, way_other                        way_of
--   states_both, states_either, states_interleaving        states_of
--   beside_made                                            beside
--   mask_read                                              target_mask
--   own_first, own_second                                  own_targets
--   fits-.., in-.., row_first, row_second                  what each way asks of numbers of states
--   set_both, set_either, set_interleaving                 set_of
--   first_moves, second_moves, moved                       one_moves
--   masks_read, targets-.., cell_state, cell_none          targets_of, cell_in
--   merged_sizes, merged_tables, merged_made               merged_of
--   check_first, check_second, check_36, check_37, check_none   merge_number
--   small_both                                             what the checks of both rules bound
--   merge_allowed, merge_accepted, merge_refused           merge_of
use Rattle.std.proofs.Common.{Ok, Err}
use mathlib.Core.Path.{◌≡◌, sym, ap, ◌∙◌}
use mathlib.Core.List.{List}
use mathlib.Core.Option.{none, some}
use Prim.Native.Nat.{ℕ, ◌+◌, ◌-◌, ◌*◌, ◌/◌, ◌%◌, ◌^◌, ◌<◌, ◌≤◌}
use native.Mathlib.Nat.{div-le_self, mod-lt}
use native.Mathlib.Omega.{arith}
use lib.Bits.{bit_or}
use lib.ListN.{get_or}
use lib.Pow.{shl_exact, pow-lt}
use borrow.Author.Tests.{eq-eqb, ne_eqb, lt-ltb, le-ltb}
use Rattle.base.specs.declared.Refusal.{Refusal}
use Rattle.base.specs.Answers.{refusal_number}
use Rattle.base.specs.Lists.{list_from}
use Rattle.masks.specs.Masks.{single}
use Rattle.automaton.specs.declared.Rule.{Rule}
use Rattle.automaton.specs.Rules.{target_mask}
use Rattle.rulecheck.specs.Checking.{rule_number}
use Rattle.rulecheck.proofs.Laws.{passes}
use Rattle.merging.specs.declared.Way.{Way}
use Rattle.merging.specs.declared.Way.TheVariants.{Both, Either, Interleaving}
use Rattle.merging.specs.Merged.{states_of, pairs, beside, set_of, one_moves, own_targets, targets_of, cell_in, merged_of}
use Rattle.merging.specs.Merging.{way_of, merge_number, merge_outcome, merge_of}
use Rattle.merging.specs.Claims.{Mergeable}
use Rattle.merging.proofs.Conditions.{number_law, refused_exactly}
use Rattle.merge.specs.mirror.Asked.{Sizes, Masks, Tables}

-- ---- `way_of`
module _ (x : ℕ) where
  pub way_both : x ≡ 0 → Both ≡ way_of x
  way_both e = rw e

  pub way_either : x ≡ 1 → Either ≡ way_of x
  way_either e = rw e

  pub way_other : (x ≡ 0 → ⊥) → (x ≡ 1 → ⊥) → Interleaving ≡ way_of x
  way_other d e = rw (ne_eqb x 0 d, ne_eqb x 1 e)

-- ---- `states`
module _ (way : Way) (n1 n2 : ℕ) where
  pub states_both : way ≡ Both → n1 * n2 ≡ states_of way n1 n2
  states_both e = rw e

  pub states_either : way ≡ Either → n1 + n2 ≡ states_of way n1 n2
  states_either e = rw e

  pub states_interleaving : way ≡ Interleaving → n1 * n2 ≡ states_of way n1 n2
  states_interleaving e = rw e

-- ---- `beside`, `mask_at`, `own_targets`
pub beside_made : (a b n1 n2 : ℕ) → b < 2 ^ n2 → n1 + n2 ≤ 32 → bit_or a ((b * 2 ^ n1) % 2 ^ 32) ≡ beside a b n1
beside_made a b n1 n2 h l = ap (λ (x : ℕ). bit_or a x) (shl_exact n2 n1 32 h (omega arith))

pub mask_read : (ts : List ℕ) (q s : ℕ) → s < 16 → get_or ts (q * 16 + s) 0 ≡ target_mask ts q s
mask_read ts q s h = rw (lt-ltb s 16 h)

module _ (n1 n2 : ℕ) (ts us : List ℕ) (q s m : ℕ) where
  pub own_first : q < n1 → m ≡ target_mask ts q s → m ≡ own_targets n1 ts us q s
  own_first l e = rw (lt-ltb q n1 l) e

  pub own_second : Tables n1 n2 ts us → n1 + n2 ≤ 32 → q < n1 + n2 → n1 ≤ q → m ≡ target_mask us (q - n1) s
      → (m * 2 ^ n1) % 2 ^ 32 ≡ own_targets n1 ts us q s
  own_second t f below l e =
      let narrow : m < 2 ^ n2 = rw e (t.second (q - n1) s (omega arith)) in
      rw (le-ltb q n1 l) (shl_exact n2 n1 32 narrow (omega arith) ∙ ap (λ (x : ℕ). x * 2 ^ n1) e)

-- ---- what each way asks
module _ (way : Way) (n1 n2 : ℕ) (sizes : Sizes way n1 n2) where
  pub fits_both : way ≡ Both → n1 * n2 ≤ 32
  fits_both e = rw e at sizes.fits

  pub fits_either : way ≡ Either → n1 + n2 ≤ 32
  fits_either e = rw e at sizes.fits

  pub fits_interleaving : way ≡ Interleaving → n1 * n2 ≤ 32
  fits_interleaving e = rw e at sizes.fits

  module _ (q : ℕ) (below : q < states_of way n1 n2) where
    pub in_either : way ≡ Either → q < n1 + n2
    in_either e = rw e at below

    pub in_interleaving : way ≡ Interleaving → q < n1 * n2
    in_interleaving e = rw e at below

    -- both rows are in the tables, whatever the way
    pub row_first : q / n2 < 32
    row_first = omega (arith, div-le_self q n2, sizes.fits)

    pub row_second : q % n2 < 32
    row_second = omega (arith, mod-lt q sizes.second.0, sizes.second)

-- ---- `set_of`
module _ (way : Way) (n1 n2 a b r : ℕ) where
  pub set_both : way ≡ Both → r ≡ pairs a b n2 → r ≡ set_of way n1 n2 a b
  set_both e is = rw e is

  pub set_either : way ≡ Either → r ≡ beside a b n1 → r ≡ set_of way n1 n2 a b
  set_either e is = rw e is

  pub set_interleaving : way ≡ Interleaving → r ≡ pairs a b n2 → r ≡ set_of way n1 n2 a b
  set_interleaving e is = rw e is

-- ---- `one_moves`
module _ (a b n1 n2 : ℕ) (m : Masks a b n1 n2) where
  pub first_moves : (y r : ℕ) → y < n2 → r ≡ single y → Masks a r n1 n2
  first_moves y r l e = record { first = m.first; second = rw e (pow-lt l) }

  pub second_moves : (x r : ℕ) → x < n1 → r ≡ single x → Masks r b n1 n2
  second_moves x r l e = record { first = rw e (pow-lt l); second = m.second }

pub moved : (n2 x y a b one two u v : ℕ) → u ≡ single y → v ≡ single x → one ≡ pairs a u n2 → two ≡ pairs v b n2
    → bit_or one two ≡ one_moves n2 x y a b
moved n2 x y a b one two u v eu ev e1 e2 = rw (e1, e2, eu, ev)

-- ---- `targets_of`, `cell_of`
module _ (way : Way) (n1 n2 : ℕ) (ts us : List ℕ) where
  module _ (q s : ℕ) where
    module _ (a b r : ℕ) (ea : a ≡ target_mask ts (q / n2) s) (eb : b ≡ target_mask us (q % n2) s) where
      pub masks_read : Tables n1 n2 ts us → q / n2 < 32 → q % n2 < 32 → Masks a b n1 n2
      masks_read t la lb = record { first = rw ea (t.first (q / n2) s la); second = rw eb (t.second (q % n2) s lb) }

      pub targets_both : way ≡ Both → r ≡ pairs a b n2 → r ≡ targets_of way n1 n2 ts us q s
      targets_both e is = is ∙ rw (e, ea, eb)

      pub targets_interleaving : way ≡ Interleaving → r ≡ one_moves n2 (q / n2) (q % n2) a b → r ≡ targets_of way n1 n2 ts us q s
      targets_interleaving e is = is ∙ rw (e, ea, eb)

    pub targets_either : way ≡ Either → (r : ℕ) → r ≡ own_targets n1 ts us q s → r ≡ targets_of way n1 n2 ts us q s
    targets_either e r is = rw e is

  module _ (cell n : ℕ) (size : n ≡ states_of way n1 n2) where
    pub cell_state : cell / 16 < n → (r : ℕ) → r ≡ targets_of way n1 n2 ts us (cell / 16) (cell % 16) → r ≡ cell_in way n1 n2 ts us cell
    cell_state l r e = rw (lt-ltb (cell / 16) (states_of way n1 n2) (rw size at l)) e

    pub cell_none : n ≤ cell / 16 → 0 ≡ cell_in way n1 n2 ts us cell
    cell_none l = rw (le-ltb (cell / 16) (states_of way n1 n2) (rw size at l))

-- ---- `merged`
module _ (way : Way) (one two : Rule) where
  pub merged_sizes : Mergeable way one two → Sizes way one.n two.n
  merged_sizes m = record { first = m.first.states; second = m.second.states; fits = m.fits }

  pub merged_tables : Mergeable way one two → Tables one.n two.n one.targets two.targets
  merged_tables m = record { first = m.first.targets_below; second = m.second.targets_below }

  pub merged_made : (n i f : ℕ) (t : List ℕ) → n ≡ states_of way one.n two.n
      → i ≡ set_of way one.n two.n one.initials two.initials
      → f ≡ set_of way one.n two.n one.finals two.finals
      → t ≡ list_from 0 512 (cell_in way one.n two.n one.targets two.targets)
      → ◌≡◌ {A = Rule} (record { n = n; k = one.k; initials = i; finals = f; targets = t }) (merged_of way one two)
  merged_made n i f t en ei ef et = rw (en, ei, ef, et)

-- ---- `check`
module _ (way : Way) (one two : Rule) where
  pub check_first : (x : ℕ) → rule_number one ≡ some x → some x ≡ merge_number way one two
  check_first x e = sym (number_law way one two ∙ rw e)

  module _ (passed : rule_number one ≡ none) where
    pub check_second : (x : ℕ) → rule_number two ≡ some x → some x ≡ merge_number way one two
    check_second x e = sym (number_law way one two ∙ rw (passed, e))

    module _ (passed2 : rule_number two ≡ none) where
      pub small_both : (one.n ≤ 32) × (two.n ≤ 32)
      small_both = (((passes one).0 passed).states.1, ((passes two).0 passed2).states.1)

      pub check_36 : (one.k ≡ two.k → ⊥) → some 36 ≡ merge_number way one two
      check_36 d = sym (number_law way one two ∙ rw (passed, passed2, ne_eqb one.k two.k d))

      module _ (same : one.k ≡ two.k) (n : ℕ) (size : n ≡ states_of way one.n two.n) where
        pub check_37 : 32 < n → some 37 ≡ merge_number way one two
        check_37 l =
            sym
            (number_law way one two
            ∙ rw (passed, passed2, eq-eqb one.k two.k same, lt-ltb 32 (states_of way one.n two.n) (rw size at l)))

        pub check_none : n ≤ 32 → none ≡ merge_number way one two
        check_none l =
            sym
            (number_law way one two
            ∙ rw (passed, passed2, eq-eqb one.k two.k same, le-ltb 32 (states_of way one.n two.n) (rw size at l)))

-- ---- `merge`
module _ (way : Way) (one two : Rule) where
  pub merge_allowed : merge_number way one two ≡ none → Mergeable way one two
  merge_allowed e = (refused_exactly way one two).taken.0 e

  pub merge_accepted : merge_number way one two ≡ none → (r : Rule) → r ≡ merged_of way one two → merge_outcome (Ok r) ≡ merge_of way one two
  merge_accepted e r is = rw (e, is)

  pub merge_refused : (x : Refusal) → merge_number way one two ≡ some (refusal_number x) → merge_outcome (Err x) ≡ merge_of way one two
  merge_refused x e = rw e
