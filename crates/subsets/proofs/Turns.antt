-- The loop of `fill`, turn by turn, over plain lists: the arrays hold the sets of the states so far.
-- Assumes nothing.
--
--   in_row       a symbol of 16 or more leads to the empty set
--   not_empty    {q} is not empty
--   states-..    the turn of {q}: its sets are numbered, or the 513th turned up
use Rattle.std.proofs.Common as code
use Rattle.std.proofs.Common.{Some, None}
use mathlib.Core.Path.{◌≡◌, sym, ap, ◌∙◌}
use mathlib.Core.Bool.{false}
use mathlib.Core.List.{List}
use Prim.Native.Nat.{ℕ, ◌+◌, ◌*◌, ◌≤◌, ◌<◌, min}
use native.Mathlib.Numerals.{add-one}
use native.Mathlib.Omega.{arith}
use lib.Dec.{ltb}
use lib.ListN.{take}
use lib.Pow.{pow_pos}
use borrow.Author.Tests.{ne_eqb, eqb-false, ltb-true, ltb-false}
use Rattle.base.specs.Options.{option_of}
use Rattle.base.proofs.Tests.{by_test}
use Rattle.masks.specs.Masks.{single}
use Rattle.automaton.specs.Successor.{successor}
use Rattle.automaton.proofs.Laws.{successor_foreign}
use Rattle.numbering.specs.Numbering.{keys_up_to}
use Rattle.numbering.specs.mirror.Arrays.{InRow, ArraysHold, grown_by, Grown, Added}
use Rattle.numbering.proofs.Numbers.{begins_length}
use Rattle.numbering.proofs.Closure.{up_to_begins}
use Rattle.numbering.proofs.Arrays.{over_of}
use Rattle.numbering.proofs.Turns.{grown_over, grown_read}
use Rattle.subsets.specs.Sets.{is_empty, set_walk, sets_up_to, sets_of}

pub in_row : (ts : List ℕ) (k : ℕ) → InRow (set_walk ts k)
in_row ts k m s _ ne =
    by_test (ltb s 16) (ltb-true s 16)
    (λ t. absurd (eqb-false (successor ts m s) 0 ne (successor_foreign ts m s (ltb-false s 16 t))))

pub not_empty : (m q : ℕ) → m ≡ single q → is_empty m ≡ false
not_empty m q is = ne_eqb m 0 (λ z. omega (arith, is, pow_pos q))

module _ (ts : List ℕ) (k q m : ℕ) (one : m ≡ single q) (l : List ℕ) (is : l ≡ sets_up_to ts k q) (r : code.Option ℕ) (sets next : List ℕ)
    (g : Added (set_walk ts k) 512 l m (option_of r) sets next) where
  grown_is : grown_by (set_walk ts k) 512 l m ≡ sets_up_to ts k (q + 1)
  unfolding keys_up_to
  grown_is = rw (is, one, add-one)

  pub states_more : (c : ℕ) → r ≡ Some c → (c ≤ 512) × (take c sets ≡ sets_up_to ts k (q + 1)) × ArraysHold (set_walk ts k) 512 (take c sets) (c * 16) sets next
  states_more c e =
      let x = grown_read (set_walk ts k) 512 c (rw (ap option_of e) at g.grown) in
      (x.0, x.1 ∙ grown_is, x.2)

  pub states_over : r ≡ None → (n : ℕ) → q < min n 32 → Grown (set_walk ts k) 512 (sets_of ts n k) (option_of None) sets next
  unfolding sets_of
  states_over e n b =
      let long = rw grown_is at (over_of (grown_by (set_walk ts k) 512 l m) (sym (ap option_of e) ∙ g.grown.count)) in
      grown_over (set_walk ts k) 512 (sets_of ts n k) sets next
      (omega (arith, long, begins_length (up_to_begins (set_walk ts k) single (q + 1) (min n 32) (omega arith))))
