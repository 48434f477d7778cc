-- Each way out of each call's definition: the facts that lead there, in the order in which the code
-- finds them, and the answer. Assumes nothing.
--
--   fresh_by                                              fresh
--   unchecked, unbuilt, built                             install_answer
--   install_refused, install_accepted                     install_of
--   open_20, open_38, open_10, opened                     open_of
--   deliver_21, -11, -39, -13, -22, delivered             deliver_of
--   withdraw_21, withdraw_11, withdraw_23, withdrawn      withdraw_of
--   verdict_21, verdict_waiting, verdict_yes, verdict_no  verdict_of
use mathlib.Core.Path.{◌≡◌, refl, ap, ◌∙◌}
use mathlib.Core.Bool.{Bool, true, false, cond, not}
use mathlib.Core.List.{List}
use mathlib.Core.Option.{Option, none, some}
use Prim.Native.Nat.{ℕ, ◌≤◌, ◌<◌}
use borrow.Author.Tests.{le-leb, lt-leb, eq-eqb, ne_eqb, not-true, not-false}
use Rattle.std.proofs.Common.{Result, Ok, Err}
use Rattle.base.specs.declared.Refusal.{Refusal}
use Rattle.base.specs.Answers.{refusal_number}
use Rattle.base.specs.Conditions.{outside}
use Rattle.base.proofs.Tests.{by_test, zero_one}
use Rattle.automaton.specs.declared.Rule.{Rule}
use Rattle.rulecheck.specs.Checking.{rule_number}
use Rattle.ruleformat.specs.Reader.{no_rule}
use Rattle.build.specs.declared.Built.{Built}
use Rattle.build.specs.mirror.Building.{accepted, refused, built_of, Outcome as BuiltOutcome, build_outcome, build_of}
use Rattle.calls.specs.Calls.{install_number}
use Rattle.calls.proofs.Conditions.{over, install_number_lem}
use Rattle.calls.specs.declared.Sizes.{Sizes}
use Rattle.trays.specs.declared.TrayBoard.{TrayBoard}
use Rattle.trays.specs.declared.Tray.{Tray}
use Rattle.trays.specs.Replies as reply
use Rattle.trays.specs.Calls.{not_rows, foreign_to}
use Rattle.trays.specs.Boards.{width_of, bands_of, is_empty, empty_board, filled_at, cleared_at, empty_bands}
use Rattle.trays.specs.mirror.Steps.{fresh, lacks_rule, with_board, Outcome, install_answer, install_of, open_of, deliver_of, withdraw_of, is_yes, verdict_of}

pub fresh_by : (r : Rule) → r ≡ no_rule → (c : Rule) → c ≡ no_rule → (b : TrayBoard) → b ≡ empty_board 0 0
    → record { row = r; column = c; board = b } ≡ fresh
unfolding fresh
fresh_by r row c column b empty = rw (row, column, empty)

-- ---- what an installation answers
module _ (r : Rule) where
  -- the rule does not pass
  pub unchecked : (e : Refusal) → some (refusal_number e) ≡ rule_number r → reply.refused (refusal_number e) ≡ install_answer r
  unfolding install_answer
  unchecked e is =
      let number_is : install_number r ≡ some (refusal_number e) = install_number_lem r ∙ rw (← is) in
      rw number_is

  module _ (passes : none ≡ rule_number r) (b : Result Built Refusal) (came : build_outcome b ≡ build_of r) where
    number_is : install_number r ≡ cond (over r) (some 9) none
    number_is = install_number_lem r ∙ rw (← passes)

    -- what was built, by whether it has too many sets
    over-is : over r ≡ true → (build_outcome b).answer ≡ refused 9
    unfolding build_of
    over-is t = ap (λ (o : BuiltOutcome). o.answer) came ∙ rw t

    few_are : over r ≡ false → (build_outcome b).answer ≡ accepted (built_of r).setcount (built_of r).startcount
    unfolding build_of
    few_are t = ap (λ (o : BuiltOutcome). o.answer) came ∙ rw t

  -- it has too many sets
  pub unbuilt : none ≡ rule_number r → (e : Refusal) → build_outcome (Err e) ≡ build_of r → reply.refused (refusal_number e) ≡ install_answer r
  unfolding install_answer
  unbuilt passes e came =
      by_test (over r)
      (λ t.
      let is : refused (refusal_number e) ≡ refused 9 = over-is passes (Err e) came t in
      let nine : refusal_number e ≡ 9 = cc in
      rw (number_is passes (Err e) came, t, nine))
      (λ t.
      let is : refused (refusal_number e) ≡ accepted (built_of r).setcount (built_of r).startcount = few_are passes (Err e) came t in
      zero_one cc)

  pub built : none ≡ rule_number r → (b : Built) → build_outcome (Ok b) ≡ build_of r → reply.installed b.setcount b.startcount ≡ install_answer r
  unfolding install_answer
  built passes b came =
      by_test (over r)
      (λ t.
      let is : accepted b.setcount b.startcount ≡ refused 9 = over-is passes (Ok b) came t in
      zero_one cc)
      (λ t.
      let is : accepted b.setcount b.startcount ≡ accepted (built_of r).setcount (built_of r).startcount = few_are passes (Ok b) came t in
      let same-m : b.setcount ≡ (built_of r).setcount = cc in
      let same-starts : b.startcount ≡ (built_of r).startcount = cc in
      rw (number_is passes (Ok b) came, t, same-m, same-starts))

-- ---- the installations
-- a refusal's number, and an acceptance's, is that of the rule
by_refusal : (n : Option ℕ) (m starts x : ℕ) → reply.refused x ≡ reply.reply_by n (reply.installed m starts) → n ≡ some x
by_refusal none m starts x e = zero_one cc
by_refusal (some y) m starts x e = cc

by_acceptance : (n : Option ℕ) (m starts s d : ℕ) → reply.installed s d ≡ reply.reply_by n (reply.installed m starts)
    → (n ≡ none) × (s ≡ m) × (d ≡ starts)
by_acceptance none m starts s d e = (refl, cc, cc)
by_acceptance (some y) m starts s d e = zero_one cc

module _ (t s : Tray) (r : Rule) where
  module _ (e : Refusal) (answers : reply.install_means (Err e) ≡ install_answer r) where
    number_refused : install_number r ≡ some (refusal_number e)
    unfolding install_answer
    number_refused = by_refusal (install_number r) (built_of r).setcount (built_of r).startcount (refusal_number e) answers

    pub install_refused : record { reply = reply.install_means (Err e); state = t } ≡ install_of t r s
    install_refused = rw number_refused

  module _ (z : Sizes) (answers : reply.install_means (Ok z) ≡ install_answer r) where
    number_accepted : (install_number r ≡ none) × (z.sets ≡ (built_of r).setcount) × (z.starts ≡ (built_of r).startcount)
    unfolding install_answer
    number_accepted = by_acceptance (install_number r) (built_of r).setcount (built_of r).startcount z.sets z.starts answers

    pub install_accepted : record { reply = reply.install_means (Ok z); state = s } ≡ install_of t r s
    install_accepted = rw (number_accepted.0, number_accepted.1, number_accepted.2)

-- ---- open
module _ (t : Tray) (w n : ℕ) (l : Bool) (lacks : l ≡ lacks_rule t) where
  pub open_20 : l ≡ true → (r : Outcome) → r ≡ record { reply = reply.refused 20; state = t } → r ≡ open_of t w n
  unfolding open_of
  open_20 a r e = e ∙ rw (← lacks, a)

  module _ (a : l ≡ false) (x : Bool) (wide : x ≡ outside 1 16 w) where
    pub open_38 : x ≡ true → (r : Outcome) → r ≡ record { reply = reply.refused 38; state = t } → r ≡ open_of t w n
    unfolding open_of
    open_38 b r e = e ∙ rw (← lacks, a, ← wide, b)

    module _ (b : x ≡ false) (y : Bool) (many : y ≡ outside 1 8 n) where
      pub open_10 : y ≡ true → (r : Outcome) → r ≡ record { reply = reply.refused 10; state = t } → r ≡ open_of t w n
      unfolding open_of
      open_10 c r e = e ∙ rw (← lacks, a, ← wide, b, ← many, c)

      pub opened : y ≡ false → (d : TrayBoard) → d ≡ empty_board w n → (s : Tray) → s ≡ with_board t d
          → (r : Outcome) → r ≡ record { reply = reply.accepted; state = s } → r ≡ open_of t w n
      unfolding open_of
      opened c d is s leaves r e = e ∙ rw (leaves, is, ← lacks, a, ← wide, b, ← many, c)

-- ---- deliver
module _ (t : Tray) (p : ℕ) (bytes : List ℕ) where
  pub deliver_21 : t.board.bands ≡ 0 → (r : Outcome) → r ≡ record { reply = reply.refused 21; state = t } → r ≡ deliver_of t p bytes
  unfolding deliver_of
  deliver_21 a r e = e ∙ rw (eq-eqb _ _ a)

  module _ (a : t.board.bands ≡ 0 → ⊥) (n : ℕ) (bands : n ≡ bands_of t.board) where
    pub deliver_11 : n ≤ p → (r : Outcome) → r ≡ record { reply = reply.refused 11; state = t } → r ≡ deliver_of t p bytes
    unfolding deliver_of
    deliver_11 b r e = e ∙ rw (ne_eqb _ _ a, ← bands, le-leb _ _ b)

    module _ (b : p < n) (x : Bool) (parts : x ≡ not_rows (width_of t.board) bytes) where
      pub deliver_39 : x ≡ true → (r : Outcome) → r ≡ record { reply = reply.refused 39; state = t } → r ≡ deliver_of t p bytes
      unfolding deliver_of
      deliver_39 c r e = e ∙ rw (ne_eqb _ _ a, ← bands, lt-leb _ _ b, ← parts, c)

      module _ (c : x ≡ false) (f : Bool) (has : f ≡ foreign_to t.row.k t.column.k bytes) where
        pub deliver_13 : f ≡ true → (r : Outcome) → r ≡ record { reply = reply.refused 13; state = t } → r ≡ deliver_of t p bytes
        unfolding deliver_of
        deliver_13 d r e = e ∙ rw (ne_eqb _ _ a, ← bands, lt-leb _ _ b, ← parts, c, ← has, d)

        module _ (d : f ≡ false) (y : Bool) (empty : y ≡ is_empty t.board p) where
          pub deliver_22 : not y ≡ true → (r : Outcome) → r ≡ record { reply = reply.refused 22; state = t } → r ≡ deliver_of t p bytes
          unfolding deliver_of
          deliver_22 g r e = e ∙ rw (ne_eqb _ _ a, ← bands, lt-leb _ _ b, ← parts, c, ← has, d, ← empty, not-true y g)

          pub delivered : not y ≡ false → (l : TrayBoard) → l ≡ filled_at t.board p bytes → (s : Tray) → s ≡ with_board t l
              → (r : Outcome) → r ≡ record { reply = reply.accepted; state = s } → r ≡ deliver_of t p bytes
          unfolding deliver_of
          delivered g l is s leaves r e = e ∙ rw (leaves, is, ne_eqb _ _ a, ← bands, lt-leb _ _ b, ← parts, c, ← has, d, ← empty, not-false y g)

-- ---- withdraw
module _ (t : Tray) (p : ℕ) where
  pub withdraw_21 : t.board.bands ≡ 0 → (r : Outcome) → r ≡ record { reply = reply.refused 21; state = t } → r ≡ withdraw_of t p
  unfolding withdraw_of
  withdraw_21 a r e = e ∙ rw (eq-eqb _ _ a)

  module _ (a : t.board.bands ≡ 0 → ⊥) (n : ℕ) (bands : n ≡ bands_of t.board) where
    pub withdraw_11 : n ≤ p → (r : Outcome) → r ≡ record { reply = reply.refused 11; state = t } → r ≡ withdraw_of t p
    unfolding withdraw_of
    withdraw_11 b r e = e ∙ rw (ne_eqb _ _ a, ← bands, le-leb _ _ b)

    module _ (b : p < n) (y : Bool) (empty : y ≡ is_empty t.board p) where
      pub withdraw_23 : y ≡ true → (r : Outcome) → r ≡ record { reply = reply.refused 23; state = t } → r ≡ withdraw_of t p
      unfolding withdraw_of
      withdraw_23 c r e = e ∙ rw (ne_eqb _ _ a, ← bands, lt-leb _ _ b, ← empty, c)

      pub withdrawn : y ≡ false → (l : TrayBoard) → l ≡ cleared_at t.board p → (s : Tray) → s ≡ with_board t l
          → (r : Outcome) → r ≡ record { reply = reply.accepted; state = s } → r ≡ withdraw_of t p
      unfolding withdraw_of
      withdrawn c l is s leaves r e = e ∙ rw (leaves, is, ne_eqb _ _ a, ← bands, lt-leb _ _ b, ← empty, c)

-- ---- verdict
module _ (t : Tray) where
  pub verdict_21 : t.board.bands ≡ 0 → reply.refused_with 21 ≡ verdict_of t
  unfolding verdict_of
  verdict_21 a = rw (eq-eqb _ _ a)

  module _ (a : t.board.bands ≡ 0 → ⊥) (e : ℕ) (empty : e ≡ empty_bands t.board) where
    pub verdict_waiting : (e ≡ 0 → ⊥) → reply.waiting e ≡ verdict_of t
    unfolding verdict_of
    verdict_waiting b = rw (ne_eqb _ _ a, ← empty, ne_eqb _ _ b)

    module _ (b : e ≡ 0) (x : Bool) (says : x ≡ is_yes t) where
      pub verdict_yes : x ≡ true → reply.says_yes ≡ verdict_of t
      unfolding verdict_of
      verdict_yes c = rw (ne_eqb _ _ a, ← empty, eq-eqb _ _ b, ← says, c)

      pub verdict_no : x ≡ false → reply.says_no ≡ verdict_of t
      unfolding verdict_of
      verdict_no c = rw (ne_eqb _ _ a, ← empty, eq-eqb _ _ b, ← says, c)
