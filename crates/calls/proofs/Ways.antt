-- Each way out of each call's definition: the facts that lead there, in the order in which the code
-- finds them, and the answer. Assumes nothing.
--
--   fresh_by                                                fresh
--   open_20, open_few, open_many, opened                    open_of
--   withdraw_21, withdraw_11, withdraw_23, withdrawn        withdraw_of
--   deliver_21, -11, -12, -13, -22, delivered               deliver_of
--   verdict_21, verdict_waiting, verdict_yes, verdict_no    verdict_of
--   bytes_none, bytes_some                                  per_byte
--   report_waiting, report_yes, report_no, report_refused   report_by
--   install_unchecked, install_unbuilt, installed           install_of
--   load_unread, load_read                                  load_of
use mathlib.Core.Path.{◌≡◌, sym, ap, ◌∙◌}
use mathlib.Core.Bool.{Bool, true, false, cond}
use mathlib.Core.List.{List}
use mathlib.Core.Option.{none, some}
use Rattle.std.proofs.Common.{Result, Ok, Err}
use Prim.Native.Nat.{ℕ, ◌/◌, ◌%◌, ◌≤◌, ◌<◌}
use lib.ListN.{length}
use borrow.Author.Tests.{lt-ltb, le-ltb, le-leb, lt-leb, eq-eqb, ne_eqb}
use Rattle.base.specs.Answers.{refusal_number, result_number}
use Rattle.base.proofs.Tests.{by_test, zero_one}
use Rattle.automaton.specs.declared.Rule.{Rule}
use Rattle.base.specs.declared.Refusal.{Refusal}
use Rattle.rulecheck.specs.Checking.{rule_number}
use Rattle.ruleformat.specs.Reader.{Reading, read_outcome, read_of}
use Rattle.ruleformat.proofs.Claims as rulefile
use Rattle.build.specs.declared.Built.{Built}
use Rattle.build.specs.mirror.Building.{accepted, refused, sets, built_of, no_built, Outcome as BuiltOutcome, build_outcome, build_of}
use Rattle.chunks.specs.declared.Runs.{Runs}
use Rattle.marks.specs.Marks.{text_of}
use Rattle.chunks.specs.Chunks.{foreign}
use Rattle.chunks.specs.mirror.Walks.{run_mask, runs_of}
use Rattle.board.specs.declared.Board.{Board}
use Rattle.board.specs.Boards.{places_of, is_empty, comes_late, empty_board, filled_at, cleared_at, empty_places, summed_count}
use Rattle.calls.specs.declared.Judge.{Judge}
use Rattle.calls.specs.declared.Verdict.{Verdict}
use Rattle.calls.specs.declared.Verdict.TheVariants as verdict
use Rattle.calls.specs.Replies as reply
use Rattle.calls.specs.Calls.{install_number, per_byte, alone, report_by}
use Rattle.calls.specs.Replies.{Outcome}
use Rattle.calls.specs.mirror.Steps.{fresh, with_board, install_of, load_of, open_of, deliver_of, withdraw_of, is_yes, verdict_of}
use Rattle.calls.proofs.Conditions.{over, install_number_lem}
use Rattle.calls.proofs.Loading.{load_is}

pub fresh_by : (b : Built) → b ≡ no_built → (e : Board) → e ≡ empty_board 0 → record { built = b; board = e } ≡ fresh
unfolding fresh
fresh_by b nothing e empty = rw (nothing, empty)

-- ---- open
module _ (j : Judge) (n : ℕ) where
  module _ (r : Outcome) where
    pub open_20 : j.built.n ≡ 0 → r ≡ record { reply = reply.refused 20; state = j } → r ≡ open_of j n
    unfolding open_of
    open_20 a e = e ∙ rw (eq-eqb _ _ a)

    pub open_few : (j.built.n ≡ 0 → ⊥) → n < 1 → r ≡ record { reply = reply.refused 10; state = j } → r ≡ open_of j n
    unfolding open_of
    open_few a b e = e ∙ rw (ne_eqb _ _ a, lt-ltb _ _ b)

    pub open_many : (j.built.n ≡ 0 → ⊥) → 1 ≤ n → 64 < n → r ≡ record { reply = reply.refused 10; state = j } → r ≡ open_of j n
    unfolding open_of
    open_many a b c e = e ∙ rw (ne_eqb _ _ a, le-ltb _ _ b, lt-ltb _ _ c)

  pub opened : (j.built.n ≡ 0 → ⊥) → 1 ≤ n → n ≤ 64 → (b : Board) → b ≡ empty_board n → (s : Judge) → s ≡ with_board j b
      → record { reply = reply.accepted; state = s } ≡ open_of j n
  unfolding open_of
  opened a few many b is s e = rw (e, is, ne_eqb _ _ a, le-ltb _ _ few, le-ltb _ _ many)

-- ---- withdraw
module _ (j : Judge) (p : ℕ) where
  pub withdraw_21 : j.board.places ≡ 0 → (r : Outcome) → r ≡ record { reply = reply.refused 21; state = j } → r ≡ withdraw_of j p
  unfolding withdraw_of
  withdraw_21 a r e = e ∙ rw (eq-eqb _ _ a)

  module _ (a : j.board.places ≡ 0 → ⊥) (n : ℕ) (places : n ≡ places_of j.board) where
    pub withdraw_11 : n ≤ p → (r : Outcome) → r ≡ record { reply = reply.refused 11; state = j } → r ≡ withdraw_of j p
    unfolding withdraw_of
    withdraw_11 b r e = e ∙ rw (ne_eqb _ _ a, ← places, le-leb _ _ b)

    module _ (b : p < n) (x : Bool) (empty : x ≡ is_empty j.board p) where
      pub withdraw_23 : x ≡ true → (r : Outcome) → r ≡ record { reply = reply.refused 23; state = j } → r ≡ withdraw_of j p
      unfolding withdraw_of
      withdraw_23 c r e = e ∙ rw (ne_eqb _ _ a, ← places, lt-leb _ _ b, ← empty, c)

      pub withdrawn : x ≡ false → (d : Board) → d ≡ cleared_at j.board p → (s : Judge) → s ≡ with_board j d
          → record { reply = reply.accepted; state = s } ≡ withdraw_of j p
      unfolding withdraw_of
      withdrawn c d is s e = rw (e, is, ne_eqb _ _ a, ← places, lt-leb _ _ b, ← empty, c)

-- ---- deliver
module _ (j : Judge) (p v : ℕ) (w : List ℕ) where
  pub deliver_21 : j.board.places ≡ 0 → (r : Outcome) → r ≡ record { reply = reply.refused 21; state = j } → r ≡ deliver_of j p v w
  unfolding deliver_of
  deliver_21 a r e = e ∙ rw (eq-eqb _ _ a)

  module _ (a : j.board.places ≡ 0 → ⊥) (n : ℕ) (places : n ≡ places_of j.board) where
    pub deliver_11 : n ≤ p → (r : Outcome) → r ≡ record { reply = reply.refused 11; state = j } → r ≡ deliver_of j p v w
    unfolding deliver_of
    deliver_11 b r e = e ∙ rw (ne_eqb _ _ a, ← places, le-leb _ _ b)

    module _ (b : p < n) where
      pub deliver_12 : 65536 < length w → (r : Outcome) → r ≡ record { reply = reply.refused 12; state = j } → r ≡ deliver_of j p v w
      unfolding deliver_of
      deliver_12 c r e = e ∙ rw (ne_eqb _ _ a, ← places, lt-leb _ _ b, lt-ltb _ _ c)

      -- from here on by the chunk's text t
      module _ (c : length w ≤ 65536) (t : List ℕ) (text : text_of w ≡ t) (f : Bool) (has : f ≡ foreign t j.built.k) where
        pub deliver_13 : f ≡ true → (r : Outcome) → r ≡ record { reply = reply.refused 13; state = j } → r ≡ deliver_of j p v w
        unfolding deliver_of
        deliver_13 d r e = e ∙ rw (ne_eqb _ _ a, ← places, lt-leb _ _ b, le-ltb _ _ c, text, ← has, d)

        module _ (d : f ≡ false) (x : Bool) (late : x ≡ comes_late j.board p v) where
          pub deliver_22 : x ≡ true → (r : Outcome) → r ≡ record { reply = reply.refused 22; state = j } → r ≡ deliver_of j p v w
          unfolding deliver_of
          deliver_22 g r e = e ∙ rw (ne_eqb _ _ a, ← places, lt-leb _ _ b, le-ltb _ _ c, text, ← has, d, ← late, g)

          pub delivered : x ≡ false → (runs : Runs)
              → runs ≡ runs_of j.built.sets j.built.next j.built.singles (run_mask j.built.delegates j.built.n j.built.initials p) t → (l : Board) → l ≡ filled_at j.board p v runs → (s : Judge) → s ≡ with_board j l
              → record { reply = reply.delivered runs.looked; state = s } ≡ deliver_of j p v w
          unfolding deliver_of
          delivered g runs ran l is s e = rw (text, e, is, ran, ne_eqb _ _ a, ← places, lt-leb _ _ b, le-ltb _ _ c, ← has, d, ← late, g)

-- ---- verdict
module _ (j : Judge) where
  pub verdict_21 : j.board.places ≡ 0 → reply.refused_with 21 ≡ verdict_of j
  unfolding verdict_of
  verdict_21 a = rw (eq-eqb _ _ a)

  module _ (a : j.board.places ≡ 0 → ⊥) (e : ℕ) (empty : e ≡ empty_places j.board) where
    pub verdict_waiting : (e ≡ 0 → ⊥) → reply.waiting e ≡ verdict_of j
    unfolding verdict_of
    verdict_waiting b = rw (ne_eqb _ _ a, ← empty, ne_eqb _ _ b)

    module _ (b : e ≡ 0) (count : ℕ) (summed : count ≡ summed_count j.board) (x : Bool) (says : x ≡ is_yes j) where
      pub verdict_yes : x ≡ true → reply.yes_with count ≡ verdict_of j
      unfolding verdict_of
      verdict_yes c = rw (ne_eqb _ _ a, ← empty, eq-eqb _ _ b, ← says, c, summed)

      pub verdict_no : x ≡ false → reply.no_with count ≡ verdict_of j
      unfolding verdict_of
      verdict_no c = rw (ne_eqb _ _ a, ← empty, eq-eqb _ _ b, ← says, c, summed)

-- ---- what is reported with it
module _ (v : reply.Judgement) (count bytes : ℕ) where
  pub bytes_none : bytes ≡ 0 → record { verdict = v; bytes = bytes; quotient = 0; remainder = 0 } ≡ per_byte v count bytes
  bytes_none z = rw (eq-eqb _ _ z)

  pub bytes_some : (bytes ≡ 0 → ⊥) → record { verdict = v; bytes = bytes; quotient = count / bytes; remainder = count % bytes } ≡ per_byte v count bytes
  bytes_some n = rw (ne_eqb _ _ n)

module _ (x : Verdict) (bytes : ℕ) (r : reply.Reported) where
  pub report_waiting : (e : ℕ) → x ≡ verdict.Waiting e → r ≡ alone (reply.verdict_means x) → r ≡ report_by (reply.verdict_means x) bytes
  report_waiting e is said = said ∙ rw is

  pub report_yes : (c : ℕ) → x ≡ verdict.Yes c → r ≡ per_byte (reply.yes_with c) c bytes → r ≡ report_by (reply.verdict_means x) bytes
  report_yes c is said = said ∙ rw is

  pub report_no : (c : ℕ) → x ≡ verdict.No c → r ≡ per_byte (reply.no_with c) c bytes → r ≡ report_by (reply.verdict_means x) bytes
  report_no c is said = said ∙ rw is

  pub report_refused : (n : Refusal) → x ≡ verdict.Refused n → r ≡ alone (reply.verdict_means x) → r ≡ report_by (reply.verdict_means x) bytes
  report_refused n is said = said ∙ rw is

-- ---- install
module _ (j : Judge) (r : Rule) where
  refused_with_lem : (number : ℕ) → install_number r ≡ some number
      → (o : Outcome) → o ≡ record { reply = reply.refused number; state = j } → o ≡ install_of j r
  unfolding install_of
  refused_with_lem number told o e = e ∙ rw told

  module _ (a : Result (Unit {0}) Refusal) (checked : result_number a ≡ rule_number r) where
    -- the rule does not pass
    pub install_unchecked : (refusal : Refusal) → a ≡ Err refusal
        → (o : Outcome) → o ≡ record { reply = reply.refused (refusal_number refusal); state = j } → o ≡ install_of j r
    install_unchecked refusal told =
        let is : rule_number r ≡ some (refusal_number refusal) = sym checked ∙ ap result_number told in
        refused_with_lem (refusal_number refusal) (install_number_lem r ∙ rw is)

    module _ (u : Unit {0}) (told : a ≡ Ok u) (b : Result Built Refusal) (came : build_outcome b ≡ build_of r) where
      number_is : install_number r ≡ cond (over r) (some 9) none
      number_is =
          let passes : rule_number r ≡ none = sym checked ∙ ap result_number told in
          install_number_lem r ∙ rw passes

      -- it has too many sets
      pub install_unbuilt : (refusal : Refusal) → b ≡ Err refusal
          → (o : Outcome) → o ≡ record { reply = reply.refused (refusal_number refusal); state = j } → o ≡ install_of j r
      unfolding build_of
      install_unbuilt refusal answered =
          let said : build_outcome b ≡ build_outcome (Err refusal) = ap build_outcome answered in
          by_test (over r)
          (λ t.
          let is : refused (refusal_number refusal) ≡ refused 9 = sym (ap (λ (o : BuiltOutcome). o.answer) said) ∙ ap (λ (o : BuiltOutcome). o.answer) came ∙ rw t in
          let nine : refusal_number refusal ≡ 9 = cc in
          refused_with_lem (refusal_number refusal) (number_is ∙ rw (t, nine)))
          (λ few.
          let is : refused (refusal_number refusal) ≡ accepted (length (sets r)) (built_of r).startcount =
          sym (ap (λ (o : BuiltOutcome). o.answer) said) ∙ ap (λ (o : BuiltOutcome). o.answer) came ∙ rw few in
          zero_one cc)

      pub installed : (built : Built) → b ≡ Ok built → (e : Board) → e ≡ empty_board 0
          → record { reply = reply.installed built.setcount built.startcount; state = record { built = built; board = e } } ≡ install_of j r
      unfolding build_of install_of
      installed built answered e empty =
          let said : build_outcome b ≡ build_outcome (Ok built) = ap build_outcome answered in
          by_test (over r)
          (λ t.
          let is : accepted built.setcount built.startcount ≡ refused 9 = sym (ap (λ (o : BuiltOutcome). o.answer) said) ∙ ap (λ (o : BuiltOutcome). o.answer) came ∙ rw t in
          zero_one cc)
          (λ few.
          let is : built ≡ built_of r = sym (ap (λ (o : BuiltOutcome). o.built) said) ∙ ap (λ (o : BuiltOutcome). o.built) came ∙ rw few in
          let none_is : install_number r ≡ none = number_is ∙ rw few in
          rw (is, empty, none_is))

-- ---- load
module _ (j : Judge) (f : List ℕ) (read : Result Rule Refusal) (reads : read_outcome read ≡ read_of f) where
  -- the file is refused
  pub load_unread : (refusal : Refusal) → read ≡ Err refusal
      → (o : Outcome) → o ≡ record { reply = reply.refused (refusal_number refusal); state = j } → o ≡ load_of j f
  load_unread refusal told o e =
      e ∙ sym ((load_is j f).unread (refusal_number refusal) (ap (λ (x : Reading). x.number) (sym reads ∙ ap read_outcome told)))

  -- its rule is installed
  pub load_read : (rule : Rule) → read ≡ Ok rule → (o : Outcome) → o ≡ install_of j rule → o ≡ load_of j f
  load_read rule told o e =
      let is : record { number = none; rule = rule } ≡ read_of f = sym (ap read_outcome told) ∙ reads in
      let taken : (read_of f).number ≡ none = ap (λ (x : Reading). x.number) (sym is) in
      e ∙ ap (install_of j) (ap (λ (x : Reading). x.rule) is ∙ ((rulefile.claims).reading f).rule taken) ∙ sym ((load_is j f).installed taken)
