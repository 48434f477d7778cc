-- The ways through the functions that run a line. Assumes nothing.
--
--   fresh_line, empty_line  an empty line
--   made                    a call, by whether it is of a rule
--   not_field, field_put    a field that says no bytes, and one that says some
--   told                    what a test found
--   inside                  a line that begins with a word has it whole
--   rule_line, next_line, other_line   a line by the word with which it begins
use mathlib.Core.Path.{◌≡◌, refl, sym, ap, ◌∙◌}
use mathlib.Core.Bool.{Bool, true, false, true≢false}
use mathlib.Core.List.{List}
use mathlib.Core.Option.{Option, none, some}
use Prim.Native.Nat.{ℕ, ◌-◌, ◌≤◌}
use native.Mathlib.Omega.{arith}
use borrow.Author.Tests.{eq-eqb, ne_eqb, ltb-true, ltb-false}
use lib.Dec.{ltb}
use lib.ListN.{length, take, drop, length-drop}
use lib.Seq.{take_all}
use Rattle.base.proofs.Tests.{by_test}
use Rattle.lines.specs.Splitting.{begins as begins_with}
use Rattle.lines.proofs.Splits.{begins_short}
use Rattle.fields.specs.Bytes.{parse_bytes, Took}
use Rattle.fields.proofs.Taking.{carries, not_bytes}
use Rattle.followcalls.specs.declared.FollowState.{FollowState}
use Rattle.followcalls.specs.Calls.{Call, forgets, forgotten, none_yet, reply_of, next_of, Outcome, call_step}
use Rattle.followlines.specs.Lines.{rule_word, next_word, call_of, call_by, line_in}
use Rattle.followlines.specs.Answers.{line_step}
use Rattle.followlines.proofs.Long.{clip}

-- ---- a fresh state
pub fresh_line : (s t : FollowState) → t ≡ none_yet → record { reply = some forgotten; state = t } ≡ line_step s (some forgets)
unfolding reply_of next_of
fresh_line s t e = ap (λ (x : FollowState). record { reply = some forgotten; state = x }) e

-- ---- a call
pub made : (s : FollowState) (rule b : Bool) (w : List ℕ) (o : Outcome) → rule ≡ b → o ≡ call_step s (call_of b w) → o ≡ call_step s (call_of rule w)
made s rule b w o e is = is ∙ ap (λ (x : Bool). call_step s (call_of x w)) (sym e)

-- ---- a field
module _ (field before after : List ℕ) (s : FollowState) (rule : Bool) (o : Outcome) where
  pub not_field : Took field before none after → o ≡ line_step s none → o ≡ line_step s (call_by rule (parse_bytes field))
  not_field took is = rw (not_bytes field before after none took refl) is

  pub field_put : 65537 ≤ length before → (n : ℕ) → Took field before (some n) after → o ≡ call_step s (call_of rule (take n after))
      → o ≡ line_step s (call_by rule (parse_bytes field))
  field_put room n took is =
      let k = carries field before after (some n) took n refl in
      rw k.said (is ∙ ap (λ (b : List ℕ). call_step s (call_of rule b)) k.is ∙ clip s rule k.bytes (length before) room)

-- ---- a line
pub told : {b c d : Bool} → b ≡ c → b ≡ d → c ≡ d
told e f = sym e ∙ f

begins_long : (h w : List ℕ) → begins_with h w ≡ true → length h ≤ length w
begins_long h w e =
    by_test (ltb (length w) (length h))
    (λ l. absurd (true≢false (sym e ∙ begins_short h w (ltb-true (length w) (length h) l))))
    (λ l. ltb-false (length w) (length h) l)

module _ (w : List ℕ) where
  pub rule_inside : begins_with rule_word w ≡ true → 5 ≤ length w
  rule_inside e = begins_long rule_word w e

  pub next_inside : begins_with next_word w ≡ true → 5 ≤ length w
  next_inside e = begins_long next_word w e

  -- the part of a line up to its end
  rest-is : take (length w - 5) (drop 5 w) ≡ drop 5 w
  rest-is = take_all (length w - 5) (drop 5 w) (omega (arith, length-drop 5 w))

  module _ (s : FollowState) (o : Outcome) where
    by_meaning : (m : Option Call) → m ≡ line_in w → o ≡ line_step s m → o ≡ line_step s (line_in w)
    by_meaning m e is = is ∙ ap (line_step s) e

    pub empty_line : length w ≡ 0 → o ≡ line_step s (some forgets) → o ≡ line_step s (line_in w)
    unfolding line_in
    empty_line e is = rw (eq-eqb (length w) 0 e) is

    module _ (some_byte : length w ≡ 0 → ⊥) where
      pub rule_line : begins_with rule_word w ≡ true → o ≡ line_step s (call_by true (parse_bytes (take (length w - 5) (drop 5 w)))) → o ≡ line_step s (line_in w)
      unfolding line_in
      rule_line e is = rw (ne_eqb (length w) 0 some_byte, e) (is ∙ ap (λ (x : List ℕ). line_step s (call_by true (parse_bytes x))) rest-is)

      module _ (no_rule_lem : begins_with rule_word w ≡ false) where
        pub next_line : begins_with next_word w ≡ true → o ≡ line_step s (call_by false (parse_bytes (take (length w - 5) (drop 5 w)))) → o ≡ line_step s (line_in w)
        unfolding line_in
        next_line e is = rw (ne_eqb (length w) 0 some_byte, no_rule_lem, e) (is ∙ ap (λ (x : List ℕ). line_step s (call_by false (parse_bytes x))) rest-is)

        pub other_line : begins_with next_word w ≡ false → o ≡ line_step s none → o ≡ line_step s (line_in w)
        unfolding line_in
        other_line e is = rw (ne_eqb (length w) 0 some_byte, no_rule_lem, e) is
