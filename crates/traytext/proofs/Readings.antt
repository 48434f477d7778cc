-- What the ways through `parse` come to. Assumes nothing.
--
--   …-malformed, …-alone, …-value   a line of that word, by what its fields say
--   long-…                          a line that begins with the word has it whole
--   parsed-…                        a line by the word with which it begins
use mathlib.Core.Path.{◌≡◌, sym, ap, ◌∙◌}
use mathlib.Core.Bool.{true, false}
use mathlib.Core.List.{List}
use mathlib.Core.Option.{Option, none, some}
use Prim.Native.Nat.{ℕ, suc, ◌+◌, ◌-◌, ◌≤◌, ◌<◌}
use native.Mathlib.Omega.{arith}
use borrow.Author.Tests.{eq-eqb, ne_eqb}
use lib.ListN.{length, take, drop, length-drop}
use lib.Seq.{drop-drop}
use Rattle.lines.specs.Splitting.{begins, up_to, past}
use Rattle.lines.proofs.Splits.{up_take, past_there, past_none}
use Rattle.std.proofs.Common.{Some, None}
use Rattle.std.proofs.Common as code
use Rattle.base.specs.Options.{option_of}
use Rattle.fields.specs.Numbers.{parse_number}
use Rattle.fields.specs.Bytes.{parse_bytes}
use Rattle.calltext.proofs.Readings.{to_the_end, begins_long}
use Rattle.trays.specs.Calls.{opens, withdraws}
use Rattle.traytext.specs.declared.Line.{Line}
use Rattle.traytext.specs.declared.Line.TheVariants.{Empty, Row, Column, Verdict, Malformed}
use Rattle.traytext.specs.Lines.{call, malformed, row_word, column_word, open_word, deliver_word, withdraw_word, verdict_word, open_by, withdraw_by, deliver_by, open_fields, deliver_fields, call_in, line_in, line_means, bytes_from, Parsed}

-- ---- the number of a withdrawal
module _ (field : List ℕ) (x : code.Option ℕ) (said : option_of x ≡ parse_number field) where
  pub withdraw_value : (p : ℕ) → x ≡ Some p → call (withdraws p) ≡ withdraw_by (parse_number field)
  withdraw_value p e = ap withdraw_by (sym (ap option_of e) ∙ said)

  pub withdraw_malformed : x ≡ None → malformed ≡ withdraw_by (parse_number field)
  withdraw_malformed e = ap withdraw_by (sym (ap option_of e) ∙ said)

-- ---- two fields: `space` is the index of the first space from `from` on
module _ (w : List ℕ) (from : ℕ) (long : from ≤ length w) (space : ℕ) (found : space ≡ from + length (up_to 32 (drop from w))) where
  rest_length : length (drop from w) + from ≡ length w
  rest_length = omega (arith, length-drop from w)

  none_behind : length w ≤ space → past 32 (drop from w) ≡ none
  none_behind l = past_none 32 (drop from w) (omega (arith, rest_length))

  pub open_alone : length w ≤ space → malformed ≡ open_fields (up_to 32 (drop from w)) (past 32 (drop from w))
  open_alone l = rw (none_behind l)

  pub deliver_alone : length w ≤ space → malformed ≡ deliver_fields (up_to 32 (drop from w)) (past 32 (drop from w))
  deliver_alone l = rw (none_behind l)

  module _ (here : space < length w) where
    part_is : take (space - from) (drop from w) ≡ up_to 32 (drop from w)
    part_is =
        let size : space - from ≡ length (up_to 32 (drop from w)) = omega (arith, found) in
        ap (λ (x : ℕ). take x (drop from w)) size ∙ sym (up_take 32 (drop from w))

    behind_is : past 32 (drop from w) ≡ some (drop (space + 1) w)
    behind_is =
        let m = length (up_to 32 (drop from w)) in
        let next : from + suc m ≡ space + 1 = omega (arith, found) in
        past_there 32 (drop from w) (omega (arith, rest_length))
        ∙ ap (λ (l : List ℕ). some l) (drop-drop (suc m) from w ∙ ap (λ (x : ℕ). drop x w) next)

    module _ (x : code.Option ℕ) (said : option_of x ≡ parse_number (take (space - from) (drop from w))) where
      says : (o : Option ℕ) → option_of x ≡ o → parse_number (up_to 32 (drop from w)) ≡ o
      says o e = sym (said ∙ ap parse_number part_is) ∙ e

      pub deliver_value : (p : ℕ) → x ≡ Some p
          → deliver_by (some p) (parse_bytes (drop (space + 1) w)) ≡ deliver_fields (up_to 32 (drop from w)) (past 32 (drop from w))
      deliver_value p e = rw (behind_is, says (some p) (ap option_of e))

      pub deliver_malformed : x ≡ None → malformed ≡ deliver_fields (up_to 32 (drop from w)) (past 32 (drop from w))
      deliver_malformed e = rw (behind_is, says none (ap option_of e))

      pub open_first : x ≡ None → malformed ≡ open_fields (up_to 32 (drop from w)) (past 32 (drop from w))
      open_first e = rw (behind_is, says none (ap option_of e))

      module _ (width : ℕ) (e : x ≡ Some width) (y : code.Option ℕ) (then-said : option_of y ≡ parse_number (take (length w - (space + 1)) (drop (space + 1) w))) where
        both_are : (o : Option ℕ) → option_of y ≡ o → open_fields (up_to 32 (drop from w)) (past 32 (drop from w)) ≡ open_by (some width) o
        both_are o f = rw (behind_is, says (some width) (ap option_of e)) (ap (open_by (some width)) (ap parse_number (sym (to_the_end w (space + 1))) ∙ sym then-said ∙ f))

        pub open_value : (n : ℕ) → y ≡ Some n → call (opens width n) ≡ open_fields (up_to 32 (drop from w)) (past 32 (drop from w))
        open_value n f = sym (both_are (some n) (ap option_of f))

        pub open_second : y ≡ None → malformed ≡ open_fields (up_to 32 (drop from w)) (past 32 (drop from w))
        open_second f = sym (both_are none (ap option_of f))

-- ---- the word with which a line begins
module _ (w : List ℕ) where
  pub long_open : begins open_word w ≡ true → 5 ≤ length w
  long_open e = begins_long open_word w e

  pub long_deliver : begins deliver_word w ≡ true → 8 ≤ length w
  long_deliver e = begins_long deliver_word w e

  pub long_withdraw : begins withdraw_word w ≡ true → 9 ≤ length w
  long_withdraw e = begins_long withdraw_word w e

  pub parsed_empty : length w ≡ 0 → Parsed w Empty
  parsed_empty e = record { means = rw (eq-eqb (length w) 0 e); inside = omega arith }

  module _ (some_byte : length w ≡ 0 → ⊥) where
    line-is : line_in w ≡ call_in w
    line-is = rw (ne_eqb (length w) 0 some_byte)

    module _ (is : begins verdict_word w ≡ true) where
      pub parsed_verdict : length w ≡ 7 → Parsed w Verdict
      unfolding call_in
      parsed_verdict e = record { means = line-is ∙ rw (is, eq-eqb (length w) 7 e); inside = omega arith }

      pub parsed_more : (length w ≡ 7 → ⊥) → Parsed w Malformed
      unfolding call_in
      parsed_more e = record { means = line-is ∙ rw (is, ne_eqb (length w) 7 e); inside = omega arith }

    module _ (no_verdict : begins verdict_word w ≡ false) where
      pub parsed_row : begins row_word w ≡ true → Parsed w Row
      unfolding call_in
      parsed_row is = record { means = line-is ∙ rw (no_verdict, is); inside = begins_long row_word w is }

      module _ (no_row : begins row_word w ≡ false) where
        pub parsed_column : begins column_word w ≡ true → Parsed w Column
        unfolding call_in
        parsed_column is = record { means = line-is ∙ rw (no_verdict, no_row, is); inside = begins_long column_word w is }

        module _ (no-column : begins column_word w ≡ false) where
          pub parsed_open : begins open_word w ≡ true → (r : Line) → bytes_from r ≡ 0
              → line_means w r ≡ open_fields (up_to 32 (drop 5 w)) (past 32 (drop 5 w)) → Parsed w r
          unfolding call_in
          parsed_open is r from e = record { means = line-is ∙ rw (no_verdict, no_row, no-column, is) (sym e); inside = omega (arith, from) }

          module _ (no-open : begins open_word w ≡ false) where
            pub parsed_delivery : begins deliver_word w ≡ true → (r : Line) → bytes_from r ≤ length w
                → line_means w r ≡ deliver_fields (up_to 32 (drop 8 w)) (past 32 (drop 8 w)) → Parsed w r
            unfolding call_in
            parsed_delivery is r from e = record { means = line-is ∙ rw (no_verdict, no_row, no-column, no-open, is) (sym e); inside = from }

            module _ (no-deliver : begins deliver_word w ≡ false) where
              pub parsed_withdrawal : begins withdraw_word w ≡ true → (r : Line) → bytes_from r ≡ 0
                  → line_means w r ≡ withdraw_by (parse_number (take (length w - 9) (drop 9 w))) → Parsed w r
              unfolding call_in
              parsed_withdrawal is r from e = record {
                means = line-is ∙ rw (no_verdict, no_row, no-column, no-open, no-deliver, is) (sym (rw (to_the_end w 9) at e));
                inside = omega (arith, from);
              }

              pub parsed_other : begins withdraw_word w ≡ false → Parsed w Malformed
              unfolding call_in
              parsed_other is = record { means = line-is ∙ rw (no_verdict, no_row, no-column, no-open, no-deliver, is); inside = omega arith }
