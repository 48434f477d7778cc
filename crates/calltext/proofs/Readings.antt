-- What the ways through `parse` come to. Assumes nothing.
use mathlib.Core.Path.{◌≡◌, refl, sym, ap, ◌∙◌}
use mathlib.Core.Bool.{Bool, true, false, true≢false}
use mathlib.Core.List.{List}
use mathlib.Core.Option.{Option, none, some}
use Prim.Native.Nat.{ℕ, suc, ◌+◌, ◌-◌, ◌≤◌, ◌<◌}
use native.Mathlib.Omega.{arith}
use borrow.Author.Tests.{eq-eqb, ne_eqb, ltb-true, ltb-false, le-leb, lt-leb}
use lib.Dec.{ltb}
use lib.ListN.{length, take, drop, length-drop}
use lib.Seq.{take_all, drop-drop}
use Rattle.base.proofs.Tests.{by_test}
use Rattle.lines.specs.Splitting.{begins, up_to, past}
use Rattle.lines.proofs.Splits.{begins_short, up_take, past_there, past_none}
use Rattle.std.proofs.Common.{Some, None}
use Rattle.std.proofs.Common as code
use Rattle.base.specs.Options.{option_of}
use Rattle.fields.specs.Numbers.{parse_number}
use Rattle.fields.specs.Bytes.{parse_bytes}
use Rattle.calls.specs.Calls.{opens, withdraws}
use Rattle.calltext.specs.declared.Line.{Line}
use Rattle.calltext.specs.declared.Line.TheVariants.{Empty, Load, Install, Verdict, Malformed}
use Rattle.calltext.specs.Meaning.{Meaning, call, malformed, load_word, install_word, open_word, deliver_word, withdraw_word, verdict_word, open_by, withdraw_by, deliver_by, revision_fields, deliver_fields, call_in, line_in, line_means, bytes_from, Parsed}

-- ---- the number of an opening and of a withdrawal
module _ (field : List ℕ) (x : code.Option ℕ) (said : option_of x ≡ parse_number field) where
  pub open_value : (n : ℕ) → x ≡ Some n → call (opens n) ≡ open_by (parse_number field)
  open_value n e = ap open_by (sym (ap option_of e) ∙ said)

  pub open_malformed : x ≡ None → malformed ≡ open_by (parse_number field)
  open_malformed e = ap open_by (sym (ap option_of e) ∙ said)

  pub withdraw_value : (p : ℕ) → x ≡ Some p → call (withdraws p) ≡ withdraw_by (parse_number field)
  withdraw_value p e = ap withdraw_by (sym (ap option_of e) ∙ said)

  pub withdraw_malformed : x ≡ None → malformed ≡ withdraw_by (parse_number field)
  withdraw_malformed e = ap withdraw_by (sym (ap option_of e) ∙ said)

-- ---- the fields of a delivery
pub no_place : (v : List ℕ) (o : Option (List ℕ)) → revision_fields none v o ≡ malformed
no_place v none = refl
no_place v (some w) = refl

pub bad_revision : (p : Option ℕ) (bytes : Option (List ℕ)) → deliver_by p none bytes ≡ malformed
bad_revision none bytes = refl
bad_revision (some p) bytes = refl

-- `space` is the index of the first space from `from` on
module _ (w : List ℕ) (from : ℕ) (long : from ≤ length w) (space : ℕ) (found : space ≡ from + length (up_to 32 (drop from w))) where
  rest_length : length (drop from w) + from ≡ length w
  rest_length = omega (arith, length-drop from w)

  pub none_behind : length w ≤ space → past 32 (drop from w) ≡ none
  none_behind l = past_none 32 (drop from w) (omega (arith, rest_length))

  pub deliver_alone : length w ≤ space → malformed ≡ deliver_fields (up_to 32 (drop from w)) (past 32 (drop from w))
  deliver_alone l = rw (none_behind l)

  pub revision_alone : (p : ℕ) → length w ≤ space → malformed ≡ revision_fields (some p) (up_to 32 (drop from w)) (past 32 (drop from w))
  revision_alone p l = rw (none_behind l)

  module _ (here : space < length w) where
    part_is : take (space - from) (drop from w) ≡ up_to 32 (drop from w)
    part_is =
        let size : space - from ≡ length (up_to 32 (drop from w)) = omega (arith, found) in
        ap (λ (x : ℕ). take x (drop from w)) size ∙ sym (up_take 32 (drop from w))

    pub behind_is : past 32 (drop from w) ≡ some (drop (space + 1) w)
    behind_is =
        let m = length (up_to 32 (drop from w)) in
        let next : from + suc m ≡ space + 1 = omega (arith, found) in
        past_there 32 (drop from w) (omega (arith, rest_length))
        ∙ ap (λ (l : List ℕ). some l) (drop-drop (suc m) from w ∙ ap (λ (x : ℕ). drop x w) next)

    module _ (x : code.Option ℕ) (said : option_of x ≡ parse_number (take (space - from) (drop from w))) where
      pub says : (o : Option ℕ) → option_of x ≡ o → parse_number (up_to 32 (drop from w)) ≡ o
      says o e = sym (said ∙ ap parse_number part_is) ∙ e

      pub deliver_on : (p : ℕ) → x ≡ Some p → (m : Meaning) → m ≡ revision_fields (some p) (up_to 32 (drop (space + 1) w)) (past 32 (drop (space + 1) w))
          → m ≡ deliver_fields (up_to 32 (drop from w)) (past 32 (drop from w))
      deliver_on p e m l = rw (behind_is, says (some p) (ap option_of e)) l

      pub deliver_malformed : x ≡ None → malformed ≡ deliver_fields (up_to 32 (drop from w)) (past 32 (drop from w))
      deliver_malformed e = rw (behind_is, says none (ap option_of e)) (sym (no_place (up_to 32 (drop (space + 1) w)) (past 32 (drop (space + 1) w))))

      module _ (p : ℕ) where
        pub revision_malformed : x ≡ None → malformed ≡ revision_fields (some p) (up_to 32 (drop from w)) (past 32 (drop from w))
        revision_malformed e = rw (behind_is, says none (ap option_of e))

        pub revision_large : (v : ℕ) → x ≡ Some v → 4294967295 < v → malformed ≡ revision_fields (some p) (up_to 32 (drop from w)) (past 32 (drop from w))
        revision_large v e h = rw (behind_is, says (some v) (ap option_of e), lt-leb v 4294967295 h)

        pub revision_value : (v : ℕ) → x ≡ Some v → v ≤ 4294967295
            → deliver_by (some p) (some v) (parse_bytes (drop (space + 1) w)) ≡ revision_fields (some p) (up_to 32 (drop from w)) (past 32 (drop from w))
        revision_value v e h = rw (behind_is, says (some v) (ap option_of e), le-leb v 4294967295 h)

-- a part of a line up to its end
pub to_the_end : (w : List ℕ) (from : ℕ) → take (length w - from) (drop from w) ≡ drop from w
to_the_end w from = take_all (length w - from) (drop from w) (omega (arith, length-drop from w))

-- what a test found
pub told : {b t x : Bool} → b ≡ x → b ≡ t → x ≡ t
told is found = sym is ∙ found

-- a text that begins with the head is no shorter
pub begins_long : (h w : List ℕ) → begins h w ≡ true → length h ≤ length w
begins_long h w e =
    by_test (ltb (length w) (length h))
    (λ l. absurd (true≢false (sym e ∙ begins_short h w (ltb-true (length w) (length h) l))))
    (λ l. ltb-false (length w) (length h) l)

module _ (w : List ℕ) where
  pub long_open : begins open_word w ≡ true → 5 ≤ length w
  long_open e = begins_long open_word w e

  pub long_deliver : begins deliver_word w ≡ true → 8 ≤ length w
  long_deliver e = begins_long deliver_word w e

  pub long_withdraw : begins withdraw_word w ≡ true → 9 ≤ length w
  long_withdraw e = begins_long withdraw_word w e

  pub parsed_empty : length w ≡ 0 → Parsed w Empty
  parsed_empty e = record { means = rw (eq-eqb (length w) 0 e); inside = omega arith }

  module _ (some_byte : length w ≡ 0 → ⊥) where
    line-is : line_in w ≡ call_in w
    line-is = rw (ne_eqb (length w) 0 some_byte)

    module _ (is : begins verdict_word w ≡ true) where
      pub parsed_verdict : length w ≡ 7 → Parsed w Verdict
      unfolding call_in
      parsed_verdict e = record { means = line-is ∙ rw (is, eq-eqb (length w) 7 e); inside = omega arith }

      pub parsed_more : (length w ≡ 7 → ⊥) → Parsed w Malformed
      unfolding call_in
      parsed_more e = record { means = line-is ∙ rw (is, ne_eqb (length w) 7 e); inside = omega arith }

    module _ (no_verdict : begins verdict_word w ≡ false) where
      pub parsed_load : begins load_word w ≡ true → Parsed w Load
      unfolding call_in
      parsed_load is = record { means = line-is ∙ rw (no_verdict, is); inside = begins_long load_word w is }

      module _ (no-load : begins load_word w ≡ false) where
        pub parsed_install : begins install_word w ≡ true → Parsed w Install
        unfolding call_in
        parsed_install is = record { means = line-is ∙ rw (no_verdict, no-load, is); inside = begins_long install_word w is }

        module _ (no-install : begins install_word w ≡ false) where
          pub parsed_open : begins open_word w ≡ true → (r : Line) → bytes_from r ≡ 0 → line_means w r ≡ open_by (parse_number (take (length w - 5) (drop 5 w))) → Parsed w r
          unfolding call_in
          parsed_open is r from e = record { means = line-is ∙ rw (no_verdict, no-load, no-install, is) (sym (rw (to_the_end w 5) at e)); inside = omega (arith, from) }

          module _ (no-open : begins open_word w ≡ false) where
            pub parsed_delivery : begins deliver_word w ≡ true → (r : Line) → bytes_from r ≤ length w
                → line_means w r ≡ deliver_fields (up_to 32 (drop 8 w)) (past 32 (drop 8 w)) → Parsed w r
            unfolding call_in
            parsed_delivery is r from e = record { means = line-is ∙ rw (no_verdict, no-load, no-install, no-open, is) (sym e); inside = from }

            module _ (no-deliver : begins deliver_word w ≡ false) where
              pub parsed_withdrawal : begins withdraw_word w ≡ true → (r : Line) → bytes_from r ≡ 0
                  → line_means w r ≡ withdraw_by (parse_number (take (length w - 9) (drop 9 w))) → Parsed w r
              unfolding call_in
              parsed_withdrawal is r from e = record {
                means = line-is ∙ rw (no_verdict, no-load, no-install, no-open, no-deliver, is) (sym (rw (to_the_end w 9) at e));
                inside = omega (arith, from);
              }

              pub parsed_other : begins withdraw_word w ≡ false → Parsed w Malformed
              unfolding call_in
              parsed_other is = record { means = line-is ∙ rw (no_verdict, no-load, no-install, no-open, no-deliver, is); inside = omega arith }
