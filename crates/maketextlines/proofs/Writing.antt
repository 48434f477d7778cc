-- What is written for a text that was made, or was not. Assumes nothing.
--
--   field-none, field_some   the ways out of `put_field`
--   field_most               the most bytes of the field of a text
--   byte_left, made_line     the line feed behind the field of a text that was made: its room, and the
--                            line
--   refused_line_lem         the line of a refusal
--   length_most              the text of a line is not too long
--   prefix                   a part of a list has its length
--   made_to, malformed_to    the ways out of `put_answer`
use mathlib.Core.Path.{◌≡◌, refl, sym, ◌∙◌, subst}
use mathlib.Core.List.{List, [], ◌∷◌, ◌++◌}
use mathlib.Core.Option.{Option, none, some}
use Prim.Native.Nat.{ℕ, ◌+◌, ◌≤◌, ◌<◌}
use native.Mathlib.Omega.{arith}
use lib.Dec.{leb}
use lib.ListN.{length, take}
use lib.Seq.{length-take-le}
use borrow.Author.Tests.{leb-true}
use Rattle.std.proofs.Common.{Ok, Err, Some, None}
use Rattle.base.specs.declared.Refusal.{Refusal}
use Rattle.base.specs.Answers.{refusal_number}
use Rattle.base.proofs.Tests.{by_test, zero_one}
use Rattle.text.specs.Writing.{Wrote}
use Rattle.text.proofs.Fitting.{Put, put, ◌then◌}
use Rattle.lines.specs.Splitting.{up_to, past}
use Rattle.answers.specs.Answers.{refused_text, malformed_text}
use Rattle.fields.specs.Numbers.{parse_number}
use Rattle.fields.specs.Claims.{digits_of, field_of}
use Rattle.hexfields.proofs.Digits.{digits_length}
use Rattle.madetexts.specs.Values.{made_text}
use Rattle.madetexts.specs.Making.{Makes}
use Rattle.maketextlines.specs.declared.TextLine.{TextLine}
use Rattle.maketextlines.specs.Lines.{Meaning, makes, up_to_most, makes_by, length_fields, seed_fields, line_in, line_means}
use Rattle.maketextlines.specs.Answers.{made_answer, answer_in, answer_to}

module _ {before : List ℕ} {at : ℕ} {after : List ℕ} {end : ℕ} where
  pub field-none : (bytes : List ℕ) → length bytes ≡ 0 → Wrote before at (45 ∷ []) after end → Wrote before at (field_of bytes) after end
  field-none [] e w = w
  field-none (x ∷ bytes) e w = absurd (omega (arith, e))

  pub field_some : (bytes : List ℕ) → (length bytes ≡ 0 → ⊥) → Wrote before at (digits_of bytes) after end → Wrote before at (field_of bytes) after end
  field_some [] e w = absurd (e refl)
  field_some (x ∷ bytes) e w = w

pub field_most : (b : List ℕ) → length b ≤ 65536 → length (field_of b) ≤ 131072
field_most [] h = omega arith
field_most (x ∷ b) h = omega (arith, digits_length (x ∷ b))

-- ---- `put_made`
module _ (b : List ℕ) {before : List ℕ} {at : ℕ} {mid : List ℕ} {e : ℕ} (room : at + 131073 ≤ length before) (short : length b ≤ 65536)
    (w : Wrote before at (field_of b) mid e) where
  first : Put before at (field_of b) mid e
  first = put (omega (arith, field_most b short)) w

  pub byte_left : e < length mid
  byte_left = omega (arith, first.kept, w.ends, field_most b short)

  both : {after : List ℕ} {f : ℕ} → Wrote mid e (10 ∷ []) after f → Wrote before at (field_of b ++ (10 ∷ [])) after f
  both v = (first then put (omega (arith, byte_left)) v).wrote

  pub made_line : (k seed : ℕ) (t : List ℕ) → Makes k seed t (Ok tt) b → {after : List ℕ} {f : ℕ}
      → Wrote mid e (10 ∷ []) after f → Wrote before at (made_answer k seed (length t)) after f
  made_line k seed t m {after} {f} v =
      let text : b ≡ made_text k seed (length t) = m.buffer ∙ rw (← m.answer) in
      rw (← m.answer) (subst (λ (u : List ℕ). Wrote before at (field_of u ++ (10 ∷ [])) after f) text (both v))

pub refused_line_lem : (k seed : ℕ) (t b : List ℕ) (x : Refusal) → Makes k seed t (Err x) b
    → {before : List ℕ} {at : ℕ} {after : List ℕ} {f : ℕ} → Wrote before at (refused_text (refusal_number x)) after f
    → Wrote before at (made_answer k seed (length t)) after f
refused_line_lem k seed t b x m v = rw (← m.answer) v

-- ---- `put_answer`
most_by : (k seed o : Option ℕ) (x y n : ℕ) → makes_by k seed (up_to_most 65536 o) ≡ makes x y n → n ≤ 65536
most_by none seed o x y n e = zero_one cc
most_by (some k) none o x y n e = zero_one cc
most_by (some k) (some seed) none x y n e = zero_one cc
most_by (some k) (some seed) (some m) x y n e =
    by_test (leb m 65536)
    (λ t. let h = leb-true m 65536 t in let same : m ≡ n = cc in omega arith)
    (λ t. zero_one cc)

most_fields : (k seed : List ℕ) (o : Option (List ℕ)) (x y n : ℕ) → length_fields k seed o ≡ makes x y n → n ≤ 65536
most_fields k seed none x y n e = zero_one cc
most_fields k seed (some w) x y n e = most_by (parse_number k) (parse_number seed) (parse_number w) x y n e

pub most_rest : (k : List ℕ) (o : Option (List ℕ)) (x y n : ℕ) → seed_fields k o ≡ makes x y n → n ≤ 65536
most_rest k none x y n e = zero_one cc
most_rest k (some w) x y n e = most_fields k (up_to 32 w) (past 32 w) x y n e

module _ (w : List ℕ) where
  pub length_most : (l : TextLine) → line_means (Some l) ≡ line_in w → l.length ≤ 65536
  unfolding line_in
  length_most l said = most_rest (up_to 32 w) (past 32 w) l.k l.seed l.length (sym said)

  module _ {before : List ℕ} {at : ℕ} {after : List ℕ} {f : ℕ} where
    pub made_to : (l : TextLine) → line_means (Some l) ≡ line_in w → (t : List ℕ) → length t ≡ l.length
        → Wrote before at (made_answer l.k l.seed (length t)) after f → Wrote before at (answer_to w) after f
    made_to l said t size v =
        subst (λ (m : Meaning). Wrote before at (answer_in m) after f) said
        (subst (λ (x : ℕ). Wrote before at (made_answer l.k l.seed x) after f) size v)

    pub malformed_to : line_means None ≡ line_in w → Wrote before at malformed_text after f → Wrote before at (answer_to w) after f
    malformed_to said v = subst (λ (m : Meaning). Wrote before at (answer_in m) after f) said v

pub prefix : (n : ℕ) (w : List ℕ) → n ≤ length w → n ≡ length (take n w)
prefix n w h = sym (length-take-le n w h)
