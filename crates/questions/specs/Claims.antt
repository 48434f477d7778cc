-- Which lines ask a question, and that no such line means anything in a recorded list; every question
-- has a line. proofs/Exact.antt proves it.
--
--   FitsQuestion q     the question q has a number of 64 bits and bytes that are bytes
--   question_line q    the line of the question q, without its line feed
--   SaysQuestion l q   the line l is the word of the question q and its fields, one space between them:
--                      the number with leading zeros or without, the bytes in either case
use Rattle.std.specs.Prelude.{◌≡◌, ◌↔◌, List, [], ◌∷◌, ◌++◌, ℕ, ◌≤◌}
use Rattle.std.proofs.Math.Option.{some}
use Rattle.limits.specs.Limits.{largest_number}
use Rattle.text.specs.Numerals.{decimal}
use Rattle.fields.specs.Claims.{AllBytes, field_of, SaysNumber, SaysBytes}
use Rattle.calls.specs.Calls.{Call}
use Rattle.calltext.specs.Meaning.{again, call, malformed, line_in}
use Rattle.calltext.specs.Claims.{SaysCall}
use Rattle.questions.specs.Meaning.{Question, diagnoses, locates, question, recorded, diagnose_word, locate_word, question_in, meaning_in}

abbrev pub FitsQuestion : Question → Type 0
FitsQuestion diagnoses = Unit {0}
FitsQuestion (locates p w) = (p ≤ largest_number) × AllBytes w

abbrev pub question_line : Question → List ℕ
question_line diagnoses = diagnose_word
question_line (locates p w) = locate_word ++ (decimal p ++ (32 ∷ field_of w))

abbrev pub SaysQuestion : List ℕ → Question → Type 0
SaysQuestion l diagnoses = l ≡ diagnose_word
SaysQuestion l (locates p w) = (x y : List ℕ) × (l ≡ locate_word ++ (x ++ (32 ∷ y))) × SaysNumber x p × SaysBytes y w

pub record Claims : Type 0 where
  -- which lines ask a question, mean a call, begin afresh; any other is malformed
  pub question_exactly : (l : List ℕ) (q : Question) → (meaning_in l ≡ question q) ↔ SaysQuestion l q
  pub call_exactly : (l : List ℕ) (c : Call) → (meaning_in l ≡ recorded (call c)) ↔ SaysCall l c
  pub again_exactly : (l : List ℕ) → (meaning_in l ≡ recorded again) ↔ (l ≡ [])
  pub malformed_exactly : (l : List ℕ) → (meaning_in l ≡ recorded malformed)
      ↔ ((l ≡ [] → ⊥) × ((c : Call) → SaysCall l c → ⊥) × ((q : Question) → SaysQuestion l q → ⊥))
  -- no line is both: a question is malformed in a recorded list
  pub not_recorded : (l : List ℕ) (q : Question) → question_in l ≡ some q → line_in l ≡ malformed
  -- every question has a line
  pub question_round_trip : (q : Question) → FitsQuestion q → meaning_in (question_line q) ≡ question q
