-- What a line of a text of calls means: `diagnose` and `locate P HEX`, with exactly one space between
-- the fields, ask a question; any other line means what it means in a recorded list of calls. A record
-- is a list of calls (crates/replay): a question in it is malformed.
--
--   Question           what is asked; nothing is changed
--     diagnoses        at which place the trace is lost, or how far it is there
--     locates p w      after how many bytes of the chunk w, at place p, it is lost
--   LineMeaning        of a line of a text
--     question q       the question q is asked
--     recorded m       it means m, as in a recorded list: a fresh judge, a call, or nothing
--   …-word             the word with which a line begins
--   is_word h w        the line w is the word h
--   locate_by, locate_fields  the question, from what the fields say
--   question_in w      the question that the line w asks, if it asks one
--   meaning_in w       what the line w means
--   query_means w q, text_means w r  what each case of the code's answer says of the line w
--   query_from q, text_from r       the index from which on the bytes are still to be read
--   Parsed w r         r is the right answer for the line w
use Rattle.std.specs.Prelude.{◌≡◌, Bool, cond, ◌&&◌, List, [], ◌∷◌, ℕ, ◌≤◌, eqb, length, drop}
use Rattle.std.proofs.Math.Option.{Option, none, some}
use Rattle.lines.specs.Splitting.{begins, up_to, past}
use Rattle.fields.specs.Numbers.{parse_number}
use Rattle.fields.specs.Bytes.{parse_bytes}
use Rattle.calls.specs.Calls.{asks_verdict}
use Rattle.calltext.specs.Meaning.{Meaning, call, malformed, line_in, line_means, bytes_from}
use Rattle.questions.specs.declared.Query.{Query}
use Rattle.questions.specs.declared.Query.TheVariants.{Diagnose, Locate}
use Rattle.questions.specs.declared.TextLine.{TextLine}
use Rattle.questions.specs.declared.TextLine.TheVariants.{Verdict, Asks, Runs}

pub data Question : Type 0 where
  diagnoses : Question
  locates : ℕ → List ℕ → Question

pub data LineMeaning : Type 0 where
  question : Question → LineMeaning
  recorded : Meaning → LineMeaning

abbrev pub diagnose_word : List ℕ
diagnose_word = 100 ∷ 105 ∷ 97 ∷ 103 ∷ 110 ∷ 111 ∷ 115 ∷ 101 ∷ []

-- with the space behind it
abbrev pub locate_word : List ℕ
locate_word = 108 ∷ 111 ∷ 99 ∷ 97 ∷ 116 ∷ 101 ∷ 32 ∷ []

abbrev pub is_word : List ℕ → List ℕ → Bool
is_word h w = begins h w && eqb (length w) (length h)

-- the place and the bytes
abbrev pub locate_by : Option ℕ → Option (List ℕ) → Option Question
locate_by none bytes = none
locate_by (some p) none = none
locate_by (some p) (some w) = some (locates p w)

-- a place, and behind one space the bytes
abbrev pub locate_fields : List ℕ → Option (List ℕ) → Option Question
locate_fields p none = none
locate_fields p (some w) = locate_by (parse_number p) (parse_bytes w)

unfoldable pub question_in : List ℕ → Option Question
question_in w =
    cond (is_word diagnose_word w) (some diagnoses)
    (cond (begins locate_word w) (locate_fields (up_to 32 (drop 7 w)) (past 32 (drop 7 w))) none)

abbrev pub meaning_by : Option Question → Meaning → LineMeaning
meaning_by none m = recorded m
meaning_by (some q) m = question q

abbrev pub meaning_in : List ℕ → LineMeaning
meaning_in w = meaning_by (question_in w) (line_in w)

-- ---- what the code answers. The bytes of a chunk are still to be read, from an index on
abbrev pub query_means : List ℕ → Query → LineMeaning
query_means w Diagnose = question diagnoses
query_means w (Locate p from) = meaning_by (locate_by (some p) (parse_bytes (drop from w))) malformed

abbrev pub text_means : List ℕ → TextLine → LineMeaning
text_means w Verdict = recorded (call asks_verdict)
text_means w (Asks q) = query_means w q
text_means w (Runs x) = recorded (line_means w x)

abbrev pub query_from : Query → ℕ
query_from Diagnose = 0
query_from (Locate p from) = from

abbrev pub text_from : TextLine → ℕ
text_from Verdict = 0
text_from (Asks q) = query_from q
text_from (Runs x) = bytes_from x

pub record Parsed (w : List ℕ) (r : TextLine) : Type 0 where
  pub means : meaning_in w ≡ text_means w r
  pub inside : text_from r ≤ length w
