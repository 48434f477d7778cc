-- What holds of the calls on any state whatever.
--
--   Unchanged         demand 1: a refusal changes nothing. proofs/Refusing.antt proves it
--   AsInstalling      a call that takes a rule as a value first gives 3, 4, 6 or 8 as installing
--                     would: by `rule_number`. proofs/Loading.antt proves it
--   LoadIs j f        a load of the file f on the state j is reading it and, where that accepts,
--                     installing its rule (document 02, R-3). proofs/Loading.antt proves it
--   Divided c b r     the report r has the bytes b, and the quotient and remainder of the count c
--                     by them (document 02, R-1)
--   ThreeZeros r      it has none of the three
--   ReportLaw         what `report_by` gives. proofs/Reporting.antt proves it
--   ForeignByte w k   some byte of the chunk w is neither an idle mark nor a symbol below k
--   ForeignExactly    the condition of 13 holds exactly then. proofs/Foreign.antt proves it
--   MarksSkipped      a delivery has the outcome of delivering its text, but for 12 (document 02,
--                     R-5). proofs/MarksSkipped.antt proves it
use Rattle.std.specs.Prelude.{◌≡◌, ◌↔◌, ◌⊎◌, true, List, ℕ, ◌+◌, ◌*◌, ◌<◌, ◌≤◌, length, get_or}
use Rattle.std.proofs.Math.Option.{none, some}
use Rattle.limits.specs.Limits.{longest_chunk}
use Rattle.marks.specs.Marks.{idle_mark, text_of}
use Rattle.automaton.specs.declared.Rule.{Rule}
use Rattle.rulecheck.specs.Checking.{rule_number}
use Rattle.ruleformat.specs.Reader.{rule_of, read_of}
use Rattle.chunks.specs.Chunks.{foreign}
use Rattle.calls.specs.declared.Judge.{Judge}
use Rattle.calls.specs.Replies.{Judgement, waiting, yes_with, no_with, refused_with, Reported, refused, refusal_of}
use Rattle.calls.specs.Calls.{Call, installs, loads, delivers, install_number, report_by}
use Rattle.calls.specs.mirror.Steps.{step_of}

-- (File and chunk are lent as `&[u8]`, which no function can write.)
abbrev pub Unchanged : Type 0
Unchanged = (j : Judge) (c : Call) (x : ℕ) → refusal_of (step_of j c).reply ≡ some x → (step_of j c).state ≡ j

abbrev pub AsInstalling : Type 0
AsInstalling = (r : Rule) (x : ℕ) → rule_number r ≡ some x → install_number r ≡ some x

pub record LoadIs (j : Judge) (f : List ℕ) : Type 0 where
  -- a file that reading refuses: the same number, and nothing changes
  pub unread : (x : ℕ) → (read_of f).number ≡ some x → step_of j (loads f) ≡ record { reply = refused x; state = j }
  -- a file that it accepts: the outcome of installing the rule in it, which is the value that it
  -- answers (`ReadLaw` of crates/ruleformat)
  pub installed : (read_of f).number ≡ none → step_of j (loads f) ≡ step_of j (installs (rule_of f))

-- count = quotient × bytes + remainder, remainder below bytes; for a text of 0 bytes both are 0
pub record Divided (count bytes : ℕ) (r : Reported) : Type 0 where
  pub bytes_are : r.bytes ≡ bytes
  pub whole : 0 < bytes → count ≡ r.quotient * bytes + r.remainder
  pub below : 0 < bytes → r.remainder < bytes
  pub no_bytes : bytes ≡ 0 → (r.quotient ≡ 0) × (r.remainder ≡ 0)

abbrev pub ThreeZeros : Reported → Type 0
ThreeZeros r = (r.bytes ≡ 0) × (r.quotient ≡ 0) × (r.remainder ≡ 0)

pub record ReportLaw (v : Judgement) (bytes : ℕ) : Type 0 where
  pub verdict : (report_by v bytes).verdict ≡ v
  -- beside yes or no
  pub divided : (count : ℕ) → (v ≡ yes_with count) ⊎ (v ≡ no_with count) → Divided count bytes (report_by v bytes)
  -- beside waiting or a refusal
  pub zeros : (x : ℕ) → (v ≡ waiting x) ⊎ (v ≡ refused_with x) → ThreeZeros (report_by v bytes)

abbrev pub ForeignByte : List ℕ → ℕ → Type 0
ForeignByte w k = (i : ℕ) × (i < length w) × (get_or w i 0 ≡ idle_mark → ⊥) × (k ≤ get_or w i 0)

abbrev pub ForeignExactly : Type 0
ForeignExactly = (w : List ℕ) (k : ℕ) → (foreign (text_of w) k ≡ true) ↔ ForeignByte w k

pub record MarksSkipped (j : Judge) (p v : ℕ) (w : List ℕ) : Type 0 where
  -- a chunk within the limit: the same reply and the same judge with and without its idle marks
  pub within : length w ≤ longest_chunk → step_of j (delivers p v w) ≡ step_of j (delivers p v (text_of w))
  -- "Chunk length limits still count every byte": a longer one is refused with 12 or an earlier
  -- number, whatever its text, and nothing changes
  pub too_long : longest_chunk < length w
      → (x : ℕ) × (step_of j (delivers p v w) ≡ record { reply = refused x; state = j }) × ((x ≡ 21) ⊎ (x ≡ 11) ⊎ (x ≡ 12))
