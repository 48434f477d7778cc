-- Lists of lines that follow one another, each up to an empty line. A MALFORMED LINE ENDS ITS LIST:
-- after it nothing is run, and each line is answered `skipped`, whatever it says, until an empty line
-- begins afresh. So where a line was cut, nothing behind the cut is answered as if it were whole.
--
--   Listed J           a machine's state, and whether a malformed line ended the list
--   list_of j ended     such a state
--   ListMachine J      what comes of a line in a list that goes on, and what of one with a stray byte
--                      beyond the room in which lines are told apart, that room, and the most bytes of
--                      an answer
--   is_line w           the line w is not empty
--   skip s             the outcome of a line that is skipped
--   list_teller m      the machine that answers lists of lines, by what it tells lines apart
--   list_lines m       the same, as it keeps a line
--   skips_held ended line held  the line that is held is skipped
--   text_state j p line  what is left between the blocks of a text, from what the code keeps of it
--   list_text          the right answers to the lines of a text: `begin` is what is known where a list
--                      begins, `answer h l` the answer to the line l where h is known, and `next h l`
--                      what is known after it, nothing where the line is malformed
--   NoneEmpty ls       none of the lines is empty
--   skipped_lines ls   `skipped` for each of the lines
--   Ends               what a malformed line does, in other words
use Rattle.std.specs.Prelude.{◌≡◌, Bool, true, false, cond, ◌&&◌, List, [], ◌∷◌, ◌++◌, ℕ}
use Rattle.std.proofs.Math.Option.{Option, none, some}
use Rattle.answers.specs.Answers.{skipped_text}
use Rattle.longlines.specs.declared.Held.{Held}
use Rattle.longlines.specs.Holding.{held_meaning}
use Rattle.linetexts.specs.declared.Pending.{Pending}
use Rattle.linetexts.specs.Feeding.{Outcome, LineMachine, State}
use Rattle.linetexts.specs.Beginnings.{Beginning, state_of, Teller, by_beginning}

pub record Listed (J : Type 0) : Type 0 where
  pub machine : J
  pub ended : Bool

pub record ListMachine (J : Type 0) : Type 0 where
  pub step : J → List ℕ → Outcome (Listed J)
  pub stray : J → Outcome (Listed J)
  pub room : ℕ
  pub most : ℕ

abbrev pub is_line : List ℕ → Bool
is_line [] = false
is_line (x ∷ w) = true

module _ {J : Type 0} where
  abbrev pub list_of : J → Bool → Listed J
  list_of j ended = record { machine = j; ended = ended }

  abbrev pub skip : Listed J → Outcome (Listed J)
  skip s = record { text = skipped_text; state = s }

  abbrev pub list_teller : ListMachine J → Teller (Listed J)
  list_teller m = record {
    step = λ s w. cond (s.ended && is_line w) (skip s) (m.step s.machine w);
    stray = λ s. cond s.ended (skip s) (m.stray s.machine);
    room = m.room;
    most = m.most;
  }

  abbrev pub list_lines : ListMachine J → LineMachine Beginning (Listed J)
  list_lines m = by_beginning (list_teller m)

  abbrev pub text_state : J → Pending → List ℕ → State Beginning (Listed J)
  text_state j p line = state_of (list_of j p.ended) p.held line

abbrev pub skips_held : Bool → List ℕ → Held → Bool
skips_held ended line held = ended && held_meaning is_line true line held

-- ---- the right answers
module _ {H : Type 0} (begin : H) (answer : H → List ℕ → List ℕ) (next : H → List ℕ → Option H) where
  unfoldable pub list_text : Option H → List (List ℕ) → List ℕ
  list_text h [] = []
  list_text (some h) (l ∷ ls) = answer h l ++ list_text (next h l) ls
  list_text none ([] ∷ ls) = (10 ∷ []) ++ list_text (some begin) ls
  list_text none ((x ∷ l) ∷ ls) = skipped_text ++ list_text none ls

pub data NoneEmpty : List (List ℕ) → Type 0 where
  no_line : NoneEmpty []
  one_more : {x : ℕ} {l : List ℕ} {ls : List (List ℕ)} → NoneEmpty ls → NoneEmpty ((x ∷ l) ∷ ls)

unfoldable pub skipped_lines : List (List ℕ) → List ℕ
skipped_lines [] = []
skipped_lines (l ∷ ls) = skipped_text ++ skipped_lines ls

-- after a malformed line every line is answered `skipped`, up to an empty line or the end; the empty
-- line begins afresh, whatever was before it
pub record Ends {H : Type 0} (begin : H) (answer : H → List ℕ → List ℕ) (next : H → List ℕ → Option H) : Type 0 where
  pub rest : (h : H) (l : List ℕ) (ls : List (List ℕ)) → next h l ≡ none → NoneEmpty ls
      → list_text begin answer next (some h) (l ∷ ls) ≡ answer h l ++ skipped_lines ls
  pub afresh : (h : H) (l : List ℕ) (ls more : List (List ℕ)) → next h l ≡ none → NoneEmpty ls
      → list_text begin answer next (some h) ((l ∷ ls) ++ ([] ∷ more))
      ≡ answer h l ++ (skipped_lines ls ++ ((10 ∷ []) ++ list_text begin answer next (some begin) more))
