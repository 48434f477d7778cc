-- Lines that stand alone: a machine without a state answers each by itself.
--
--   alone answer j w      what comes of the line w, by its answer
--   answer_teller answer bad longest most  such a machine, where every line that is longer than
--                         `longest` is answered `bad`: so lines are told apart by their beginnings
--   answering ..          the same, as it keeps a line
--   line_state held line  what is left between the blocks of a text
--   FedLines m ..         what a function that gathers tells of such a machine: the line, the answers
--                         at the start of their buffer, and where the next part begins
--   answers_to answer ls  the answers to lines, one after the other
--   Answers m answer Keeps   every text is answered right by a machine that keeps lines so:
--     whole                 what is answered to blocks, fed one after the other, and to the end
--     written               all that is written, round by round, block by block, and at the end
--     fed                   the same through functions that may do what is promised and no more
use Rattle.std.specs.Prelude.{◌≡◌, ℕ, ◌+◌, length, take}
use mathlib.Core.List.{List, [], ◌∷◌, ◌++◌, flatten}
use Rattle.lines.specs.Splitting.{lines_of}
use Rattle.longlines.specs.declared.Held.{Held}
use Rattle.linetexts.specs.declared.Round.{Round}
use Rattle.linetexts.specs.Feeding.{Outcome, LineMachine, State, keeping, finish_of, gather_at, Gathers}
use Rattle.linetexts.specs.Beginnings.{Beginning, state_of, Teller, by_beginning}
use Rattle.linetexts.specs.Claims.{stream_of, Blocks}
use Rattle.linetexts.specs.Functions.{Promised, Ended, FedBlocks}

abbrev pub alone : (List ℕ → List ℕ) → Unit {0} → List ℕ → Outcome (Unit {0})
alone answer j w = record { text = answer w; state = j }

abbrev pub answer_teller : (List ℕ → List ℕ) → List ℕ → ℕ → ℕ → Teller (Unit {0})
answer_teller answer bad longest most = record {
  step = alone answer;
  stray = λ j. record { text = bad; state = j };
  room = longest + 1;
  most = most;
}

abbrev pub answering : (List ℕ → List ℕ) → List ℕ → ℕ → ℕ → LineMachine Beginning (Unit {0})
answering answer bad longest most = by_beginning (answer_teller answer bad longest most)

abbrev pub line_state : Held → List ℕ → State Beginning (Unit {0})
line_state held line = state_of tt held line

abbrev pub FedLines : LineMachine Beginning (Unit {0}) → Held → List ℕ → List ℕ → List ℕ → ℕ → List ℕ → List ℕ → Round → Type 0
FedLines m held line out block from line_after out-after r =
    Gathers (gather_at m block from (length out) (line_state held line)) from (line_state r.held line_after) r.at r.written out out-after

unfoldable pub answers_to : (List ℕ → List ℕ) → List (List ℕ) → List ℕ
answers_to answer [] = []
answers_to answer (line ∷ lines) = answer line ++ answers_to answer lines

pub record Answers {K : Type 0} (m : LineMachine K (Unit {0})) (answer : List ℕ → List ℕ) (Keeps : K → List ℕ → Type 0) : Type 0 where
  pub whole : (blocks : List (List ℕ)) (k : K) → Keeps k [] → (stream_of m (keeping tt k) blocks).text ≡ answers_to answer (lines_of (flatten blocks))
  pub written : {s : State K (Unit {0})} {blocks : List (List ℕ)} {k : K} {text : List ℕ} → Keeps k []
      → Blocks m (keeping tt k) blocks s text → text ++ (finish_of m s).text ≡ answers_to answer (lines_of (flatten blocks))
  pub fed : {s : State K (Unit {0})} {blocks : List (List ℕ)} {k : K} {text before after : List ℕ} {n : ℕ} → Keeps k []
      → FedBlocks (Promised m) (keeping tt k) blocks s text → Ended m s before n after
      → text ++ take n after ≡ answers_to answer (lines_of (flatten blocks))
