-- Machines that tell lines apart by their beginnings: of a line a buffer keeps the first bytes, and
-- a value what must be known of the rest (`longlines`).
--
--   Beginning           what is held of a line, and what the line's buffer has in it
--   state_of j held line   a machine's state, and what is kept of a line so
--   Teller J            what comes of a line, what comes of one with a stray byte beyond the room in
--                       which lines are told apart, that room, and the most bytes of an answer
--   by_beginning t      the machine that keeps lines so
--   held_step m j line held  what comes of the line that is held
--   Told t              on every state the lines are told apart by their first bytes and by what the
--                       rest is
--   KeepsLine room b w  the line's buffer is large enough for that, and it keeps w, the beginning of a
--                       line that earlier parts brought
use Rattle.std.specs.Prelude.{List, ℕ, ◌+◌, ◌≤◌, eqb, length}
use Rattle.longlines.specs.declared.Held.{Held}
use Rattle.longlines.specs.Holding.{line_begin, held_after, buffer_after, held_meaning}
use Rattle.longlines.specs.Claims.{Keeps, TellsWithin}
use Rattle.linetexts.specs.Feeding.{Outcome, LineMachine, State, keeping}

pub record Beginning : Type 0 where
  pub held : Held
  pub line : List ℕ

pub record Teller (J : Type 0) : Type 0 where
  pub step : J → List ℕ → Outcome J
  pub stray : J → Outcome J
  pub room : ℕ
  pub most : ℕ

abbrev pub beginning : Held → List ℕ → Beginning
beginning held line = record { held = held; line = line }

module _ {J : Type 0} where
  abbrev pub state_of : J → Held → List ℕ → State Beginning J
  state_of j held line = keeping j (beginning held line)

  abbrev pub by_beginning : Teller J → LineMachine Beginning J
  by_beginning t = record {
    step = t.step;
    begin = λ b. beginning line_begin b.line;
    more = λ b p. beginning (held_after b.line b.held p) (buffer_after b.line b.held p);
    empty = λ b. eqb b.held.length 0;
    kept = λ j b. held_meaning (t.step j) (t.stray j) b.line b.held;
    most = t.most;
  }

  abbrev pub held_step : LineMachine Beginning J → J → List ℕ → Held → Outcome J
  held_step m j line held = m.kept j (beginning held line)

  abbrev pub Told : Teller J → Type 0
  Told t = (j : J) → TellsWithin t.room (t.step j) (t.stray j)

pub record KeepsLine (room : ℕ) (b : Beginning) (w : List ℕ) : Type 0 where
  pub large : room + 1 ≤ length b.line
  pub keeps : Keeps b.line b.held w
