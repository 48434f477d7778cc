-- A text of lines that comes in blocks, cut anywhere, to any machine that has a state, keeps a line
-- that goes on, and answers lines: what feeding it comes to, on any state and whatever is kept,
-- whether a line led to it or not. specs/Claims.antt says what it comes to where a line is kept.
--
--   Outcome J         what came of a line: its answer's text, and the state that it leaves
--   LineMachine K J   a machine with states J that keeps in K a line that comes in pieces:
--     step              what comes of a line
--     begin, more       what is kept where the next line begins, and with a piece more
--     empty             nothing of a line is kept
--     kept              what comes of the line that is kept
--     most              the most bytes of an answer
--   State K J         the machine's state, and what is kept of a line
--   Step K J          the outcome of a call: the state that it leaves, and what it answered
--   go_on m s p       the line that is kept goes on with the piece p
--   quiet s           nothing is answered
--   answered_by m s o  what came of the line is answered, and the next line begins
--   answer_kept m s   the line that is kept is run and answered
--   feed_part m s p   the outcome of feeding a part
--   finish_of m s     the outcome of the end of the text: a last line is answered if it is not
--                     empty
--   feed_parts m s ps  the state after feeding the parts ps
--   parts_text m s ps  all that is answered to them
--   Gathering K J     what feeding parts came to until the room for answers ran short: the state
--                     that is left, all that was answered, and how many bytes of the block were
--                     taken
--   stop s            nothing is fed
--   onward t n g      a part of n bytes came to t, and the parts behind it to g
--   gather_parts m room s ps     feeding the parts while the room that is left has space for the
--                                longest answer
--   gather_at m block at room s  the same of the parts of a block from an index on
--   Gathers           what the results of such a function and its buffers tell: the state, the
--                     answers at the start of their buffer, and where the next part begins
use Rattle.std.specs.Prelude.{◌≡◌, Bool, cond, List, [], ◌∷◌, ◌++◌, ℕ, ◌+◌, ◌-◌, ltb, length, drop}
use Rattle.text.specs.Writing.{Wrote}
use Rattle.linetexts.specs.Parts.{Part, ends, goes_on, parts_of, part_size}

pub record Outcome (J : Type 0) : Type 0 where
  pub text : List ℕ
  pub state : J

pub record LineMachine (K J : Type 0) : Type 0 where
  pub step : J → List ℕ → Outcome J
  pub begin : K → K
  pub more : K → List ℕ → K
  pub empty : K → Bool
  pub kept : J → K → Outcome J
  pub most : ℕ

pub record State (K J : Type 0) : Type 0 where
  pub machine : J
  pub kept : K

pub record Step (K J : Type 0) : Type 0 where
  pub state : State K J
  pub text : List ℕ

pub record Gathering (K J : Type 0) : Type 0 where
  pub state : State K J
  pub text : List ℕ
  pub taken : ℕ

module _ {K J : Type 0} where
  abbrev pub keeping : J → K → State K J
  keeping j k = record { machine = j; kept = k }

  abbrev pub quiet : State K J → Step K J
  quiet s = record { state = s; text = [] }

  -- ---- as many parts as there is room to answer
  abbrev pub stop : State K J → Gathering K J
  stop s = record { state = s; text = []; taken = 0 }

  abbrev pub onward : Step K J → ℕ → Gathering K J → Gathering K J
  onward t n g = record { state = g.state; text = t.text ++ g.text; taken = n + g.taken }

  pub record Gathers (g : Gathering K J) (at : ℕ) (s : State K J) (next written : ℕ) (before after : List ℕ) : Type 0 where
    pub state : s ≡ g.state
    pub response : Wrote before 0 g.text after written
    pub place : next ≡ at + g.taken

module _ {K J : Type 0} (m : LineMachine K J) where
  -- ---- a line
  abbrev pub go_on : State K J → List ℕ → State K J
  go_on s p = keeping s.machine (m.more s.kept p)

  abbrev pub answered_by : State K J → Outcome J → Step K J
  answered_by s o = record { state = keeping o.state (m.begin s.kept); text = o.text }

  unfoldable pub answer_kept : State K J → Step K J
  answer_kept s = answered_by s (m.kept s.machine s.kept)

  -- ---- the calls
  abbrev pub feed_part : State K J → Part → Step K J
  feed_part s (ends p) = answer_kept (go_on s p)
  feed_part s (goes_on p) = quiet (go_on s p)

  abbrev pub finish_of : State K J → Step K J
  finish_of s = cond (m.empty s.kept) (quiet (keeping s.machine (m.begin s.kept))) (answer_kept s)

  unfoldable pub feed_parts : State K J → List Part → State K J
  feed_parts s [] = s
  feed_parts s (p ∷ ps) = feed_parts (feed_part s p).state ps

  unfoldable pub parts_text : State K J → List Part → List ℕ
  parts_text s [] = []
  parts_text s (p ∷ ps) = (feed_part s p).text ++ parts_text (feed_part s p).state ps

  unfoldable pub gather_parts : ℕ → State K J → List Part → Gathering K J
  gather_parts room s [] = stop s
  gather_parts room s (p ∷ ps) =
      let t = feed_part s p in
      cond (ltb room m.most) (stop s)
      (onward t (part_size p) (gather_parts (room - length t.text) t.state ps))

  abbrev pub gather_at : List ℕ → ℕ → ℕ → State K J → Gathering K J
  gather_at block at room s = gather_parts room s (parts_of (drop at block))
