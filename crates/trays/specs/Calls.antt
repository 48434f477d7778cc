-- The calls of a tray (document 02, R-13), and the conditions for a refusal of each in its order. A
-- call is refused with the number of the first condition that holds, and accepted where none does.
-- The conditions stand over what a call looks at, so that they serve for a state and for a list of
-- calls. Those of an installation are the judge's (`install_number`: crates/calls/specs/Calls.antt).
--
--   Call               the installations of the row rule and of the column rule, open, deliver,
--                      withdraw and verdict, with what they are given
--   not_rows w b       39: the bytes b are not whole rows of w events, or over 64 of them
--   foreign_to kr kc b  13: a byte at or above either rule's k. There are no idle marks
--   open_conditions, deliver_conditions, withdraw_conditions  20, 38, 10; 21, 11, 39, 13, 22;
--                                                           21, 11, 23
--   verdict_by         what a verdict says: by whether no board is there, the number of empty bands,
--                      and whether every row and every column is accepted
use Rattle.std.specs.Prelude.{Bool, cond, not, ◌||◌, List, [], ◌∷◌, ℕ, ◌/◌, ◌%◌, ltb, leb, eqb, length}
use Rattle.base.specs.Conditions.{Condition, on, outside}
use Rattle.automaton.specs.declared.Rule.{Rule}
use Rattle.chunks.specs.Chunks.{foreign}
use Rattle.trays.specs.Sizes.{most_width, most_bands, most_rows}
use Rattle.trays.specs.Replies.{Judgement, waiting, says_yes, says_no, refused_with}

pub data Call : Type 0 where
  installs_row : Rule → Call
  installs_column : Rule → Call
  -- the width and the number of bands
  opens : ℕ → ℕ → Call
  -- the band's number and its bytes
  delivers : ℕ → List ℕ → Call
  withdraws : ℕ → Call
  asks_verdict : Call

-- ---- the conditions
abbrev pub not_rows : ℕ → List ℕ → Bool
not_rows w b = not (eqb (length b % w) 0) || ltb most_rows (length b / w)

abbrev pub foreign_to : ℕ → ℕ → List ℕ → Bool
foreign_to kr kc b = foreign b kr || foreign b kc

-- either rule is absent; rows of w events, in n bands, are asked for
abbrev pub open_conditions : Bool → ℕ → ℕ → List Condition
open_conditions lacks w n =
    on 20 lacks ∷ on 38 (outside 1 most_width w) ∷ on 10 (outside 1 most_bands n) ∷ []

-- no board is there; it has so many bands, and rows of w events; the bytes b for band p; the rules
-- have kr and kc symbols; the band is filled
abbrev pub deliver_conditions : Bool → ℕ → ℕ → ℕ → ℕ → Bool → ℕ → List ℕ → List Condition
deliver_conditions lacks bands w kr kc filled p b =
    on 21 lacks ∷
    on 11 (leb bands p) ∷
    on 39 (not_rows w b) ∷
    on 13 (foreign_to kr kc b) ∷
    on 22 filled ∷ []

-- no board is there; it has so many bands; band p is empty
abbrev pub withdraw_conditions : Bool → ℕ → Bool → ℕ → List Condition
withdraw_conditions lacks bands empty p = on 21 lacks ∷ on 11 (leb bands p) ∷ on 23 empty ∷ []

-- ---- the verdict: 21, else waiting, else yes or no
abbrev pub verdict_by : Bool → ℕ → Bool → Judgement
verdict_by lacks empty yes-there =
    cond lacks (refused_with 21) (cond (eqb empty 0) (cond yes-there says_yes says_no) (waiting empty))
