-- Table P of document 01: one list of cases and one claim over it, from the bytes of the rule
-- files, through the functions of a library. proofs/TablePRuns.antt proves it of every library that
-- meets the judge's definitions.
--
--   Case           a rule file, what its load answers, and the result of the case
--   calls_of c      the calls of the case: the load of the file; for a verdict also an opening, a
--                  delivery for each chunk and the question. The last first
--   replies_of c   what is answered to them
--   AsTabled c rs j   what the case says of the replies rs that were given and of the judge j that
--                  is left
--   Tabled l c     so it is whatever the contracts of the library l allow for the calls of the
--                  case, and they allow something
--   table          the paper's cases
--   by_hand        one more, worked by hand
--   cases          all of them
use Rattle.std.specs.Prelude.{◌≡◌, List, [], ◌∷◌, ◌++◌, ℕ, zero, suc, ◌*◌, length, get_or}
use Rattle.std.proofs.Math.Option.{some}
use Rattle.limits.specs.Limits.{most_symbols, empty_set}
use Rattle.base.specs.Lists.{list_from}
use Rattle.executions.specs.Executions.{Library, Execution}
use Rattle.ruleformat.specs.Worked.{file_A, file_B, file_A_final_8}
use Rattle.ruleformat.specs.Reader.{read_of}
use Rattle.build.specs.declared.Built.{Built}
use Rattle.calls.specs.declared.Judge.{Judge}
use Rattle.calls.specs.Replies.{Judgement, yes_with, no_with, Reported, Reply, accepted, installed, judged, refused, delivered}
use Rattle.calls.specs.Calls.{Call, loads, opens, delivers, asks_verdict}

-- ---- a case
--   sets masks rows        the masks of all sets in number order, and for each set the cell of each
--                          symbol in the next-set table: the number of the successor, or 512 for
--                          the empty set
--   delegates ds           the delegate of each state
--   verdict chunks r       with the chunks at the places 0, 1, .. of a board that has a place for
--                          each, delivered with revision 0, the verdict reports r. Beside a chunk stands the number that its
--                          delivery is answered (document 02, R-2)
--   turned_down x          reading refuses the file with the number x
pub data Result : Type 0 where
  sets : List ℕ → List (List ℕ) → Result
  delegates : List ℕ → Result
  verdict : List (List ℕ × ℕ) → Reported → Result
  turned_down_lem : ℕ → Result

-- the file, the reply to its load, and the result
pub data Case : Type 0 where
  case : List ℕ → Reply → Result → Case

-- ---- its calls and their replies
abbrev pub delivering : ℕ → List (List ℕ × ℕ) → List Call → List Call
delivering p [] h = h
delivering p (c ∷ chunks) h = delivering (suc p) chunks (delivers p 0 c.0 ∷ h)

abbrev pub answering : List (List ℕ × ℕ) → List Reply → List Reply
answering [] replies = replies
answering (c ∷ chunks) replies = answering chunks (delivered c.1 ∷ replies)

abbrev pub calls_for : List ℕ → Result → List Call
calls_for file (sets masks rows) = loads file ∷ []
calls_for file (delegates ds) = loads file ∷ []
calls_for file (verdict chunks r) = asks_verdict ∷ delivering 0 chunks (opens (length chunks) ∷ loads file ∷ [])
calls_for file (turned_down_lem x) = loads file ∷ []

abbrev pub calls_of : Case → List Call
calls_of (case file load result) = calls_for file result

abbrev pub replies_for : Reply → Result → List Reply
replies_for load (sets masks rows) = load ∷ []
replies_for load (delegates ds) = load ∷ []
replies_for load (verdict chunks r) = judged r ∷ answering chunks (accepted ∷ load ∷ [])
replies_for load (turned_down_lem x) = load ∷ []

abbrev pub replies_of : Case → List Reply
replies_of (case file load result) = replies_for load result

-- ---- what it shows of the built rule
-- the cells of an array from number i on
abbrev pub cells_of : List ℕ → ℕ → ℕ → List ℕ
cells_of array i count = list_from i count (λ c. get_or array c 0)

-- the rows of the next-set table from set i on, each with the cells of the symbols 0 .. k − 1
unfoldable pub rows_from : List ℕ → ℕ → ℕ → ℕ → List (List ℕ)
rows_from next k i zero = []
rows_from next k i (suc count) = cells_of next (i * most_symbols) k ∷ rows_from next k (suc i) count

abbrev pub Shows : List ℕ → Result → Built → Type 0
Shows file (sets masks rows) b = (cells_of b.sets 0 b.setcount ≡ masks) × (rows_from b.next b.k 0 b.setcount ≡ rows)
Shows file (delegates ds) b = cells_of b.delegates 0 b.n ≡ ds
Shows file (verdict chunks r) b = Unit {0}
Shows file (turned_down_lem x) b = (read_of file).number ≡ some x

abbrev pub ResultOf : Case → Built → Type 0
ResultOf (case file load result) b = Shows file result b

abbrev pub AsTabled : Case → List Reply → Judge → Type 0
AsTabled c replies j = (replies ≡ replies_of c) × ResultOf c j.built

-- ---- the table
-- a verdict with the bytes of the text, the quotient and the remainder of the count by them
-- (document 02, R-1)
abbrev pub report : Judgement → ℕ → ℕ → ℕ → Reported
report v bytes quotient remainder = record { verdict = v; bytes = bytes; quotient = quotient; remainder = remainder }

abbrev pub table : List Case
table =
    -- P1 A: the five sets, with the rows that are printed for them
    case file_A (installed 5 3)
    (sets (1 ∷ 3 ∷ 5 ∷ 2 ∷ 4 ∷ []) ((1 ∷ 0 ∷ []) ∷ (1 ∷ 2 ∷ []) ∷ (1 ∷ 0 ∷ []) ∷ (empty_set ∷ 4 ∷ []) ∷ (empty_set ∷ empty_set ∷ []) ∷ [])) ∷
    -- P2 B: delegates 0 1 1
    case file_B (installed 4 2) (delegates (0 ∷ 1 ∷ 1 ∷ [])) ∷
    -- P3 A, chunks 0 and 1: yes, 3; 2 bytes, 1 each and 1 over
    case file_A (installed 5 3) (verdict ((0 ∷ [], 1) ∷ (1 ∷ [], 1) ∷ []) (report (yes_with 3) 2 1 1)) ∷
    -- P4 A, chunks 1 and 0: no, 2; 2 bytes, 1 each
    case file_A (installed 5 3) (verdict ((1 ∷ [], 1) ∷ (0 ∷ [], 1) ∷ []) (report (no_with 2) 2 1 0)) ∷
    -- P5 A, one empty chunk: no, 0
    case file_A (installed 5 3) (verdict (([], 0) ∷ []) (report (no_with 0) 0 0 0)) ∷
    -- P6 B, 0 then 0 0: yes, 5; 3 bytes, 1 each and 2 over
    case file_B (installed 4 2) (verdict ((0 ∷ [], 1) ∷ (0 ∷ 0 ∷ [], 2) ∷ []) (report (yes_with 5) 3 1 2)) ∷
    -- P7 B, 0 0 then 0: yes, 4; 3 bytes, 1 each and 1 over
    case file_B (installed 4 2) (verdict ((0 ∷ 0 ∷ [], 2) ∷ (0 ∷ [], 1) ∷ []) (report (yes_with 4) 3 1 1)) ∷
    -- P8 B, 0 0 0 in one place: yes, 3; 3 bytes, 1 each
    case file_B (installed 4 2) (verdict ((0 ∷ 0 ∷ 0 ∷ [], 3) ∷ []) (report (yes_with 3) 3 1 0)) ∷
    -- P9 B, three empty chunks: no, 0
    case file_B (installed 4 2) (verdict (([], 0) ∷ ([], 0) ∷ ([], 0) ∷ []) (report (no_with 0) 0 0 0)) ∷
    -- P10 A, final mask 8: 6, when it is read
    case file_A_final_8 (refused 6) (turned_down_lem 6) ∷ []

-- in one place a chunk of two different symbols: rule A, 0 1. At place 0 state 0 alone is run. Its
-- set {0} becomes {0, 1} by 0 and {0, 2} by 1, neither empty, so a successor is looked up for both
-- bytes and 2 are counted; 2 is final. So yes, 2; 2 bytes, 1 each
abbrev pub by_hand : List Case
by_hand = case file_A (installed 5 3) (verdict ((0 ∷ 1 ∷ [], 2) ∷ []) (report (yes_with 2) 2 1 0)) ∷ []

abbrev pub cases : List Case
cases = table ++ by_hand

abbrev pub Each : (Case → Type 0) → List Case → Type 0
Each Says [] = Unit {0}
Each Says (c ∷ cases) = Says c × Each Says cases

-- THE CLAIM, of each case
pub record Tabled (l : Library Judge Call Reply) (c : Case) : Type 0 where
  pub any : (rs : List Reply) (j : Judge) → Execution l (calls_of c) rs j → AsTabled c rs j
  pub one : (rs : List Reply) × (j : Judge) × Execution l (calls_of c) rs j
