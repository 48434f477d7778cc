-- Every list of calls has a record, and reading the record gives the list again; what the line of a
-- call adds to one; and which texts are no record. proofs/RoundTrip.antt proves it.
--
--   AllFit h      each call of h has numbers of 64 bits, a revision of 32, bytes that are bytes, of
--                 a chunk and of a file, and a rule whose numbers the type holds
--   record_of h   the record of the calls h, of which the last is first: a line each, in the order
--                 in which they are made
--   FirstMalformed ls j   line j of the lines ls, counted from 0, is malformed, and none before it
use Rattle.std.specs.Prelude.{◌≡◌, ◌↔◌, List, [], ◌∷◌, ◌++◌, ℕ, suc, ◌<◌, length, get_or}
use Rattle.lines.specs.Splitting.{lines_of}
use Rattle.calls.specs.Calls.{Call}
use Rattle.calltext.specs.Meaning.{malformed, line_in}
use Rattle.calltext.specs.Claims.{Fits, line_of}
use Rattle.replay.specs.Records.{calls, malformed_at, read_line, record_in}

abbrev pub AllFit : List Call → Type 0
AllFit [] = Unit {0}
AllFit (c ∷ h) = Fits c × AllFit h

unfoldable pub record_of : List Call → List ℕ
record_of [] = []
record_of (c ∷ h) = record_of h ++ (line_of c ++ (10 ∷ []))

abbrev pub FirstMalformed : List (List ℕ) → ℕ → Type 0
FirstMalformed ls j =
    (j < length ls) × (line_in (get_or ls j []) ≡ malformed) × ((k : ℕ) → k < j → line_in (get_or ls k []) ≡ malformed → ⊥)

pub record Claims : Type 0 where
  pub record_round_trip : (h : List Call) → AllFit h → record_in (record_of h) ≡ calls h
  -- the line of a call, after any calls h
  pub line_read : (i : ℕ) (h : List Call) (c : Call) → Fits c → read_line (calls h) i (line_of c) ≡ calls (c ∷ h)
  -- an empty line, after any calls h
  pub fresh_line : (i : ℕ) (h : List Call) → read_line (calls h) i [] ≡ calls []
  -- a text is no record exactly when a line is malformed, and it says which one first, from 1
  pub malformed_exactly : (w : List ℕ) (i : ℕ) → (record_in w ≡ malformed_at i) ↔ ((j : ℕ) × (i ≡ suc j) × FirstMalformed (lines_of w) j)
