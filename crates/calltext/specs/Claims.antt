-- Every call has a line, and reading the line gives the call again; a line means a call only if it is
-- that line, but for leading zeros and the case of hex digits; and lines that come close to a call
-- and are malformed. proofs/Exact.antt proves it.
--
--   Fits c      the call c has numbers of 64 bits, a revision of 32, bytes that are bytes, and a
--               rule whose numbers the type holds
--   line_of c    the line of the call c, without its line feed
--   SaysCall l c   the line l is the word of the call c and its fields, one space between them: each
--                  number with leading zeros or without, the bytes in either case. An installation's
--                  are as many as state a rule, and state this one
use Rattle.std.specs.Prelude.{◌≡◌, ◌↔◌, List, [], ◌∷◌, ◌++◌, ℕ, ◌≤◌, ◌<◌, length}
use Rattle.limits.specs.Limits.{largest_number, largest_revision}
use Rattle.text.specs.Numerals.{decimal}
use Rattle.packed.specs.Packed.{packed_size, rule_at, packed_of}
use Rattle.packed.specs.Claims.{FitsRule}
use Rattle.fields.specs.Claims.{AllBytes, field_of, SaysNumber, SaysBytes}
use Rattle.calls.specs.Calls.{Call, installs, loads, opens, delivers, withdraws, asks_verdict}
use Rattle.calltext.specs.Meaning.{again, call, malformed, load_word, install_word, open_word, deliver_word, withdraw_word, verdict_word, line_in}

abbrev pub Fits : Call → Type 0
Fits (installs r) = FitsRule r
Fits (loads f) = AllBytes f
Fits (opens n) = n ≤ largest_number
Fits (delivers p v w) = (p ≤ largest_number) × (v ≤ largest_revision) × AllBytes w
Fits (withdraws p) = p ≤ largest_number
Fits asks_verdict = Unit {0}

abbrev pub line_of : Call → List ℕ
line_of (installs r) = install_word ++ field_of (packed_of r)
line_of (loads f) = load_word ++ field_of f
line_of (opens n) = open_word ++ decimal n
line_of (delivers p v w) = deliver_word ++ (decimal p ++ (32 ∷ (decimal v ++ (32 ∷ field_of w))))
line_of (withdraws p) = withdraw_word ++ decimal p
line_of asks_verdict = verdict_word

abbrev pub SaysCall : List ℕ → Call → Type 0
SaysCall l (installs r) = (x b : List ℕ) × (l ≡ install_word ++ x) × SaysBytes x b × (length b ≡ packed_size) × (rule_at b ≡ r)
SaysCall l (loads f) = (x : List ℕ) × (l ≡ load_word ++ x) × SaysBytes x f
SaysCall l (opens n) = (x : List ℕ) × (l ≡ open_word ++ x) × SaysNumber x n
SaysCall l (delivers p v w) =
    (x y z : List ℕ) × (l ≡ deliver_word ++ (x ++ (32 ∷ (y ++ (32 ∷ z))))) × SaysNumber x p × SaysNumber y v × (v ≤ largest_revision) × SaysBytes z w
SaysCall l (withdraws p) = (x : List ℕ) × (l ≡ withdraw_word ++ x) × SaysNumber x p
SaysCall l asks_verdict = l ≡ verdict_word

pub record Claims : Type 0 where
  -- which lines mean a call, which means a fresh judge, and that any other is malformed
  pub line_exactly : (l : List ℕ) (c : Call) → (line_in l ≡ call c) ↔ SaysCall l c
  pub again_exactly : (l : List ℕ) → (line_in l ≡ again) ↔ (l ≡ [])
  pub malformed_exactly : (l : List ℕ) → (line_in l ≡ malformed) ↔ ((l ≡ [] → ⊥) × ((c : Call) → SaysCall l c → ⊥))
  -- so every call has a line
  pub line_round_trip : (c : Call) → Fits c → line_in (line_of c) ≡ call c
  -- the line of an installation with any other number of bytes is malformed
  pub other_size : (b : List ℕ) → AllBytes b → (length b ≡ packed_size → ⊥) → line_in (install_word ++ field_of b) ≡ malformed
  -- the line of a delivery without a revision, a place and bytes alone, is malformed
  pub no_revision : (p : ℕ) (w : List ℕ) → line_in (deliver_word ++ (decimal p ++ (32 ∷ field_of w))) ≡ malformed
  -- the line of a delivery whose revision is a number that 32 bits do not hold is malformed
  pub revision_too_large : (p v : ℕ) (w : List ℕ) → largest_revision < v → v ≤ largest_number → line_in (line_of (delivers p v w)) ≡ malformed
