-- When a call after the calls h is accepted, and when it is refused with which number (document 02,
-- R-13), spelt out condition by condition and without the lists of crates/trays. proofs/Conditions.antt
-- proves it. The verdict's 21 is in `VerdictClauses` of specs/Claims.antt.
--
--   Installation answer   of the answers to installations, of a row rule or of a column rule: they
--                         are the judge's (R-3)
--   RulesIn h             both rules are there
--   WholeRows w b         the bytes b are whole rows of w events, at most 64
--   AtOrAbove k b         some byte of b is at or above k
--   numbers_of c          the numbers that R-13 gives to the call c, the verdict among them
--   NoOtherNumber         a call is refused with none but these ("never otherwise": document 01).
--                         proofs/NoOther.antt proves it
use Rattle.std.specs.Prelude.{◌≡◌, ◌↔◌, ◌⊎◌, ℕ, ◌*◌, ◌^◌, ◌≤◌, ◌<◌, length, get_or}
use mathlib.Core.List.{List, [], ◌∷◌, Memᴰ as Member}
use Rattle.std.proofs.Math.Option.{none, some}
use Rattle.limits.specs.Limits.{most_states, most_symbols}
use Rattle.automaton.specs.declared.Rule.{Rule}
use Rattle.automaton.specs.Automaton.{Text}
use Rattle.automaton.specs.Rules.{automaton_of, WellFormed}
use Rattle.rulecheck.specs.Claims.{Stray, StatesIn, SymbolsIn, MasksIn}
use Rattle.build.specs.mirror.Building.{built_of}
use Rattle.calls.specs.Replies as judge
use Rattle.calls.specs.Calls as judge_calls
use Rattle.histories.specs.History as judge_history
use Rattle.histories.specs.Method.{TooMany}
use Rattle.trays.specs.Sizes.{most_width, most_bands, most_rows}
use Rattle.trays.specs.Replies.{Reply, accepted, installed, refused, refusal_of}
use Rattle.trays.specs.Calls.{Call, installs_row, installs_column, opens, delivers, withdraws, asks_verdict}
use Rattle.trayhistories.specs.History.{row_there, column_there, row_in, column_in, board_there, width_in, bands_in, standing, answer_of}

pub record Installation (answer : Rule → Reply) : Type 0 where
  -- the rule is well formed, and no more than 512 sets are reached in its automaton
  pub taken : (r : Rule) → (answer r ≡ installed (built_of r).setcount (built_of r).startcount) ↔ (WellFormed r × (TooMany (automaton_of r) → ⊥))
  -- n outside 1 to 32; else k outside 1 to 16; else a mask with a bit at n or above; else a target
  -- mask with such a bit, or one kept for a state or symbol outside n or k that is not 0; 9 when the
  -- rule is well formed and more than 512 sets are reached
  pub with_3 : (r : Rule) → (answer r ≡ refused 3) ↔ ((r.n < 1) ⊎ (most_states < r.n))
  pub with_4 : (r : Rule) → (answer r ≡ refused 4) ↔ (StatesIn r × ((r.k < 1) ⊎ (most_symbols < r.k)))
  pub with_6 : (r : Rule) → (answer r ≡ refused 6) ↔ (StatesIn r × SymbolsIn r × ((2 ^ r.n ≤ r.initials) ⊎ (2 ^ r.n ≤ r.finals)))
  pub with_8 : (r : Rule) → (answer r ≡ refused 8) ↔ (StatesIn r × SymbolsIn r × MasksIn r × Stray r)
  pub with_9 : (r : Rule) → (answer r ≡ refused 9) ↔ (WellFormed r × TooMany (automaton_of r))
  -- and so the judge answers to it, after any calls g of its own
  pub as_judge : (g : List judge_calls.Call) (r : Rule) (sets m : ℕ)
      → (answer r ≡ installed sets m) ↔ (judge_history.answer_of g (judge_calls.installs r) ≡ judge.installed sets m)
  pub as_judge_refuses : (g : List judge_calls.Call) (r : Rule) (x : ℕ)
      → (answer r ≡ refused x) ↔ (judge_history.answer_of g (judge_calls.installs r) ≡ judge.refused x)

abbrev pub RulesIn : List Call → Type 0
RulesIn h = (row_there h ≡ none → ⊥) × (column_there h ≡ none → ⊥)

abbrev pub WholeRows : ℕ → List ℕ → Type 0
WholeRows w b = (n : ℕ) × (n ≤ most_rows) × (length b ≡ n * w)

abbrev pub AtOrAbove : ℕ → List ℕ → Type 0
AtOrAbove k b = (i : ℕ) × (i < length b) × (k ≤ get_or b i 0)

pub record AcceptedExactly (h : List Call) : Type 0 where
  -- both rules are there, a width of 1 to 16 and 1 to 8 bands are asked for
  pub opening : (w n : ℕ)
      → (answer_of h (opens w n) ≡ accepted) ↔ (RulesIn h × ((1 ≤ w) × (w ≤ most_width)) × ((1 ≤ n) × (n ≤ most_bands)))
  -- a board is there with that band, the bytes are whole rows, at most 64, of symbols of both rules,
  -- and nothing stands there
  pub delivery : (p : ℕ) (b : List ℕ)
      → (answer_of h (delivers p b) ≡ accepted)
      ↔ ((p < bands_in h) × WholeRows (width_in h) b × (Text (row_in h).k b × Text (column_in h).k b) × (standing h p ≡ none))
  -- a board is there with that band, and something stands there
  pub withdrawal : (p : ℕ) → (answer_of h (withdraws p) ≡ accepted) ↔ ((p < bands_in h) × (standing h p ≡ none → ⊥))

pub record RefusedExactly (h : List Call) : Type 0 where
  -- either rule absent; a width outside 1 to 16; bands outside 1 to 8
  pub open_20 : (w n : ℕ) → (answer_of h (opens w n) ≡ refused 20) ↔ ((row_there h ≡ none) ⊎ (column_there h ≡ none))
  pub open_38 : (w n : ℕ) → (answer_of h (opens w n) ≡ refused 38) ↔ (RulesIn h × ((w < 1) ⊎ (most_width < w)))
  pub open_10 : (w n : ℕ)
      → (answer_of h (opens w n) ≡ refused 10) ↔ (RulesIn h × ((1 ≤ w) × (w ≤ most_width)) × ((n < 1) ⊎ (most_bands < n)))
  -- no board; no such band; bytes that are not whole rows, or over 64 of them; a byte at or above
  -- either rule's k; a filled band
  pub deliver_21 : (p : ℕ) (b : List ℕ) → (answer_of h (delivers p b) ≡ refused 21) ↔ (board_there h ≡ none)
  pub deliver_11 : (p : ℕ) (b : List ℕ) → (answer_of h (delivers p b) ≡ refused 11) ↔ ((board_there h ≡ none → ⊥) × (bands_in h ≤ p))
  pub deliver_39 : (p : ℕ) (b : List ℕ)
      → (answer_of h (delivers p b) ≡ refused 39) ↔ ((p < bands_in h) × (WholeRows (width_in h) b → ⊥))
  pub deliver_13 : (p : ℕ) (b : List ℕ)
      → (answer_of h (delivers p b) ≡ refused 13)
      ↔ ((p < bands_in h) × WholeRows (width_in h) b × (AtOrAbove (row_in h).k b ⊎ AtOrAbove (column_in h).k b))
  pub deliver_22 : (p : ℕ) (b : List ℕ)
      → (answer_of h (delivers p b) ≡ refused 22)
      ↔ ((p < bands_in h) × WholeRows (width_in h) b × (Text (row_in h).k b × Text (column_in h).k b) × (standing h p ≡ none → ⊥))
  -- no board; no such band; an empty band
  pub withdraw_21 : (p : ℕ) → (answer_of h (withdraws p) ≡ refused 21) ↔ (board_there h ≡ none)
  pub withdraw_11 : (p : ℕ) → (answer_of h (withdraws p) ≡ refused 11) ↔ ((board_there h ≡ none → ⊥) × (bands_in h ≤ p))
  pub withdraw_23 : (p : ℕ) → (answer_of h (withdraws p) ≡ refused 23) ↔ ((p < bands_in h) × (standing h p ≡ none))

abbrev pub numbers_of : Call → List ℕ
numbers_of (installs_row r) = 3 ∷ 4 ∷ 6 ∷ 8 ∷ 9 ∷ []
numbers_of (installs_column r) = 3 ∷ 4 ∷ 6 ∷ 8 ∷ 9 ∷ []
numbers_of (opens w n) = 20 ∷ 38 ∷ 10 ∷ []
numbers_of (delivers p b) = 21 ∷ 11 ∷ 39 ∷ 13 ∷ 22 ∷ []
numbers_of (withdraws p) = 21 ∷ 11 ∷ 23 ∷ []
numbers_of asks_verdict = 21 ∷ []

abbrev pub NoOtherNumber : List Call → Type 0
NoOtherNumber h = (c : Call) (x : ℕ) → refusal_of (answer_of h c) ≡ some x → Member x (numbers_of c)
