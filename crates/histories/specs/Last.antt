-- Document 01's sentences on the last accepted call: "A rule is there once a load was accepted, and
-- it is that of the last accepted load. A board is there exactly when the last accepted call among
-- loads and openings is an opening. A standing chunk is the one last accepted at its place since
-- that opening, and not withdrawn since." Here they stand over the list cut in two at that call,
-- where specs/History.antt goes through the list; proofs/Last.antt proves that both say the same.
-- Of the state nothing is named but which calls are accepted, by the answers.
--
--   Accepted h c      after the calls h the call c is accepted: it is answered with no refusal
--   Last P h c e      c is the last accepted call of the kind P in the list h, after the calls e
--   Rules c           c is a load or an installation, which takes a load's part (document 02, R-3)
--   Begins c          c is a load, an installation or an opening
--   AtPlace p c       it is one of these, or a delivery at place p
--   Touches p c       it is one of these, or a withdrawal at place p
--   LastRule .. LastStanding   what each definition of specs/History.antt is, by the last call of a
--                     kind
use Rattle.std.specs.Prelude.{◌≡◌, ◌↔◌, ◌⊎◌, true, false, List, ℕ}
use Rattle.std.proofs.Math.Option.{none, some}
use Rattle.executions.specs.Last.{LastAccepted}
use Rattle.automaton.specs.declared.Rule.{Rule}
use Rattle.ruleformat.specs.Reader.{rule_of}
use Rattle.calls.specs.Replies.{refusal_of}
use Rattle.calls.specs.Calls.{Call, installs, loads, opens, delivers, withdraws, asks_verdict}
use Rattle.histories.specs.History.{rule_there, board_in, places_in, last_revision, standing, answer_of}

abbrev pub Accepted : List Call → Call → Type 0
Accepted h c = refusal_of (answer_of h c) ≡ none

abbrev pub Last : (Call → Type 0) → List Call → Call → List Call → Type 0
Last P h c earlier = LastAccepted Accepted P h c earlier

-- ---- kinds of calls
abbrev pub Rules : Call → Type 0
Rules (installs r) = Unit {0}
Rules (loads f) = Unit {0}
Rules (opens n) = ⊥
Rules (delivers p v w) = ⊥
Rules (withdraws p) = ⊥
Rules asks_verdict = ⊥

abbrev pub Begins : Call → Type 0
Begins (installs r) = Unit {0}
Begins (loads f) = Unit {0}
Begins (opens n) = Unit {0}
Begins (delivers p v w) = ⊥
Begins (withdraws p) = ⊥
Begins asks_verdict = ⊥

abbrev pub AtPlace : ℕ → Call → Type 0
AtPlace p (installs r) = Unit {0}
AtPlace p (loads f) = Unit {0}
AtPlace p (opens n) = Unit {0}
AtPlace p (delivers q v w) = q ≡ p
AtPlace p (withdraws q) = ⊥
AtPlace p asks_verdict = ⊥

abbrev pub Touches : ℕ → Call → Type 0
Touches p (installs r) = Unit {0}
Touches p (loads f) = Unit {0}
Touches p (opens n) = Unit {0}
Touches p (delivers q v w) = q ≡ p
Touches p (withdraws q) = q ≡ p
Touches p asks_verdict = ⊥

-- ---- what the last one of a kind says
module _ (h : List Call) where
  -- the rule that is there is that of the last accepted load or installation
  abbrev pub LastRule : Type 0
  LastRule = (r : Rule)
      → (rule_there h ≡ some r)
      ↔ (((earlier : List Call) × Last Rules h (installs r) earlier)
      ⊎ ((f : List ℕ) × (earlier : List Call) × Last Rules h (loads f) earlier × (rule_of f ≡ r)))

  -- a board is there exactly when the last accepted call among loads, installations and openings is
  -- an opening, and it has the places of that one; none exactly when no board is there
  pub record LastBoard : Type 0 where
    pub there : (board_in h ≡ true) ↔ (n : ℕ) × (earlier : List Call) × Last Begins h (opens n) earlier
    pub places : (n : ℕ) (earlier : List Call) → Last Begins h (opens n) earlier → places_in h ≡ n
    pub no_places : (places_in h ≡ 0) ↔ (board_in h ≡ false)

  -- the last revision at a place is that of the delivery last accepted there since that opening,
  -- withdrawn or not (document 02, R-11)
  abbrev pub LastRevision : Type 0
  LastRevision = (p v : ℕ)
      → (last_revision h p ≡ some v) ↔ (w : List ℕ) × (earlier : List Call) × Last (AtPlace p) h (delivers p v w) earlier

  -- a standing chunk is the one last accepted at its place since that opening, and not withdrawn
  -- since
  abbrev pub LastStanding : Type 0
  LastStanding = (p : ℕ) (w : List ℕ)
      → (standing h p ≡ some w) ↔ (v : ℕ) × (earlier : List Call) × Last (Touches p) h (delivers p v w) earlier
