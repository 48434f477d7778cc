-- Where a trace goes wrong, by a list of calls alone. A history has the LAST call first. Nothing here
-- looks at a state. `Continued` is of crates/live.
--
--   text_up_to h m    the standing chunks of the first m places without their idle marks, joined
--   FilledAt h i      a chunk stands at place i
--   Hopeful h m       the rule of the list can still accept after the first m places
--   Lost h p          the trace is lost at place p: the places 0 .. p are filled, nothing can
--                     follow their text, and something can follow that of fewer of them
--   Open h m          it is not lost, and m is the number of places before the first empty one
--   Diagnosed h f     the finding f is the list's: 21 without a board, else lost or open
--   AcceptsNothing h  the rule of the list accepts no text
--   Elsewhere p c     the call c leaves the rule, the board and the places 0 .. p alone: it asks for
--                     the verdict, or delivers to a later place, or withdraws from one
--   AllElsewhere p cs each call of the list does
use Rattle.std.specs.Prelude.{◌≡◌, true, false, List, [], ◌∷◌, ℕ, suc, ◌≤◌, ◌<◌}
use Rattle.std.proofs.Math.Option.{none}
use Rattle.base.specs.Options.{is_none}
use Rattle.automaton.specs.Automaton.{Accepts}
use Rattle.automaton.specs.Rules.{automaton_of}
use Rattle.live.specs.Continued.{Continued}
use Rattle.calls.specs.Calls.{Call, installs, loads, opens, delivers, withdraws, asks_verdict}
use Rattle.histories.specs.History.{rule_in, board_in, places_in, standing, joined_up_to}
use Rattle.diagnoses.specs.Diagnosing.{Finding, refused_as, lost_at, open_with}

module _ (h : List Call) where
  abbrev pub text_up_to : ℕ → List ℕ
  text_up_to m = joined_up_to (standing h) m

  abbrev pub FilledAt : ℕ → Type 0
  FilledAt i = is_none (standing h i) ≡ false

  -- the rule of the list can still accept after the first m places
  abbrev pub Hopeful : ℕ → Type 0
  Hopeful m = Continued (automaton_of (rule_in h)) (text_up_to m)

  pub record Lost (p : ℕ) : Type 0 where
    pub board : board_in h ≡ true
    pub within : p < places_in h
    pub filled : (i : ℕ) → i ≤ p → FilledAt i
    pub stuck : Hopeful (suc p) → ⊥
    pub least : (i : ℕ) → i < p → Hopeful (suc i)

  pub record Open (m : ℕ) : Type 0 where
    pub board : board_in h ≡ true
    pub within : m ≤ places_in h
    pub filled : (i : ℕ) → i < m → FilledAt i
    pub then_empty : m < places_in h → standing h m ≡ none
    pub not_lost : (i : ℕ) → i < m → Hopeful (suc i)

  abbrev pub Diagnosed : Finding → Type 0
  Diagnosed (refused_as x) = (board_in h ≡ false) × (x ≡ 21)
  Diagnosed (lost_at p) = Lost p
  Diagnosed (open_with m) = Open m

  abbrev pub AcceptsNothing : Type 0
  AcceptsNothing = (w : List ℕ) → Accepts (automaton_of (rule_in h)) w → ⊥

abbrev pub Elsewhere : ℕ → Call → Type 0
Elsewhere p (installs r) = ⊥
Elsewhere p (loads f) = ⊥
Elsewhere p (opens n) = ⊥
Elsewhere p (delivers q v w) = p < q
Elsewhere p (withdraws q) = p < q
Elsewhere p asks_verdict = Unit {0}

abbrev pub AllElsewhere : ℕ → List Call → Type 0
AllElsewhere p [] = Unit {0}
AllElsewhere p (c ∷ cs) = Elsewhere p c × AllElsewhere p cs
