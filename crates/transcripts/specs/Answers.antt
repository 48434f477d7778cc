-- What document 01 answers to a call where s stands. A call is refused with a number exactly when
-- its condition is the first that holds, and accepted when none does.
--
--   conditions_of s c  the conditions of the call c in document 01's order, but for 9
--   Many c             9: more than 512 sets are reached in the automaton that c brings
--   RefusedWith s c x  the condition numbered x is the first that holds
--   AcceptedBy s c     none holds
--   refusal_by c x     the reply that refuses the call c with x; a verdict's has three zeros beside
--                      it
--   Reports s r        what the verdict reports where a board is there (document 02, R-1)
--   Value s c a        what an accepted call is answered
--   Answers s c a      a is the reply to the call c
--   Right h rs         each of rs is the reply to its call of h, by what stood before it
use Rattle.std.specs.Prelude.{◌≡◌, ◌↔◌, ◌⊎◌, List, [], ◌∷◌, ℕ, ◌<◌, eqb, length}
use Rattle.base.specs.Conditions.{Condition, on, NoneHolds, FirstHolds}
use Rattle.base.specs.Options.{is_none}
use Rattle.marks.specs.Marks.{text_of}
use Rattle.automaton.specs.Automaton.{Automaton, Accepts}
use Rattle.automaton.specs.Rules.{automaton_of}
use Rattle.rulecheck.specs.Checking.{rule_conditions}
use Rattle.ruleformat.specs.Refusals.{file_conditions}
use Rattle.ruleformat.specs.Language.{automaton_in}
use Rattle.build.specs.declared.Built.{Built}
use Rattle.calls.specs.Replies.{waiting, yes_with, no_with, refused_with, Reported, Reply, accepted, installed, delivered, judged, refused}
use Rattle.calls.specs.Calls.{Call, installs, loads, opens, delivers, withdraws, asks_verdict, open_conditions, deliver_conditions, withdraw_conditions, alone}
use Rattle.calls.specs.Claims.{Divided, ThreeZeros}
use Rattle.histories.specs.History.{not_greater}
use Rattle.histories.specs.Method.{TooMany, Method}
use Rattle.transcripts.specs.Standing.{Standing, standing_after, the_automaton, text_in, empties}
use Rattle.transcripts.specs.Runs.{SumIs, LookedUp}

-- ---- refusals
abbrev pub conditions_of : Standing → Call → List Condition
conditions_of s (installs r) = rule_conditions r
conditions_of s (loads f) = file_conditions f
conditions_of s (opens n) = open_conditions (is_none s.rule) n
conditions_of s (delivers p v w) =
    deliver_conditions (eqb s.places 0) s.places p w (the_automaton s).k (not_greater v (s.revision p))
conditions_of s (withdraws p) = withdraw_conditions (eqb s.places 0) s.places p (is_none (s.chunk p))
conditions_of s asks_verdict = on 21 (eqb s.places 0) ∷ []

abbrev pub Many : Call → Type 0
Many (installs r) = TooMany (automaton_of r)
Many (loads f) = TooMany (automaton_in f)
Many (opens n) = ⊥
Many (delivers p v w) = ⊥
Many (withdraws p) = ⊥
Many asks_verdict = ⊥

abbrev pub RefusedWith : Standing → Call → ℕ → Type 0
RefusedWith s c x = FirstHolds x (conditions_of s c) ⊎ (NoneHolds (conditions_of s c) × Many c × (x ≡ 9))

abbrev pub AcceptedBy : Standing → Call → Type 0
AcceptedBy s c = NoneHolds (conditions_of s c) × (Many c → ⊥)

abbrev pub refusal_by : Call → ℕ → Reply
refusal_by (installs r) x = refused x
refusal_by (loads f) x = refused x
refusal_by (opens n) x = refused x
refusal_by (delivers p v w) x = refused x
refusal_by (withdraws p) x = refused x
refusal_by asks_verdict x = judged (alone (refused_with x))

-- ---- what is answered
pub record Reports (s : Standing) (r : Reported) : Type 0 where
  -- waiting with the number of empty places exactly when one is empty
  pub waits : (e : ℕ) → (r.verdict ≡ waiting e) ↔ ((0 < e) × (e ≡ empties s))
  -- else yes exactly when the automaton has an accepting run over the standing chunks without their
  -- idle marks, joined by place, and no when it has none, both with the sum of the counts
  pub says_yes_lem : (c : ℕ) → (r.verdict ≡ yes_with c) ↔ ((empties s ≡ 0) × SumIs s c × Accepts (the_automaton s) (text_in s))
  pub says_no_lem : (c : ℕ) → (r.verdict ≡ no_with c) ↔ ((empties s ≡ 0) × SumIs s c × (Accepts (the_automaton s) (text_in s) → ⊥))
  -- beside yes or no the text's bytes, and the quotient and remainder of the count by them
  pub divided : (c : ℕ) → (r.verdict ≡ yes_with c) ⊎ (r.verdict ≡ no_with c) → Divided c (length (text_in s)) r
  -- beside waiting all three are 0
  pub zeros : (e : ℕ) → r.verdict ≡ waiting e → ThreeZeros r

-- a rule: the number of its sets and M, those of what document 004 builds of the automaton
abbrev pub BuildReply : Automaton → Reply → Type 0
BuildReply a reply = (b : Built) × Method a b × (reply ≡ installed b.setcount b.startcount)

abbrev pub Value : Standing → Call → Reply → Type 0
Value s (installs r) a = BuildReply (automaton_of r) a
Value s (loads f) a = BuildReply (automaton_in f) a
Value s (opens n) a = a ≡ accepted
Value s (delivers p v w) a = (n : ℕ) × (a ≡ delivered n) × LookedUp (the_automaton s) p (text_of w) n
Value s (withdraws p) a = a ≡ accepted
Value s asks_verdict a = (r : Reported) × (a ≡ judged r) × Reports s r

pub record Answers (s : Standing) (c : Call) (a : Reply) : Type 0 where
  pub refused_exactly : (x : ℕ) → (a ≡ refusal_by c x) ↔ RefusedWith s c x
  pub answered : AcceptedBy s c → Value s c a

pub data Right : List Call → List Reply → Type 0 where
  no_call : Right [] []
  one_more : {h : List Call} {rs : List Reply} {c : Call} {a : Reply} → Right h rs → Answers (standing_after h rs) c a
      → Right (c ∷ h) (a ∷ rs)
