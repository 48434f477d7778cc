-- What a list of calls and the replies to them say (document 01, "The board and its calls"). Which
-- calls were accepted the replies tell: nothing here decides a condition, builds a rule or looks at
-- a state. Both lists have the LAST call first.
--
--   Source             where a rule comes from: a value that was installed, or the bytes of a file
--   automaton_by x     the automaton that it states (document 000)
--   Standing           what stands: where the rule comes from, if one is there; the number of
--                      places, 0 where no board is there (an opening that is accepted has at least
--                      one); at each place the standing chunk, and the last revision accepted since
--                      the opening (document 02, R-11), or none
--   all_empty x n      a rule from x, and n places, all empty
--   placed p x f       f, with x at place p
--   after_call s c      what stands after the accepted call c, where s stood before it
--   standing_after h rs what stands after the calls h, to which rs were the replies
--   the_automaton s    the automaton of the rule; one without states where no rule is there
--   text_at s p        the standing chunk's text, without its idle marks (document 02, R-5); no
--                      byte where none stands
--   text_in s          these texts joined by place
--   empties s          how many places are empty
use Rattle.std.specs.Prelude.{cond, List, [], ◌∷◌, ℕ, eqb}
use Rattle.std.proofs.Math.Option.{Option, none, some}
use Rattle.base.specs.Lists.{joined}
use Rattle.base.specs.Options.{is_none}
use Rattle.base.specs.Totals.{total}
use Rattle.automaton.specs.declared.Rule.{Rule}
use Rattle.automaton.specs.Automaton.{Automaton}
use Rattle.automaton.specs.Rules.{automaton_of}
use Rattle.ruleformat.specs.Language.{automaton_in}
use Rattle.calls.specs.Replies.{Reply, refusal_of}
use Rattle.calls.specs.Calls.{Call, installs, loads, opens, delivers, withdraws, asks_verdict}
use Rattle.histories.specs.History.{standing_text}

pub data Source : Type 0 where
  value : Rule → Source
  file : List ℕ → Source

abbrev pub automaton_by : Source → Automaton
automaton_by (value r) = automaton_of r
automaton_by (file f) = automaton_in f

pub record Standing : Type 0 where
  pub rule : Option Source
  pub places : ℕ
  pub chunk : ℕ → Option (List ℕ)
  pub revision : ℕ → Option ℕ

abbrev pub all_empty : Option Source → ℕ → Standing
all_empty x n = record { rule = x; places = n; chunk = λ p. none; revision = λ p. none }

abbrev pub placed : {A : Type 0} → ℕ → A → (ℕ → A) → ℕ → A
placed p x f q = cond (eqb p q) x (f q)

-- a load or an installation replaces the rule and removes the board; a withdrawal leaves the
-- revision
abbrev pub after_call : Standing → Call → Standing
after_call s (installs r) = all_empty (some (value r)) 0
after_call s (loads f) = all_empty (some (file f)) 0
after_call s (opens n) = all_empty s.rule n
after_call s (delivers p v w) = record { rule = s.rule; places = s.places; chunk = placed p (some w) s.chunk; revision = placed p (some v) s.revision }
after_call s (withdraws p) = record { rule = s.rule; places = s.places; chunk = placed p none s.chunk; revision = s.revision }
after_call s asks_verdict = s

-- a refused call changes nothing
unfoldable pub standing_after : List Call → List Reply → Standing
standing_after [] rs = all_empty none 0
standing_after (c ∷ h) [] = all_empty none 0
standing_after (c ∷ h) (a ∷ rs) =
    cond (is_none (refusal_of a)) (after_call (standing_after h rs) c) (standing_after h rs)

abbrev pub automaton_from : Option Source → Automaton
automaton_from none = automaton_in []
automaton_from (some x) = automaton_by x

module _ (s : Standing) where
  abbrev pub the_automaton : Automaton
  the_automaton = automaton_from s.rule

  abbrev pub text_at : ℕ → List ℕ
  text_at p = standing_text (s.chunk p)

  abbrev pub text_in : List ℕ
  text_in = joined text_at s.places

  abbrev pub empties : ℕ
  empties = total (λ p. cond (is_none (s.chunk p)) 1 0) s.places
