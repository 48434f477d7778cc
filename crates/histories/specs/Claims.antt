-- The demands over every list of calls. `every_list` of proofs/EveryList.antt proves `EveryList` of
-- every list of calls. `after_any_list` of proofs/Refinement.antt ties it to the functions: what
-- their own contracts allow is `replies_to` and `judge_after`.
--
--   judge_after h       the judge that the calls h leave, from a fresh one
--   replies_to h        the replies to them
--   BuiltBy present j   the rule that is there, if there is one, is built in j; no rule is zeros
--   least_after last    one more than the last revision, 0 where there is none: a revision is
--                       greater than the last one exactly when it is at least that
--   Invariant h j       what holds of the state j after the calls h
--   VerdictClauses      the words of demand 3 for the verdict asked after h
--   Says a v            the reply a is a verdict's, and it says v
--   VerdictSays h a     the words of demand 3 for the reply a to a verdict that is asked after h
--   ReportClauses       what is reported with it (document 02, R-1)
--   EveryList           demand 3, one claim over a whole list
use Rattle.std.specs.Prelude.{◌≡◌, ◌↔◌, ◌⊎◌, true, false, List, ℕ, ◌+◌, ◌*◌, ◌≤◌, ◌<◌, length, get_or}
use Rattle.std.proofs.Math.Option.{Option, none, some}
use Rattle.limits.specs.Limits.{most_states, most_places}
use Rattle.base.specs.Options.{is_none}
use Rattle.executions.specs.Executions.{Machine, state_after, replies_to as machine_replies}
use Rattle.automaton.specs.declared.Rule.{Rule}
use Rattle.automaton.specs.Automaton.{Accepts, Equivalent}
use Rattle.automaton.specs.Rules.{automaton_of, WellFormed}
use Rattle.ruleformat.specs.Reader.{rule_of}
use Rattle.ruleformat.specs.Language.{automaton_in}
use Rattle.subsets.specs.Claims.{fits}
use Rattle.delegates.specs.Claims.{starts_in}
use Rattle.build.specs.mirror.Building.{built_of, no_built}
use Rattle.board.specs.Boards.{held, is_empty, last_at, summed_count, summed_bytes}
use Rattle.calls.specs.declared.Judge.{Judge}
use Rattle.calls.specs.Replies.{Judgement, Reported, Reply, judged, waiting, yes_with, no_with, refused_with}
use Rattle.histories.specs.History.{rule_there, rule_in, board_in, places_in, last_revision, standing, end_at, count_at, length_at, empties_in, summed_in, bytes_in, yes_in, standing_text, text_in, verdict_in, report_in, answers_to}
use Rattle.histories.specs.Method.{Method}
use Rattle.histories.specs.Conditions.{AcceptedExactly, RefusedExactly}
use Rattle.calls.specs.Calls.{Call, install_number, load_number}
use Rattle.calls.specs.mirror.Steps.{fresh, is_yes, verdict_of, report_of, step_of}
use Rattle.calls.specs.Claims.{Divided, ThreeZeros}

-- the judge as a machine: the outcome of a call is crates/calls' step_of
abbrev pub judge_machine : Machine Judge Call Reply
judge_machine = record { fresh = fresh; reply = λ j c. (step_of j c).reply; next = λ j c. (step_of j c).state }

abbrev pub judge_after : List Call → Judge
judge_after h = state_after judge_machine h

abbrev pub replies_to : List Call → List Reply
replies_to h = machine_replies judge_machine h

abbrev pub BuiltBy : Option Rule → Judge → Type 0
BuiltBy none j = j.built ≡ no_built
BuiltBy (some r) j = (j.built ≡ built_of r) × WellFormed r × fits r

-- one more than the last revision, 0 where there is none
abbrev pub least_after : Option ℕ → ℕ
least_after none = 0
least_after (some v) = v + 1

-- the state: the rule that is there is built, and each place holds the end sets, the count and the
-- length of its standing chunk's text, or nothing
pub record Invariant (h : List Call) (j : Judge) : Type 0 where
  pub rule : BuiltBy (rule_there h) j
  pub places : j.board.places ≡ places_in h
  pub empty : (p : ℕ) → p < most_places → is_empty j.board p ≡ is_none (standing h p)
  pub ends : (p q : ℕ) → p < most_places → q < most_states → held j.board p q ≡ end_at h p q
  pub counts : (p : ℕ) → p < most_places → get_or j.board.counts p 0 ≡ count_at h p
  pub lengths : (p : ℕ) → p < most_places → get_or j.board.lengths p 0 ≡ length_at h p
  -- and it holds the last revision accepted there, kept as one more than it is, 0 for none
  pub revisions : (p : ℕ) → p < most_places → last_at j.board p ≡ least_after (last_revision h p)
  -- a verdict asked now is the one that the list says; its yes or no is the join of the end sets
  -- held, its count the sum of the counts held
  pub asked : verdict_of j ≡ verdict_in h
  pub joined : board_in h ≡ true → is_yes j ≡ yes_in h
  pub summed : summed_count j.board ≡ summed_in h
  -- and the report is the one that the list says, its bytes the sum of the lengths held
  pub reported : report_of j ≡ report_in h
  pub summed_bytes_lem : summed_bytes j.board ≡ bytes_in h

-- demand 3, of the verdict after the calls h
pub record VerdictClauses (h : List Call) : Type 0 where
  -- a board is there exactly when it has places
  pub board : (board_in h ≡ true) ↔ (0 < places_in h)
  -- refused with 21 unless the last accepted load, installation or opening is an opening
  pub none_there : (verdict_in h ≡ refused_with 21) ↔ (board_in h ≡ false)
  -- waiting with the number of empty places exactly when one is empty
  pub waits : (e : ℕ) → (verdict_in h ≡ waiting e) ↔ ((board_in h ≡ true) × (0 < e) × (e ≡ empties_in h))
  -- else yes exactly when the last accepted rule has an accepting run over the standing chunks
  -- without their idle marks, joined by place, and no when it has none
  pub accepts : board_in h ≡ true → empties_in h ≡ 0
      → (verdict_in h ≡ yes_with (summed_in h)) ↔ Accepts (automaton_of (rule_in h)) (text_in h)
  pub rejects : board_in h ≡ true → empties_in h ≡ 0
      → (verdict_in h ≡ no_with (summed_in h)) ↔ (Accepts (automaton_of (rule_in h)) (text_in h) → ⊥)
  -- the yes or no is the join of the end sets
  pub joins : board_in h ≡ true → empties_in h ≡ 0 → (verdict_in h ≡ yes_with (summed_in h)) ↔ (yes_in h ≡ true)
  -- the count is the sum over the places, and at most M times the bytes of the text
  pub counted : (c : ℕ) → verdict_in h ≡ yes_with c → c ≡ summed_in h
  pub counted_no : (c : ℕ) → verdict_in h ≡ no_with c → c ≡ summed_in h
  pub most : summed_in h ≤ (starts_in (rule_in h)).startcount * length (text_in h)
  -- and so it is at each place
  pub place_most : (p : ℕ) → count_at h p ≤ (starts_in (rule_in h)).startcount * length (standing_text (standing h p))

-- and of the reply a that is given to it
abbrev pub Says : Reply → Judgement → Type 0
Says a v = (r : Reported) × (a ≡ judged r) × (r.verdict ≡ v)

pub record VerdictSays (h : List Call) (a : Reply) : Type 0 where
  -- it is what document 01 reports then
  pub is : a ≡ judged (report_in h)
  -- yes exactly when a board is there, no place is empty, the count is the sum over the places, and
  -- the rule that is there has an accepting run over the standing chunks without their idle marks,
  -- joined by place; no exactly when it has none
  pub says_yes_lem : (count : ℕ) → Says a (yes_with count)
      ↔ ((board_in h ≡ true) × (empties_in h ≡ 0) × (count ≡ summed_in h) × Accepts (automaton_of (rule_in h)) (text_in h))
  pub says_no_lem : (count : ℕ) → Says a (no_with count)
      ↔ ((board_in h ≡ true) × (empties_in h ≡ 0) × (count ≡ summed_in h) × (Accepts (automaton_of (rule_in h)) (text_in h) → ⊥))
  -- waiting exactly when a place is empty, with the number of these
  pub says_waiting : (e : ℕ) → Says a (waiting e) ↔ ((board_in h ≡ true) × (0 < e) × (e ≡ empties_in h))
  -- refused, and then with 21, exactly when no board is there
  pub says_refused : (x : ℕ) → Says a (refused_with x) ↔ ((x ≡ 21) × (board_in h ≡ false))

-- document 02, R-1, of what is reported after the calls h
pub record ReportClauses (h : List Call) : Type 0 where
  -- the verdict is that of demand 3
  pub verdict : (report_in h).verdict ≡ verdict_in h
  -- the sum of the lengths is the length of the standing chunks' texts joined by place
  pub text_bytes : bytes_in h ≡ length (text_in h)
  -- beside yes or no the text's bytes, the whole quotient of the count by them, and the remainder;
  -- both 0 for a text of 0 bytes
  pub divided : (count : ℕ) → (verdict_in h ≡ yes_with count) ⊎ (verdict_in h ≡ no_with count)
      → Divided count (length (text_in h)) (report_in h)
  -- beside waiting or a refusal all three are 0
  pub zeros : (x : ℕ) → (verdict_in h ≡ waiting x) ⊎ (verdict_in h ≡ refused_with x) → ThreeZeros (report_in h)

-- ONE CLAIM over a list of calls h
pub record EveryList (h : List Call) : Type 0 where
  -- each reply is document 01's answer after the calls before it
  pub correct : replies_to h ≡ answers_to h
  -- the sets, the table, the delegates and the M by which they go are, of each rule that an
  -- installation accepts, those of its automaton
  pub method : (r : Rule) → install_number r ≡ none → Method (automaton_of r) (built_of r)
  -- of a file that a load accepts, those of the automaton in its bytes; and the rule in the file
  -- accepts the texts that this automaton accepts
  pub method_of_bytes : (f : List ℕ) → load_number f ≡ none → Method (automaton_in f) (built_of (rule_of f))
  pub language_of_bytes : (f : List ℕ) → load_number f ≡ none → Equivalent (automaton_in f) (automaton_of (rule_of f))
  -- a call is accepted exactly when none of its conditions holds, and refused with a number exactly
  -- when that one is the first that holds (the verdict's 21 is in `VerdictClauses`)
  pub accepted_exactly : AcceptedExactly h
  pub refused_exactly : RefusedExactly h
  pub after : Invariant h (judge_after h)
  pub verdict : VerdictClauses h
  pub report : ReportClauses h
