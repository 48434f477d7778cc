-- EVERY LIST OF CALLS, in document 01's words: the replies are right, and the judge that is left
-- holds what stands. Assumes nothing.
use mathlib.Core.Path.{◌≡◌, refl, sym, ap, ◌∙◌, subst}
use mathlib.Core.Logic.{◌↔◌}
use mathlib.Core.Bool.{true}
use mathlib.Core.List.{List}
use mathlib.Core.Option.{Option, none, some}
use Prim.Native.Nat.{ℕ, ◌<◌}
use native.Mathlib.Omega.{arith}
use lib.ListN.{length}
use Rattle.base.proofs.Options.{is-none}
use Rattle.automaton.specs.declared.Rule.{Rule}
use Rattle.automaton.specs.Automaton.{Accepts}
use Rattle.automaton.specs.Rules.{automaton_of}
use Rattle.delegates.specs.Alike.{delegate_in}
use Rattle.delegates.specs.Claims.{starts_in}
use Rattle.build.specs.mirror.Building.{built_of}
use Rattle.board.specs.Boards.{held}
use Rattle.chunks.proofs.Counting.{how_many_once}
use Rattle.joins.specs.Joining.{yes_of}
use Rattle.executions.specs.Executions.{Library, Execution, Meets}
use Rattle.executions.proofs.Executions.{execution_law}
use Rattle.calls.specs.declared.Judge.{Judge}
use Rattle.calls.specs.Replies.{Reply}
use Rattle.calls.specs.Calls.{Call}
use Rattle.histories.specs.History.{rule_there, rule_in, places_in, standing, standing_text, empties_in, end_at, yes_in, text_in as text_by, answers_to}
use Rattle.histories.specs.Method.{Method}
use Rattle.histories.specs.Claims.{judge_machine, judge_after, least_after, BuiltBy}
use Rattle.histories.proofs.EveryList.{every_list, good}
use Rattle.transcripts.specs.Standing.{Source, automaton_by, Standing, standing_after, the_automaton, text_in}
use Rattle.transcripts.specs.Runs.{Joined}
use Rattle.transcripts.specs.Answers.{Right}
use Rattle.transcripts.specs.Claims.{Holds}
use Rattle.transcripts.specs.Agreement.{value_of, rule_for, Sound, SoundSource, Agree}
use Rattle.transcripts.proofs.Agree.{agree}
use Rattle.transcripts.proofs.Sources.{method_by, accepts_by}
use Rattle.transcripts.proofs.Places.{ruled, end_at_lem, count_at_lem, sum_law, empties_same, text_same}
use Rattle.transcripts.proofs.Joining.{join_law}
use Rattle.transcripts.proofs.Fixed.{right}

module _ (h : List Call) (s : Standing) (g : Agree h s) where
  abbrev j : Judge
  j = judge_after h

  -- ---- the rule that is there
  module _ (x : Source) (e : s.rule ≡ some x) where
    rule_is : rule_there h ≡ some (value_of x)
    rule_is = g.rule ∙ ap rule_for e

    sound : SoundSource x
    sound = subst Sound e g.sound

    built_is : j.built ≡ built_of (value_of x)
    built_is = (subst (λ (o : Option Rule). BuiltBy o j) rule_is (every_list h).after.rule).0

    method : Method (automaton_by x) j.built
    method = subst (Method (automaton_by x)) (sym built_is) (method_by x sound)

    -- M is the one that the counts are bounded by
    starts_are : (starts_in (rule_in h)).startcount ≡ j.built.startcount
    starts_are = rw (rule_is, built_is)

    joins : 0 < places_in h → empties_in h ≡ 0
        → ((y : ℕ) × Joined (automaton_by x) (held j.board) (places_in h) y × (automaton_by x).Final y) ↔ Accepts (automaton_by x) (text_by h)
    joins l full =
        let there = (every_list h).verdict.board.1 l in
        let yes_law : (yes_in h ≡ true) ↔ Accepts (automaton_of (rule_in h)) (text_by h) =
        let a = (every_list h).verdict.accepts there full in
        let b = (every_list h).verdict.joins there full in
        ((λ z. a.0 (b.1 z)), λ z. b.0 (a.1 z)) in
        let law =
        join_law x sound (end_at h) (held j.board) (places_in h)
        (λ p d b c. sym ((every_list h).after.ends p d (omega (arith, b, (good h).few)) c)) in
        let same : yes_in h ≡ yes_of (end_at h) (delegate_in (starts_in (value_of x)).delegates) (value_of x).n (value_of x).initials (value_of x).finals (places_in h) = rw rule_is in
        let back = accepts_by x sound (text_by h) in
        let rule-same : rule_in h ≡ value_of x = rw rule_is in (
          (λ z. back.1 (subst (λ (r : Rule). Accepts (automaton_of r) (text_by h)) rule-same (yes_law.0 (same ∙ law.1 z)))),
          λ z. law.0 (sym same ∙ yes_law.1 (subst (λ (r : Rule). Accepts (automaton_of r) (text_by h)) (sym rule-same) (back.0 z))),
        )

  -- a board is there only with a rule
  with_rule_lem : {A : Type 0} → 0 < places_in h → ((x : Source) → s.rule ≡ some x → A) → A
  with_rule_lem {A} l f = of s.rule refl
    where
      of : (o : Option Source) → s.rule ≡ o → A
      of none e = absurd (ruled h s g l e)
      of (some x) e = f x e

  some_places : 0 < s.places → 0 < places_in h
  some_places l = omega (arith, g.places)

  pub holds : Holds s j
  holds = record {
    method = method;
    places = (every_list h).after.places ∙ sym g.places;
    empty = λ p l.
        let e = (every_list h).after.empty p l in
        let n = is-none (standing h p) in
        ((λ z. g.chunk p ∙ n.0 (sym e ∙ z)), λ z. e ∙ n.1 (sym (g.chunk p) ∙ z));
    ends = λ p q l b y. rw ((every_list h).after.ends p q l b) (end_at_lem h s g p q y);
    counts = λ p l. rw ((every_list h).after.counts p l) (count_at_lem h s g p);
    lengths = λ p l. (every_list h).after.lengths p l ∙ ap (λ (o : Option (List ℕ)). length (standing_text o)) (sym (g.chunk p));
    revisions = λ p l. (every_list h).after.revisions p l ∙ ap least_after (sym (g.revision p));
    joined = λ l full. joined_by (some_places l) (sym (empties_same h s g) ∙ full);
    most = λ c l x.
        with_rule_lem (some_places l) (λ y e. rw ((sum_law h s g c).0 x, ← starts_are y e, text_same h s g) (every_list h).verdict.most);
    place_most = λ p c l x.
        with_rule_lem (omega (arith, g.places, l))
        (λ y e. rw (how_many_once x (count_at_lem h s g p), ← starts_are y e, g.chunk p) ((every_list h).verdict.place_most p));
  }
    where
      joined_by : 0 < places_in h → empties_in h ≡ 0
          → ((y : ℕ) × Joined (the_automaton s) (held j.board) s.places y × (the_automaton s).Final y) ↔ Accepts (the_automaton s) (text_in s)
      joined_by l full = rw (text_same h s g, g.places) (with_rule_lem l (λ x e. rw e (joins x e l full)))

-- THE CLAIM, of any library that does what the judge's functions do
pub every_list_right : (l : Library Judge Call Reply) → Meets l judge_machine → (h : List Call) (rs : List Reply) (j : Judge)
    → Execution l h rs j → Right h rs × Holds (standing_after h rs) j
every_list_right l meets h rs j e =
    let is = (execution_law l judge_machine meets h rs j).0 e in
    let replies : answers_to h ≡ rs = sym (is.0 ∙ (every_list h).correct) in (
      subst (Right h) replies (right h),
      subst (λ (k : Judge). Holds (standing_after h rs) k) (sym is.1)
          (subst (λ (qs : List Reply). Holds (standing_after h qs) (judge_after h)) replies (holds h (standing_after h (answers_to h)) (agree h))),
    )
