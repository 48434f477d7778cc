-- The yes or no is as it was with the starts of document 01, after every list of calls (R-7):
-- with no place empty, both joins are over the end sets of the same texts. Assumes nothing.
use mathlib.Core.Path.{◌≡◌, refl, sym, ap, ◌∙◌, subst}
use mathlib.Core.Bool.{cond}
use mathlib.Core.List.{List, []}
use mathlib.Core.Option.{Option, none, some}
use Prim.Native.Nat.{ℕ, ◌<◌}
use lib.ListN.{length, get_or}
use Rattle.base.specs.Options.{is_none}
use Rattle.base.specs.Totals.{total}
use Rattle.base.proofs.Tests.{not_both}
use Rattle.marks.specs.Marks.{text_of}
use Rattle.automaton.specs.declared.Rule.{Rule}
use Rattle.automaton.specs.Automaton.{Text}
use Rattle.automaton.specs.Rules.{automaton_of, WellFormed}
use Rattle.subsets.specs.Claims.{fits}
use Rattle.delegates.specs.Alike.{delegate_in}
use Rattle.delegates.specs.Claims.{starts_in}
use Rattle.chunks.specs.Chunks.{end_set}
use Rattle.joins.specs.Joining.{yes_of}
use Rattle.joins.specs.Former.{FormerMerged, former_run_set, former_yes}
use Rattle.joins.proofs.Former.{former_claims}
use Rattle.calls.specs.declared.Judge.{Judge}
use Rattle.calls.specs.Calls.{Call}
use Rattle.histories.specs.History.{rule_there, rule_from, places_in, standing_end, last_revision, standing, run_at}
use Rattle.histories.specs.Claims.{judge_after}
use Rattle.histories.specs.FormerStarts.{SameAnswer}
use Rattle.histories.proofs.Running.{merged}
use Rattle.histories.proofs.Agreement.{Agrees}
use Rattle.histories.proofs.VerdictClauses.{chunks_up_to, chunks_length, chunk_at, chunk_texts, filled, none_empty, there}
use Rattle.histories.proofs.EveryList.{good}

module _ (r : Rule) (d : List ℕ) (places : ℕ) (at : ℕ → Option (List ℕ)) where
  -- what the places hold where the states `run p` are run at place p
  abbrev ends_by : (ℕ → ℕ) → ℕ → ℕ → ℕ
  ends_by run p q = standing_end r.targets (run p) q (at p)

  abbrev former : ℕ → ℕ
  former = former_run_set d r.n r.initials

  abbrev BothSay : ℕ → Type 0
  BothSay n =
      former_yes (ends_by former) d r.n r.initials r.finals n
      ≡ yes_of (ends_by (run_at r)) (delegate_in (starts_in r).delegates) r.n r.initials r.finals n

  module _ (m : ℕ) (was : FormerMerged (automaton_of r) d m) (well : WellFormed r) (fit : fits r) (texts : (p : ℕ) (w : List ℕ) → at p ≡ some w → Text r.k (text_of w)) (full : total (λ p. cond (is_none (at p)) 1 0) places ≡ 0) where
    -- they are the end sets of the texts
    holds : (run : ℕ → ℕ) (p : ℕ) → p < length (chunks_up_to at places) → (q : ℕ) → q < r.n
        → ends_by run p q ≡ end_set r.targets (run p) (get_or (chunks_up_to at places) p []) q
    holds run p l q _ =
        let lp : p < places = rw (chunks_length at places) at l in
        filled r.targets (run p) q (at p) (none_empty r well fit places at full p lp)
        ∙ ap (λ (w : List ℕ). end_set r.targets (run p) w q) (sym (chunk_at at places p lp))

    both_say : BothSay places
    both_say =
        subst BothSay (chunks_length at places)
        (former_claims.same_answer r well (chunks_up_to at places) (chunk_texts r.k at texts places)
        d m was (ends_by former) (holds former)
        (starts_in r).delegates (starts_in r).startcount (merged r well fit) (ends_by (run_at r)) (holds (run_at r)))

-- a board is there only with a rule
by_rule : (present : Option Rule) (d : List ℕ) (m : ℕ) → FormerMerged (automaton_of (rule_from present)) d m → (places : ℕ) (at : ℕ → Option (List ℕ)) (last : ℕ → Option ℕ) (j : Judge) → Agrees present places at last j → 0 < places
    → total (λ p. cond (is_none (at p)) 1 0) places ≡ 0 → BothSay (rule_from present) d places at places
by_rule none d m was places at last j agrees l full = not_both refl (agrees.ruled l)
by_rule (some r) d m was places at last j agrees l full = both_say r d places at m was agrees.rule.1 agrees.rule.2 agrees.texts full

pub same_answer : (h : List Call) → SameAnswer h
same_answer h d m was board full = by_rule (rule_there h) d m was (places_in h) (standing h) (last_revision h) (judge_after h) (good h) (there h board) full
