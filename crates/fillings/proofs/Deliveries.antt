-- The rule that is there, and what a delivery to it is refused with. Assumes nothing.
use mathlib.Core.Path.{◌≡◌, sym, ap, ◌∙◌, subst}
use mathlib.Core.Logic.{◌↔◌, ◌⊎◌, ⊎_elim}
use mathlib.Core.Bool.{true}
use mathlib.Core.List.{List}
use mathlib.Core.Option.{Option, none, some}
use Prim.Native.Nat.{ℕ, ◌<◌}
use Rattle.marks.specs.Marks.{text_of}
use Rattle.automaton.specs.declared.Rule.{Rule}
use Rattle.automaton.specs.Rules.{WellFormed}
use Rattle.rulecheck.proofs.Claims as check
use Rattle.subsets.specs.Claims.{fits}
use Rattle.chunks.specs.Chunks.{foreign}
use Rattle.chunks.specs.Taking.{chunk_number}
use Rattle.chunks.proofs.Claims as chunks
use Rattle.calls.specs.Replies.{refused}
use Rattle.calls.specs.Calls.{Call, delivers, install_number}
use Rattle.calls.proofs.Conditions.{install_number_lem}
use Rattle.histories.specs.History.{rule_there, rule_from, rule_in, places_in, answer_of}
use Rattle.histories.specs.Claims.{judge_after, BuiltBy}
use Rattle.histories.proofs.EveryList.{every_list, good}

pub well : (h : List Call) (r : Rule) → rule_there h ≡ some r → WellFormed r × fits r
well h r e = let x : BuiltBy (some r) (judge_after h) = subst (λ (o : Option Rule). BuiltBy o (judge_after h)) e (good h).rule in (x.1, x.2)

pub installs : (h : List Call) (r : Rule) → rule_there h ≡ some r → install_number r ≡ none
installs h r e = let x = well h r e in install_number_lem r ∙ rw (((check.claims).passes r).1 x.0, x.1)

module _ (h : List Call) (r : Rule) (rule : rule_there h ≡ some r) (p v : ℕ) (below : p < places_in h) (w : List ℕ) where
  abbrev Same : ℕ → Type 0
  Same x = (chunk_number r.k w ≡ some x) ↔ (answer_of h (delivers p v w) ≡ refused x)

  same_k : (rule_in h).k ≡ r.k
  same_k = ap (λ o. (rule_from o).k) rule

  same_12 : Same 12
  same_12 =
      let law = ((chunks.claims).taking r.k w).number_12 in
      let board = (every_list h).refused_exactly.deliver_12 p v w in
      ((λ e. board.1 (below, law.0 e)), λ e. law.1 (board.0 e).1)

  same_13 : Same 13
  same_13 =
      let law = ((chunks.claims).taking r.k w).number_13 in
      let board = (every_list h).refused_exactly.deliver_13 p v w in (
        (λ e. let x = law.0 e in board.1 (below, x.0, rw same_k x.1)),
        λ e. let x = board.0 e in law.1 (x.1, subst (λ (k : ℕ). foreign (text_of w) k ≡ true) same_k x.2),
      )

  pub as_delivered : (x : ℕ) → (x ≡ 12) ⊎ (x ≡ 13) → Same x
  as_delivered x = ⊎_elim (λ e. subst Same (sym e) same_12) (λ e. subst Same (sym e) same_13)
