-- Summaries that were made one by one, wherever, and put together two at a time are summaries in
-- brackets. Assumes that what is made is the rule's summary, and that what is put together is
-- combined.
use mathlib.Core.Path.{◌≡◌, refl, sym, ap, ap₂, ◌∙◌, subst}
use mathlib.Core.List.{List, [], ◌∷◌, ◌++◌}
use mathlib.Core.Option.{none}
use Prim.Native.Nat.{ℕ, suc, ◌≤◌}
use lib.ListN.{length}
use Rattle.compositions.specs.Bracketing.{Bracketed, leaf, both, leaves, value_of}
use Rattle.automaton.specs.declared.Rule.{Rule}
use Rattle.calls.specs.Replies.{refusal_in}
use Rattle.calls.specs.Calls.{install_number}
use Rattle.summaries.specs.declared.Summary.{Summary}
use Rattle.summaries.specs.Summaries.{combine, conclude_of}
use Rattle.summaryverdict.specs.Traces.{judge_of, Numbered, summary_at, summaries_from, SummarizesAll, made_by, Reports, Used}
use Rattle.summaryverdict.specs.Functions.{Gathered, one, put, numbered_from}
use Rattle.summaryverdict.proofs.Claims.{claims}

made_append : (r : Rule) (ps qs : List Numbered) → made_by r (ps ++ qs) ≡ made_by r ps ++ made_by r qs
made_append r [] qs = refl
made_append r (p ∷ ps) qs = ap (λ (s : List Summary). summary_at r p.number p.chunk ∷ s) (made_append r ps qs)

made_numbered : (r : Rule) (p : ℕ) (ws : List (List ℕ)) → made_by r (numbered_from p ws) ≡ summaries_from r p ws
unfolding numbered_from summaries_from
made_numbered r p [] = refl
made_numbered r p (w ∷ ws) = ap (λ (s : List Summary). summary_at r p w ∷ s) (made_numbered r (suc p) ws)

module _ (r : Rule) (Makes : ℕ → List ℕ → Summary → Type 0) (Puts : Summary → Summary → Summary → Type 0)
    (makes : (number : ℕ) (w : List ℕ) (a : Summary) → Makes number w a → a ≡ summary_at r number w)
    (puts : (a b c : Summary) → Puts a b c → c ≡ combine a b) where
  -- the brackets
  record Brought (ps : List Numbered) (a : Summary) : Type 0 where
    tree : Bracketed Summary
    are : leaves tree ≡ made_by r ps
    value : value_of combine tree ≡ a

  brought : {ps : List Numbered} {a : Summary} → Gathered Makes Puts ps a → Brought ps a
  unfolding leaves value_of
  brought (one number w a m) = record { tree = leaf a; are = ap (λ (x : Summary). x ∷ []) (makes number w a m); value = refl }
  brought (put {ps} {qs} {a} {b} c x y m) =
      let u = brought x in
      let v = brought y in
      record {
        tree = both u.tree v.tree;
        are = ap₂ (λ (s t : List Summary). s ++ t) u.are v.are ∙ sym (made_append r ps qs);
        value = ap₂ combine u.value v.value ∙ sym (puts a b c m);
      }

  module _ (takes : install_number r ≡ none) where
    pub gathered_used : (ps : List Numbered) (a : Summary) → Gathered Makes Puts ps a → (chunks : ℕ)
        → refusal_in (conclude_of (judge_of r) a chunks).verdict ≡ none → Used r ps chunks (conclude_of (judge_of r) a chunks)
    gathered_used ps a g chunks ok =
        let u = brought g in
        subst (λ (x : Summary). refusal_in (conclude_of (judge_of r) x chunks).verdict ≡ none → Used r ps chunks (conclude_of (judge_of r) x chunks)) u.value
        (claims.used r takes ps u.tree u.are chunks)
        ok

    pub gathered_reports : (ws : List (List ℕ)) (a : Summary) → Gathered Makes Puts (numbered_from 0 ws) a → SummarizesAll r ws → length ws ≤ 18446744073709551615
        → Reports r ws (conclude_of (judge_of r) a (length ws))
    gathered_reports ws a g runs few =
        let u = brought g in
        subst (λ (x : Summary). Reports r ws (conclude_of (judge_of r) x (length ws))) u.value
        (claims.concludes r ws u.tree (record { takes = takes; runs = runs; within = few; are = u.are ∙ made_numbered r 0 ws }))
