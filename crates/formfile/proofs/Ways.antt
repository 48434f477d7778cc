-- One lemma for each way out of `form_in`. Assumes nothing.
use Rattle.std.proofs.Common.{Ok, Err}
use mathlib.Core.Path.{◌≡◌, refl, sym, ap, ◌∙◌}
use mathlib.Core.List.{List}
use mathlib.Core.Option.{Option, none, some}
use Prim.Native.Nat.{ℕ}
use Rattle.base.proofs.Tests.{zero_one}
use Rattle.ruleformat.specs.Reader.{rule_of}
use Rattle.base.specs.declared.Refusal.{Refusal}
use Rattle.base.specs.Answers.{refusal_number}
use Rattle.calls.specs.declared.Judge.{Judge}
use Rattle.calls.specs.declared.Sizes.{Sizes}
use Rattle.calls.specs.declared.InstallResult.{InstallResult}
use Rattle.calls.specs.Replies.{Reply, refused, install_means, Outcome, install_outcome}
use Rattle.calls.specs.Calls.{load_number, with_sets}
use Rattle.calls.specs.mirror.Steps.{outcome_by, with_rule, load_of}
use Rattle.formmaker.specs.Making.{made_of, made_outcome}
use Rattle.formfile.specs.Files.{form_by, form_for}

-- a reply by the number of the conditions
number_of : (o : Option ℕ) (a b : ℕ) (j next : Judge) (x : ℕ) → (outcome_by o (Reply.installed a b) j next).reply ≡ refused x → o ≡ some x
number_of none a b j next x e = zero_one cc
number_of (some y) a b j next x e = let z : y ≡ x = cc in ap some z

none_of : (o : Option ℕ) (a b c d : ℕ) (j next : Judge) → (outcome_by o (Reply.installed a b) j next).reply ≡ Reply.installed c d → o ≡ none
none_of none a b c d j next e = refl
none_of (some y) a b c d j next e = zero_one cc

module _ (j : Judge) (f : List ℕ) (r : InstallResult) (is : install_outcome r ≡ load_of j f) where
  replies : install_means r.answer ≡ (load_of j f).reply
  replies = ap (λ (o : Outcome). o.reply) is

  pub unread : (e : Refusal) → r.answer ≡ Err e → made_outcome (Err e) ≡ form_for f
  unfolding load_of
  unread e is-err =
      let n : load_number f ≡ some (refusal_number e)
      = number_of (load_number f) _ _ j (with_rule (rule_of f)) (refusal_number e) (sym replies ∙ ap install_means is-err) in
      sym (ap (λ (o : Option ℕ). form_by o f) n)

  pub made : (s : Sizes) → r.answer ≡ Ok s → made_of r.judge ≡ form_for f
  unfolding load_of
  made s is-ok =
      let n : load_number f ≡ none
      = none_of (load_number f) _ _ s.sets s.starts j (with_rule (rule_of f)) (sym replies ∙ ap install_means is-ok) in
      let state : r.judge ≡ with_rule (rule_of f)
      = ap (λ (o : Outcome). o.state) is ∙ ap (λ (o : Option ℕ). (outcome_by o (with_sets (rule_of f)) j (with_rule (rule_of f))).state) n in
      ap made_of state ∙ sym (ap (λ (o : Option ℕ). form_by o f) n)
