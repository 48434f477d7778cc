-- The one proof of all that specs/Claims.antt claims: a load that is accepted installs the rule in
-- the file. Assumes nothing.
use mathlib.Core.Path.{◌≡◌, refl, sym, ap, ◌∙◌, subst}
use mathlib.Core.List.{List, [], ◌∷◌}
use mathlib.Core.Option.{Option, none, some}
use Prim.Native.Nat.{ℕ}
use Rattle.ruleformat.specs.Reader.{rule_of}
use Rattle.build.specs.mirror.Building.{built_of}
use Rattle.calls.specs.declared.Judge.{Judge}
use Rattle.calls.specs.Calls.{Call, loads, load_number, with_sets}
use Rattle.calls.specs.mirror.Steps.{outcome_by, with_rule, load_of}
use Rattle.forms.specs.Form.{form_of}
use Rattle.forms.specs.Back.{back_of}
use Rattle.formmaker.specs.Making.{Made, made_of}
use Rattle.formtrip.specs.Claims.{table_in}
use Rattle.formtrip.proofs.Claims as formtrip
use Rattle.executions.specs.Executions.{state_after}
use Rattle.histories.specs.History.{rule_there}
use Rattle.histories.specs.Claims.{judge_after}
use Rattle.formfile.specs.Files.{form_by, form_for}
use Rattle.formfile.specs.Claims.{Claims}

module _ (f : List ℕ) (ok : load_number f ≡ none) where
  abbrev calls : List Call
  calls = loads f ∷ []

  judge_is : judge_after calls ≡ with_rule (rule_of f)
  unfolding state_after load_of
  judge_is = ap (λ (o : Option ℕ). (outcome_by o (with_sets (rule_of f)) (judge_after []) (with_rule (rule_of f))).state) ok

  rule_there_lem : rule_there calls ≡ some (rule_of f)
  unfolding rule_there
  rule_there_lem = rw ok

  made-is : form_for f ≡ made_of (with_rule (rule_of f))
  made-is = ap (λ (o : Option ℕ). form_by o f) ok

  form_is : made_of (with_rule (rule_of f))
      ≡ record { number = none; form = form_of (built_of (rule_of f)).setcount (built_of (rule_of f)).k (built_of (rule_of f)).next }
  form_is =
      subst (λ (j : Judge). made_of j ≡ record { number = none; form = form_of j.built.setcount j.built.k j.built.next })
      judge_is ((formtrip.claims).form calls (rule_of f) rule_there_lem)

  back_is : back_of (made_of (with_rule (rule_of f))).form ≡ record { number = none; table = table_in (with_rule (rule_of f)) }
  back_is =
      subst (λ (j : Judge). back_of (made_of j).form ≡ record { number = none; table = table_in j })
      judge_is ((formtrip.claims).round_trip calls (rule_of f) rule_there_lem)

as_load : (f : List ℕ) (o : Option ℕ) → load_number f ≡ o → (form_for f).number ≡ load_number f
as_load f none e = ap (λ (m : Made). m.number) (made-is f e ∙ form_is f e) ∙ sym e
as_load f (some x) e = ap (λ (o : Option ℕ). (form_by o f).number) e ∙ sym e

pub claims : Claims
claims = record {
  as_load = λ f. as_load f (load_number f) refl;
  zeros = λ f x e. ap (λ (o : Option ℕ). (form_by o f).form) e;
  form = λ f e. ap (λ (m : Made). m.form) (made-is f e ∙ form_is f e);
  round_trip = λ f e. ap (λ (m : Made). back_of m.form) (made-is f e) ∙ back_is f e;
}
