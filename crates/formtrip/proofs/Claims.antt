-- The one proof of all that specs/Claims.antt claims. Assumes nothing.
use mathlib.Core.Path.{◌≡◌, refl, ap, ◌∙◌}
use mathlib.Core.Bool.{true, false}
use mathlib.Core.List.{List, ◌∷◌}
use mathlib.Core.Option.{Option, none, some}
use Prim.Native.Nat.{min}
use native.Mathlib.Omega.{arith}
use borrow.Author.Tests.{eq-eqb, ne_eqb}
use Rattle.base.proofs.Options.{none-some}
use Rattle.limits.specs.Limits.{most_symbols, most_sets}
use Rattle.automaton.specs.declared.Rule.{Rule}
use Rattle.build.specs.declared.Built.{Built}
use Rattle.calls.specs.declared.Judge.{Judge}
use Rattle.calls.specs.Calls.{Call, installs, install_number}
use Rattle.calls.specs.mirror.Steps.{lacks_rule}
use Rattle.forms.specs.Form.{form_of}
use Rattle.forms.specs.Back.{back_of}
use Rattle.forms.specs.Claims.{IsTable}
use Rattle.forms.proofs.Trip.{round_trip}
use Rattle.formmaker.specs.Making.{Made, no_form, made_of}
use Rattle.histories.specs.History.{rule_there}
use Rattle.histories.specs.Claims.{judge_after, BuiltBy}
use Rattle.histories.proofs.EveryList.{every_list}
use Rattle.formtrip.specs.Claims.{table_in, Claims}
use Rattle.formtrip.proofs.Tables as tables

-- ---- a judge by the rule that is there
lacks : (j : Judge) → BuiltBy none j → lacks_rule j ≡ true
lacks j e = eq-eqb j.built.n 0 (ap (λ (b : Built). b.n) e)

module _ (j : Judge) (r : Rule) (is : BuiltBy (some r) j) where
  has_rule : lacks_rule j ≡ false
  has_rule =
      let n : j.built.n ≡ min r.n 32 = ap (λ (b : Built). b.n) is.0 in
      let g = is.1.states in
      ne_eqb j.built.n 0 (λ z. absurd (omega (arith, g.0)))

  sets_are : min j.built.setcount most_sets ≡ j.built.setcount
  sets_are =
      let n = ap (λ (b : Built). b.setcount) is.0 in
      let m = tables.most r is.1 is.2 in
      omega arith

  symbols_are : min j.built.k most_symbols ≡ j.built.k
  symbols_are = let k = ap (λ (b : Built). b.k) is.0 in omega arith

  table_is : IsTable j.built.setcount j.built.k j.built.next
  table_is =
      let k : j.built.k ≡ r.k = ap (λ (b : Built). b.k) is.0 ∙ tables.symbols r is.1 is.2 in
      let n = ap (λ (b : Built). b.setcount) is.0 in
      let l = ap (λ (b : Built). b.next) is.0 in
      rw (k, n, l) (tables.a_table r is.1 is.2)

  made-is : made_of j ≡ record { number = none; form = form_of j.built.setcount j.built.k j.built.next }
  made-is = rw (has_rule, sets_are, symbols_are)

  trip : back_of (made_of j).form ≡ record { number = none; table = table_in j }
  trip =
      ap (λ (m : Made). back_of m.form) made-is
      ∙ round_trip j.built.setcount j.built.k j.built.next table_is

-- ---- after a list of calls
there : (h : List Call) (o : Option Rule) → rule_there h ≡ o → BuiltBy o (judge_after h)
there h o e = rw e at (every_list h).after.rule

twenty : (h : List Call) → rule_there h ≡ none → made_of (judge_after h) ≡ record { number = some 20; form = no_form }
twenty h e = rw (lacks (judge_after h) (there h none e))

only_then : (h : List Call) (o : Option Rule) → rule_there h ≡ o → (made_of (judge_after h)).number ≡ some 20 → rule_there h ≡ none
only_then h none e n = e
only_then h (some r) e n = none-some (ap (λ (m : Made). m.number) (made-is (judge_after h) r (there h (some r) e))) n

after_installing : (h : List Call) (r : Rule) → install_number r ≡ none → rule_there (installs r ∷ h) ≡ some r
unfolding rule_there
after_installing h r e = rw e

pub claims : Claims
claims = record {
  no_rule_lem = λ h. (only_then h (rule_there h) refl, λ e. ap (λ (m : Made). m.number) (twenty h e));
  zeros = λ h e. ap (λ (m : Made). m.form) (twenty h e);
  form = λ h r e. made-is (judge_after h) r (there h (some r) e);
  a_table = λ h r e. table_is (judge_after h) r (there h (some r) e);
  round_trip = λ h r e. trip (judge_after h) r (there h (some r) e);
  installed = λ h r e.
      let j = judge_after (installs r ∷ h) in
      let is = there (installs r ∷ h) (some r) (after_installing h r e) in
      trip j r is ∙ ap (λ (b : Built). record { number = none; table = record { sets = b.setcount; symbols = b.k; next = b.next } }) is.0;
}
