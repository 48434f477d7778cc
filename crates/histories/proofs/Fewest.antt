-- The M that the build returns, and that an installation or a load answers, is the fewest starts
-- (R-12): it is the number of starts of the built rule, which crates/delegates shows to be the
-- least. Assumes nothing.
use mathlib.Core.Path.{◌≡◌, refl, sym, ap, ◌∙◌, subst}
use mathlib.Core.List.{List}
use mathlib.Core.Option.{Option, none, some}
use Prim.Native.Nat.{ℕ}
use lib.ListN.{length}
use Rattle.base.proofs.Tests.{by_test, zero_one}
use Rattle.automaton.specs.declared.Rule.{Rule}
use Rattle.automaton.specs.Automaton.{Automaton}
use Rattle.automaton.specs.Rules.{automaton_of, WellFormed}
use Rattle.ruleformat.specs.Reader.{rule_of}
use Rattle.ruleformat.specs.Language.{automaton_in}
use Rattle.subsets.specs.Sets.{too_many}
use Rattle.subsets.specs.Claims.{fits}
use Rattle.delegates.specs.Claims.{starts_in}
use Rattle.delegates.specs.Alike.{Merged}
use Rattle.delegates.specs.Fewest.{start_list}
use Rattle.delegates.proofs.Fewest.{fewest_claims}
use Rattle.build.specs.mirror.Building.{accepted, refused, sets, Outcome, build_of}
use Rattle.build.proofs.Claims as build
use Rattle.calls.specs.Replies.{installed}
use Rattle.calls.specs.Calls.{Call, install_number, load_number, with_sets}
use Rattle.histories.specs.History.{reply_by}
use Rattle.histories.specs.Fewest.{Fewest, BuildFewest, InstallFewest, LoadFewest}
use Rattle.histories.proofs.Steps.{accepted_rule}
use Rattle.histories.proofs.Method.{method_bytes}

-- of an automaton whose starts are known
by_starts : (a : Automaton) (d : List ℕ) (m : ℕ) → Merged a d m → Fewest a m
by_starts a d m merged = record {
  no_fewer = fewest_claims.fewest a d m merged;
  attained = (start_list d a.n, fewest_claims.starts_cover a d m merged, fewest_claims.start_count_lem a d m merged);
}

-- of a rule that is built
least : (r : Rule) → WellFormed r → fits r → Fewest (automaton_of r) (starts_in r).startcount
least r good fit = by_starts (automaton_of r) (starts_in r).delegates (starts_in r).startcount ((build.claims).delegates r good fit)

pub build_fewest : BuildFewest
unfolding build_of
build_fewest rule good r may n m e =
    by_test (too_many rule.targets rule.n rule.k)
    (λ many.
    let is : accepted n m ≡ refused 9 = sym e ∙ ap (λ (o : Outcome). o.answer) may.1 ∙ rw many in
    zero_one cc)
    (λ few.
    let is : accepted n m ≡ accepted (length (sets rule)) (starts_in rule).startcount = sym e ∙ ap (λ (o : Outcome). o.answer) may.1 ∙ rw few in
    let same : (starts_in rule).startcount ≡ m = cc in
    subst (Fewest (automaton_of rule)) same (least rule good few))

pub install_fewest : (h : List Call) → InstallFewest h
install_fewest h r n m = by_number (install_number r) refl
  where
    by_number : (o : Option ℕ) → install_number r ≡ o → reply_by o (with_sets r) ≡ installed n m → Fewest (automaton_of r) m
    by_number none z e =
        let same : (starts_in r).startcount ≡ m = cc in
        let x = accepted_rule r z in
        subst (Fewest (automaton_of r)) same (least r x.0 x.1)
    by_number (some y) z e = zero_one cc

pub load_fewest : (h : List Call) → LoadFewest h
load_fewest h f n m = by_number (load_number f) refl
  where
    by_number : (o : Option ℕ) → load_number f ≡ o → reply_by o (with_sets (rule_of f)) ≡ installed n m → Fewest (automaton_in f) m
    by_number none z e =
        let same : (starts_in (rule_of f)).startcount ≡ m = cc in
        subst (Fewest (automaton_in f)) same (by_starts (automaton_in f) (starts_in (rule_of f)).delegates (starts_in (rule_of f)).startcount (method_bytes f z).delegates)
    by_number (some y) z e = zero_one cc
