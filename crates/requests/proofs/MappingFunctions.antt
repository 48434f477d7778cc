-- The contracts of the mapping machine's functions for C fix every number of a result; and whoever
-- builds, runs, composes and asks through them gets the yes or no of the judge. Assumes nothing.
use mathlib.Core.Path.{◌≡◌, refl, sym, ap, ap₂, ◌∙◌}
use mathlib.Core.Logic.{◌↔◌, inl, inr}
use mathlib.Core.List.{List, [], ◌∷◌, ◌++◌, map}
use mathlib.Core.Option.{Option, none, some}
use Prim.Native.Nat.{ℕ}
use native.Mathlib.Omega.{arith}
use Rattle.base.proofs.Tests.{by_test}
use Rattle.automaton.specs.declared.Rule.{Rule}
use Rattle.mappings.specs.declared.Mapping.{Mapping}
use Rattle.compositions.specs.Bracketing.{Bracketed, leaf, both, leaves, value_of}
use Rattle.mappings.specs.Mappings.{compose}
use Rattle.profile.specs.declared.Profile.{Profile}
use Rattle.profile.specs.Profiles.{build_number, profile_of, build_by, build_of}
use Rattle.profile.specs.Runs.{run_of, verdict_of}
use Rattle.profile.specs.Claims.{Takes}
use Rattle.fillings.specs.Filled.{Filled}
use Rattle.mapverdict.specs.Filled.{mappings_of}
use Rattle.mapverdict.proofs.Claims as mapverdict
use Rattle.c_mappings.specs.declared.BuildNumbers.{BuildNumbers}
use Rattle.c_mappings.specs.declared.RunNumbers.{RunNumbers}
use Rattle.c_mappings.specs.Numbers.{build_shown, run_shown, mapping_shown, verdict_shown}
use Rattle.calls.specs.Replies.{Reported}
use Rattle.calls.specs.Calls.{Call}
use Rattle.histories.specs.History.{verdict_in}
use Rattle.histories.specs.Claims.{judge_after}
use Rattle.histories.proofs.EveryList.{every_list}
use Rattle.histories.proofs.Refinement.{lent}
use Rattle.capi.specs.declared.VerdictNumbers.{VerdictNumbers}
use Rattle.verdicts.specs.Shown.{kind_of}
use Rattle.demands.specs.Functions.{MayJudge}
use Rattle.requests.specs.MappingFunctions.{MayBuild, MayRun, MayCompose, MaySay, RunEach, all_run, one_more, ComposedTo, alone, joined, SameAnswer}

-- ---- what each function may return
pub build_fixed : (r : Rule) (b : BuildNumbers) → MayBuild r b ↔ b ≡ build_shown (build_of r)
build_fixed r b = ((λ m. m.1), λ e. ((r, tt), e))

pub run_fixed : (p : Profile) (w : List ℕ) (r : RunNumbers) → MayRun p w r ↔ r ≡ run_shown (run_of p w)
run_fixed p w r = (
  (λ m. m.4 ∙ ap (λ (x : List ℕ). run_shown (run_of p x)) m.3),
  λ e. (([], tt), lent w, (p, (lent w, tt)), refl, e),
)

pub compose_fixed : (f g h : Mapping) → MayCompose f g h ↔ h ≡ mapping_shown (compose f.masks g.masks)
compose_fixed f g h = ((λ m. m.1), λ e. ((f, (g, tt)), e))

pub say_fixed : (p : Profile) (f : Mapping) (x : ℕ) → MaySay p f x ↔ x ≡ verdict_shown (verdict_of p f.masks)
say_fixed p f x = ((λ m. m.1), λ e. ((p, (f, tt)), e))

-- ---- an accepted build
accepted_by : (o : Option ℕ) (r : Rule) → (build_shown (build_by o r)).accepted ≡ 1 → o ≡ none
accepted_by none r e = refl
accepted_by (some x) r e = absurd (let z = e in omega arith)

module _ (r : Rule) (b : BuildNumbers) (may : MayBuild r b) (accepted : b.accepted ≡ 1) where
  is : b ≡ build_shown (build_of r)
  is = (build_fixed r b).0 may

  pub takes : Takes r
  takes = accepted_by (build_number r) r (sym (ap (λ (n : BuildNumbers). n.accepted) is) ∙ accepted)

  pub profile_is : b.profile ≡ profile_of r
  profile_is = ap (λ (n : BuildNumbers). n.profile) is ∙ ap (λ o. (build_by o r).profile) takes

-- ---- runs, and mappings composed
abbrev masks_of : Mapping → List ℕ
masks_of f = f.masks

each_run : {p : Profile} {ws : List (List ℕ)} {fs : List Mapping} → RunEach p ws fs → map masks_of fs ≡ map (λ w. (run_of p w).masks) ws
each_run all_run = refl
each_run {p} (one_more w r may rest) =
    ap₂ (λ (f : List ℕ) (fs : List (List ℕ)). f ∷ fs) (ap (λ (n : RunNumbers). n.mapping.masks) ((run_fixed p w r).0 may)) (each_run rest)

-- the brackets in which they were composed
record Bracketing (fs : List Mapping) (f : Mapping) : Type 0 where
  tree : Bracketed (List ℕ)
  are : leaves tree ≡ map masks_of fs
  value : value_of compose tree ≡ f.masks

map-append : (fs gs : List Mapping) → map masks_of (fs ++ gs) ≡ map masks_of fs ++ map masks_of gs
map-append [] gs = refl
map-append (f ∷ fs) gs = ap (λ (x : List (List ℕ)). f.masks ∷ x) (map-append fs gs)

bracketing : {fs : List Mapping} {f : Mapping} → ComposedTo fs f → Bracketing fs f
unfolding leaves value_of
bracketing (alone f) = record { tree = leaf f.masks; are = refl; value = refl }
bracketing (joined {fs} {gs} {f} {g} h x y may) =
    let a = bracketing x in
    let b = bracketing y in
    record {
      tree = both a.tree b.tree;
      are = rw (a.are, b.are) (sym (map-append fs gs));
      value = rw (a.value, b.value) (sym (ap masks_of ((compose_fixed f g h).0 may)));
    }

-- ---- the judge's answer
judge_kind : (h : List Call) (v : VerdictNumbers) → MayJudge (judge_after h) v → v.kind ≡ kind_of (verdict_in h)
judge_kind h v may =
    ap (λ (n : VerdictNumbers). n.kind) may.1
    ∙ ap (λ (r : Reported). kind_of r.verdict) (every_list h).after.reported
    ∙ ap kind_of (every_list h).report.verdict

module _ (r : Rule) (b : BuildNumbers) (built : MayBuild r b) (accepted : b.accepted ≡ 1)
    (h : List Call) (ws : List (List ℕ)) (filled : Filled h r ws)
    (fs : List Mapping) (ran : RunEach b.profile ws fs) (f : Mapping) (came : ComposedTo fs f) where
  tree : Bracketing fs f
  tree = bracketing came

  mappings_are : leaves tree.tree ≡ mappings_of r ws
  mappings_are = tree.are ∙ each_run ran ∙ ap (λ (p : Profile). map (λ w. (run_of p w).masks) ws) (profile_is r b built accepted)

  value-is : verdict_of b.profile f.masks ≡ verdict_of (profile_of r) (value_of compose tree.tree)
  value-is = ap₂ verdict_of (profile_is r b built accepted) (sym tree.value)

  pub same_answer : (x : ℕ) → MaySay b.profile f x → (v : VerdictNumbers) → MayJudge (judge_after h) v → SameAnswer x v
  same_answer x say v judge =
      let t = takes r b built accepted in
      let number = (say_fixed b.profile f x).0 say ∙ ap verdict_shown value-is in
      let kind = judge_kind h v judge in
      by_test (verdict_of (profile_of r) (value_of compose tree.tree))
      (λ y. inl (number ∙ ap verdict_shown y, kind ∙ ap kind_of (((mapverdict.claims).yes_same h r ws t filled tree.tree mappings_are).0 y)))
      (λ n. inr (number ∙ ap verdict_shown n, kind ∙ ap kind_of (((mapverdict.claims).no_same h r ws t filled tree.tree mappings_are).0 n)))
