-- The one proof of all that specs/Claims.antt claims. Assumes nothing.
use mathlib.Core.Path.{refl, sym, subst}
use mathlib.Core.Option.{Option}
use Prim.Native.Nat.{ℕ}
use Rattle.profile.specs.Profiles.{build_by}
use Rattle.profile.specs.Claims.{AllZero, Claims}
use Rattle.profile.proofs.Answers as answers
use Rattle.profile.proofs.Examples.{answered}
use Rattle.profile.proofs.Machine as machines
use Rattle.profile.proofs.Verdicts as verdicts

pub claims : Claims
claims = record {
  answered = answered;
  takes = answers.takes;
  refused = answers.refused;
  machine = λ r takes. let x = answers.taken r takes in machines.machine r x.0 x.1;
  zeros = λ r x e. subst (λ (o : Option ℕ). AllZero (build_by o r).profile) (sym e) (refl, refl, refl, refl, refl, refl, refl);
  runs = answers.runs;
  ran = verdicts.ran;
  verdict = verdicts.verdict;
  means_nothing = verdicts.means_nothing;
  says = verdicts.says;
}
