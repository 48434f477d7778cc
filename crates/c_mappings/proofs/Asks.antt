-- No function that C links asks anything of its caller: what each asks, as the checker reads its
-- contract (`Reads.Asked`), is met by any arguments whatever. Assumes nothing.
use mathlib.Core.List.{List}
use Prim.Native.Nat.{ℕ}
use contract.Lifetimes.{Lfts}
use denote.Ref.{Bor}
use Rattle.automaton.specs.declared.Rule.{Rule}
use Rattle.mappings.specs.declared.Mapping.{Mapping}
use Rattle.profile.specs.declared.Profile.{Profile}
use Rattle.c_mappings.proofs.bellbadger_profile_build.Reads as bellbadger_profile_build
use Rattle.c_mappings.proofs.bellbadger_profile_run.Reads as bellbadger_profile_run
use Rattle.c_mappings.proofs.bellbadger_compose.Reads as bellbadger_compose
use Rattle.c_mappings.proofs.bellbadger_profile_verdict.Reads as bellbadger_profile_verdict

pub build_asks_nothing : (r : Rule) → bellbadger_profile_build.Asked tt (r, tt)
build_asks_nothing r = tt

pub run_asks_nothing : (κs : Lfts 1) (p : Profile) (c : Bor (List ℕ)) → bellbadger_profile_run.Asked κs (p, (c, tt))
run_asks_nothing κs p c = tt

pub compose_asks_nothing : (f g : Mapping) → bellbadger_compose.Asked tt (f, (g, tt))
compose_asks_nothing f g = tt

pub verdict_asks_nothing : (p : Profile) (f : Mapping) → bellbadger_profile_verdict.Asked tt (p, (f, tt))
verdict_asks_nothing p f = tt
