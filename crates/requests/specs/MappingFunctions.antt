-- What the functions of the mapping machine that C links allow by their own contracts, as the
-- checker reads them (`Reads.Learnt`): any result that a function's contract does not rule out.
--
--   MayBuild, MayRun, MayCompose, MaySay   what `bellbadger_profile_build`, `_profile_run`,
--                       `_compose` and `_profile_verdict` may return for their arguments
--   RunEach p ws fs     the chunks ws were run on the profile p, and the mappings fs answered
--   ComposedTo fs f     the mappings fs, in this order, were composed two at a time, in any way, and
--                       came to f
--   SameAnswer x v      the verdict x of the mapping machine and v of the judge say the same: 1 and
--                       yes (kind 2), or 0 and no (kind 3)
use Rattle.std.specs.Prelude.{◌≡◌, ◌⊎◌, List, [], ◌∷◌, ◌++◌, ℕ}
use contract.Lifetimes.{Lfts}
use Rattle.std.specs.Borrow.{Bor}
use denote.Triple.Clauses.{AtExit}
use borrow.Fn.Kinds.{ended_of}
use Rattle.automaton.specs.declared.Rule.{Rule}
use Rattle.mappings.specs.declared.Mapping.{Mapping}
use Rattle.profile.specs.declared.Profile.{Profile}
use Rattle.c_mappings.specs.declared.BuildNumbers.{BuildNumbers}
use Rattle.c_mappings.specs.declared.RunNumbers.{RunNumbers}
use Rattle.c_mappings.proofs.bellbadger_profile_build.Reads as build_reads
use Rattle.c_mappings.proofs.bellbadger_profile_build.Kinds as build_kinds
use Rattle.c_mappings.proofs.bellbadger_profile_run.Reads as run_reads
use Rattle.c_mappings.proofs.bellbadger_profile_run.Kinds as run_kinds
use Rattle.c_mappings.proofs.bellbadger_compose.Reads as compose_reads
use Rattle.c_mappings.proofs.bellbadger_compose.Kinds as compose_kinds
use Rattle.c_mappings.proofs.bellbadger_profile_verdict.Reads as verdict_reads
use Rattle.c_mappings.proofs.bellbadger_profile_verdict.Kinds as verdict_kinds
use Rattle.capi.specs.declared.VerdictNumbers.{VerdictNumbers}

abbrev pub MayBuild : Rule → BuildNumbers → Type 0
MayBuild rule r = (s : AtExit (ended_of 0 build_kinds.ps build_kinds.r) tt) × build_reads.Learnt tt (rule, tt) r s

-- a chunk is lent, as a reference to its bytes
abbrev pub MayRun : Profile → List ℕ → RunNumbers → Type 0
MayRun p w r =
    (κs : Lfts 1) × (c : Bor (List ℕ)) × (s : AtExit (ended_of 1 run_kinds.ps run_kinds.r) κs) × (c.now ≡ w) × run_reads.Learnt κs (p, (c, tt)) r s

abbrev pub MayCompose : Mapping → Mapping → Mapping → Type 0
MayCompose f g r = (s : AtExit (ended_of 0 compose_kinds.ps compose_kinds.r) tt) × compose_reads.Learnt tt (f, (g, tt)) r s

abbrev pub MaySay : Profile → Mapping → ℕ → Type 0
MaySay p f x = (s : AtExit (ended_of 0 verdict_kinds.ps verdict_kinds.r) tt) × verdict_reads.Learnt tt (p, (f, tt)) x s

pub data RunEach (p : Profile) : List (List ℕ) → List Mapping → Type 0 where
  all_run : RunEach p [] []
  one_more : {ws : List (List ℕ)} {fs : List Mapping} (w : List ℕ) (r : RunNumbers) → MayRun p w r → RunEach p ws fs → RunEach p (w ∷ ws) (r.mapping ∷ fs)

pub data ComposedTo : List Mapping → Mapping → Type 0 where
  alone : (f : Mapping) → ComposedTo (f ∷ []) f
  joined : {fs gs : List Mapping} {f g : Mapping} (h : Mapping) → ComposedTo fs f → ComposedTo gs g → MayCompose f g h → ComposedTo (fs ++ gs) h

abbrev pub SameAnswer : ℕ → VerdictNumbers → Type 0
SameAnswer x v = ((x ≡ 1) × (v.kind ≡ 2)) ⊎ ((x ≡ 0) × (v.kind ≡ 3))
