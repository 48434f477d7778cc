-- What the functions answer is what the definitions say, a lemma for each way out. Assumes nothing.
--
--   built_reply_lem, built_state, kept_reply, kept_state  a build that is accepted, one that is refused
--   run_lacks, ran_reply_lem   a chunk without a profile, and with one
--   composed                   a composition
--   ask_lacks, asked           the verdict without a profile, and with one
use Rattle.std.proofs.Common.{Some, None, Ok, Err}
use Rattle.std.proofs.Common as code
use mathlib.Core.Path.{◌≡◌, sym, ap, ◌∙◌}
use mathlib.Core.Bool.{Bool}
use mathlib.Core.List.{List}
use Prim.Native.Nat.{ℕ}
use Rattle.base.specs.declared.Refusal.{Refusal}
use Rattle.base.specs.Answers.{refusal_number}
use Rattle.mappings.specs.declared.Mapping.{Mapping}
use Rattle.mappings.specs.Mappings.{compose}
use Rattle.profile.specs.declared.Profile.{Profile}
use Rattle.profile.specs.Profiles.{Building, build_outcome}
use Rattle.profile.specs.Runs.{Ran, run_of, Lends, verdict_of}
use Rattle.profile.proofs.Ways.{lent_all}
use Rattle.profilefile.specs.Files.{profile_in}
use Rattle.mapcalls.specs.declared.MapState.{MapState}
use Rattle.mapcalls.specs.Calls.{built, mapped, said, lacking, refused, builds, runs, composes, asks, built_reply, kept_by, ran_reply, run_with, ask_with, reply_of, next_of}

-- ---- building
module _ (s : MapState) (f : List ℕ) where
  module _ (p : Profile) (is : build_outcome (Ok p) ≡ profile_in f) where
    pub built_reply_lem : built p.count ≡ reply_of s (builds f)
    unfolding reply_of
    built_reply_lem = ap (λ (b : Building). built_reply b.reply) is

    pub built_state : record { profile = Some p } ≡ next_of s (builds f)
    unfolding next_of
    built_state = ap (λ (b : Building). kept_by b.reply b s) is

  module _ (e : Refusal) (is : build_outcome (Err e) ≡ profile_in f) where
    pub kept_reply : refused (refusal_number e) ≡ reply_of s (builds f)
    unfolding reply_of
    kept_reply = ap (λ (b : Building). built_reply b.reply) is

    pub kept_state : s ≡ next_of s (builds f)
    unfolding next_of
    kept_state = ap (λ (b : Building). kept_by b.reply b s) is

-- ---- running
module _ (s : MapState) (w : List ℕ) where
  pub run_lacks : s.profile ≡ None → lacking ≡ reply_of s (runs w)
  unfolding reply_of
  run_lacks e = sym (ap (λ (o : code.Option Profile). run_with o w) e)

  pub ran_reply_lem : (p : Profile) → s.profile ≡ Some p → (r : Ran) → ((q : Profile) → Lends q p.k p.next p.mappings → r ≡ run_of q w)
      → ran_reply r ≡ reply_of s (runs w)
  unfolding reply_of
  ran_reply_lem p e r is =
      ap ran_reply (is p (lent_all p)) ∙ sym (ap (λ (o : code.Option Profile). run_with o w) e)

-- ---- composing
pub composed : (f g : List ℕ) (m : Mapping) → m.masks ≡ compose f g → (s : MapState) → mapped m.masks ≡ reply_of s (composes f g)
unfolding reply_of
composed f g m e s = ap mapped e

-- ---- asking
module _ (s : MapState) (f : List ℕ) where
  pub ask_lacks : s.profile ≡ None → lacking ≡ reply_of s (asks f)
  unfolding reply_of
  ask_lacks e = sym (ap (λ (o : code.Option Profile). ask_with o f) e)

  pub asked : (p : Profile) → s.profile ≡ Some p → (b : Bool) → b ≡ verdict_of p f → said b ≡ reply_of s (asks f)
  unfolding reply_of
  asked p e b is = ap said is ∙ sym (ap (λ (o : code.Option Profile). ask_with o f) e)
