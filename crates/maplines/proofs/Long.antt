-- A file or a chunk that is too long is refused by its length alone, so the first of its bytes stand
-- for all. Assumes nothing.
--
--   file_long, builds_long, left_long   a file that is too long
--   chunk_long, with_long, runs_long    a chunk that is
--   clip        where two that are too long come to the same, the first bytes, one more than the
--               most at least, come to what all of them come to
use Rattle.std.proofs.Common.{Some, None}
use Rattle.std.proofs.Common as code
use mathlib.Core.Path.{◌≡◌, refl, sym, ap, ◌∙◌}
use mathlib.Core.List.{List}
use mathlib.Core.Option.{Option, some}
use Prim.Native.Nat.{ℕ, ◌+◌, ◌≤◌, ◌<◌}
use native.Mathlib.Omega.{arith}
use borrow.Author.Tests.{lt-ltb, le-ltb, ltb-true, ltb-false}
use lib.Dec.{ltb}
use lib.ListN.{length, take}
use lib.Seq.{take_all, length-take-le}
use Rattle.base.proofs.Tests.{by_test}
use Rattle.ruleformat.specs.Refusals.{too_short, too_long, refusal}
use Rattle.profile.specs.declared.Profile.{Profile}
use Rattle.profile.specs.Profiles.{Building, refused_build}
use Rattle.profile.specs.Runs.{refused_run, run_of}
use Rattle.profile.proofs.Ways.{run_12}
use Rattle.profilefile.specs.Files.{profile_by, profile_in}
use Rattle.mapcalls.specs.declared.MapState.{MapState}
use Rattle.mapcalls.specs.Calls.{Reply, builds, runs, lacking, refused, built_reply, kept_by, ran_reply, run_with, reply_of, next_of}

number_2 : (f : List ℕ) → 32906 < length f → refusal f ≡ some 2
unfolding refusal too_short too_long
number_2 f h = rw (le-ltb (length f) 10 (omega arith), lt-ltb 32906 (length f) h)

file_long : (f : List ℕ) → 32906 < length f → profile_in f ≡ refused_build 2
unfolding profile_in
file_long f h = ap (λ (o : Option ℕ). profile_by o f) (number_2 f h)

chunk_long : (p : Profile) (w : List ℕ) → 65536 < length w → run_of p w ≡ refused_run 12
chunk_long p w h = sym (run_12 p w h)

abbrev long_with : code.Option Profile → Reply
long_with None = lacking
long_with (Some p) = refused 12

with_long : (o : code.Option Profile) (w : List ℕ) → 65536 < length w → run_with o w ≡ long_with o
with_long None w h = refl
with_long (Some p) w h = ap ran_reply (chunk_long p w h)

module _ (s : MapState) (f g : List ℕ) where
  module _ (hf : 32906 < length f) (hg : 32906 < length g) where
    same : profile_in f ≡ profile_in g
    same = file_long f hf ∙ sym (file_long g hg)

    pub builds_long : reply_of s (builds f) ≡ reply_of s (builds g)
    unfolding reply_of
    builds_long = ap (λ (b : Building). built_reply b.reply) same

    pub left_long : next_of s (builds f) ≡ next_of s (builds g)
    unfolding next_of
    left_long = ap (λ (b : Building). kept_by b.reply b s) same

  pub runs_long : 65536 < length f → 65536 < length g → reply_of s (runs f) ≡ reply_of s (runs g)
  unfolding reply_of
  runs_long hf hg =
      with_long s.profile f hf ∙ sym (with_long s.profile g hg)

pub clip : {A : Type 0} (most : ℕ) (h : List ℕ → A) → ((f g : List ℕ) → most < length f → most < length g → h f ≡ h g)
    → (f : List ℕ) (n : ℕ) → most + 1 ≤ n → h (take n f) ≡ h f
clip most h same f n enough =
    by_test (ltb n (length f))
    (λ t.
    let more = ltb-true n (length f) t in
    same (take n f) f (omega (arith, length-take-le n f (omega (arith, more)))) (omega (arith, more)))
    (λ t. ap h (take_all n f (ltb-false n (length f) t)))
