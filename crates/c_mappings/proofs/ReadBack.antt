-- The numbers that C is given, read back: by cases of the answer. Assumes nothing.
use mathlib.Core.Path.{◌≡◌, refl}
use mathlib.Core.List.{List}
use mathlib.Core.Option.{Option, none, some}
use Prim.Native.Nat.{ℕ}
use Rattle.flags.proofs.Flags as flags
use Rattle.marks.specs.Marks.{text_of}
use Rattle.automaton.specs.declared.Rule.{Rule}
use Rattle.chunks.specs.Taking.{chunk_number}
use Rattle.profile.specs.declared.Profile.{Profile}
use Rattle.profile.specs.Profiles.{build_number, build_by}
use Rattle.profile.specs.Runs.{walk_to, mapping_in, run_by, run_of}
use Rattle.c_mappings.specs.Numbers.{number_in, build_shown, run_shown, build_read_back, run_read_back}
use Rattle.c_mappings.specs.Claims.{Claims}

build_by_lem : (number : Option ℕ) (r : Rule) → build_read_back (build_shown (build_by number r)) ≡ build_by number r
build_by_lem none r = refl
build_by_lem (some x) r = refl

run_by_lem : (number : Option ℕ) (masks : List ℕ) → run_read_back (run_shown (run_by number masks)) ≡ run_by number masks
run_by_lem none masks = refl
run_by_lem (some x) masks = refl

run_back : (p : Profile) (w : List ℕ) → run_read_back (run_shown (run_of p w)) ≡ run_of p w
unfolding run_of
run_back p w = run_by_lem (chunk_number p.k w) (mapping_in p (walk_to p.next 0 (text_of w)))

pub claims : Claims
claims = record {
  build_flags = λ b. (flags.claims).flags (number_in b.reply);
  profile = λ b. refl;
  run_flags = λ r. (flags.claims).flags r.refusal;
  mapping = λ r. refl;
  composed = λ f. refl;
  verdict = (flags.claims).bits;
  build_read_back_lem = λ r. build_by_lem (build_number r) r;
  run_read_back_lem = run_back;
  verdict_read_back_lem = (flags.claims).bit_back;
}
