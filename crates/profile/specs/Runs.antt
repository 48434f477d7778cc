-- Running a chunk on a profile, and the verdict (document 02, R-8), on any profile whatever. Of a
-- profile that a build returned specs/Claims.antt says what this comes to; of any other the answer
-- is free, and this is what it is.
--
--   walk_to next i w      where the text w leads from number i over the table
--   mapping_in p i        mapping number i
--   Ran, run_outcome      the answer, none or the number of a refusal, and the mapping; and what
--                         the code's result stands for
--   refused_run x         refused with the number x: zeros
--   run_of p w             what a run of the chunk w answers: refused with 12 or 13 (chunks' chunk_number), or the
--                         mapping that its text, without its idle marks, leads to
--   Lends p k next packed  the profile p has k symbols, the table next and the mappings packed: all
--                         that a run reads of it
--   verdict_of p f        the verdict of the mapping f: yes where it leads from an initial state to
--                         a final one
use Rattle.std.specs.Prelude.{Result, Ok, Err, ◌≡◌, Bool, List, [], ◌∷◌, ℕ, ◌+◌, ◌*◌, ◌%◌, get_or, replicate}
use Rattle.std.proofs.Math.Option.{Option, none, some}
use Rattle.base.specs.declared.Refusal.{Refusal}
use Rattle.base.specs.Answers.{refusal_number}
use Rattle.limits.specs.Limits.{most_symbols, most_sets}
use Rattle.masks.specs.Masks.{shares}
use Rattle.marks.specs.Marks.{text_of}
use Rattle.chunks.specs.Taking.{chunk_number}
use Rattle.mappings.specs.declared.Mapping.{Mapping}
use Rattle.mappings.specs.Mappings.{mapped_states, image}
use Rattle.mappings.specs.Packing.{unpack}
use Rattle.profile.specs.declared.Profile.{Profile}

unfoldable pub walk_to : List ℕ → ℕ → List ℕ → ℕ
walk_to next i [] = i
walk_to next i (s ∷ w) = walk_to next (get_or next (i % most_sets * most_symbols + s % most_symbols) 0) w

abbrev pub mapping_in : Profile → ℕ → List ℕ
mapping_in p i = unpack (get_or p.mappings (i % most_sets) 0)

pub record Ran : Type 0 where
  pub refusal : Option ℕ
  pub masks : List ℕ

abbrev pub refused_run : ℕ → Ran
refused_run number = record { refusal = some number; masks = replicate mapped_states 0 }

abbrev pub run_outcome : Result Mapping Refusal → Ran
run_outcome (Ok mapping) = record { refusal = none; masks = mapping.masks }
run_outcome (Err refusal) = refused_run (refusal_number refusal)

abbrev pub run_by : Option ℕ → List ℕ → Ran
run_by none masks = record { refusal = none; masks = masks }
run_by (some number) masks = refused_run number

unfoldable pub run_of : Profile → List ℕ → Ran
run_of p w = run_by (chunk_number p.k w) (mapping_in p (walk_to p.next 0 (text_of w)))

pub record Lends (p : Profile) (k : ℕ) (next packed : List ℕ) : Type 0 where
  pub symbols : p.k ≡ k
  pub table : p.next ≡ next
  pub numbered : p.mappings ≡ packed

abbrev pub verdict_of : Profile → List ℕ → Bool
verdict_of p f = shares (image f p.initials) p.finals
