-- What `profileprint` prints, as byte values: fields with one space between them, each line ended by
-- one line feed.
--
--   profile_text p  the number of mappings; a line for each: its number, its masks in sixteen hex
--                   digits and, for each symbol, the number of the mapping that it leads to
--   text_for f      the text for the rule file f: that of its profile, or `refused` and the first
--                   number of 1 to 8, 33 and 34 whose condition holds
--   most_bytes      so many bytes have room for the text of any file (specs/Claims.antt)
use Rattle.std.specs.Prelude.{List, [], ◌∷◌, ◌++◌, ℕ, ◌+◌, ◌*◌, min, get_or}
use Rattle.limits.specs.Limits.{most_symbols, most_sets}
use Rattle.base.specs.Lists.{joined}
use Rattle.text.specs.Numerals.{decimal}
use Rattle.ruletext.specs.RuleText.{space, line_feed, row_text, refused_text}
use Rattle.mappings.specs.Packing.{unpack}
use Rattle.maptext.specs.MappingText.{mapping_text}
use Rattle.profile.specs.declared.Profile.{Profile}
use Rattle.profile.specs.Profiles.{Reply, accepted, refused}
use Rattle.profilefile.specs.Files.{profile_in}

-- `mappings `
abbrev pub mappings_word : List ℕ
mappings_word = 109 ∷ 97 ∷ 112 ∷ 112 ∷ 105 ∷ 110 ∷ 103 ∷ 115 ∷ 32 ∷ []

-- (a cell of a built profile is below 512; any other is printed as -, as a rule's are)
abbrev pub mapping_line : List ℕ → List ℕ → ℕ → ℕ → List ℕ
mapping_line mappings next k i =
    decimal i ++ ((space ∷ []) ++ (mapping_text (unpack (get_or mappings i 0)) ++ (row_text next k i ++ (line_feed ∷ []))))

abbrev pub head_line : ℕ → List ℕ
head_line count = mappings_word ++ (decimal count ++ (line_feed ∷ []))

-- at most 512 mappings and 16 symbols are printed, which is all that a profile has
abbrev pub profile_text : Profile → List ℕ
profile_text p =
    head_line (min p.count most_sets) ++ joined (mapping_line p.mappings p.next (min p.k most_symbols)) (min p.count most_sets)

abbrev pub text_by : Reply → Profile → List ℕ
text_by (accepted count) p = profile_text p
text_by (refused number) p = refused_text number

abbrev pub text_for : List ℕ → List ℕ
text_for f = let b = profile_in f in text_by b.reply b.profile

-- 13 for the first line, 85 for each of 512 mappings
abbrev pub most_bytes : ℕ
most_bytes = 13 + 85 * most_sets
