-- How long the parts of the text are at most. Assumes nothing.
--
--   line_most, lines_most  85 for each mapping
--   head_most              13
--   profile_most           43,533
use mathlib.Core.List.{List, [], ◌∷◌, ◌++◌}
use Prim.Native.Nat.{ℕ, ◌*◌, ◌≤◌, ◌<◌, min}
use native.Mathlib.Omega.{arith}
use lib.ListN.{length, get_or, length-append}
use Rattle.base.specs.Lists.{joined}
use Rattle.base.proofs.Lists.{joined_length}
use Rattle.text.specs.Numerals.{decimal}
use Rattle.ruletext.specs.RuleText.{space, line_feed, row_text}
use Rattle.ruletext.proofs.Lengths.{number_most, index_most, row_most}
use Rattle.mappings.specs.Packing.{unpack}
use Rattle.maptext.specs.MappingText.{mapping_text}
use Rattle.maptext.proofs.RoundTrip as maptext
use Rattle.profile.specs.declared.Profile.{Profile}
use Rattle.profiletext.specs.ProfileText.{mapping_line, head_line, profile_text, most_bytes}

pub line_most : (mappings next : List ℕ) (k i : ℕ) → k ≤ 16 → i < 512 → length (mapping_line mappings next k i) ≤ 85
line_most mappings next k i hk hi =
    let f = mapping_text (unpack (get_or mappings i 0)) in
    let r = row_most next k i in
    let d = index_most i hi in
    omega (
      arith,
      (maptext.claims).sixteen (unpack (get_or mappings i 0)),
      length-append (decimal i) ((space ∷ []) ++ (f ++ (row_text next k i ++ (line_feed ∷ [])))),
      length-append f (row_text next k i ++ (line_feed ∷ [])),
      length-append (row_text next k i) (line_feed ∷ []),
    )

pub lines_most : (mappings next : List ℕ) (k : ℕ) → k ≤ 16 → (n : ℕ) → n ≤ 512 → length (joined (mapping_line mappings next k) n) ≤ n * 85
lines_most mappings next k hk n hn = joined_length (mapping_line mappings next k) n 85 (λ i l. line_most mappings next k i hk (omega arith))

pub head_most : (count : ℕ) → count ≤ 512 → length (head_line count) ≤ 13
head_most count h = omega (arith, number_most count h, length-append (decimal count) (line_feed ∷ []))

pub profile_most : (p : Profile) → length (profile_text p) ≤ most_bytes
profile_most p =
    let count = min p.count 512 in
    let lines = joined (mapping_line p.mappings p.next (min p.k 16)) count in
    omega (
      arith,
      head_most count (omega arith),
      lines_most p.mappings p.next (min p.k 16) (omega arith) count (omega arith),
      length-append (head_line count) lines,
    )
