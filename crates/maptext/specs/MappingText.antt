-- A mapping as text: sixteen hex digits, two for each mask, that of state 0 first. Upper-case where
-- it is written, of either case where it is read.
--
--   mapping_text f   the digits of the mapping f
--   parse_mapping w  the mapping that the field w says, if it is exactly sixteen hex digits
--   field_means      the masks of the mapping that the code answers, or none where it answers none
use Rattle.std.specs.Prelude.{Some, None, cond, List, ℕ, eqb, length, get_or}
use Rattle.std.specs.Prelude as code
use Rattle.std.proofs.Math.Option.{Option, none, some}
use Rattle.base.specs.Lists.{joined}
use Rattle.text.specs.Numerals.{hex}
use Rattle.fields.specs.Bytes.{parse_bytes}
use Rattle.mappings.specs.declared.Mapping.{Mapping}
use Rattle.mappings.specs.Mappings.{mapped_states}

abbrev pub mapping_text : List ℕ → List ℕ
mapping_text f = joined (λ q. hex 2 (get_or f q 0)) mapped_states

abbrev pub parse_mapping : List ℕ → Option (List ℕ)
parse_mapping w = cond (eqb (length w) 16) (parse_bytes w) none

abbrev pub field_means : code.Option Mapping → Option (List ℕ)
field_means None = none
field_means (Some mapping) = some mapping.masks
