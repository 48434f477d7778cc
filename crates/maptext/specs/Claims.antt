-- What is written of a mapping is read again, and a field says a mapping only if it is what is
-- written of it, but for the case of its digits; proofs/RoundTrip.antt proves it.
--
--   SaysMapping x f   the field x is the sixteen digits of the mapping f, in either case
use Rattle.std.specs.Prelude.{◌≡◌, ◌↔◌, List, ℕ, length}
use Rattle.std.proofs.Math.Option.{some}
use Rattle.fields.specs.Claims.{upper_case}
use Rattle.mappings.specs.Mappings.{Value}
use Rattle.maptext.specs.Worked.{three_states, three_text}
use Rattle.maptext.specs.MappingText.{mapping_text, parse_mapping}

abbrev pub SaysMapping : List ℕ → List ℕ → Type 0
SaysMapping x f = (upper_case x ≡ mapping_text f) × Value f

pub record Claims : Type 0 where
  pub sixteen : (f : List ℕ) → length (mapping_text f) ≡ 16
  pub worked : mapping_text three_states ≡ three_text
  pub round_trip : (f : List ℕ) → Value f → parse_mapping (mapping_text f) ≡ some f
  pub mapping_exactly : (x f : List ℕ) → (parse_mapping x ≡ some f) ↔ SaysMapping x f
