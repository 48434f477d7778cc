-- What is written of a mapping is read again, and only that, but for the case of its digits.
-- Assumes nothing.
use mathlib.Core.Path.{◌≡◌, refl, sym, ap, ◌∙◌}
use mathlib.Core.Logic.{◌↔◌}
use mathlib.Core.List.{List, [], ◌∷◌, ◌++◌}
use mathlib.Core.Option.{some}
use Prim.Native.Nat.{ℕ, zero, suc, ◌<◌}
use native.Mathlib.Omega.{arith}
use lib.ListN.{length, get_or}
use borrow.Author.Tests.{eq-eqb, eqb-true}
use lib.Dec.{eqb}
use Rattle.base.specs.Lists.{joined}
use Rattle.base.proofs.Lists.{joined-none, joined_first, length_exact}
use Rattle.base.proofs.Options.{none-some}
use Rattle.base.proofs.Tests.{by_test}
use Rattle.text.specs.Numerals.{hex}
use Rattle.text.proofs.Digits.{hex_length}
use Rattle.fields.specs.Bytes.{parse_bytes}
use Rattle.fields.specs.Claims.{AllBytes, digits_of, field_of, SaysBytes}
use Rattle.fields.proofs.Exact.{upper_length}
use Rattle.fields.proofs.Claims as fields
use Rattle.mappings.specs.Mappings.{Value}
use Rattle.maptext.specs.MappingText.{mapping_text, parse_mapping}
use Rattle.maptext.specs.Worked.{three_states, three_text}
use Rattle.maptext.specs.Claims.{SaysMapping, Claims}
use Rattle.maptext.proofs.Reading.{eight}

digits_are : (f : List ℕ) → joined (λ q. hex 2 (get_or f q 0)) (length f) ≡ digits_of f
unfolding digits_of
digits_are [] = joined-none (λ q. hex 2 (get_or {A = ℕ} [] q 0))
digits_are (m ∷ f) = joined_first (λ q. hex 2 (get_or (m ∷ f) q 0)) (length f) ∙ ap (λ (x : List ℕ). hex 2 m ++ x) (digits_are f)

sixteen : (f : List ℕ) → length (mapping_text f) ≡ 16
sixteen f = length_exact (λ q. hex 2 (get_or f q 0)) 8 2 (λ i _. hex_length 2 (get_or f i 0))

bytes_of : (f : List ℕ) → ((q : ℕ) → q < length f → get_or f q 0 < 256) → AllBytes f
bytes_of [] h = tt
bytes_of (m ∷ f) h = (h 0 (omega arith), bytes_of f (λ q b. h (suc q) (omega arith)))

all_bytes : (f : List ℕ) → Value f → AllBytes f
all_bytes f is = bytes_of f (λ q b. is.masks q (omega (arith, is.eight)))

below : (f : List ℕ) → AllBytes f → (q : ℕ) → get_or f q 0 < 256
below [] a q = omega arith
below (m ∷ f) a zero = a.0
below (m ∷ f) a (suc q) = below f a.1 q

text_is : (f : List ℕ) → length f ≡ 8 → mapping_text f ≡ field_of f
text_is [] e = absurd (omega arith)
text_is (m ∷ f) e = ap (joined (λ q. hex 2 (get_or (m ∷ f) q 0))) (sym e) ∙ digits_are (m ∷ f)

round_trip : (f : List ℕ) → Value f → parse_mapping (mapping_text f) ≡ some f
round_trip f is =
    rw (eq-eqb (length (mapping_text f)) 16 (sixteen f))
    (ap parse_bytes (text_is f is.eight) ∙ (fields.claims).bytes_round_trip f (all_bytes f is))

-- ---- a field that says a mapping says its masks as bytes
pub as_bytes : (x f : List ℕ) → SaysMapping x f → SaysBytes x f
as_bytes x f s = (s.0 ∙ text_is f s.1.eight, all_bytes f s.1)

mapping_exactly : (x f : List ℕ) → (parse_mapping x ≡ some f) ↔ SaysMapping x f
mapping_exactly x f = (only, so)
  where
    only : parse_mapping x ≡ some f → SaysMapping x f
    only e =
        by_test (eqb (length x) 16)
        (λ t.
        let said : parse_bytes x ≡ some f = rw t at e in
        let long = eight x f (eqb-true (length x) 16 t) said in
        let s = ((fields.claims).bytes_exactly x f).0 said in
        (s.0 ∙ sym (text_is f long), record { eight = long; masks = λ q b. below f s.1 q }))
        (λ t. none-some (rw t) e)

    so : SaysMapping x f → parse_mapping x ≡ some f
    so s =
        let long : length x ≡ 16 = sym (upper_length x) ∙ ap length s.0 ∙ sixteen f in
        rw (eq-eqb (length x) 16 long) (((fields.claims).bytes_exactly x f).1 (as_bytes x f s))

worked : mapping_text three_states ≡ three_text
unfolding joined hex
worked = refl

pub claims : Claims
claims = record { sixteen = sixteen; worked = worked; round_trip = round_trip; mapping_exactly = mapping_exactly }
