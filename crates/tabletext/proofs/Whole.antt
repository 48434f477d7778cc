-- The ways out of `put_back` and `put_answer`, and what an accepted form's table has. Assumes
-- nothing.
use Rattle.std.proofs.Common.{Ok, Err}
use mathlib.Core.Path.{◌≡◌, refl, sym, ap, ◌∙◌, subst}
use mathlib.Core.Bool.{false, ◌&&◌}
use mathlib.Core.Option.{Option, none, some}
use Prim.Native.Nat.{ℕ, ◌≤◌}
use native.Mathlib.Omega.{arith}
use lib.Dec.{ltb}
use borrow.Author.Tests.{ltb-false}
use Rattle.base.specs.declared.Refusal.{Refusal}
use Rattle.base.specs.Answers.{refusal_number}
use Rattle.answers.specs.Answers.{refused_text, malformed_text}
use Rattle.base.proofs.Tests.{by_test, zero_one}
use Rattle.forms.specs.declared.Form.{Form}
use Rattle.formmaker.specs.Making.{no_form}
use Rattle.forms.specs.declared.Table.{Table}
use Rattle.forms.specs.Back.{Back, back_number, back_by, back_of, table_of, back_outcome}
use Rattle.forms.specs.Claims.{Wrong, many_sets_lem, many_symbols}
use Rattle.forms.proofs.Accepting.{parts}
use Rattle.forms.proofs.Claims as forms
use Rattle.formline.specs.Lines.{says, too_great, malformed, held_of}
use Rattle.tabletext.specs.Answers.{table_line, back_text, answer_text}

number_of : (o : Option ℕ) (t : Table) → (back_by o t).number ≡ o
number_of none t = refl
number_of (some x) t = refl

module _ (f : Form) where
  pub table_text : (t : Table) → back_outcome (Ok t) ≡ back_of f → table_line t ≡ back_text (back_of f)
  table_text t is = ap back_text is

  pub refused_text_lem : (e : Refusal) → back_outcome (Err e) ≡ back_of f → refused_text (refusal_number e) ≡ back_text (back_of f)
  refused_text_lem e is = ap back_text is

  -- an accepted form's table has 1 to 16 symbols and at most 512 sets
  pub bounds : (t : Table) → back_outcome (Ok t) ≡ back_of f → (1 ≤ t.symbols) × (t.symbols ≤ 16) × (t.sets ≤ 512)
  bounds t is =
      let n : back_number f ≡ none = sym (number_of (back_number f) (table_of f)) ∙ sym (ap (λ (b : Back). b.number) is) in
      let a = parts f n in
      let e : t ≡ table_of f = ap (λ (b : Back). b.table) is ∙ ap (λ (o : Option ℕ). (back_by o (table_of f)).table) n in
      subst (λ (x : Table). (1 ≤ x.symbols) × (x.symbols ≤ 16) × (x.sets ≤ 512)) (sym e) (a.some_symbol, a.symbols, a.sets)

-- ---- a line by its kind. A number that is too great for a form as a value is one of no table.
great : (f : Form) → (ltb f.sets 65536 && ltb f.symbols 256) ≡ false → Wrong f
great f e =
    by_test (ltb f.sets 65536)
    (λ t. let u : ltb f.symbols 256 ≡ false = rw t at e in many_symbols (omega (arith, ltb-false f.symbols 256 u)))
    (λ t. many_sets_lem (omega (arith, ltb-false f.sets 65536 t)))

pub says_by : (f : Form) (o : Option Form) → says f ≡ held_of o → back_text (back_of f) ≡ answer_text o
says_by f none e = zero_one cc
says_by f (some g) e =
    by_test (ltb g.sets 65536 && ltb g.symbols 256)
    (λ t. let z : says f ≡ says g = rw t at e in let q : f ≡ g = cc in ap (λ (x : Form). back_text (back_of x)) q)
    (λ t. let z : says f ≡ too_great no_form = rw t at e in zero_one cc)

pub great_by : (f : Form) (o : Option Form) → too_great f ≡ held_of o → refused_text 40 ≡ answer_text o
great_by f none e = zero_one cc
great_by f (some g) e =
    by_test (ltb g.sets 65536 && ltb g.symbols 256)
    (λ t. let z : too_great f ≡ says g = rw t at e in zero_one cc)
    (λ t. let n : back_number g ≡ some 40 = ((forms.claims).refused_exactly g).1 (great g t) in rw n)

pub malformed_by : (f : Form) (o : Option Form) → malformed f ≡ held_of o → malformed_text ≡ answer_text o
malformed_by f none e = refl
malformed_by f (some g) e =
    by_test (ltb g.sets 65536 && ltb g.symbols 256)
    (λ t. let z : malformed f ≡ says g = rw t at e in zero_one cc)
    (λ t. let z : malformed f ≡ too_great no_form = rw t at e in zero_one cc)
