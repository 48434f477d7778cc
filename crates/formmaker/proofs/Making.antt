-- The form put together of its parts, and the two answers. Assumes nothing.
use Rattle.std.proofs.Common.{Ok, Err}
use mathlib.Core.Path.{◌≡◌, ap, ◌∙◌}
use mathlib.Core.List.{List}
use Prim.Native.Nat.{ℕ, min}
use borrow.Author.Tests.{eq-eqb, ne_eqb}
use Rattle.limits.specs.Limits.{most_symbols, most_sets}
use Rattle.calls.specs.declared.Judge.{Judge}
use Rattle.forms.specs.declared.Form.{Form}
use Rattle.base.specs.declared.Refusal.TheVariants.{NoRule}
use Rattle.forms.specs.Form.{failures, masks, packed_cells, form_of}
use Rattle.formmaker.specs.Making.{made_outcome, made_of}

pub form_is : (n k : ℕ) (l f m c : List ℕ) → f ≡ failures n k l → m ≡ masks n k l → c ≡ packed_cells m l n
    → ◌≡◌ {A = Form} (record { sets = n; symbols = k; failure = f; kept = m; cells = c }) (form_of n k l)
form_is n k l f m c p q r = let z : c ≡ packed_cells (masks n k l) l n = r ∙ ap (λ (x : List ℕ). packed_cells x l n) q in cc

pub made : (j : Judge) (f : Form) (n k : ℕ) → (j.built.n ≡ 0 → ⊥) → n ≡ min j.built.setcount most_sets → k ≡ min j.built.k most_symbols
    → f ≡ form_of n k j.built.next → made_outcome (Ok f) ≡ made_of j
made j f n k there p q e = rw (ne_eqb j.built.n 0 there, e, p, q)

pub no_rule_lem : (j : Judge) → j.built.n ≡ 0 → made_outcome (Err NoRule) ≡ made_of j
no_rule_lem j none_there = rw (eq-eqb j.built.n 0 none_there)
