-- The answer in one: it is the one that is due, and no other is; and the answer for a reduced rule.
-- Assumes nothing.
use mathlib.Core.Path.{◌≡◌, refl, sym, ap, ◌∙◌, subst}
use mathlib.Core.Logic.{◌↔◌, ⊎_elim, inl, inr}
use mathlib.Core.Bool.{Bool, true, false, cond}
use mathlib.Core.Option.{Option, none, some}
use Prim.Native.Nat.{ℕ}
use Rattle.base.proofs.Tests.{by_test, not_both, same_truth}
use Rattle.automaton.specs.declared.Rule.{Rule}
use Rattle.automaton.proofs.Values.{all_fields}
use Rattle.rulecheck.proofs.Laws.{passes}
use Rattle.ruleformat.specs.Claims.{AllZero}
use Rattle.calls.specs.Calls.{install_number}
use Rattle.reducing.specs.Reduced.{reduced_of}
use Rattle.reducing.specs.Reducing.{Reducing, refused_by, reducing_by, reduce_of}
use Rattle.reducing.specs.Claims.{Becomes, DueBy, Due, ReduceLaw}
use Rattle.reducing.proofs.Law.{some_or_nothing, reduce_law}

parts : {a b : Option ℕ} {s t : Bool} {m n : Rule} → a ≡ b → s ≡ t → m ≡ n
    → ◌≡◌ {A = Reducing} (record { number = a; installs = s; rule = m }) (record { number = b; installs = t; rule = n })
parts x y z = cc

one_zero : (m n : Rule) → AllZero m → AllZero n → m ≡ n
one_zero m n x y = all_fields (x.0 ∙ sym y.0) (x.1 ∙ sym y.1) (x.2 ∙ sym y.2) (x.3 ∙ sym y.3) (x.4 ∙ sym y.4)

module _ (r : Rule) where
  law : ReduceLaw r
  law = reduce_law r

  -- ---- it is due
  becomes : (reduce_of r).number ≡ none → Becomes r (reduce_of r).rule
  becomes e =
      ⊎_elim
      (λ u.
      inr (
        u.0,
        u.1,
        record {
          cells = law.cells;
          good = (passes (reduce_of r).rule).0 (law.checked e);
          symbols = law.symbols e;
          reached = (law.lean e u.0 u.1).reached;
          renumbered = law.renumbered e u.0 u.1;
        },
      ))
      (λ never. inl (never, law.nothing e never))
      (some_or_nothing r e)

  due_by : (o : Option ℕ) → (reduce_of r).number ≡ o → DueBy o r (reduce_of r).installs (reduce_of r).rule
  due_by none e = (becomes e, law.installs_exactly)
  due_by (some x) e = law.zeros x e

  -- ---- and no other is
  one_by : (o : Option ℕ) → (reduce_of r).number ≡ o → (b : Bool) (n : Rule) → DueBy o r b n
      → ((reduce_of r).installs ≡ b) × ((reduce_of r).rule ≡ n)
  one_by none e b n h =
      let is : (reduce_of r).rule ≡ n =
      ⊎_elim
      (λ u. law.nothing e u.0 ∙ sym u.1)
      (λ u.
      let x = u.2 in
      sym (law.only e u.0 u.1 n x.cells x.good x.symbols x.reached x.renumbered))
      h.0 in
      let i = law.installs_exactly in
      let same : install_number (reduce_of r).rule ≡ install_number n = ap install_number is in (
        same_truth (reduce_of r).installs b ((λ t. h.1.1 (sym same ∙ i.0 t)), λ t. i.1 (same ∙ h.1.0 t)),
        is,
      )
  one_by (some x) e b n h = let z = law.zeros x e in (z.1 ∙ sym h.1, one_zero (reduce_of r).rule n z.0 h.0)

  pub exactly : (m : Reducing) → (reduce_of r ≡ m) ↔ Due r m
  exactly m = (
    (λ e. subst (Due r) e (law.number, due_by (reduce_of r).number refl)),
    λ h.
        let e : (reduce_of r).number ≡ m.number = law.number ∙ sym h.0 in
        let u = one_by m.number e m.installs m.rule h.1 in
        parts e u.0 u.1,
  )

  -- ---- once more
  module _ (e : (reduce_of r).number ≡ none) where
    abbrev made : Rule
    made = (reduce_of r).rule

    as_it_is : (reduce_of r).installs ≡ true → reduce_of made ≡ reduce_of r
    as_it_is t =
        let f : (reduce_of made).number ≡ none = law.again_exactly.1 t in
        let same : (reduce_of made).rule ≡ made = law.again e f in
        let i : (reduce_of made).installs ≡ true = (reduce_law made).installs_exactly.1 (ap install_number same ∙ law.installs_exactly.0 t) in
        parts (f ∙ sym e) (i ∙ sym t) same

    refused_by_lem : (o : Option ℕ) → (reduce_of made).number ≡ o → (reduce_of r).installs ≡ false → reduce_of made ≡ refused_by 9
    refused_by_lem none f t = not_both (law.again_exactly.0 f) t
    refused_by_lem (some x) f t =
        let is : install_number made ≡ some x = sym (reduce_law made).number ∙ f in
        ap (λ (o : Option ℕ). reducing_by o (reduced_of made)) is ∙ ap refused_by (law.again_number e x f)

    pub again_whole : reduce_of made ≡ cond (reduce_of r).installs (reduce_of r) (refused_by 9)
    again_whole =
        by_test (reduce_of r).installs
        (λ t. as_it_is t ∙ sym (ap (λ (b : Bool). cond b (reduce_of r) (refused_by 9)) t))
        (λ t. refused_by_lem (reduce_of made).number refl t ∙ sym (ap (λ (b : Bool). cond b (reduce_of r) (refused_by 9)) t))
