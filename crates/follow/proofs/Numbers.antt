-- Which number following is refused with. Assumes nothing.
use Rattle.std.proofs.Common.{◌≡◌, ℕ, ◌<◌, ◌≤◌, true, ◌⊎◌, ◌↔◌, List, sym, refl, ap, ◌∙◌, inl, inr, ⊎_elim, arith, lit<}
use mathlib.Core.Option.{Option, none, some}
use Rattle.base.proofs.Options.{none-some}
use Rattle.base.proofs.Tests.{by_test, not_both}
use Rattle.automaton.specs.declared.Rule.{Rule}
use Rattle.automaton.specs.Automaton.{Text}
use Rattle.automaton.specs.Rules.{WellFormed}
use Rattle.rulecheck.specs.Checking.{rule_number}
use Rattle.rulecheck.proofs.First.{checked_first, checked_then, rule_small}
use Rattle.rulecheck.proofs.Claims as check
use Rattle.marks.specs.Marks.{text_of}
use Rattle.chunks.specs.Chunks.{foreign}
use Rattle.chunks.specs.Taking.{chunk_conditions, chunk_number}
use Rattle.chunks.proofs.Claims as chunks
use Rattle.follow.specs.Following.{follow_number, refused_follow, walk_of, follow_of}
use Rattle.follow.specs.Claims.{RefusedExactly}

module _ (r : Rule) (w : List ℕ) where
  -- the number that the check gives, or the chunk's
  data Which : Option ℕ → Type 0 where
    unchecked : (x : ℕ) → rule_number r ≡ some x → Which (some x)
    checked : (o : Option ℕ) → WellFormed r → chunk_number r.k w ≡ o → Which o

  pub first-is : (x : ℕ) → rule_number r ≡ some x → follow_number r w ≡ some x
  unfolding follow_number
  first-is x e = checked_first r (chunk_conditions r.k w) x e

  pub then_is : rule_number r ≡ none → follow_number r w ≡ chunk_number r.k w
  unfolding follow_number chunk_number
  then_is e = checked_then r (chunk_conditions r.k w) e

  by_check : (o : Option ℕ) → rule_number r ≡ o → Which (follow_number r w)
  by_check none e = rw (then_is e) (checked (chunk_number r.k w) (((check.claims).passes r).0 e) refl)
  by_check (some x) e = rw (first-is x e) (unchecked x e)

  which : Which (follow_number r w)
  which = by_check (rule_number r) refl

  passes : WellFormed r → follow_number r w ≡ chunk_number r.k w
  passes good = then_is (((check.claims).passes r).1 good)

  -- a number above 8 is the chunk's
  own : {o : Option ℕ} (x : ℕ) → 8 < x → Which o → o ≡ some x → WellFormed r × (chunk_number r.k w ≡ some x)
  own x h (unchecked y e) f = let z : y ≡ x = cc in absurd (omega (arith, rule_small r y e))
  own x h (checked o good is) f = (good, is ∙ f)

  own_none : {o : Option ℕ} → Which o → o ≡ none → WellFormed r × (chunk_number r.k w ≡ none)
  own_none (unchecked x e) f = none-some f refl
  own_none (checked o good is) f = (good, is ∙ f)

  says_checked : {o : Option ℕ} (x : ℕ) → x ≤ 8 → Which o → o ≡ some x → rule_number r ≡ some x
  says_checked x l (unchecked y e) f = e ∙ f
  says_checked x l (checked o good is) f =
      ⊎_elim (λ z. absurd (omega arith)) (λ z. absurd (omega arith)) (((chunks.claims).taking r.k w).no_other x (is ∙ f))

  one_of : {o : Option ℕ} (x : ℕ) → Which o → o ≡ some x → (x ≤ 8) ⊎ (x ≡ 12) ⊎ (x ≡ 13)
  one_of x (unchecked y e) f = let z : y ≡ x = cc in inl (omega (arith, rule_small r y e))
  one_of x (checked o good is) f = inr (((chunks.claims).taking r.k w).no_other x (is ∙ f))

  is_foreign : (Text r.k (text_of w) → ⊥) → foreign (text_of w) r.k ≡ true
  is_foreign n = by_test (foreign (text_of w) r.k) (λ t. t) (λ f. absurd (n (((chunks.claims).text_law (text_of w) r.k).0 f)))

  pub numbers : RefusedExactly r w
  numbers =
      let law = (chunks.claims).taking r.k w in
      let text = (chunks.claims).text_law (text_of w) r.k in
      record {
        checked = λ x l. (says_checked x l which, first-is x);
        number_12 = (
          (λ e. let x = own 12 (lit< tt) which e in (x.0, law.number_12.0 x.1)),
          λ x. passes x.0 ∙ law.number_12.1 x.1,
        );
        number_13 = (
          (λ e. let x = own 13 (lit< tt) which e in let y = law.number_13.0 x.1 in (x.0, y.0, λ t. not_both y.1 (text.1 t))),
          λ x. passes x.0 ∙ law.number_13.1 (x.1, is_foreign x.2),
        );
        accepted = (
          (λ e. let x = own_none which e in let y = law.taken.0 x.1 in (x.0, y.0, text.0 y.1)),
          λ x. passes x.0 ∙ law.taken.1 (x.1, text.1 x.2),
        );
        no_other = λ x. one_of x which;
      }

  pub checked_rule : follow_number r w ≡ none → WellFormed r
  checked_rule e = (numbers.accepted.0 e).0

  pub follow_is : (m : ℕ) → follow_number r w ≡ none → follow_of r m w ≡ walk_of r m w
  unfolding follow_of
  follow_is m e = rw e

  pub refused_is : (m x : ℕ) → follow_number r w ≡ some x → follow_of r m w ≡ refused_follow x
  unfolding follow_of
  refused_is m x e = rw e

  told : (m x : ℕ) (o : Option ℕ) → follow_number r w ≡ o → follow_of r m w ≡ refused_follow x → o ≡ some x
  told m x none e f = let z = sym (follow_is m e) ∙ f in none-some refl (ap (λ y. y.refusal) z)
  told m x (some y) e f = let z = sym (refused_is m y e) ∙ f in ap (λ y. y.refusal) z

  pub refused : (m x : ℕ) → (follow_of r m w ≡ refused_follow x) ↔ (follow_number r w ≡ some x)
  refused m x = (told m x (follow_number r w) refl, refused_is m x)
