-- A band that is stored cell by cell: the first i of its 1,024 cells have what they are to have.
-- Assumes nothing.
use mathlib.Core.Path.{◌≡◌, refl, ap, ◌∙◌}
use mathlib.Core.Logic.{◌⊎◌, inl, inr, ⊎_elim}
use mathlib.Core.Bool.{cond}
use mathlib.Core.List.{List}
use Prim.Native.Nat.{ℕ, ◌+◌, ◌*◌, ◌/◌, ◌%◌, ◌≤◌, ◌<◌}
use native.Mathlib.Omega.{arith}
use lib.Dec.{eqb, ltb}
use lib.ListN.{length, get_or, set, length-set}
use lib.Seq.{get_or-set_same, get_or-set_other}
use borrow.Author.Count.{below_none, below_more}
use borrow.Author.Tests.{eqb-true, eqb-false, ltb-true, ltb-false}
use Rattle.base.proofs.Lists.{is_list_from}
use Rattle.base.proofs.Tests.{by_test}
use Rattle.trays.specs.Boards.{band_set}

-- a cell of another band is before the band or after it
outside : (p i c : ℕ) → i ≡ 1024 → (c / 1024 ≡ p → ⊥) → (c < p * 1024) ⊎ (p * 1024 + i ≤ c)
outside p i c e ne =
    by_test (ltb c (p * 1024)) (λ t. inl (ltb-true c (p * 1024) t)) (λ f. inr (omega (arith, ne, ltb-false c (p * 1024) f)))

-- the first i cells of band p have the bytes, and the others are as in `from`
pub record Stored (from : List ℕ) (p : ℕ) (bytes : List ℕ) (i : ℕ) (cells : List ℕ) : Type 0 where
  pub size : length cells ≡ 8192
  pub band : (j : ℕ) → j < i → get_or cells (p * 1024 + j) 0 ≡ get_or bytes j 0
  pub others : (c : ℕ) → (c < p * 1024) ⊎ (p * 1024 + i ≤ c) → get_or cells c 0 ≡ get_or from c 0

pub none_stored : (from : List ℕ) (p : ℕ) (bytes : List ℕ) → length from ≡ 8192 → Stored from p bytes 0 from
none_stored from p bytes l = record { size = l; band = below_none _; others = λ c h. refl }

module _ (from : List ℕ) (p : ℕ) (bytes : List ℕ) (i : ℕ) (cells : List ℕ) (s : Stored from p bytes i cells) where
  pub one_stored : p < 8 → i < 1024 → (v : ℕ) → v ≡ get_or bytes i 0 → Stored from p bytes (i + 1) (set cells (p * 1024 + i) v)
  one_stored h l v is = record {
    size = length-set cells (p * 1024 + i) v ∙ s.size;
    band =
        below_more (λ j. get_or (set cells (p * 1024 + i) v) (p * 1024 + j) 0 ≡ get_or bytes j 0) i
        (λ j m. get_or-set_other cells (p * 1024 + i) (p * 1024 + j) v 0 (λ z. absurd (omega arith)) ∙ s.band j m)
        (get_or-set_same cells (p * 1024 + i) v 0 (omega (arith, s.size)) ∙ is);
    others = λ c a.
        ⊎_elim
        (λ m. get_or-set_other cells (p * 1024 + i) c v 0 (λ z. absurd (omega arith)) ∙ s.others c (inl m))
        (λ m. get_or-set_other cells (p * 1024 + i) c v 0 (λ z. absurd (omega arith)) ∙ s.others c (inr (omega arith)))
        a;
  }

  -- the whole band is stored
  pub band_stored : i ≡ 1024 → cells ≡ band_set from p bytes
  band_stored e =
      is_list_from cells 8192 (λ c. cond (eqb (c / 1024) p) (get_or bytes (c % 1024) 0) (get_or from c 0)) s.size λ c h.
      by_test (eqb (c / 1024) p)
      (λ t.
      let z : c ≡ p * 1024 + c % 1024 = omega (arith, eqb-true (c / 1024) p t) in
      rw t (ap (λ (x : ℕ). get_or cells x 0) z ∙ s.band (c % 1024) (omega arith)))
      (λ f. rw f (s.others c (outside p i c e (eqb-false (c / 1024) p f))))
