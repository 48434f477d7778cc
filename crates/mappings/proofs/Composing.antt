-- Composition is associative, identities are neutral, and so brackets do not matter. Assumes
-- nothing.
use mathlib.Core.Path.{◌≡◌, sym, ap, ◌∙◌}
use mathlib.Core.Logic.{◌↔◌}
use mathlib.Core.Bool.{cond}
use mathlib.Core.List.{List}
use Prim.Native.Nat.{ℕ, ◌^◌, ◌≤◌, ◌<◌}
use native.Mathlib.Omega.{arith}
use lib.Dec.{ltb, lit<}
use lib.ListN.{get_or}
use lib.Pow.{pow-lt}
use borrow.Author.Tests.{lt-ltb, ltb-false}
use Rattle.base.specs.Lists.{list_from}
use Rattle.base.proofs.Lists.{length_list_from, cell_of_lem, is_list_from}
use Rattle.base.proofs.Tests.{by_test}
use Rattle.masks.specs.Masks.{◌∈◌, single}
use Rattle.masks.proofs.Laws.{union_lt, union_same, union-empty, union_all}
use Rattle.compositions.specs.Bracketing.{Bracketed, leaves, Associative, value_of}
use Rattle.compositions.proofs.Unions.{union_single, union_of_single}
use Rattle.compositions.proofs.Claims as compositions
use Rattle.mappings.specs.Mappings.{Value, Within, image, compose, identity, composed}

-- a list of eight masks
pub value_of_lem : (g : ℕ → ℕ) → ((q : ℕ) → q < 8 → g q < 2 ^ 8) → Value (list_from 0 8 g)
value_of_lem g h = record {
  eight = length_list_from 0 8 g;
  masks = λ q b. rw (cell_of_lem 8 g q 0 b) (h q b);
}

pub image_lt : (f : List ℕ) → Value f → (m : ℕ) → image f m < 2 ^ 8
image_lt f is m = union_lt (λ q. get_or f q 0) m 8 8 (λ q b. is.masks q b)

pub composes : (f g : List ℕ) → Value g → Value (compose f g)
composes f g is = value_of_lem (λ i. image g (get_or f i 0)) (λ i b. image_lt g is (get_or f i 0))

pub members : (f g : List ℕ) (q p : ℕ) → q < 8 → p ∈ get_or (compose f g) q 0 ↔ (r : ℕ) × (r < 8) × (r ∈ get_or f q 0) × (p ∈ get_or g r 0)
members = (compositions.claims).members 8

pub associative : Associative compose
associative = (compositions.claims).associative 8

-- ---- identities
module _ (n : ℕ) where
  pub identity_at : (q : ℕ) → q < 8 → get_or (identity n) q 0 ≡ cond (ltb q n) (single q) 0
  identity_at q b = cell_of_lem 8 (λ i. cond (ltb i n) (single i) 0) q 0 b

  pub identity_value : Value (identity n)
  identity_value =
      value_of_lem (λ q. cond (ltb q n) (single q) 0)
      (λ q b. by_test (ltb q n) (λ t. rw t (pow-lt b)) (λ t. rw t (lit< tt)))

  module _ (most : n ≤ 8) where
    -- it changes no set of the n states
    pub identity_image : (m : ℕ) → m < 2 ^ n → image (identity n) m ≡ m
    identity_image m b =
        sym (union_all (λ q. get_or (identity n) q 0) m n 8 b most)
        ∙ union_same (λ q. get_or (identity n) q 0) single m n (λ q c. identity_at q (omega arith) ∙ rw (lt-ltb q n c))
        ∙ union_single m n b

    module _ (f : List ℕ) (is : Within n f) where
      first-at : (q : ℕ) → q < 8 → get_or f q 0 ≡ image f (get_or (identity n) q 0)
      first-at q b =
          sym
          (ap (image f) (identity_at q b)
          ∙ by_test (ltb q n)
          (λ t. rw t (union_of_single (λ i. get_or f i 0) q 8 b))
          (λ t. rw t (union-empty (λ i. get_or f i 0) 8 ∙ sym (is.zeros q b (ltb-false q n t)))))

      pub identity_first : compose (identity n) f ≡ f
      identity_first = sym (is_list_from f 8 (λ q. image f (get_or (identity n) q 0)) is.eight first-at)

      pub identity_last : compose f (identity n) ≡ f
      identity_last =
          sym (is_list_from f 8 (λ q. image (identity n) (get_or f q 0)) is.eight (λ q b. sym (identity_image (get_or f q 0) (is.masks q b))))

pub values : (f : List ℕ) → Value f ↔ Within 8 f
values f = (
  (λ is. record { eight = is.eight; masks = is.masks; zeros = λ q b c. absurd (omega arith) }),
  λ is. record { eight = is.eight; masks = is.masks },
)

-- ---- brackets
pub brackets : (t : Bracketed (List ℕ)) → value_of compose t ≡ composed (leaves t)
brackets t = let a = (compositions.claims).folds compose associative t in a.value ∙ sym (ap composed a.are)

pub bracketing : (x y : Bracketed (List ℕ)) → leaves x ≡ leaves y → value_of compose x ≡ value_of compose y
bracketing = (compositions.claims).bracketing compose associative
