-- What holds of every associative operation, and of relations; proofs/Claims.antt proves it.
--
--   FoldsTo op t       the first value of t, the others, and what they come to
use Rattle.std.specs.Prelude.{◌≡◌, ◌↔◌, List, ◌∷◌, ℕ, ◌<◌, length, get_or}
use Rattle.masks.specs.Masks.{◌∈◌}
use Rattle.compositions.specs.Bracketing.{Bracketed, leaves, Associative, value_of, fold_from}
use Rattle.compositions.specs.Relations.{image_of, compose_of}

pub record FoldsTo {A : Type 0} (op : A → A → A) (t : Bracketed A) : Type 0 where
  pub first : A
  pub others : List A
  pub are : leaves t ≡ first ∷ others
  pub value : value_of op t ≡ fold_from op first others

pub record Claims : Type 1 where
  -- ---- of an associative operation: what values come to depends on the values alone, in their
  -- order, and not on the brackets
  pub folds : {A : Type 0} (op : A → A → A) → Associative op → (t : Bracketed A) → FoldsTo op t
  pub bracketing : {A : Type 0} (op : A → A → A) → Associative op → (x y : Bracketed A) → leaves x ≡ leaves y → value_of op x ≡ value_of op y
  -- every list but the empty one can be put in brackets, and nothing else stands in brackets
  pub bracketed : {A : Type 0} (a : A) (s : List A) → (t : Bracketed A) × (leaves t ≡ a ∷ s)
  pub some_leaf : {A : Type 0} (t : Bracketed A) → 0 < length (leaves t)
  -- ---- of relations
  -- what is related to q: whatever g relates to something below n that f relates to q
  pub members : (n : ℕ) (f g : List ℕ) (q p : ℕ) → q < n
      → p ∈ get_or (compose_of n f g) q 0 ↔ (r : ℕ) × (r < n) × (r ∈ get_or f q 0) × (p ∈ get_or g r 0)
  -- the image by two relations, one after the other
  pub images : (n : ℕ) (f g : List ℕ) (m : ℕ) → image_of n (compose_of n f g) m ≡ image_of n g (image_of n f m)
  pub associative : (n : ℕ) → Associative (compose_of n)
