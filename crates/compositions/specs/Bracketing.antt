-- Values of any type put together two at a time by any operation, in any brackets.
--
--   Bracketed A        values of A put together two at a time, in any way
--   leaves t           the values that stand in it, the first first
--   Associative op     the operation op is associative
--   value_of op t       what the values come to by the operation op, in these brackets
--   fold_from op a s   the value a, and behind it the values s, bracketed to the right
use Rattle.std.specs.Prelude.{◌≡◌, List, [], ◌∷◌, ◌++◌}

pub data Bracketed (A : Type 0) : Type 0 where
  leaf : A → Bracketed A
  both : Bracketed A → Bracketed A → Bracketed A

module _ {A : Type 0} where
  unfoldable pub leaves : Bracketed A → List A
  leaves (leaf a) = a ∷ []
  leaves (both x y) = leaves x ++ leaves y

  abbrev pub Associative : (A → A → A) → Type 0
  Associative op = (a b c : A) → op (op a b) c ≡ op a (op b c)

  module _ (op : A → A → A) where
    unfoldable pub value_of : Bracketed A → A
    value_of (leaf a) = a
    value_of (both x y) = op (value_of x) (value_of y)

    unfoldable pub fold_from : A → List A → A
    fold_from a [] = a
    fold_from a (b ∷ s) = op a (fold_from b s)
