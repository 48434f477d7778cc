-- What values in brackets come to by an associative operation is what they come to bracketed to the
-- right. Assumes nothing.
use mathlib.Core.Path.{◌≡◌, refl, sym, ap, ◌∙◌}
use mathlib.Core.List.{List, [], ◌∷◌, ◌++◌}
use Prim.Native.Nat.{◌<◌}
use native.Mathlib.Omega.{arith}
use lib.ListN.{length}
use Rattle.compositions.specs.Bracketing.{Bracketed, leaf, both, leaves, Associative, value_of, fold_from}
use Rattle.compositions.specs.Claims.{FoldsTo}

module _ {A : Type 0} where
  pub bracketed : (a : A) (s : List A) → (t : Bracketed A) × (leaves t ≡ a ∷ s)
  unfolding leaves
  bracketed a [] = (leaf a, refl)
  bracketed a (b ∷ s) = let u = bracketed b s in (both (leaf a) u.0, ap (λ (l : List A). a ∷ l) u.1)

  module _ (op : A → A → A) (assoc : Associative op) where
    fold-append : (a : A) (s : List A) (b : A) (t : List A) → fold_from op a (s ++ (b ∷ t)) ≡ op (fold_from op a s) (fold_from op b t)
    unfolding fold_from
    fold-append a [] b t = refl
    fold-append a (c ∷ s) b t = ap (op a) (fold-append c s b t) ∙ sym (assoc a (fold_from op c s) (fold_from op b t))

    pub folds : (t : Bracketed A) → FoldsTo op t
    unfolding leaves value_of fold_from
    folds (leaf a) = record { first = a; others = []; are = refl; value = refl }
    folds (both x y) =
        let a = folds x in
        let b = folds y in
        record {
          first = a.first;
          others = a.others ++ (b.first ∷ b.others);
          are = rw (a.are, b.are);
          value = rw (a.value, b.value) (sym (fold-append a.first a.others b.first b.others));
        }

    pub bracketing : (x y : Bracketed A) → leaves x ≡ leaves y → value_of op x ≡ value_of op y
    bracketing x y e = let a = folds x in let b = folds y in a.value ∙ same a.first b.first a.others b.others (sym a.are ∙ e ∙ b.are) ∙ sym b.value
      where
        same : (a b : A) (s t : List A) → a ∷ s ≡ b ∷ t → fold_from op a s ≡ fold_from op b t
        same a b s t e = cc

  pub some_leaf : (t : Bracketed A) → 0 < length (leaves t)
  some_leaf t = omega (arith, ap length (folds (λ a b. a) (λ a b c. refl) t).are)
