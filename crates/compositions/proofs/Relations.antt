-- Composing relations is associative. Assumes nothing.
use mathlib.Core.Path.{◌≡◌, sym, ap, ◌∙◌}
use mathlib.Core.Logic.{◌↔◌}
use mathlib.Core.List.{List}
use Prim.Native.Nat.{ℕ, ◌<◌}
use lib.ListN.{get_or}
use Rattle.base.proofs.Lists.{cell_of_lem, same_list}
use Rattle.masks.specs.Masks.{◌∈◌}
use Rattle.masks.proofs.Laws.{part_of, in_union, union_same}
use Rattle.compositions.specs.Relations.{image_of, compose_of}
use Rattle.compositions.proofs.Unions.{union-union}

module _ (n : ℕ) where
  pub compose_at : (f g : List ℕ) (q : ℕ) → q < n → get_or (compose_of n f g) q 0 ≡ image_of n g (get_or f q 0)
  compose_at f g q b = cell_of_lem n (λ i. image_of n g (get_or f i 0)) q 0 b

  pub members : (f g : List ℕ) (q p : ℕ) → q < n → p ∈ get_or (compose_of n f g) q 0 ↔ (r : ℕ) × (r < n) × (r ∈ get_or f q 0) × (p ∈ get_or g r 0)
  members f g q p b =
      rw (compose_at f g q b) (
        (λ e. let u = part_of (λ r. get_or g r 0) (get_or f q 0) p n e in (u.from, u.below, u.member, u.there)),
        λ u. in_union (λ r. get_or g r 0) (get_or f q 0) p n u.0 u.1 u.2 u.3,
      )

  pub images : (f g : List ℕ) (m : ℕ) → image_of n (compose_of n f g) m ≡ image_of n g (image_of n f m)
  images f g m =
      union_same (λ q. get_or (compose_of n f g) q 0) (λ q. image_of n g (get_or f q 0)) m n (λ q b. compose_at f g q b)
      ∙ sym (union-union (λ q. get_or f q 0) (λ q. get_or g q 0) m n)

  pub associative : (f g h : List ℕ) → compose_of n (compose_of n f g) h ≡ compose_of n f (compose_of n g h)
  associative f g h =
      same_list n (λ q. image_of n h (get_or (compose_of n f g) q 0)) (λ q. image_of n (compose_of n g h) (get_or f q 0))
      (λ q b. ap (image_of n h) (compose_at f g q b) ∙ sym (images g h (get_or f q 0)))
