-- The loop over the states at a place, one state more: it is no member, or has no delegate and is
-- passed over, or its delegate's end set comes to C. And the loop over the places, one place more.
-- Assumes nothing.
use mathlib.Core.Path.{◌≡◌, sym, ap, ap₂, ◌∙◌}
use mathlib.Core.Bool.{true, false}
use mathlib.Core.List.{List}
use mathlib.Core.Option.{Option, none, some}
use Prim.Native.Nat.{ℕ, ◌+◌, min}
use native.Mathlib.Numerals.{add-one}
use lib.Bits.{bit_or, or_zero_r}
use Rattle.masks.specs.Masks.{has, union}
use Rattle.masks.proofs.Laws.{union_member, union_other}
use Rattle.delegates.specs.Alike.{delegate_in, of_delegate}
use Rattle.board.specs.Boards.{held_in}
use Rattle.joins.specs.Joining.{join_of, join_up_to}

-- what state q adds at a place, where it is a member
abbrev pub added : List ℕ → List ℕ → ℕ → ℕ → ℕ
added ends d place q = of_delegate (held_in ends place) (delegate_in d q)

module _ (ends d : List ℕ) (set place q joined : ℕ) (before : joined ≡ union (added ends d place) set q) where
  pub no_member_here : has set q ≡ false → joined ≡ union (added ends d place) set (q + 1)
  no_member_here e = before ∙ union_other (added ends d place) set q e

  pub passed_over : has set q ≡ true → delegate_in d q ≡ none → joined ≡ union (added ends d place) set (q + 1)
  passed_over e none_there =
      before
      ∙ sym (or_zero_r (union (added ends d place) set q))
      ∙ ap (λ (o : Option ℕ). bit_or (union (added ends d place) set q) (of_delegate (held_in ends place) o)) (sym none_there)
      ∙ union_member (added ends d place) set q e

  pub one_more : has set q ≡ true → (x end more : ℕ) → delegate_in d q ≡ some x → end ≡ held_in ends place x → more ≡ bit_or joined end
      → more ≡ union (added ends d place) set (q + 1)
  one_more e x end more there is joins =
      joins
      ∙ ap₂ bit_or before (is ∙ ap (λ (o : Option ℕ). of_delegate (held_in ends place) o) (sym there))
      ∙ union_member (added ends d place) set q e

-- ---- one place more, for at most 32 states
pub place_more : (ends d : List ℕ) (n m place states set next : ℕ) → states ≡ min n 32 → set ≡ join_up_to ends d n m place
    → next ≡ union (added ends d place) set states → next ≡ join_up_to ends d n m (place + 1)
unfolding join_of
place_more ends d n m place states set next few before e =
    rw add-one (e ∙ ap₂ (λ (c : ℕ) (x : ℕ). union (added ends d place) c x) before few)
