-- The code's join and document 01's: of at most 32 states, what the code cuts off is nothing; and
-- joins of the same end sets of delegates are the same. Assumes nothing.
use mathlib.Core.Path.{◌≡◌, refl, ap, ◌∙◌}
use mathlib.Core.List.{List}
use mathlib.Core.Option.{Option, none, some}
use Prim.Native.Nat.{ℕ, zero, suc, ◌≤◌, ◌<◌}
use native.Mathlib.Nat.{min-eq_left}
use native.Mathlib.Omega.{arith}
use Rattle.masks.proofs.Laws.{union_same}
use Rattle.masks.specs.Masks.{union}
use Rattle.delegates.specs.Alike.{delegate_in, of_delegate}
use Rattle.board.specs.Boards.{held_in}
use Rattle.joins.specs.Joining.{join_of, join_up_to}

same_end : (e f : ℕ → ℕ) (o : Option ℕ) → ((x : ℕ) → o ≡ some x → e x ≡ f x) → of_delegate e o ≡ of_delegate f o
same_end e f none h = refl
same_end e f (some x) h = h x refl

pub join_same : (e f : ℕ → ℕ → ℕ) (d : ℕ → Option ℕ) (n m p : ℕ) → ((i q x : ℕ) → i < p → q < n → d q ≡ some x → e i x ≡ f i x)
    → join_of e d n m p ≡ join_of f d n m p
unfolding join_of
join_same e f d n m zero h = refl
join_same e f d n m (suc p) h =
    ap (λ (c : ℕ). union (λ q. of_delegate (e p) (d q)) c n) (join_same e f d n m p (λ i q x l b s. h i q x (omega arith) b s))
    ∙ union_same (λ q. of_delegate (e p) (d q)) (λ q. of_delegate (f p) (d q)) (join_of f d n m p) n
    (λ q b. same_end (e p) (f p) (d q) (λ x s. h p q x (omega arith) b s))

pub join_law : (ends d : List ℕ) (n m p : ℕ) → n ≤ 32 → join_up_to ends d n m p ≡ join_of (held_in ends) (delegate_in d) n m p
join_law ends d n m p few = ap (λ (x : ℕ). join_of (held_in ends) (delegate_in d) x m p) (min-eq_left few)
