-- The laws of unions over the members of a set that composing needs. Assumes nothing.
use mathlib.Core.Path.{◌≡◌, refl, sym, ap, ◌∙◌, subst}
use mathlib.Core.Bool.{Bool, true, false, cond}
use Prim.Native.Nat.{ℕ, zero, suc, ◌^◌, ◌<◌}
use lib.Bits.{bit_or}
use Rattle.masks.specs.Masks.{◌∈◌, has, single, union}
use Rattle.masks.proofs.Laws.{ext, part_of, in_union, single_law, members_below}

-- a union over a union
pub union-union : (g h : ℕ → ℕ) (m n : ℕ) → union h (union g m n) n ≡ union (λ q. union h (g q) n) m n
union-union g h m n = ext (union h (union g m n) n) (union (λ q. union h (g q) n) m n) λ p. (
  (λ e.
      let r = part_of h (union g m n) p n e in
      let t = part_of g m r.from n r.member in
      in_union (λ q. union h (g q) n) m p n t.from t.below t.member (in_union h (g t.from) p n r.from r.below t.there r.there)),
  λ e.
      let r = part_of (λ q. union h (g q) n) m p n e in
      let t = part_of h (g r.from) p n r.there in
      in_union h (union g m n) p n t.from t.below (in_union g m t.from n r.from r.below r.member t.member) t.there,
)

-- a set is the union of the sets of its members
pub union_single : (m n : ℕ) → m < 2 ^ n → union single m n ≡ m
union_single m n b = ext (union single m n) m λ p. (
  (λ e. let r = part_of single m p n e in subst (λ (x : ℕ). x ∈ m) (sym ((single_law r.from p).0 r.there)) r.member),
  λ e. in_union single m p n p (members_below n m p b e) e ((single_law p p).1 refl),
)

-- the union over {q} is the set of q
pub union_of_single : (f : ℕ → ℕ) (q n : ℕ) → q < n → union f (single q) n ≡ f q
union_of_single f q n b = ext (union f (single q) n) (f q) λ p. (
  (λ e. let r = part_of f (single q) p n e in subst (λ (x : ℕ). p ∈ f x) ((single_law q r.from).0 r.member) r.there),
  λ e. in_union f (single q) p n q b ((single_law q q).1 refl) e,
)

-- what takes unions to unions, and nothing to nothing, takes a union over a set to one
pub union_through : (t f : ℕ → ℕ) → t 0 ≡ 0 → ((a b : ℕ) → t (bit_or a b) ≡ bit_or (t a) (t b)) → (m n : ℕ) → t (union f m n) ≡ union (λ q. t (f q)) m n
unfolding union
union_through t f z o m zero = z
union_through t f z o m (suc q) = o (union f m q) (cond (has m q) (f q) 0) ∙ rw (union_through t f z o m q) (ap (bit_or (union (λ p. t (f p)) m q)) (go (has m q)))
  where
    go : (b : Bool) → t (cond b (f q) 0) ≡ cond b (t (f q)) 0
    go true = refl
    go false = z
