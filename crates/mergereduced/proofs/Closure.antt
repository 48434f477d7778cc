-- A set to which the links of its members are added one member at a time: it stays within what n
-- steps from the first set reach, and once every member's links are added it is all of that.
-- Assumes that the first set has numbers below n alone.
use mathlib.Core.Path.{◌≡◌, refl, sym, ap, ap₂, ◌∙◌, subst}
use mathlib.Core.Logic.{⊎_elim}
use mathlib.Core.Bool.{Bool, true, false, not, ◌&&◌}
use Prim.Native.Nat.{ℕ, zero, suc, ◌+◌, ◌-◌, ◌^◌, ◌≤◌, ◌<◌}
use native.Mathlib.Omega.{arith}
use lib.Bits.{bit_or}
use lib.Dec.{ltb}
use borrow.Author.Tests.{ltb-true, ltb-false, eqb-false}
use Rattle.base.proofs.Tests.{by_test, not_both}
use Rattle.base.proofs.Totals.{squeeze}
use Rattle.masks.specs.Masks.{bit, ◌∈◌, has, single, mask_of}
use Rattle.masks.proofs.Laws.{ext, or_assoc, no_member, has_member, member_of, members_below, or_cases, or_left, or_right, single_law}
use Rattle.masks.proofs.Passing.{mask_in, mask_of_lem, mask_add, mask_skip}
use Rattle.masks.specs.Turns.{rank, turns}
use Rattle.masks.proofs.Turns.{bit_lt, rank_most, in_turns, still}
use Rattle.delegates.specs.mirror.Classes.{first_from}
use Rattle.mergereduce.specs.Trimmed.{spread}
use Rattle.mergereduce.proofs.Trim.{search_law}
use Rattle.mergereduce.proofs.Kept.{added, and_both, spread_from, spread_to}
use Rattle.mergereduced.specs.mirror.Asked.{fresh_in}

-- a set with all the members of another and one more has more
pub more_members : (a b n q : ℕ) → ((x : ℕ) → x ∈ a → x ∈ b) → q < n → q ∈ b → (q ∈ a → ⊥) → rank a n < rank b n
more_members a b n q sub l e out =
    by_test (ltb (rank a n) (rank b n))
    (λ t. ltb-true (rank a n) (rank b n) t)
    (λ t. absurd (out (squeeze (bit a) (bit b) n (λ p h. no_less p) (ltb-false (rank a n) (rank b n) t) q l ∙ e)))
  where
    no_less : (p : ℕ) → bit a p ≤ bit b p
    no_less p =
        by_test (has a p)
        (λ u. let i = member_of a p u in omega (arith, i, sub p i))
        (λ u. omega (arith, bit_lt a p, eqb-false (bit a p) 1 u))

-- what the loop keeps, of the set m, of which the members in `done` have had their links added
pub record Kept (link : ℕ → ℕ → Bool) (n start m done : ℕ) : Type 0 where
  pub from : (q : ℕ) → q ∈ start → q ∈ m
  pub within : (q : ℕ) → q ∈ m → q ∈ turns (spread link n) start n
  pub links : (q p : ℕ) → q ∈ done → p < n → link q p ≡ true → p ∈ m

module _ (link : ℕ → ℕ → Bool) (n start : ℕ) (small : start < 2 ^ n) where
  abbrev all : ℕ
  all = turns (spread link n) start n

  adds : (x q : ℕ) → q ∈ x → q ∈ spread link n x
  adds x q e = or_left x (added link n x) q e

  few : (i q : ℕ) → q ∈ turns (spread link n) start i → q < n
  unfolding turns
  few zero q e = members_below n start q small e
  few (suc i) q e =
      ⊎_elim (few i q) (λ h. (spread_from link n (turns (spread link n) start i) q h).4) (or_cases (turns (spread link n) start i) (added link n (turns (spread link n) start i)) q e)

  pub kept_first : Kept link n start start 0
  kept_first = record {
    from = λ q e. e;
    within = λ q e. in_turns (spread link n) start adds q e n;
    links = λ q p e l t. absurd (no_member q e);
  }

  module _ (m done : ℕ) (k : Kept link n start m done) where
    pub kept_more : (q : ℕ) → q < n → q ∈ m → (more now : ℕ) → more ≡ bit_or m (mask_of (link q) n) → now ≡ bit_or done (single q)
        → Kept link n start more now
    kept_more q l e more now is it =
        rw (is, it)
        record {
          from = λ x i. or_left m (mask_of (link q) n) x (k.from x i);
          within = λ x i.
              ⊎_elim
              (k.within x)
              (λ h.
              let u = mask_in (link q) n x h in
              subst (λ (y : ℕ). x ∈ y) (still (spread link n) start adds n few)
              (or_right all (added link n all) x (spread_to link n all q x l u.0 (k.within q e) u.1)))
              (or_cases m (mask_of (link q) n) x i);
          links = λ x p i h t.
              ⊎_elim
              (λ d. or_left m (mask_of (link q) n) p (k.links x p d h t))
              (λ d. or_right m (mask_of (link q) n) p
              (mask_of_lem (link q) n p h (subst (λ (y : ℕ). link y p ≡ true) ((single_law q x).0 d) t)))
              (or_cases done (single q) x i);
        }

    -- none is left whose links are not added
    module _ (none : (q : ℕ) → q < n → fresh_in m done q ≡ false) where
      is_done : (q : ℕ) → q < n → q ∈ m → q ∈ done
      is_done q l e =
          by_test (has done q)
          (λ t. member_of done q t)
          (λ t. not_both (ap₂ (λ (x y : Bool). x && not y) (has_member m q e) t) (none q l))

      closed : (i q : ℕ) → q ∈ turns (spread link n) start i → q ∈ m
      unfolding turns
      closed zero q e = k.from q e
      closed (suc i) q e =
          ⊎_elim
          (closed i q)
          (λ h.
          let u = spread_from link n (turns (spread link n) start i) q h in
          k.links u.0 q (is_done u.0 u.1 (closed i u.0 u.2)) u.4 u.3)
          (or_cases (turns (spread link n) start i) (added link n (turns (spread link n) start i)) q e)

      pub kept_all : m ≡ all
      kept_all = ext m all (λ q. (k.within q, closed n q))

or_known : (m p : ℕ) → p ∈ m → bit_or m (single p) ≡ m
or_known m p e =
    ext (bit_or m (single p)) m λ q. (
      (λ i. ⊎_elim (λ h. h) (λ h. subst (λ (x : ℕ). x ∈ m) (sym ((single_law p q).0 h)) e) (or_cases m (single p) q i)),
      or_left m (single p) q,
    )

-- ---- the next member whose links are not yet added
module _ (n m done q : ℕ) (is : q ≡ first_from (fresh_in m done) 0 n) where
  pub fresh_there : q < n → (q ∈ m) × (q ∈ done → ⊥)
  fresh_there l =
      ⊎_elim
      (λ u.
      let f : fresh_in m done q ≡ true = ap (fresh_in m done) is ∙ u.1 in
      let g = and_both (has m q) (not (has done q)) f in
      (member_of m q g.0, λ d. not_both {A = ⊥} g.1 (ap not (has_member done q d))))
      (λ u. absurd (omega (arith, l, is, u.1)))
      (search_law (fresh_in m done) 0 n)

  pub fresh_none : (link : ℕ → ℕ → Bool) (start : ℕ) → n ≤ q → start < 2 ^ n → Kept link n start m done → m ≡ turns (spread link n) start n
  fresh_none link start h small k =
      ⊎_elim
      (λ u. absurd (omega (arith, h, is, u.0)))
      (λ u. kept_all link n start small m done k (λ x l. u.0 x (omega arith) (omega arith)))
      (search_law (fresh_in m done) 0 n)

-- one more is done, and fewer are left
pub done_less : (n done more q : ℕ) → more ≡ bit_or done (single q) → q < n → (q ∈ done → ⊥) → n - rank more n < n - rank done n
done_less n done more q is l out =
    let part : (x : ℕ) → x ∈ done → x ∈ more = λ x e. rw is (or_left done (single q) x e) in
    let there : q ∈ more = rw is (or_right done (single q) q ((single_law q q).1 refl)) in
    omega (arith, more_members done more n q part l there out, rank_most more n)

-- ---- the numbers that are linked to one, one number more
module _ (link : ℕ → Bool) (m set p : ℕ) (is : set ≡ bit_or m (mask_of link p)) where
  pub links_add : link p ≡ true → bit_or set (single p) ≡ bit_or m (mask_of link (p + 1))
  links_add e = ap (λ (x : ℕ). bit_or x (single p)) is ∙ or_assoc m (mask_of link p) (single p) ∙ ap (bit_or m) (mask_add link p (mask_of link p) refl e)

  pub links_skip : link p ≡ false → set ≡ bit_or m (mask_of link (p + 1))
  links_skip e = is ∙ ap (bit_or m) (mask_skip link p (mask_of link p) refl e)

  -- one that is there already
  pub links_known : has set p ≡ true → set ≡ bit_or m (mask_of link (p + 1))
  links_known t =
      by_test (link p)
      (λ e. sym (or_known set p (member_of set p t)) ∙ links_add e)
      links_skip
