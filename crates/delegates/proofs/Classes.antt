-- The mathematics of the refinement: the laws of `final` and `follow`, a round takes the classes by
-- texts shorter than f to those by texts shorter than f + 1, and a round that changes nothing has
-- found the classes. Assumes nothing.
--
-- Sets that no text shorter than f tells apart are near at f (`alike_to`). Being near is an
-- equivalence, for each f. A round looks at two sets of one class, at their being final and at the
-- classes of their successors: that is to be near at f + 1. Where a round changes nothing, sets
-- near at f are near at f + 1, so their successors are near at f, and so on over every text. A
-- round that changes something makes one more set the lowest of its class, and there are 513; so
-- rounds end, and what texts shorter than 513 do not tell apart no text does.
use mathlib.Core.Path.{◌≡◌, refl, sym, ap, ◌∙◌}
use mathlib.Core.Logic.{◌⊎◌, inl, inr, ⊎_elim, ◌↔◌}
use mathlib.Core.Bool.{Bool, true, false, not, ◌&&◌, beq, true≢false, and-eq-true_iff}
use mathlib.Core.List.{List, [], ◌∷◌}
use Prim.Native.Nat.{ℕ, zero, suc, ◌+◌, ◌-◌, ◌*◌, ◌≤◌, ◌<◌, min, zero-le}
use native.Mathlib.Nat.{le_antisymm}
use native.Mathlib.Decide.{ℕ_discrete}
use native.Mathlib.Omega.{arith}
use borrow.Author.Count.{below_none, below_more}
use borrow.Author.Tests.{lt-ltb, le-ltb, ltb-true, ltb-false, eq-eqb, eqb-true, not-false}
use lib.Dec.{eqb, ltb}
use lib.ListN.{length, get_or}
use Rattle.base.proofs.Lists.{cell_of_lem, is_list_from}
use Rattle.base.proofs.Tests.{by_test, same_truth}
use Rattle.masks.specs.Masks.{shares}
use Rattle.automaton.specs.Automaton.{Text}
use Rattle.delegates.specs.mirror.Classes.{final, follow, accepted, AlikeSets, every, first_from, alike_to}
use Rattle.delegates.specs.mirror.Refinement.{class_of, same_in, least_of, round_of, changes, classes_of}
use Rattle.delegates.proofs.Tests.{Least, le_by, equal, every_law, fails, found, least_by, one_least}
use Rattle.delegates.proofs.Kept.{kept, kept_most, kept_less}

-- ---- final, follow
pub final_set : (sets : List ℕ) (finals s : ℕ) → s < 512 → final sets finals s ≡ shares (get_or sets s 0) finals
unfolding final
final_set sets finals s h = rw (lt-ltb s 512 h)

pub final_empty : (sets : List ℕ) (finals s : ℕ) → 512 ≤ s → final sets finals s ≡ false
unfolding final
final_empty sets finals s h = rw (le-ltb s 512 h)

pub follow_set : (next : List ℕ) (s a : ℕ) → s < 512 → follow next s a ≡ min (get_or next (s * 16 + a) 0) 512
unfolding follow
follow_set next s a h = rw (lt-ltb s 512 h)

pub follow_empty : (next : List ℕ) (s a : ℕ) → 512 ≤ s → follow next s a ≡ 512
unfolding follow
follow_empty next s a h = rw (le-ltb s 512 h)

pub follow_within : (next : List ℕ) (s a : ℕ) → follow next s a ≤ 512
follow_within next s a =
    by_test (ltb s 512)
    (λ t. omega (arith, follow_set next s a (ltb-true s 512 t)))
    (λ t. omega (arith, follow_empty next s a (ltb-false s 512 t)))

-- ---- the lowest of a class, of an equivalence
module _
    (R : ℕ → ℕ → Type 0) (flip : (s t : ℕ) → R s t → R t s) (join : (s t u : ℕ) → R s t → R t u → R s u)
    (class : ℕ → ℕ) (least : (s : ℕ) → s ≤ 512 → Least R 0 s (class s))
  where
    joined_le : (s t : ℕ) → s ≤ 512 → t ≤ 512 → R s t → class s ≤ class t
    joined_le s t hs ht r =
        le_by (class s) (class t) (λ l. (least s hs).first (class t) zero-le l (join (class t) t s (least t ht).has (flip s t r)))

    pub joined : (s t : ℕ) → s ≤ 512 → t ≤ 512 → R s t → class s ≡ class t
    joined s t hs ht r = le_antisymm (joined_le s t hs ht r) (joined_le t s ht hs (flip s t r))

    pub split : (s t : ℕ) → s ≤ 512 → t ≤ 512 → class s ≡ class t → R s t
    split s t hs ht e =
        let x : R (class t) s = rw e at (least s hs).has in
        join s (class t) t (flip (class t) s x) (least t ht).has

    pub own : (s : ℕ) → s ≤ 512 → class (class s) ≡ class s
    own s hs =
        let m = (least s hs).most in
        joined (class s) s (omega arith) hs (least s hs).has

-- numbers that agree below n, or the place of a difference
pub first_other : (f g : ℕ → ℕ) (n : ℕ) → ((a : ℕ) → a < n → f a ≡ g a) ⊎ ((a : ℕ) × (a < n) × (f a ≡ g a → ⊥))
first_other f g zero = inl (below_none _)
first_other f g (suc n) = ⊎_elim (λ all. go all (ℕ_discrete (f n) (g n))) (λ x. inr (x.0, omega (arith, x.1), x.2)) (first_other f g n)
  where
    go : ((a : ℕ) → a < n → f a ≡ g a) → Dec (f n ≡ g n) → ((a : ℕ) → a < suc n → f a ≡ g a) ⊎ ((a : ℕ) × (a < suc n) × (f a ≡ g a → ⊥))
    go all (yes e) = inl (λ a l. below_more (λ b. f b ≡ g b) n all e a (omega arith))
    go all (no d) = inr (n, omega arith, d)

module _ (sets next : List ℕ) (finals k : ℕ) where
  -- ---- sets that no text shorter than f tells apart
  abbrev pub Near : ℕ → ℕ → ℕ → Type 0
  Near f s t = alike_to sets next finals k f s t ≡ true

  -- both final or neither, and with successors that are near
  near_law : (f s t : ℕ)
      → Near (suc f) s t ↔ ((final sets finals s ≡ final sets finals t) × ((a : ℕ) → a < k → Near f (follow next s a) (follow next t a)))
  unfolding alike_to
  near_law f s t =
      let kind = beq (final sets finals s) (final sets finals t) in
      let law = and-eq-true_iff kind (every k (λ a. alike_to sets next finals k f (follow next s a) (follow next t a))) in
      let one = equal (final sets finals s) (final sets finals t) in
      let all = every_law k (λ a. alike_to sets next finals k f (follow next s a) (follow next t a)) in
      (λ h. let x = law.0 h in (one.0 x.0, all.0 x.1), λ x. law.1 (one.1 x.0, all.1 x.1))

  near_first : (s t : ℕ) → Near 0 s t
  unfolding alike_to
  near_first s t = refl

  near_same : (f s t : ℕ) → Near f s t → (w : List ℕ) → Text k w → length w < f → accepted sets next finals s w ≡ accepted sets next finals t w
  unfolding accepted
  near_same zero s t h w x l = absurd (omega arith)
  near_same (suc f) s t h [] x l = ((near_law f s t).0 h).0
  near_same (suc f) s t h (a ∷ w) x l =
      near_same f (follow next s a) (follow next t a) (((near_law f s t).0 h).1 a x.0) w x.1 (omega arith)

  same_near : (f s t : ℕ) → ((w : List ℕ) → Text k w → length w < f → accepted sets next finals s w ≡ accepted sets next finals t w) → Near f s t
  unfolding accepted
  same_near zero s t h = near_first s t
  same_near (suc f) s t h =
      (near_law f s t).1
      (h [] tt (omega arith), λ a l. same_near f (follow next s a) (follow next t a) (λ w x m. h (a ∷ w) (l, x) (omega arith)))

  near_back : (f s t : ℕ) → Near f s t → Near f t s
  near_back f s t h = same_near f t s (λ w x l. sym (near_same f s t h w x l))

  near_on : (f s t u : ℕ) → Near f s t → Near f t u → Near f s u
  near_on f s t u h i = same_near f s u (λ w x l. near_same f s t h w x l ∙ near_same f t u i w x l)

  near_less : (e f s t : ℕ) → e ≤ f → Near f s t → Near e s t
  near_less e f s t h i = same_near e s t (λ w x l. near_same f s t i w x (omega arith))

  pub alike_near : (f s t : ℕ) → AlikeSets sets next finals k s t → Near f s t
  alike_near f s t h = same_near f s t (λ w x l. h w x)

  -- sets that are not near are told apart by a text
  pub telling : (f s t : ℕ) → alike_to sets next finals k f s t ≡ false
      → (w : List ℕ) × Text k w × (accepted sets next finals s w ≡ accepted sets next finals t w → ⊥)
  unfolding alike_to accepted
  telling zero s t e = absurd (true≢false e)
  telling (suc f) s t e = one (λ a. telling f (follow next s a) (follow next t a)) (beq (final sets finals s) (final sets finals t)) refl e
    where
      one : ((a : ℕ) → alike_to sets next finals k f (follow next s a) (follow next t a) ≡ false
          → (w : List ℕ) × Text k w × (accepted sets next finals (follow next s a) w ≡ accepted sets next finals (follow next t a) w → ⊥))
          → (b : Bool) → beq (final sets finals s) (final sets finals t) ≡ b
          → b && every k (λ a. alike_to sets next finals k f (follow next s a) (follow next t a)) ≡ false
          → (w : List ℕ) × Text k w × (accepted sets next finals s w ≡ accepted sets next finals t w → ⊥)
      one before true z e =
          let u = fails k (λ a. alike_to sets next finals k f (follow next s a) (follow next t a)) e in
          let v = before u.0 u.2 in
          (u.0 ∷ v.0, (u.1, v.1), v.2)
      one before false z e =
          ([], tt, λ same. true≢false (sym ((equal (final sets finals s) (final sets finals t)).1 same) ∙ z))

  -- ---- the classes at f, and at f + 1
  abbrev pub ClassesTo : ℕ → (ℕ → ℕ) → Type 0
  ClassesTo f c = (s : ℕ) → s ≤ 512 → Least (Near f) 0 s (c s)

  module _ (f : ℕ) (c d : ℕ → ℕ) (at : ClassesTo f c) (after : ClassesTo (suc f) d) where
    class_up : (s : ℕ) → s ≤ 512 → c s ≤ d s
    class_up s h =
        le_by (c s) (d s) (λ l. (at s h).first (d s) zero-le l (near_less f (suc f) (d s) s (omega arith) (after s h).has))

    -- a class that changes makes one more set the lowest of its class
    pub more : (s : ℕ) → s ≤ 512 → (d s ≡ c s → ⊥) → kept c 513 < kept d 513
    more s h ne =
        let m = (after s h).most in
        let up = class_up s h in
        let same = joined (Near f) (near_back f) (near_on f) c at (d s) s (omega arith) h (near_less f (suc f) (d s) s (omega arith) (after s h).has) in
        kept_less c d 513
        (λ b l e. omega (arith, class_up b (omega arith), (after b (omega arith)).most))
        (d s)
        (omega arith)
        (λ e. ne (sym e ∙ same))
        (own (Near (suc f)) (near_back (suc f)) (near_on (suc f)) d after s h)

    -- where none changes, near sets are alike
    module _ (still : (s : ℕ) → s ≤ 512 → d s ≡ c s) where
      on : (s t : ℕ) → s ≤ 512 → t ≤ 512 → Near f s t → Near (suc f) s t
      on s t hs ht h =
          split (Near (suc f)) (near_back (suc f)) (near_on (suc f)) d after s t hs ht
          (still s hs ∙ joined (Near f) (near_back f) (near_on f) c at s t hs ht h ∙ sym (still t ht))

      pub settled : (s t : ℕ) → s ≤ 512 → t ≤ 512 → Near f s t → AlikeSets sets next finals k s t
      unfolding accepted
      settled s t hs ht h [] x = ((near_law f s t).0 (on s t hs ht h)).0
      settled s t hs ht h (a ∷ w) x =
          settled (follow next s a) (follow next t a) (follow_within next s a) (follow_within next t a)
          (((near_law f s t).0 (on s t hs ht h)).1 a x.0)
          w
          x.1

  -- ---- texts shorter than 513 are enough
  lowest_to : ℕ → ℕ → ℕ
  lowest_to f s = first_from (λ t. alike_to sets next finals k f t s) 0 s

  lowest_to_lem : (f : ℕ) → ClassesTo f (lowest_to f)
  unfolding lowest_to
  lowest_to_lem f s h =
      least_by (λ t _. Near f t s) (Near f) 0 s (lowest_to f s) (λ t l. (λ x. x, λ x. x))
      (found (λ t. alike_to sets next finals k f t s) 0 s s (omega arith) (same_near f s s (λ w x l. refl)))

  Settled : ℕ → Type 0
  Settled most = (f : ℕ) × (f ≤ most) × ((s t : ℕ) → s ≤ 512 → t ≤ 512 → Near f s t → AlikeSets sets next finals k s t)

  turn : (most f : ℕ) → f ≤ most → (kept (lowest_to f) 513 < kept (lowest_to (suc f)) 513 → Settled most) → Settled most
  unfolding Settled
  turn most f h later =
      ⊎_elim
      (λ all. (f, h, settled f (lowest_to f) (lowest_to (suc f)) (lowest_to_lem f) (lowest_to_lem (suc f)) (λ s l. all s (omega arith))))
      (λ x. later (more f (lowest_to f) (lowest_to (suc f)) (lowest_to_lem f) (lowest_to_lem (suc f)) x.0 (omega (arith, x.1)) x.2))
      (first_other (lowest_to (suc f)) (lowest_to f) 513)

  settles : (most g f : ℕ) → f + g ≡ most → 513 ≤ kept (lowest_to f) 513 + g → Settled most
  settles most zero f e h = turn most f (omega arith) (λ l. absurd (omega (arith, kept_most (lowest_to (suc f)) 513)))
  settles most (suc g) f e h = turn most f (omega arith) (λ l. settles most g (suc f) (omega arith) (omega arith))

  pub near_alike : (s t : ℕ) → s ≤ 512 → t ≤ 512 → Near 513 s t ↔ AlikeSets sets next finals k s t
  unfolding Settled
  near_alike s t hs ht =
      let x = settles 513 513 0 (omega arith) (omega arith) in
      (λ h. x.2 s t hs ht (near_less x.0 513 s t (omega (arith, x.1)) h), alike_near 513 s t)

  -- ---- a round
  -- sets t and s have one class, are both final or neither, and have successors in one class
  pub record Same (c : List ℕ) (t s : ℕ) : Type 0 where
    pub here : class_of c t ≡ class_of c s
    pub kind : final sets finals t ≡ final sets finals s
    pub there : (a : ℕ) → a < k → class_of c (follow next t a) ≡ class_of c (follow next s a)

  pub same_law : (c : List ℕ) (t s : ℕ) → (same_in sets next finals k c t s ≡ true) ↔ Same c t s
  unfolding same_in
  same_law c t s =
      let kind = beq (final sets finals t) (final sets finals s) in
      let next-test : ℕ → Bool = λ a. eqb (class_of c (follow next t a)) (class_of c (follow next s a)) in
      let law = and-eq-true_iff (eqb (class_of c t) (class_of c s)) (kind && every k next-test) in
      let rest = and-eq-true_iff kind (every k next-test) in
      let one = equal (final sets finals t) (final sets finals s) in
      let all = every_law k next-test in (
        (λ h.
            let x = law.0 h in
            let y = rest.0 x.1 in
            record {
              here = eqb-true (class_of c t) (class_of c s) x.0;
              kind = one.0 y.0;
              there = λ a l. eqb-true (class_of c (follow next t a)) (class_of c (follow next s a)) (all.0 y.1 a l);
            }),
        λ x.
            law.1 (
              eq-eqb (class_of c t) (class_of c s) x.here,
              rest.1 (one.1 x.kind, all.1 (λ a l. eq-eqb (class_of c (follow next t a)) (class_of c (follow next s a)) (x.there a l))),
            ),
      )

  least_law : (c : List ℕ) (s : ℕ) → class_of c s ≤ s → Least (Same c) (class_of c s) s (least_of sets next finals k c s)
  unfolding least_of
  least_law c s h =
      least_by (λ t _. same_in sets next finals k c t s ≡ true) (Same c) (class_of c s) s (least_of sets next finals k c s)
      (λ t l. same_law c t s)
      (found (λ t. same_in sets next finals k c t s) (class_of c s) (s - class_of c s) s (omega arith)
      ((same_law c s s).1 (record { here = refl; kind = refl; there = λ a l. refl })))

  -- one class of all sets
  pub started : (c : List ℕ) → ((s : ℕ) → class_of c s ≡ 0) → ClassesTo 0 (class_of c)
  started c zeros s h = rw (zeros s) (record { from = zero-le; most = zero-le; has = near_first 0 s; first = λ v a b y. omega arith })

  module _ (f : ℕ) (c : List ℕ) (at : ClassesTo f (class_of c)) (d : List ℕ) (is : d ≡ round_of sets next finals k c) where
    new_class : (s : ℕ) → s ≤ 512 → class_of d s ≡ least_of sets next finals k c s
    new_class s h = ap (λ (l : List ℕ). class_of l s) is ∙ cell_of_lem 513 (least_of sets next finals k c) s 0 (omega arith)

    together : (s t : ℕ) → s ≤ 512 → t ≤ 512 → Same c t s ↔ Near (suc f) t s
    together s t hs ht = (
      (λ x.
          (near_law f t s).1
          (x.kind, λ a l. split (Near f) (near_back f) (near_on f) (class_of c) at (follow next t a) (follow next s a) (follow_within next t a) (follow_within next s a) (x.there a l))),
      λ h.
          let x = (near_law f t s).0 h in
          record {
            here = joined (Near f) (near_back f) (near_on f) (class_of c) at t s ht hs (near_less f (suc f) t s (omega arith) h);
            kind = x.0;
            there = λ a l. joined (Near f) (near_back f) (near_on f) (class_of c) at (follow next t a) (follow next s a) (follow_within next t a) (follow_within next s a) (x.1 a l);
          },
    )

    pub after_round : ClassesTo (suc f) (class_of d)
    after_round s h =
        let x : Least (Same c) (class_of c s) s (class_of d s) = rw (new_class s h) (least_law c s (at s h).most) in
        let m = x.most in
        record {
          from = zero-le;
          most = m;
          has = (together s (class_of d s) h (omega arith)).0 x.has;
          first = λ v z l y.
              by_test (ltb v (class_of c s))
              (λ t. (at s h).first v zero-le (ltb-true v (class_of c s) t) (near_less f (suc f) v s (omega arith) y))
              (λ t. x.first v (ltb-false v (class_of c s) t) l ((together s v h (omega arith)).1 y));
        }

    same_class : ℕ → Bool
    same_class s = eqb (class_of c s) (least_of sets next finals k c s)

    -- where no class changes, the round says so
    unchanged : ((s : ℕ) → s < 513 → class_of d s ≡ class_of c s) → every 513 same_class ≡ true
    unfolding same_class
    unchanged all =
        (every_law 513 same_class).1
        (λ s l. eq-eqb (class_of c s) (least_of sets next finals k c s) (sym (all s l) ∙ new_class s (omega arith)))

    -- more sets are the lowest of their class where a class changed
    pub rises : changes sets next finals k c ≡ true → kept (class_of c) 513 < kept (class_of d) 513
    unfolding same_class
    rises e =
        ⊎_elim
        (λ all. absurd (true≢false (sym e ∙ ap not (unchanged all))))
        (λ x. more f (class_of c) (class_of d) at after_round x.0 (omega (arith, x.1)) x.2)
        (first_other (class_of d) (class_of c) 513)

    still : changes sets next finals k c ≡ false → (s : ℕ) → s ≤ 512 → class_of d s ≡ class_of c s
    unfolding same_class
    still e s h =
        let all : every 513 same_class ≡ true = not-false (every 513 same_class) e in
        new_class s h ∙ sym (eqb-true (class_of c s) (least_of sets next finals k c s) ((every_law 513 same_class).0 all s (omega arith)))

    -- the rounds end with the classes
    pub done : length c ≡ 513 → changes sets next finals k c ≡ false → c ≡ classes_of sets next finals k
    unfolding lowest_to
    done long e =
        is_list_from c 513 (lowest_to 513) long
        (λ s b.
        let h : s ≤ 512 = omega arith in
        one_least (Near 513) 0 s (class_of c s) (lowest_to 513 s)
        (least_by (Near f) (Near 513) 0 s (class_of c s)
        (λ t l.
        let all = near_alike t s (omega arith) h in
        (λ x. all.1 (settled f (class_of c) (class_of d) at after_round (still e) t s (omega arith) h x), λ x. alike_near f t s (all.0 x)))
        (at s h))
        (lowest_to_lem 513 s h))

  -- ---- what the classes say of any two sets
  class_at_lem : (s : ℕ) → s ≤ 512 → class_of (classes_of sets next finals k) s ≡ lowest_to 513 s
  unfolding lowest_to
  class_at_lem s h = cell_of_lem 513 (lowest_to 513) s 0 (omega arith)

  pub class_test : (s t : ℕ) → s ≤ 512 → t ≤ 512
      → eqb (class_of (classes_of sets next finals k) s) (class_of (classes_of sets next finals k) t) ≡ alike_to sets next finals k 513 s t
  class_test s t hs ht =
      rw (class_at_lem s hs, class_at_lem t ht)
      (same_truth (eqb (lowest_to 513 s) (lowest_to 513 t)) (alike_to sets next finals k 513 s t) (
        (λ e.
            split (Near 513) (near_back 513) (near_on 513) (lowest_to 513) (lowest_to_lem 513) s t hs ht (eqb-true (lowest_to 513 s) (lowest_to 513 t) e)),
        λ h.
            eq-eqb (lowest_to 513 s) (lowest_to 513 t) (joined (Near 513) (near_back 513) (near_on 513) (lowest_to 513) (lowest_to_lem 513) s t hs ht h),
      ))
