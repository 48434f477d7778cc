-- The arcs of the result, from the symbols by which each rule has an arc between two of its states:
-- the tests of the two are the same. Assumes two tables of their numbers of states.
use mathlib.Core.Path.{◌≡◌, refl, sym, ap, ap₂, ◌∙◌, subst}
use mathlib.Core.Logic.{◌↔◌, ◌⊎◌, inl, inr, ⊎_elim}
use mathlib.Core.Bool.{Bool, true, false, not, ◌&&◌, ◌||◌}
use mathlib.Core.List.{List}
use Prim.Native.Nat.{ℕ, zero, suc, ◌+◌, ◌-◌, ◌*◌, ◌/◌, ◌%◌, ◌^◌, ◌≤◌, ◌<◌}
use native.Mathlib.Omega.{arith}
use lib.Bits.{bit_and}
use lib.Dec.{eqb, ltb}
use borrow.Author.Tests.{lt-ltb, le-ltb, ltb-true, ltb-false, eq-eqb, ne_eqb, eqb-true}
use Rattle.base.proofs.Conditions.{any_at, any_found}
use Rattle.base.proofs.Lists.{cell_of_lem}
use Rattle.base.proofs.Tests.{by_test, same_truth, not_both, or_either}
use Rattle.masks.specs.Masks.{◌∈◌, has, single}
use Rattle.masks.proofs.Laws.{ext, no_member, has_member, member_of, or_cases, or_left, or_right, some_member, members_below, shares_law, single_law}
use Rattle.masks.proofs.Passing.{mask_in, mask_of_lem}
use Rattle.masks.specs.Turns.{turns}
use Rattle.automaton.specs.declared.Rule.{Rule}
use Rattle.automaton.specs.Rules.{target_mask, WellFormed}
use Rattle.products.proofs.Numbers.{left_of, right_of}
use Rattle.merging.specs.declared.Way.{Way}
use Rattle.merging.specs.declared.Way.TheVariants.{Both, Either, Interleaving}
use Rattle.merging.specs.Merged.{states_of, pairs, targets_of}
use Rattle.merging.proofs.Sets.{shift_law, pairs_law, wide}
use Rattle.mergereduce.specs.Trimmed.{spread, arcs, onward, back_to, kept_from}
use Rattle.mergereduce.specs.MergeReduced.{initial_pairs, final_pairs, kept_pairs}
use Rattle.mergereduce.proofs.Kept.{added, and_both, spread_from, spread_to}
use Rattle.mergereduced.specs.mirror.Asked.{symbols_to, symbols_of, symbols_at, link_in, link_by, Tabled, pair_arcs}
use Rattle.mergereduced.proofs.Ways.{left_low, right_low, alone_first, alone_second, tabled}

some_law : (m : ℕ) → (not (eqb m 0) ≡ true) ↔ (s : ℕ) × s ∈ m
some_law m = (
  (λ e. some_member m (λ z. not_both {A = ⊥} e (ap not (eq-eqb m 0 z)))),
  λ x. ap not (ne_eqb m 0 (λ z. no_member x.0 (subst (λ (y : ℕ). x.0 ∈ y) z x.1))),
)

or_found : (a b : Bool) → (a || b) ≡ true → (a ≡ true) ⊎ (b ≡ true)
or_found true b e = inl refl
or_found false b e = inr e

module _ (ts : List ℕ) (x y : ℕ) (lx : x < 32) (ly : y < 32) where
  symbols_is : symbols_at (symbols_of ts) x y ≡ symbols_to ts x y
  symbols_is =
      cell_of_lem 1024 (λ cell. symbols_to ts (cell / 32) (cell % 32)) (x * 32 + y) 0 (omega arith)
      ∙ ap₂ (symbols_to ts) (left_of 32 x y ly) (right_of 32 x y ly)

  symbols_law : (s : ℕ) → s ∈ symbols_at (symbols_of ts) x y ↔ ((s < 16) × (y ∈ target_mask ts x s))
  symbols_law s = (
    (λ e.
        let i = mask_in (λ z. has (target_mask ts x z) y) 16 s (subst (λ (z : ℕ). s ∈ z) symbols_is e) in
        (i.0, member_of (target_mask ts x s) y i.1)),
    λ i.
        subst (λ (z : ℕ). s ∈ z) (sym symbols_is)
        (mask_of_lem (λ z. has (target_mask ts x z) y) 16 s i.0 (has_member (target_mask ts x s) y i.1)),
  )

  -- some symbol leads from x to y
  some_symbol : (not (eqb (symbols_at (symbols_of ts) x y) 0) ≡ true) ↔ (s : ℕ) × (s < 16) × (y ∈ target_mask ts x s)
  some_symbol = (
    (λ e. let u = (some_law (symbols_at (symbols_of ts) x y)).0 e in let v = (symbols_law u.0).0 u.1 in (u.0, v.0, v.1)),
    λ u. (some_law (symbols_at (symbols_of ts) x y)).1 (u.0, (symbols_law u.0).1 (u.1, u.2)),
  )

module _ (n1 n2 : ℕ) (ts us : List ℕ) (t : Tabled n1 n2 ts us) (q p : ℕ) where
  abbrev Leads : Way → Type 0
  Leads way = (s : ℕ) × (s < 16) × (p ∈ targets_of way n1 n2 ts us q s)

  abbrev Tests : Way → Type 0
  Tests way = link_in way n1 n2 (symbols_of ts) (symbols_of us) q p ≡ true

  module _ (lq : q < n1 * n2) (lp : p < n1 * n2) where
    x1 : q / n2 < 32
    x1 = left_low n1 n2 q t.sizes lq

    x2 : q % n2 < 32
    x2 = right_low n1 n2 q t.sizes lq

    y1 : p / n2 < 32
    y1 = left_low n1 n2 p t.sizes lp

    y2 : p % n2 < 32
    y2 = right_low n1 n2 p t.sizes lp

    pair_law : (s : ℕ) → p ∈ targets_of Both n1 n2 ts us q s ↔ (((p / n2) ∈ target_mask ts (q / n2) s) × ((p % n2) ∈ target_mask us (q % n2) s))
    pair_law s =
        pairs_law (target_mask ts (q / n2) s) (target_mask us (q % n2) s) n2 p
        (wide n1 (target_mask ts (q / n2) s) t.sizes.first.1 (t.tables.first (q / n2) s x1))
        (t.tables.second (q % n2) s x2)

    both_law : Tests Both ↔ Leads Both
    both_law =
        let a : ℕ = symbols_at (symbols_of ts) (q / n2) (p / n2) in
        let b : ℕ = symbols_at (symbols_of us) (q % n2) (p % n2) in (
          (λ e.
              let u = (shares_law a b).0 e in
              let v = (symbols_law ts (q / n2) (p / n2) x1 y1 u.0).0 u.1 in
              let w = (symbols_law us (q % n2) (p % n2) x2 y2 u.0).0 u.2 in
              (u.0, v.0, (pair_law u.0).1 (v.1, w.1))),
          λ u.
              let v = (pair_law u.0).0 u.2 in
              (shares_law a b).1
              (u.0, (symbols_law ts (q / n2) (p / n2) x1 y1 u.0).1 (u.1, v.0), (symbols_law us (q % n2) (p % n2) x2 y2 u.0).1 (u.1, v.1)),
        )

    abbrev first_alone : Bool
    first_alone = eqb (q % n2) (p % n2) && not (eqb (symbols_at (symbols_of ts) (q / n2) (p / n2)) 0)

    abbrev second_alone : Bool
    second_alone = eqb (q / n2) (p / n2) && not (eqb (symbols_at (symbols_of us) (q % n2) (p % n2)) 0)

    abbrev left : ℕ → ℕ
    left s = pairs (target_mask ts (q / n2) s) (single (q % n2)) n2

    abbrev right : ℕ → ℕ
    right s = pairs (single (q / n2)) (target_mask us (q % n2) s) n2

    lefts : (s : ℕ) → p ∈ left s ↔ (((p / n2) ∈ target_mask ts (q / n2) s) × ((p % n2) ∈ single (q % n2)))
    lefts s =
        let a : ℕ = target_mask ts (q / n2) s in
        let m = alone_first n1 n2 ts us t q s lq a (single (q % n2)) refl refl in
        pairs_law a (single (q % n2)) n2 p (wide n1 a t.sizes.first.1 m.first) m.second

    rights : (s : ℕ) → p ∈ right s ↔ (((p / n2) ∈ single (q / n2)) × ((p % n2) ∈ target_mask us (q % n2) s))
    rights s =
        let b : ℕ = target_mask us (q % n2) s in
        let m = alone_second n1 n2 ts us t q s lq b (single (q / n2)) refl refl in
        pairs_law (single (q / n2)) b n2 p (wide n1 (single (q / n2)) t.sizes.first.1 m.first) m.second

    one_law : Tests Interleaving ↔ Leads Interleaving
    one_law = (
      (λ e.
          ⊎_elim
          (λ f.
          let g = and_both (eqb (q % n2) (p % n2)) (not (eqb (symbols_at (symbols_of ts) (q / n2) (p / n2)) 0)) f in
          let u = (some_symbol ts (q / n2) (p / n2) x1 y1).0 g.1 in (
            u.0,
            u.1,
            or_left (left u.0) (right u.0) p
                ((lefts u.0).1 (u.2, (single_law (q % n2) (p % n2)).1 (sym (eqb-true (q % n2) (p % n2) g.0)))),
          ))
          (λ f.
          let g = and_both (eqb (q / n2) (p / n2)) (not (eqb (symbols_at (symbols_of us) (q % n2) (p % n2)) 0)) f in
          let u = (some_symbol us (q % n2) (p % n2) x2 y2).0 g.1 in (
            u.0,
            u.1,
            or_right (left u.0) (right u.0) p
                ((rights u.0).1 ((single_law (q / n2) (p / n2)).1 (sym (eqb-true (q / n2) (p / n2) g.0)), u.2)),
          ))
          (or_found first_alone second_alone e)),
      λ u.
          or_either first_alone second_alone
          (⊎_elim
          (λ i.
          let v = (lefts u.0).0 i in
          inl
          (ap₂ (λ (c d : Bool). c && d) (eq-eqb (q % n2) (p % n2) (sym ((single_law (q % n2) (p % n2)).0 v.1)))
          ((some_symbol ts (q / n2) (p / n2) x1 y1).1 (u.0, u.1, v.0))))
          (λ i.
          let v = (rights u.0).0 i in
          inr
          (ap₂ (λ (c d : Bool). c && d) (eq-eqb (q / n2) (p / n2) (sym ((single_law (q / n2) (p / n2)).0 v.0)))
          ((some_symbol us (q % n2) (p % n2) x2 y2).1 (u.0, u.1, v.1))))
          (or_cases (left u.0) (right u.0) p u.2)),
    )

  module _ (lq : q < n1 + n2) (lp : p < n1 + n2) where
    own_law : Tests Either ↔ Leads Either
    own_law =
        by_test (ltb q n1)
        (λ eq.
        let q1 : q < 32 = omega (arith, ltb-true q n1 eq, t.sizes.first) in (
          (λ e.
              let f : (ltb p n1 && not (eqb (symbols_at (symbols_of ts) q p) 0)) ≡ true = rw eq at e in
              let g = and_both (ltb p n1) (not (eqb (symbols_at (symbols_of ts) q p) 0)) f in
              let u = (some_symbol ts q p q1 (omega (arith, ltb-true p n1 g.0, t.sizes.first))).0 g.1 in
              (u.0, u.1, rw eq u.2)),
          λ u.
              let i : p ∈ target_mask ts q u.0 = rw eq at u.2 in
              let l : p < n1 = members_below n1 (target_mask ts q u.0) p (t.tables.first q u.0 q1) i in
              rw (eq, lt-ltb p n1 l) ((some_symbol ts q p q1 (omega (arith, l, t.sizes.first))).1 (u.0, u.1, i)),
        ))
        (λ eq.
        let q2 : q - n1 < 32 = omega (arith, lq, t.sizes.second) in
        let p2 : p - n1 < 32 = omega (arith, lp, t.sizes.second) in (
          (λ e.
              let f : (not (ltb p n1) && not (eqb (symbols_at (symbols_of us) (q - n1) (p - n1)) 0)) ≡ true = rw eq at e in
              let g = and_both (not (ltb p n1)) (not (eqb (symbols_at (symbols_of us) (q - n1) (p - n1)) 0)) f in
              let u = (some_symbol us (q - n1) (p - n1) q2 p2).0 g.1 in
              let h : n1 ≤ p = by_test (ltb p n1) (λ z. not_both g.0 (ap not z)) (λ z. ltb-false p n1 z) in
              (u.0, u.1, rw eq ((shift_law (target_mask us (q - n1) u.0) n1 p).1 (h, u.2)))),
          λ u.
              let i : p ∈ (target_mask us (q - n1) u.0 * 2 ^ n1) = rw eq at u.2 in
              let v = (shift_law (target_mask us (q - n1) u.0) n1 p).0 i in
              rw (eq, le-ltb p n1 v.0) ((some_symbol us (q - n1) (p - n1) q2 p2).1 (u.0, u.1, v.1)),
        ))

  link_law : (way : Way) → q < states_of way n1 n2 → p < states_of way n1 n2 → Tests way ↔ Leads way
  link_law Both lq lp = both_law lq lp
  link_law Either lq lp = own_law lq lp
  link_law Interleaving lq lp = one_law lq lp

  pub link_is : (way : Way) → q < states_of way n1 n2 → p < states_of way n1 n2
      → link_in way n1 n2 (symbols_of ts) (symbols_of us) q p ≡ pair_arcs way n1 n2 ts us q p
  link_is way lq lp =
      let f : ℕ → Bool = λ s. has (targets_of way n1 n2 ts us q s) p in
      same_truth (link_in way n1 n2 (symbols_of ts) (symbols_of us) q p) (pair_arcs way n1 n2 ts us q p) (
        (λ e.
            let u = (link_law way lq lp).0 e in
            any_at f 16 u.0 u.1 (has_member (targets_of way n1 n2 ts us q u.0) p u.2)),
        λ e.
            let u = any_found f 16 e in
            (link_law way lq lp).1 (u.0, u.1, member_of (targets_of way n1 n2 ts us q u.0) p u.2),
      )

-- ---- what is kept
-- a link that leads wherever another does, of numbers below n, reaches what that reaches
turns_part : (link other : ℕ → ℕ → Bool) (n m : ℕ) → ((q p : ℕ) → q < n → p < n → link q p ≡ true → other q p ≡ true)
    → (i x : ℕ) → x ∈ turns (spread link n) m i → x ∈ turns (spread other n) m i
unfolding turns
turns_part link other n m part zero x e = e
turns_part link other n m part (suc i) x e =
    let a = turns (spread link n) m i in
    let b = turns (spread other n) m i in
    let in_b = turns_part link other n m part i in
    ⊎_elim
    (λ h. or_left b (added other n b) x (in_b x h))
    (λ h.
    let u = spread_from link n a x h in
    or_right b (added other n b) x (spread_to other n b u.0 x u.1 u.4 (in_b u.0 u.2) (part u.0 x u.1 u.4 u.3)))
    (or_cases a (added link n a) x e)

turns_same : (link other : ℕ → ℕ → Bool) (n m i : ℕ) → ((q p : ℕ) → q < n → p < n → link q p ≡ other q p)
    → turns (spread link n) m i ≡ turns (spread other n) m i
turns_same link other n m i same =
    ext (turns (spread link n) m i) (turns (spread other n) m i) λ x. (
      turns_part link other n m (λ q p lq lp e. sym (same q p lq lp) ∙ e) i x,
      turns_part other link n m (λ q p lq lp e. same q p lq lp ∙ e) i x,
    )

pub kept_made : (way : Way) (one two : Rule) → WellFormed one → WellFormed two → (m1 m2 : List ℕ) (i f x y r : ℕ)
    → m1 ≡ symbols_of one.targets → m2 ≡ symbols_of two.targets
    → i ≡ initial_pairs way one two → f ≡ final_pairs way one two
    → x ≡ turns (spread (link_by true (link_in way one.n two.n m1 m2)) (states_of way one.n two.n)) i (states_of way one.n two.n)
    → y ≡ turns (spread (link_by false (link_in way one.n two.n m1 m2)) (states_of way one.n two.n)) f (states_of way one.n two.n)
    → r ≡ bit_and x y → r ≡ kept_pairs way one two
unfolding kept_from
kept_made way one two good1 good2 m1 m2 i f x y r e1 e2 ei ef ex ey er =
    let n = states_of way one.n two.n in
    let ts = targets_of way one.n two.n one.targets two.targets in
    let is : (q p : ℕ) → q < n → p < n → link_in way one.n two.n m1 m2 q p ≡ arcs n ts q p =
    λ q p lq lp.
    ap₂ (λ (u v : List ℕ). link_in way one.n two.n u v q p) e1 e2
    ∙ link_is one.n two.n one.targets two.targets (tabled one two good1 good2) q p way lq lp in
    er
    ∙ ap₂ bit_and
    (ex ∙ turns_same (link_in way one.n two.n m1 m2) (arcs n ts) n i n is ∙ ap (λ (z : ℕ). turns (onward n ts) z n) ei)
    (ey ∙ turns_same (λ q p. link_in way one.n two.n m1 m2 p q) (λ q p. arcs n ts p q) n f n (λ q p lq lp. is p q lp lq) ∙ ap (λ (z : ℕ). turns (back_to n ts) z n) ef)
