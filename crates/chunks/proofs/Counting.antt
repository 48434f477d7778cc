-- What runs count is how many bytes there are over which a run goes. Assumes nothing.
--
--   how_many_once         there is one such number
--   how_many_map          of two kinds with the same members
--   how_many_sum          numbers by rows: their sum, over all rows
--   counted_runs          what one run counts
--   chunk_counts          what a chunk counts
use mathlib.Core.Path.{◌≡◌, refl, sym, ap, subst}
use mathlib.Core.Logic.{◌↔◌}
use mathlib.Core.Bool.{cond}
use mathlib.Core.List.{List, [], ◌∷◌}
use Prim.Native.Nat.{ℕ, zero, suc, ◌+◌, ◌-◌, ◌*◌, ◌/◌, ◌%◌, ◌^◌, ◌≤◌, ◌<◌}
use native.Mathlib.Nat.{suc-mul, zero-add}
use native.Mathlib.Omega.{arith}
use lib.Arith.{digits_div, digits_mod}
use lib.Dec.{eqb}
use lib.ListN.{length, take}
use borrow.Author.Tests.{eqb-true, eqb-false}
use Rattle.base.specs.Totals.{total}
use Rattle.base.proofs.Tests.{by_test, not_both}
use Rattle.masks.specs.Masks.{◌∈◌, has, single}
use Rattle.masks.proofs.Laws.{no_member, has_member, member_of, some_member, members_below, below_of, single_law}
use Rattle.automaton.specs.declared.Rule.{Rule}
use Rattle.automaton.specs.Automaton.{Run}
use Rattle.automaton.specs.Rules.{automaton_of, WellFormed}
use Rattle.automaton.specs.Successor.{successor, after}
use Rattle.automaton.proofs.Laws.{after_law}
use Rattle.chunks.specs.Chunks.{counted, chunk_count}
use Rattle.chunks.specs.Counting.{HowMany, none_yet, one_more, no_more, RunsOver, Counts}

-- ---- how many there are
pub how_many_once : {P : ℕ → Type 0} {n c d : ℕ} → HowMany P n c → HowMany P n d → c ≡ d
how_many_once none_yet none_yet = refl
how_many_once (one_more h p) (one_more k q) = ap suc (how_many_once h k)
how_many_once (one_more h p) (no_more k q) = absurd (q p)
how_many_once (no_more h p) (one_more k q) = absurd (p q)
how_many_once (no_more h p) (no_more k q) = how_many_once h k

pub how_many_map : {P Q : ℕ → Type 0} {n c : ℕ} → ((i : ℕ) → i < n → P i ↔ Q i) → HowMany P n c → HowMany Q n c
how_many_map same none_yet = none_yet
how_many_map {n = suc n} same (one_more h p) = one_more (how_many_map (λ i l. same i (omega arith)) h) ((same n (omega arith)).0 p)
how_many_map {n = suc n} same (no_more h p) = no_more (how_many_map (λ i l. same i (omega arith)) h) (λ q. p ((same n (omega arith)).1 q))

-- the first apart
first : {P : ℕ → Type 0} {n c : ℕ} → HowMany (λ i. P (suc i)) n c → P 0 → HowMany P (suc n) (suc c)
first none_yet p = one_more none_yet p
first (one_more h x) p = one_more (first h p) x
first (no_more h x) p = no_more (first h p) x

not_first : {P : ℕ → Type 0} {n c : ℕ} → HowMany (λ i. P (suc i)) n c → (P 0 → ⊥) → HowMany P (suc n) c
not_first none_yet p = no_more none_yet p
not_first (one_more h x) p = one_more (not_first h p) x
not_first (no_more h x) p = no_more (not_first h p) x

-- none from there on
pub how_many_rest : {P : ℕ → Type 0} {n c : ℕ} → HowMany P n c → ((i : ℕ) → n ≤ i → P i → ⊥) → (k : ℕ) → HowMany P (k + n) c
how_many_rest {P = P} {n = n} {c = c} h none zero = let z : n ≡ 0 + n = omega arith in subst (λ (x : ℕ). HowMany P x c) z h
how_many_rest {P = P} {n = n} {c = c} h none (suc k) =
    let z : suc (k + n) ≡ suc k + n = omega arith in
    subst (λ (x : ℕ). HowMany P x c) z (no_more (how_many_rest h none k) (none (k + n) (omega arith)))

pub how_many_none : {P : ℕ → Type 0} → ((i : ℕ) → P i → ⊥) → (n : ℕ) → HowMany P n 0
how_many_none none zero = none_yet
how_many_none none (suc n) = no_more (how_many_none none n) (none n)

-- one after the other
append : {Q : ℕ → Type 0} {a c n d : ℕ} → HowMany Q a c → HowMany (λ j. Q (a + j)) n d → HowMany Q (a + n) (c + d)
append {Q = Q} {a = a} {c = c} h none_yet =
    let x : a ≡ a + 0 = omega arith in
    let y : c ≡ c + 0 = omega arith in
    subst (λ (z : ℕ). HowMany Q (a + 0) z) y (subst (λ (z : ℕ). HowMany Q z c) x h)
append {Q = Q} {a = a} {c = c} {n = suc n} {d = suc d} h (one_more k p) =
    let x : suc (a + n) ≡ a + suc n = omega arith in
    let y : suc (c + d) ≡ c + suc d = omega arith in
    subst (λ (z : ℕ). HowMany Q (a + suc n) z) y
    (subst (λ (z : ℕ). HowMany Q z (suc (c + d))) x (one_more (append h k) p))
append {Q = Q} {a = a} {c = c} {n = suc n} {d = d} h (no_more k p) =
    let x : suc (a + n) ≡ a + suc n = omega arith in
    subst (λ (z : ℕ). HowMany Q z (c + d)) x (no_more (append h k) p)

module _ (P : ℕ → ℕ → Type 0) (n : ℕ) (c : ℕ → ℕ) where
  pub how_many_sum : (m : ℕ) → ((p : ℕ) → p < m → HowMany (P p) n (c p)) → HowMany (λ x. P (x / n) (x % n)) (m * n) (total c m)
  unfolding total
  how_many_sum zero h = let z : 0 ≡ 0 * n = omega arith in subst (λ (x : ℕ). HowMany (λ y. P (y / n) (y % n)) x 0) z none_yet
  how_many_sum (suc m) h =
      let z : m * n + n ≡ suc m * n = sym (suc-mul m n) in
      subst (λ (x : ℕ). HowMany (λ y. P (y / n) (y % n)) x (total c m + c m)) z
      (append (how_many_sum m (λ p l. h p (omega arith)))
      (how_many_map
      (λ j l. rw (digits_div m l, digits_mod m l) ((λ x. x), λ x. x))
      (h m (omega arith))))

-- ---- what one run counts
some_set : (ts : List ℕ) (m : ℕ) (w : List ℕ) → HowMany (λ i. after ts m (take (suc i) w) ≡ 0 → ⊥) (length w) (counted ts m w)
unfolding counted
some_set ts m [] = none_yet
some_set ts m (s ∷ w) =
    let on = some_set ts (successor ts m s) w in
    by_test (eqb (successor ts m s) 0)
    (λ t. rw (t, zero-add) (not_first on (λ f. f (eqb-true (successor ts m s) 0 t))))
    (λ t.
    let z : suc (counted ts (successor ts m s) w) ≡ 1 + counted ts (successor ts m s) w = omega arith in
    rw (t, sym z) (first on (λ e. eqb-false (successor ts m s) 0 t e)))

module _ (r : Rule) (good : WellFormed r) where
  single_below : (q : ℕ) → q < r.n → single q < 2 ^ r.n
  single_below q l = below_of r.n (single q) (λ p e. rw ((single_law q p).0 e) l)

  -- a set is left exactly where there is a run
  goes : (q : ℕ) → q < r.n → (w : List ℕ) → (after r.targets (single q) w ≡ 0 → ⊥) ↔ RunsOver (automaton_of r) q w
  goes q l w = (
    (λ f.
        let u = some_member (after r.targets (single q) w) f in
        let t = (after_law r good (single q) u.0 w (single_below q l)).0 u.1 in
        (u.0, subst (λ (x : ℕ). Run (automaton_of r) x w u.0) ((single_law q t.from).0 t.member) t.run)),
    λ u e.
        let i = (after_law r good (single q) u.0 w (single_below q l)).1 (record { from = q; member = (single_law q q).1 refl; run = u.1 }) in
        no_member u.0 (subst (λ (x : ℕ). u.0 ∈ x) e i),
  )

  pub counted_runs : (q : ℕ) → q < r.n → (w : List ℕ)
      → HowMany (λ i. RunsOver (automaton_of r) q (take (suc i) w)) (length w) (counted r.targets (single q) w)
  counted_runs q l w = how_many_map (λ i b. goes q l (take (suc i) w)) (some_set r.targets (single q) w)

  -- ---- what a chunk counts
  module _ (run : ℕ) (low : run < 2 ^ r.n) (w : List ℕ) (short : length w ≤ 65536) where
    of_state : (q : ℕ) → HowMany (Counts r run w q) 65536 (cond (has run q) (counted r.targets (single q) w) 0)
    of_state q =
        by_test (has run q)
        (λ t.
        let e = member_of run q t in
        let l = members_below r.n run q low e in
        let z : 65536 - length w + length w ≡ 65536 = omega arith in
        rw t
        (subst (λ (x : ℕ). HowMany (Counts r run w q) x (counted r.targets (single q) w)) z
        (how_many_rest
        (how_many_map (λ i b. ((λ g. record { started = e; byte = b; goes = g }), λ x. x.goes)) (counted_runs q l w))
        (λ i b x. omega (arith, x.byte))
        (65536 - length w))))
        (λ t. rw t (how_many_none (λ i x. absurd (not_both (has_member run q x.started) t)) 65536))

    pub chunk_counts : HowMany (λ x. Counts r run w (x / 65536) (x % 65536)) (32 * 65536) (chunk_count r.targets run w)
    chunk_counts =
        how_many_sum (Counts r run w) 65536 (λ q. cond (has run q) (counted r.targets (single q) w) 0) 32 (λ q l. of_state q)
