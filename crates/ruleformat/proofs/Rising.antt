-- Sections as lists of arcs. A section that condition 8 lets pass has rising arcs, and two such
-- sections with the same arcs are equal. Assumes at most 256 states.
--
-- An arc (s, t) has the number 256 s + t: arcs rise by symbol and then target exactly where their
-- numbers do.
use mathlib.Core.Path.{◌≡◌, refl, sym, ap, ◌∙◌, subst}
use mathlib.Core.Logic.{◌↔◌, ◌⊎◌, inl, inr, ⊎_elim}
use mathlib.Core.Bool.{false, ◌||◌}
use mathlib.Core.List.{List, [], ◌∷◌, ◌++◌}
use Prim.Native.Nat.{ℕ, zero, suc, ◌+◌, ◌*◌, ◌%◌, ◌≤◌, ◌<◌}
use native.Mathlib.Nat.{eq-or-lt_of_le, le_of_suc-le-suc, le_refl, le_trans}
use native.Mathlib.Omega.{arith}
use lib.Dec.{ltb, leb}
use lib.ListN.{length, get_or, get_or-eq_default}
use borrow.Author.Tests.{ltb-true, ltb-false}
use Rattle.base.specs.Lists.{joined}
use Rattle.base.proofs.Conditions.{none_at, none_all}
use Rattle.base.proofs.Tests.{by_test, or_right}
use Rattle.masks.specs.Masks.{◌∈◌}
use Rattle.ruleformat.specs.Format.{arc_count, symbol_at, target_at}
use Rattle.ruleformat.specs.Refusals.{out_of_order, bad_arc, bad_section}
use Rattle.ruleformat.specs.Reader.{targets_by}
use Rattle.ruleformat.specs.Writing.{Bytes}
use Rattle.ruleformat.proofs.Arcs.{past_of, order_law, good_arc, section_end, bounds}
use Rattle.ruleformat.proofs.Tables.{Stands, targets_law}

-- ---- the arcs of a section, one by one
-- the arcs of a section rise: each number is at least lo and below hi, and each target is below n
pub data Rising (n : ℕ) : ℕ → ℕ → List ℕ → Type 0 where
  done : {lo hi : ℕ} → lo ≤ hi → Rising n lo hi []
  next : {lo hi s t : ℕ} {b : List ℕ} → lo ≤ 256 * s + t → t < n → Rising n (256 * s + t + 1) hi b → Rising n lo hi (s ∷ t ∷ b)

-- the arc (s, t) is one of the section's
pub data In (s t : ℕ) : List ℕ → Type 0 where
  first : {b : List ℕ} → In s t (s ∷ t ∷ b)
  later : {x y : ℕ} {b : List ℕ} → In s t b → In s t (x ∷ y ∷ b)

module _ {n : ℕ} where
  pub lower : {lo mid hi : ℕ} {b : List ℕ} → lo ≤ mid → Rising n mid hi b → Rising n lo hi b
  lower h (done l) = done (le_trans h l)
  lower h (next l t r) = next (le_trans h l) t r

  pub raise : {lo mid hi : ℕ} {b : List ℕ} → mid ≤ hi → Rising n lo mid b → Rising n lo hi b
  raise h (done l) = done (le_trans l h)
  raise h (next l t r) = next l t (raise h r)

  span : {lo hi : ℕ} {b : List ℕ} → Rising n lo hi b → lo ≤ hi
  span (done l) = l
  span (next l t r) = let h = span r in omega arith

  pub even : {lo hi : ℕ} {b : List ℕ} → Rising n lo hi b → length b % 2 ≡ 0
  even (done l) = refl
  even (next l t r) = let h = even r in omega arith

  rising_append : {lo mid hi : ℕ} {b c : List ℕ} → Rising n lo mid b → Rising n mid hi c → Rising n lo hi (b ++ c)
  rising_append (done l) r = lower l r
  rising_append (next l t q) r = next l t (rising_append q r)

  -- the arcs of two sections, one after the other
  in_left : {lo hi s t : ℕ} {b : List ℕ} (c : List ℕ) → Rising n lo hi b → In s t b → In s t (b ++ c)
  in_left c (done l) x = elim x [ ]
  in_left c (next l t r) first = first
  in_left c (next l t r) (later x) = later (in_left c r x)

  in_right : {lo hi s t : ℕ} {b c : List ℕ} → Rising n lo hi b → In s t c → In s t (b ++ c)
  in_right (done l) x = x
  in_right (next l t r) x = later (in_right r x)

  in_either : {lo hi s t : ℕ} {b c : List ℕ} → Rising n lo hi b → In s t (b ++ c) → In s t b ⊎ In s t c
  in_either (done l) x = inr x
  in_either (next l t r) first = inl first
  in_either (next l t r) (later x) = ⊎_elim (λ y. inl (later y)) inr (in_either r x)

  -- each arc is within the bounds
  above : {lo hi s t : ℕ} {b : List ℕ} → Rising n lo hi b → In s t b → lo ≤ 256 * s + t
  above (done l) x = elim x [ ]
  above (next l t r) first = l
  above (next l t r) (later x) = let h = above r x in omega arith

  below : {lo hi s t : ℕ} {b : List ℕ} → Rising n lo hi b → In s t b → (256 * s + t < hi) × (t < n)
  below (done l) x = elim x [ ]
  below (next l t r) first = (let h = span r in omega arith, t)
  below (next l t r) (later x) = below r x

pub none_in : {s t : ℕ} → In s t [] → ⊥
none_in x = let h = (below {n = 0} {lo = 0} {hi = 0} (done (le_refl 0)) x).0 in omega arith

-- ---- two sections with the same arcs are equal
module _ {n : ℕ} (few : n ≤ 256) where
  -- the first arc of one, if it is in the other, is not below the other's first
  not-below : {lo hi s t u v : ℕ} {b : List ℕ} → Rising n lo hi (u ∷ v ∷ b) → In s t (u ∷ v ∷ b) → 256 * u + v ≤ 256 * s + t
  not-below (next l t r) first = le_refl _
  not-below (next l t r) (later x) = let h = above r x in omega arith

  -- an arc above the first is one of the rest
  in_rest : {s t u v : ℕ} {b : List ℕ} → 256 * s + t < 256 * u + v → In u v (s ∷ t ∷ b) → In u v b
  in_rest h first = absurd (omega arith)
  in_rest h (later x) = x

  pub same_section : {lo lo' hi hi' : ℕ} {b c : List ℕ} → Rising n lo hi b → Rising n lo' hi' c → ((s t : ℕ) → In s t b ↔ In s t c) → b ≡ c
  same_section (done l) (done m) same = refl
  same_section (done l) (next {s} {t} m u q) same = absurd (none_in ((same s t).1 first))
  same_section (next {s} {t} l h r) (done m) same = absurd (none_in ((same s t).0 first))
  same_section (next {s} {t} {b} l h r) (next {s = u} {t = v} {b = c} m k q) same =
      let x : 256 * u + v ≤ 256 * s + t = not-below (next m k q) ((same s t).0 first) in
      let y : 256 * s + t ≤ 256 * u + v = not-below (next l h r) ((same u v).1 first) in
      let es : s ≡ u = omega arith in
      let et : t ≡ v = omega arith in
      let e : b ≡ c = same_section r q (λ i j. (
        (λ z. in_rest (omega (arith, above r z)) ((same i j).0 (later z))),
        λ z. in_rest (omega (arith, above q z)) ((same i j).1 (later z)),
      )) in
      cc

-- its members are bytes
pub rising_bytes : {n lo hi : ℕ} {b : List ℕ} → n ≤ 256 → hi ≤ 65536 → Rising n lo hi b → Bytes b
rising_bytes hn hh (done l) i = omega arith
rising_bytes hn hh (next l t r) zero = let h = span r in omega arith
rising_bytes hn hh (next l t r) (suc zero) = omega arith
rising_bytes hn hh (next l t r) (suc (suc i)) = rising_bytes hn hh r i

-- ---- joined sections
module _ {n : ℕ} (bound : ℕ → ℕ) (p : ℕ → List ℕ) (m : ℕ) (each : (i : ℕ) → i < m → Rising n (bound i) (bound (suc i)) (p i)) where
  pub rising_joined : (q : ℕ) → q ≤ m → Rising n (bound 0) (bound q) (joined p q)
  unfolding joined
  rising_joined zero l = done (le_refl (bound 0))
  rising_joined (suc q) l = rising_append (rising_joined q (omega arith)) (each q l)

  pub in_joined : {s t : ℕ} (q i : ℕ) → q ≤ m → i < q → In s t (p i) → In s t (joined p q)
  unfolding joined
  in_joined zero i l h x = absurd (omega arith)
  in_joined {s} {t} (suc q) i l h x =
      let r = rising_joined q (omega arith) in
      ⊎_elim
      (λ e. in_right r (subst (λ (y : ℕ). In s t (p y)) e x))
      (λ b. in_left (p q) r (in_joined q i (omega arith) b x))
      (eq-or-lt_of_le (le_of_suc-le-suc h))

  pub joined_in : {s t : ℕ} (q : ℕ) → q ≤ m → In s t (joined p q) → (i : ℕ) × (i < q) × In s t (p i)
  unfolding joined
  joined_in zero l x = absurd (none_in x)
  joined_in {s} {t} (suc q) l x =
      ⊎_elim
      (λ y. let r : (i : ℕ) × (i < q) × In s t (p i) = joined_in q (omega arith) y in (r.0, omega (arith, r.1), r.2))
      (λ y. (q, omega arith, y))
      (in_either (rising_joined q (omega arith)) x)

-- ---- the arcs by their index
module _ (x y : ℕ) (b : List ℕ) where
  symbol_later : (i : ℕ) → symbol_at (x ∷ y ∷ b) (suc i) ≡ symbol_at b i
  symbol_later i = let e : 2 * suc i ≡ suc (suc (2 * i)) = omega arith in ap (λ (j : ℕ). get_or (x ∷ y ∷ b) j 0) e

  target_later : (i : ℕ) → target_at (x ∷ y ∷ b) (suc i) ≡ target_at b i
  target_later i = let e : 2 * suc i + 1 ≡ suc (suc (2 * i + 1)) = omega arith in ap (λ (j : ℕ). get_or (x ∷ y ∷ b) j 0) e

pub in_at : (b : List ℕ) (i : ℕ) → i < arc_count b → In (symbol_at b i) (target_at b i) b
in_at [] i h = absurd (omega arith)
in_at (x ∷ []) i h = absurd (omega arith)
in_at (x ∷ y ∷ b) zero h = first
in_at (x ∷ y ∷ b) (suc i) h = rw (symbol_later x y b i, target_later x y b i) (later (in_at b i (omega arith)))

pub stands : {s t : ℕ} {b : List ℕ} → In s t b → Stands b s t (arc_count b)
stands first = record { index = 0; within = omega arith; symbol = refl; target = refl }
stands (later {x} {y} {b} z) =
    let r = stands z in
    record {
      index = suc r.index;
      within = omega (arith, r.within);
      symbol = symbol_later x y b r.index ∙ r.symbol;
      target = target_later x y b r.index ∙ r.target;
    }

-- the members of the target mask by s are the targets of the arcs by s
pub targets_in : (b : List ℕ) (s t : ℕ) → t ∈ targets_by b s ↔ In s t b
targets_in b s t = (
  (λ e. let r = (targets_law b s t (arc_count b)).0 e in rw (r.symbol, r.target) at (in_at b r.index r.within)),
  λ x. (targets_law b s t (arc_count b)).1 (stands x),
)

-- ---- rising arcs are those that condition 8 lets pass
-- the least number that arc i may have: lo for the first, one more than the arc before for another
abbrev least_at : ℕ → List ℕ → ℕ → ℕ
least_at lo b zero = lo
least_at lo b (suc i) = 256 * symbol_at b i + target_at b i + 1

least_later : (lo x y : ℕ) (b : List ℕ) (i : ℕ) → least_at lo (x ∷ y ∷ b) (suc i) ≡ least_at (256 * x + y + 1) b i
least_later lo x y b zero = refl
least_later lo x y b (suc i) = rw (symbol_later x y b i, target_later x y b i)

least_past : (b : List ℕ) (i : ℕ) → least_at 0 b i ≡ past_of b i
least_past b zero = refl
least_past b (suc i) = refl

module _ {n : ℕ} (few : n ≤ 256) where
  climbs : {lo hi : ℕ} {b : List ℕ} → Rising n lo hi b → (i : ℕ) → i < arc_count b → least_at lo b i ≤ 256 * symbol_at b i + target_at b i
  climbs (done l) i h = absurd (omega arith)
  climbs (next l t r) zero h = l
  climbs {lo} (next {s = x} {t = y} {b = b} l t r) (suc i) h =
      rw (least_later lo x y b i, symbol_later x y b i, target_later x y b i) (climbs r i (omega arith))

  rising_of : (k lo : ℕ) (b : List ℕ) → length b % 2 ≡ 0 → lo ≤ 256 * k
      → ((i : ℕ) → i < arc_count b → (symbol_at b i < k) × (target_at b i < n) × (least_at lo b i ≤ 256 * symbol_at b i + target_at b i))
      → Rising n lo (256 * k) b
  rising_of k lo [] e l h = done l
  rising_of k lo (x ∷ []) e l h = absurd (omega arith)
  rising_of k lo (x ∷ y ∷ b) e l h =
      let z = h 0 (omega arith) in
      next z.2 z.1
      (rising_of k (256 * x + y + 1) b (omega arith) (omega (arith, z.0, z.1)) λ i m.
      let w = h (suc i) (omega arith) in
      (rw (symbol_later x y b i) at w.0, rw (target_later x y b i) at w.1, rw (least_later lo x y b i, symbol_later x y b i, target_later x y b i) at w.2))

  small_targets : (b : List ℕ) → ((i : ℕ) → i < arc_count b → target_at b i < n) → (i : ℕ) → target_at b i < 256
  small_targets b h i =
      by_test (ltb i (arc_count b))
      (λ e. omega (arith, h i (ltb-true i (arc_count b) e)))
      (λ e.
      let z : target_at b i ≡ 0 = get_or-eq_default b 0 (omega (arith, ltb-false i (arc_count b) e)) in
      omega arith)

  module _ (k : ℕ) (b : List ℕ) where
    pub passes : Rising n 0 (256 * k) b → bad_section n k b ≡ false
    passes r =
        section_end n k b
        (none_all (bad_arc n k b) (arc_count b) λ i h.
        let x = below r (in_at b i h) in
        good_arc n k b i (small_targets b (λ j l. (below r (in_at b j l)).1)) (omega (arith, x.0, x.1)) x.1 (rw (least_past b i) at (climbs r i h)))

    pub passed : length b % 2 ≡ 0 → bad_section n k b ≡ false → Rising n 0 (256 * k) b
    unfolding bad_section
    passed e f =
        rising_of k 0 b e (omega arith) λ i h.
        let x = bounds n k b f i h in
        let o = or_right (leb k (symbol_at b i) || leb n (target_at b i)) (out_of_order b i) (none_at (bad_arc n k b) (arc_count b) i f h) in
        let l = order_law b i (small_targets b (λ j m. (bounds n k b f j m).1)) in
        (x.0, x.1, rw (least_past b i) (ltb-false (256 * symbol_at b i + target_at b i) (past_of b i) (sym l ∙ o)))
