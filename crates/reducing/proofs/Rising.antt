-- Two rising lists of the same numbers are one. Assumes nothing.
--
--   same      each number of the first stands at the same place in the second
--   no_more   so the first has no more of them
use mathlib.Core.Path.{◌≡◌, ap}
use Prim.Native.Nat.{ℕ, zero, suc, ◌≤◌, ◌<◌}
use native.Mathlib.Nat.{le_antisymm}
use native.Mathlib.Omega.{arith}
use lib.Dec.{ltb}
use borrow.Author.Tests.{ltb-true, ltb-false}
use Rattle.base.proofs.Tests.{by_test}

-- the first c values of f rise
abbrev pub Rises : (ℕ → ℕ) → ℕ → Type 0
Rises f c = (i j : ℕ) → i < j → j < c → f i < f j

-- each of the first c values of f is among the first d of g
abbrev pub Among : (ℕ → ℕ) → ℕ → (ℕ → ℕ) → ℕ → Type 0
Among f c g d = (p : ℕ) → p < c → (q : ℕ) × (q < d) × (g q ≡ f p)

module _ (f g : ℕ → ℕ) (c d : ℕ) (f-rises : Rises f c) (g-rises : Rises g d) (f-in : Among f c g d) (g-in : Among g d f c) where
  same_below : (k p : ℕ) → p < k → p < c → (p < d) × (f p ≡ g p)
  same_below zero p h l = absurd (omega arith)
  same_below (suc k) p h l =
      let u = f-in p l in
      let low : p ≤ u.0 =
      by_test (ltb u.0 p)
      (λ t.
      let b = ltb-true u.0 p t in
      let e = same_below k u.0 (omega arith) (omega arith) in
      absurd (omega (arith, f-rises u.0 p b l, e.1, u.2)))
      (ltb-false u.0 p) in
      let in-d : p < d = omega (arith, u.1) in
      let v = g-in p in-d in
      let low2 : p ≤ v.0 =
      by_test (ltb v.0 p)
      (λ t.
      let b = ltb-true v.0 p t in
      let e = same_below k v.0 (omega arith) (omega arith) in
      absurd (omega (arith, g-rises v.0 p b in-d, e.1, v.2)))
      (ltb-false v.0 p) in
      let down : g p ≤ f p =
      by_test (ltb p u.0)
      (λ t. omega (arith, g-rises p u.0 (ltb-true p u.0 t) u.1, u.2))
      (λ t. let z : p ≡ u.0 = omega (arith, ltb-false p u.0 t) in omega (arith, ap g z, u.2)) in
      let up : f p ≤ g p =
      by_test (ltb p v.0)
      (λ t. omega (arith, f-rises p v.0 (ltb-true p v.0 t) v.1, v.2))
      (λ t. let z : p ≡ v.0 = omega (arith, ltb-false p v.0 t) in omega (arith, ap f z, v.2)) in
      (in-d, le_antisymm up down)

  pub same : (p : ℕ) → p < c → (p < d) × (f p ≡ g p)
  same p l = same_below (suc p) p (omega arith) l

  pub no_more : c ≤ d
  no_more = by_test (ltb d c) (λ t. absurd (omega (arith, (same d (ltb-true d c t)).0))) (ltb-false d c)
