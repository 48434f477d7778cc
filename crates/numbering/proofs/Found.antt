-- How each key got its number: it is a seed, or the turn of a lower number and a symbol led to it;
-- and all seeds and turns before that led to lower numbers, or to keys that are left out. Assumes
-- nothing.
--
-- Each turn of the stage of a seed keeps this of all the keys so far (`turn`, `row`). A stage
-- begins with every key expanded (`up_to_covers`): only its seed and its own turns lead to new keys.
--
--   Prior p t i s   the turn of key p and symbol t comes before that of key i and symbol s
--   Found l j q w   key j of the list l was found from seed q over the text w
--   up_to_found     where the seeds before the last have at most 512 keys, each key was found
use mathlib.Core.Path.{◌≡◌, refl, sym, ap, ◌∙◌, subst}
use mathlib.Core.Logic.{◌⊎◌, inl, inr, ⊎_elim}
use mathlib.Core.Bool.{false}
use mathlib.Core.List.{List, [], ◌∷◌, ◌++◌}
use Prim.Native.Nat.{ℕ, zero, suc, ◌≤◌, ◌<◌}
use native.Mathlib.Nat.{eq-or-lt_of_le, le_of_suc-le-suc}
use native.Mathlib.Omega.{arith}
use lib.Dec.{ltb}
use lib.ListN.{length, get_or, length-append}
use lib.Seq.{get_or-append_seam}
use borrow.Author.Tests.{ltb-true, ltb-false}
use Rattle.base.proofs.Tests.{by_test}
use Rattle.numbering.specs.Numbering.{Walk, index_of, numbered, close_from, keys_up_to}
use Rattle.numbering.specs.mirror.Begins.{Begins}
use Rattle.numbering.proofs.Numbers.{Has, begins_at, begins_number, begins_has, by_turn, numbered_begins, numbered_has, number_taken}
use Rattle.numbering.proofs.Closure.{close_keeps, keys_end, Covers, covers_more, settled, settled_fits, up_to_covers, up_to_seed}

abbrev pub Prior : ℕ → ℕ → ℕ → ℕ → Type 0
Prior p t i s = (p < i) ⊎ (p ≡ i) × (t < s)

prior_le : (p t i s : ℕ) → Prior p t i s → p ≤ i
prior_le p t i s h = ⊎_elim (λ b. omega arith) (λ b. omega (arith, b.0)) h

module _ (a : Walk) (seed : ℕ → ℕ) where
  -- what the turns before that of key i and symbol s lead to is left out or has a number below j
  abbrev pub TurnsBelow : List ℕ → ℕ → ℕ → ℕ → Type 0
  TurnsBelow l j i s =
      (p t : ℕ) → t < a.k → Prior p t i s → a.skips (a.step (get_or l p 0) t) ≡ false → index_of l (a.step (get_or l p 0) t) < j

  -- each seed below q is left out or has a number below j
  abbrev pub SeedsBelow : List ℕ → ℕ → ℕ → Type 0
  SeedsBelow l j q = (p : ℕ) → p < q → a.skips (seed p) ≡ false → index_of l (seed p) < j

  pub data Found (l : List ℕ) : ℕ → ℕ → List ℕ → Type 0 where
    seeded : {j q : ℕ} → seed q ≡ get_or l j 0 → SeedsBelow l j q → TurnsBelow l j j 0 → Found l j q []
    turned : {j q : ℕ} {w : List ℕ} (i s : ℕ) → Found l i q w → i < j → s < a.k → a.step (get_or l i 0) s ≡ get_or l j 0
        → SeedsBelow l j (suc q)
        → TurnsBelow l j i s
        → Found l j q (w ++ (s ∷ []))

  -- ---- a list that goes on
  module _ {l f : List ℕ} (g : Begins l f) where
    seeds_more : (j q : ℕ) → j < length l → SeedsBelow l j q → SeedsBelow f j q
    seeds_more j q b h p c ne = let n = h p c ne in omega (arith, begins_number g (seed p) (omega arith))

    turns_more : (j i s : ℕ) → j < length l → i ≤ j → TurnsBelow l j i s → TurnsBelow f j i s
    turns_more j i s b le h p t c r ne =
        let e : get_or f p 0 ≡ get_or l p 0 = begins_at g p (omega (arith, prior_le p t i s r)) in
        let n = h p t c r (subst (λ (x : ℕ). a.skips (a.step x t) ≡ false) e ne) in
        rw e (omega (arith, begins_number g (a.step (get_or l p 0) t) (omega arith)))

    found_more : {j q : ℕ} {w : List ℕ} → j < length l → Found l j q w → Found f j q w
    found_more {j} {q} b (seeded e x y) = seeded (e ∙ sym (begins_at g j b)) (seeds_more j q b x) (turns_more j j 0 b (omega arith) y)
    found_more {j} {q} b (turned i s h low c e x y) =
        turned i s (found_more (omega arith) h) low c
        (ap (λ (m : ℕ). a.step m s) (begins_at g i (omega arith)) ∙ e ∙ sym (begins_at g j b))
        (seeds_more j (suc q) b x)
        (turns_more j i s b (omega arith) y)

  -- ---- the stage of seed q, which began with b keys: key i is expanded by the symbols below s,
  -- and the keys before it by all
  record Stage (q b i s : ℕ) (l : List ℕ) : Type 0 where
    past : b ≤ i
    seeds : (p : ℕ) → p < suc q → Covers a l (seed p)
    covers : (p t : ℕ) → p < length l → t < a.k → Prior p t i s → Covers a l (a.step (get_or l p 0) t)
    old : (j : ℕ) → j < b → (p : ℕ) × (w : List ℕ) × (p < q) × Found l j p w
    new : (j : ℕ) → b ≤ j → j < length l → (w : List ℕ) × Found l j q w

  module _ (q b : ℕ) where
    -- the key that takes a number
    found_new : (l : List ℕ) (i s : ℕ) → i < length l → s < a.k → Stage q b i s l → (m : ℕ) → a.step (get_or l i 0) s ≡ m → length l ≤ index_of l m
        → (w : List ℕ) × Found (l ++ (m ∷ [])) (length l) q w
    found_new l i s c d h m is new =
        let f : List ℕ = l ++ (m ∷ []) in
        let g : Begins l f = record { rest = m ∷ []; is = refl } in
        let before = h.new i h.past c in (
          before.0 ++ (s ∷ []),
          turned i s (found_more g c before.1) c d
              (ap (λ (x : ℕ). a.step x s) (begins_at g i c) ∙ is ∙ sym (get_or-append_seam l m [] 0))
              (λ p x ne. let n = h.seeds p x ne in omega (arith, begins_number g (seed p) n))
              (λ p t x r ne.
              let low : p < length l = omega (arith, prior_le p t i s r) in
              let e : get_or f p 0 ≡ get_or l p 0 = begins_at g p low in
              let n : Has l (a.step (get_or l p 0) t) = h.covers p t low x r (subst (λ (y : ℕ). a.skips (a.step y t) ≡ false) e ne) in
              rw e (omega (arith, begins_number g (a.step (get_or l p 0) t) n))),
        )

    turn : (l : List ℕ) (i s : ℕ) → i < length l → s < a.k → Stage q b i s l → Stage q b i (suc s) (numbered a.skips l (a.step (get_or l i 0) s))
    turn l i s c d h = record {
      past = h.past;
      seeds = λ p x ne. begins_has g (seed p) (h.seeds p x ne);
      covers = λ p t x y r.
          let low : p < length l = omega (arith, prior_le p t i (suc s) r) in
          let e : get_or f p 0 ≡ get_or l p 0 = begins_at g p low in
          rw e
          (⊎_elim
          (λ z. stays p t low y (inl z))
          (λ z.
          ⊎_elim
          (λ u. rw (z.0, u) (numbered_has a.skips l m))
          (λ u. stays p t low y (inr (z.0, u)))
          (eq-or-lt_of_le (le_of_suc-le-suc z.1)))
          r);
      old = λ j x. let o = h.old j x in (o.0, o.1, o.2, found_more g (omega (arith, h.past)) o.3);
      new = by_turn a.skips l m (λ x. (j : ℕ) → b ≤ j → j < length x → (w : List ℕ) × Found x j q w) (λ _. h.new) (λ _ _. h.new)
          (λ ne none j x y.
          let n : length (l ++ (m ∷ [])) ≡ suc (length l) = rw length-append (omega arith) in
          ⊎_elim
          (λ e. rw e (found_new l i s c d h m refl none))
          (λ low. let o = h.new j x low in (o.0, found_more (record { rest = m ∷ []; is = refl }) low o.1))
          (eq-or-lt_of_le (le_of_suc-le-suc (rw n at y))));
    }
      where
        m : ℕ
        m = a.step (get_or l i 0) s

        f : List ℕ
        f = numbered a.skips l m

        g : Begins l f
        g = numbered_begins a.skips l m

        stays : (p t : ℕ) → p < length l → t < a.k → Prior p t i s → Covers a f (a.step (get_or l p 0) t)
        stays p t x y r ne = begins_has g (a.step (get_or l p 0) t) (h.covers p t x y r ne)

    row : (l : List ℕ) (i : ℕ) → Stage q b i a.k l → Stage q b (suc i) 0 l
    row l i h = record {
      past = omega (arith, h.past);
      seeds = h.seeds;
      covers = λ p t x y r.
          ⊎_elim
          (λ z. ⊎_elim (λ u. h.covers p t x y (inr (u, y))) (λ u. h.covers p t x y (inl u)) (eq-or-lt_of_le (le_of_suc-le-suc z)))
          (λ z. absurd (omega (arith, z.1)))
          r;
      old = h.old;
      new = h.new;
    }

  -- ---- all the keys
  abbrev AllFound : ℕ → List ℕ → Type 0
  AllFound n l = (j : ℕ) → j < length l → (q : ℕ) × (w : List ℕ) × (q < n) × Found l j q w

  module _ (q : ℕ) (most : length (keys_up_to a seed q) ≤ 512) (h : AllFound q (keys_up_to a seed q)) where
    abbrev b : List ℕ
    b = keys_up_to a seed q

    widened : AllFound (suc q) b
    widened j c = let o = h j c in (o.0, o.1, omega (arith, o.2), o.3)

    -- the seed is new
    opened : length b ≤ index_of b (seed q) → Stage q (length b) (length b) 0 (b ++ (seed q ∷ []))
    opened none =
        let m : ℕ = seed q in
        let f : List ℕ = b ++ (m ∷ []) in
        let g : Begins b f = record { rest = m ∷ []; is = refl } in
        let n : length f ≡ suc (length b) = rw length-append (omega arith) in
        let has : Has f m = omega (arith, number_taken b m none) in
        let covered : (p t : ℕ) → p < length b → t < a.k → Covers a b (a.step (get_or b p 0) t) = λ p t x y. up_to_covers a seed q (settled_fits a seed q most) p t (omega arith) (omega arith) x y in
        record {
          past = omega arith;
          seeds = λ p x. ⊎_elim (λ e. rw e (λ _. has)) (λ y ne. begins_has g (seed p) (up_to_seed a seed q p y ne)) (eq-or-lt_of_le (le_of_suc-le-suc x));
          covers = λ p t x y r.
              ⊎_elim
              (λ z. covers_more a g p t z (covered p t z y))
              (λ z. absurd (omega (arith, z.1)))
              r;
          old = λ j x. let o = h j x in (o.0, o.1, o.2, found_more g x o.3);
          new = λ j x y.
              let e : j ≡ length b = omega arith in
              rw e (
                [],
                seeded (sym (get_or-append_seam b m [] 0))
                    (λ p z ne. let k = up_to_seed a seed q p z ne in omega (arith, begins_number g (seed p) k))
                    (λ p t z r ne.
                    ⊎_elim
                    (λ low.
                    let u : get_or f p 0 ≡ get_or b p 0 = begins_at g p low in
                    let k : Has b (a.step (get_or b p 0) t) = covered p t low z (subst (λ (v : ℕ). a.skips (a.step v t) ≡ false) u ne) in
                    rw u (omega (arith, begins_number g (a.step (get_or b p 0) t) k)))
                    (λ u. absurd (omega (arith, u.1)))
                    r),
              );
        }

    same : AllFound (suc q) (close_from a 512 (length b) b)
    same = rw (keys_end a 512 (length b) b (omega arith)) widened

    stage_found : AllFound (suc q) (keys_up_to a seed (suc q))
    unfolding keys_up_to
    stage_found =
        by_turn a.skips b (seed q) (λ x. AllFound (suc q) (close_from a 512 (length b) x)) (λ _. same) (λ _ _. same)
        (λ _ none j c.
        let s = (close_keeps a (Stage q (length b)) (turn q (length b)) (row q (length b)) 512 (length b) (b ++ (seed q ∷ [])) (opened none)).kept in
        by_test (ltb j (length b))
        (λ t. let o = s.old j (ltb-true j (length b) t) in (o.0, o.1, omega (arith, o.2), o.3))
        (λ t. let o = s.new j (ltb-false j (length b) t) c in (q, o.0, omega arith, o.1)))

  pub up_to_found : (n : ℕ) → length (settled a seed n) ≤ 512 → AllFound n (keys_up_to a seed n)
  unfolding keys_up_to
  up_to_found zero most = λ j c. absurd (omega arith)
  up_to_found (suc q) most = stage_found q most (up_to_found q (settled_fits a seed q most))
