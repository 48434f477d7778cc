-- The numbered keys are the keys that texts lead to from seeds, each once.
--
-- 1. Each turn keeps that every numbered key is reached and not left out, and that each stands at
--    its own number (`up_to_keeps`).
-- 2. With at most 512 keys what numbered keys lead to is numbered (`up_to_covers`) and so is each
--    seed: by induction on the text, what it leads to is numbered.
-- 3. So 513 distinct reached keys cannot all be among at most 512 numbered ones; and where there
--    are more, the first 513 are such.
--
-- Assumes nothing.
use mathlib.Core.Path.{◌≡◌, refl, sym, ap, ◌∙◌, subst}
use mathlib.Core.Logic.{◌↔◌, ⊎_elim}
use mathlib.Core.Bool.{true, false}
use mathlib.Core.List.{List, [], ◌∷◌, ◌++◌}
use Prim.Native.Nat.{ℕ, ◌≤◌, ◌<◌}
use native.Mathlib.Nat.{eq-or-lt_of_le}
use native.Mathlib.Omega.{arith}
use lib.Dec.{ltb}
use lib.ListN.{length, get_or, take, length-append, get_or-append}
use lib.Seq.{get_or-append_seam, get_or-take, length-take-le}
use borrow.Author.Tests.{lt-ltb, ltb-true, ltb-false}
use Rattle.base.proofs.Tests.{by_test, not_both}
use Rattle.numbering.specs.Numbering.{Walk, index_of, numbered, keys_up_to, next_of}
use Rattle.numbering.specs.Texts.{follow, Symbols, none, more}
use Rattle.numbering.specs.Claims.{Reach, Distinct, Sinks}
use Rattle.numbering.proofs.Texts.{follow_append, symbols_append, skipped_after}
use Rattle.numbering.proofs.Numbers.{Has, number_at, stands, begins_number, number_taken, by_turn}
use Rattle.numbering.proofs.Closure.{up_to_keeps, Covers, settled_fits, up_to_covers, up_to_seed}
use Rattle.numbering.proofs.Pigeonhole.{at_most}

-- what holds of the members and of one more holds of the members of the longer list
snoc_all : (Q : ℕ → ℕ → Type 0) (l : List ℕ) (m : ℕ) → ((i : ℕ) → i < length l → Q i (get_or l i 0)) → Q (length l) m
    → (i : ℕ) → i < length (l ++ (m ∷ [])) → Q i (get_or (l ++ (m ∷ [])) i 0)
snoc_all Q l m h new i b =
    let c : i ≤ length l = omega (arith, length-append l (m ∷ [])) in
    ⊎_elim
    (λ e. subst (λ (x : ℕ). Q x (get_or (l ++ (m ∷ [])) x 0)) (sym e) (subst (Q (length l)) (sym (get_or-append_seam l m [] 0)) new))
    (λ d. rw (get_or-append l (m ∷ []) 0 i d) (h i d))
    (eq-or-lt_of_le c)

-- ---- each numbered key stands at its number
abbrev pub Own : List ℕ → Type 0
Own l = (i : ℕ) → i < length l → index_of l (get_or l i 0) ≡ i

own_turn : (a : Walk) (l : List ℕ) (m : ℕ) → Own l → Own (numbered a.skips l m)
own_turn a l m h =
    by_turn a.skips l m Own (λ _. h) (λ _ _. h)
    (λ ne new.
    snoc_all (λ i x. index_of (l ++ (m ∷ [])) x ≡ i) l m
    (λ i b. begins_number (record { rest = m ∷ []; is = refl }) (get_or l i 0) (stands l (get_or l i 0) i b refl) ∙ h i b)
    (number_taken l m new))

module _ (a : Walk) (seed : ℕ → ℕ) (n : ℕ) where
  abbrev keys : List ℕ
  keys = keys_up_to a seed n

  -- ---- 1
  pub own : Own keys
  own =
      up_to_keeps a Own (λ l i s _ _ h. own_turn a l (a.step (get_or l i 0) s) h) seed n (λ i b. absurd (omega arith)) (λ l p _ h. own_turn a l (seed p) h) n (omega arith)

  pub once : Distinct keys
  once i j p q e = sym (own i p) ∙ ap (index_of keys) e ∙ own j q

  abbrev AllReached : List ℕ → Type 0
  AllReached l = (i : ℕ) → i < length l → Reach a seed n (get_or l i 0)

  reached_turn : (l : List ℕ) (m : ℕ) → AllReached l → (a.skips m ≡ false → Reach a seed n m) → AllReached (numbered a.skips l m)
  reached_turn l m h new = by_turn a.skips l m AllReached (λ _. h) (λ _ _. h) (λ ne _. snoc_all (λ _ x. Reach a seed n x) l m h (new ne))

  reached_step : (m s : ℕ) → s < a.k → Reach a seed n m → a.skips (a.step m s) ≡ false → Reach a seed n (a.step m s)
  reached_step m s b h ne = record {
    counts = ne;
    from = h.from;
    below = h.below;
    text = h.text ++ (s ∷ []);
    symbols = symbols_append h.symbols (more b none);
    leads = follow_append a (seed h.from) h.text (s ∷ []) ∙ ap (λ (x : ℕ). a.step x s) h.leads;
  }

  pub sound : (i : ℕ) → i < length keys → Reach a seed n (get_or keys i 0)
  sound =
      up_to_keeps a AllReached
      (λ l i s b c h. reached_turn l (a.step (get_or l i 0) s) h (reached_step (get_or l i 0) s c (h i b)))
      seed
      n
      (λ i b. absurd (omega arith))
      (λ l q b h. reached_turn l (seed q) h (λ ne. record { counts = ne; from = q; below = b; text = []; symbols = none; leads = refl }))
      n
      (omega arith)

  -- ---- 2
  module _ (most : length keys ≤ 512) where
    pub covered : (j s : ℕ) → j < length keys → s < a.k → Covers a keys (a.step (get_or keys j 0) s)
    covered j s b c = up_to_covers a seed n (settled_fits a seed n most) j s (omega arith) (omega arith) b c

    pub cell : (i s : ℕ) → i < length keys → s < a.k
        → (a.skips (a.step (get_or keys i 0) s) ≡ true → next_of a keys i s ≡ 512)
        × (a.skips (a.step (get_or keys i 0) s) ≡ false → (next_of a keys i s < length keys) × (get_or keys (next_of a keys i s) 0 ≡ a.step (get_or keys i 0) s))
    cell i s b c =
        let m : ℕ = a.step (get_or keys i 0) s in (
          (λ z. rw (lt-ltb i (length keys) b, lt-ltb s a.k c, z)),
          λ ne. rw (lt-ltb i (length keys) b, lt-ltb s a.k c, ne) (covered i s b c ne, number_at keys m (covered i s b c ne)),
        )

    module _ (sinks : Sinks a) where
      leads_in : (m : ℕ) (w : List ℕ) → Symbols a.k w → Has keys m → a.skips (follow a m w) ≡ false → Has keys (follow a m w)
      leads_in m [] p h ne = h
      leads_in m (s ∷ w) (more c p) h ne =
          leads_in (a.step m s) w p
          (subst (λ (x : ℕ). Covers a keys (a.step x s)) (number_at keys m h) (covered (index_of keys m) s h c)
          (by_test (a.skips (a.step m s)) (λ z. not_both (skipped_after a sinks (a.step m s) w p z) ne) (λ z. z)))
          ne

      reached_has : (m : ℕ) → Reach a seed n m → Has keys m
      reached_has m h =
          subst (Has keys) h.leads
          (leads_in (seed h.from) h.text h.symbols
          (up_to_seed a seed n h.from h.below
          (by_test (a.skips (seed h.from))
          (λ z. not_both (skipped_after a sinks (seed h.from) h.text h.symbols z) (ap a.skips h.leads ∙ h.counts))
          (λ z. z)))
          (ap a.skips h.leads ∙ h.counts))

      pub complete : (m : ℕ) → Reach a seed n m → (i : ℕ) × (i < length keys) × (get_or keys i 0 ≡ m)
      complete m h = let b = reached_has m h in (index_of keys m, b, number_at keys m b)

  -- ---- 3
  pub over : Sinks a → (512 < length keys) ↔ (l : List ℕ) × (length l ≡ 513) × Distinct l × ((i : ℕ) → i < 513 → Reach a seed n (get_or l i 0))
  over sinks = (
    (λ long.
        let l : length (take 513 keys) ≡ 513 = length-take-le 513 keys (omega arith) in
        let at : (i : ℕ) → i < 513 → get_or (take 513 keys) i 0 ≡ get_or keys i 0 = λ i b. get_or-take 513 keys i 0 b in (
          take 513 keys,
          l,
          (λ i j x y q. once i j (omega arith) (omega arith) (sym (at i (omega arith)) ∙ q ∙ at j (omega arith))),
          λ i b. rw (at i b) (sound i (omega arith)),
        )),
    λ w.
        by_test (ltb 512 (length keys)) (ltb-true 512 (length keys))
        (λ t.
        let most : length keys ≤ 512 = ltb-false 512 (length keys) t in
        absurd
        (omega
        (arith, w.1, at_most w.0 keys w.2 (λ i b. reached_has most sinks (get_or w.0 i 0) (w.3 i (omega (arith, w.1))))))),
  )
