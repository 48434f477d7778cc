-- The order of the numbers is that of the first texts. Of the keys with the texts over which they
-- were found (`Found`):
--
-- 1. How a key was found is determined: what came before led to lower numbers (`same`).
-- 2. A turn is never before the one that found the key that it leads to. So, given the order up to
--    key i, the key that key i leads to by the symbol s was found no later than over the text to
--    key i followed by s (`grows`). By induction the keys were found in the order of their numbers
--    (`rises`).
-- 3. By induction on a text, the key that it leads to was found no later than over this text, or
--    some key past the first 512 was, which is not expanded (`ends`). So the text over which one of
--    the first 513 keys was found is the first that leads to it.
--
-- Assumes nothing.
use mathlib.Core.Path.{◌≡◌, refl, sym, ap, ◌∙◌, subst}
use mathlib.Core.Logic.{◌⊎◌, inl, inr, ⊎_elim}
use mathlib.Core.Bool.{false}
use mathlib.Core.List.{List, [], ◌∷◌, ◌++◌, append-nil, append_assoc}
use Prim.Native.Nat.{ℕ, suc, ◌≤◌, ◌<◌}
use native.Mathlib.Nat.{eq-or-lt_of_le}
use native.Mathlib.Omega.{arith}
use lib.Dec.{ltb}
use lib.ListN.{length, get_or}
use borrow.Author.Tests.{ltb-true, ltb-false}
use Rattle.base.proofs.Tests.{by_test, not_both}
use Rattle.numbering.specs.Numbering.{Walk, index_of, keys_up_to}
use Rattle.numbering.specs.Texts.{follow, Symbols, none, more, Sooner, NoLater}
use Rattle.numbering.specs.Claims.{Sinks, Leads}
use Rattle.numbering.specs.Order.{InOrder}
use Rattle.numbering.proofs.Texts.{follow_append, symbols_append, skipped_after, sooner_snoc, sooner_last, no_later_snoc, no_later_trans, no_later_append, empty_no_later}
use Rattle.numbering.proofs.Numbers.{Has, number_at}
use Rattle.numbering.proofs.Reached.{own, once, sound}
use Rattle.numbering.proofs.Closure.{settled, settled_fits, up_to_covers, up_to_seed}
use Rattle.numbering.proofs.Found.{Prior, TurnsBelow, SeedsBelow, Found, seeded, turned, up_to_found}

-- the text v from seed p comes before the text w from seed q; or is not after it
abbrev pub Earlier : ℕ → List ℕ → ℕ → List ℕ → Type 0
Earlier p v q w = (p < q) ⊎ (p ≡ q) × Sooner v w

abbrev pub NotAfter : ℕ → List ℕ → ℕ → List ℕ → Type 0
NotAfter p v q w = (p < q) ⊎ (p ≡ q) × NoLater v w

-- two turns
prior_or : (p t i s : ℕ) → Prior p t i s ⊎ Prior i s p t ⊎ (p ≡ i) × (t ≡ s)
prior_or p t i s =
    by_test (ltb p i)
    (λ x. inl (inl (ltb-true p i x)))
    (λ x.
    ⊎_elim
    (λ e.
    by_test (ltb t s)
    (λ y. inl (inr (sym e, ltb-true t s y)))
    (λ y. ⊎_elim (λ f. inr (inr (sym e, sym f))) (λ z. inr (inl (inr (e, z)))) (eq-or-lt_of_le (ltb-false t s y))))
    (λ z. inr (inl (inl z)))
    (eq-or-lt_of_le (ltb-false p i x)))

pub not_after_trans : (p q r : ℕ) (u v w : List ℕ) → NotAfter p u q v → NotAfter q v r w → NotAfter p u r w
not_after_trans p q r u v w x y =
    ⊎_elim
    (λ h. ⊎_elim (λ g. inl (omega arith)) (λ g. inl (omega (arith, g.0))) y)
    (λ h. ⊎_elim (λ g. inl (omega (arith, h.0))) (λ g. inr (h.0 ∙ g.0, no_later_trans h.1 g.1)) y)
    x

not_after_snoc : (p q : ℕ) (v w : List ℕ) (s : ℕ) → NotAfter p v q w → NotAfter p (v ++ (s ∷ [])) q (w ++ (s ∷ []))
not_after_snoc p q v w s x = ⊎_elim (λ h. inl h) (λ h. inr (h.0, no_later_snoc v w s h.1)) x

module _ (a : Walk) (seed : ℕ → ℕ) (n : ℕ) where
  abbrev keys : List ℕ
  keys = keys_up_to a seed n

  abbrev key : ℕ → ℕ
  key j = get_or keys j 0

  -- key j came from seed q over the text w
  abbrev pub Came : ℕ → ℕ → List ℕ → Type 0
  Came j q w = Found a seed keys j q w

  pub came_leads : {j q : ℕ} {w : List ℕ} → Came j q w → follow a (seed q) w ≡ key j
  came_leads (seeded e x y) = e
  came_leads {j} {q} (turned {w = w} i s h low c e x y) =
      follow_append a (seed q) w (s ∷ []) ∙ ap (λ (m : ℕ). a.step m s) (came_leads h) ∙ e

  pub came_symbols : {j q : ℕ} {w : List ℕ} → Came j q w → Symbols a.k w
  came_symbols (seeded e x y) = none
  came_symbols (turned i s h low c e x y) = symbols_append (came_symbols h) (more c none)

  -- ---- 1
  module _ (x y : ℕ) (le : x ≤ y) (b : y < length keys) where
    -- what leads to key y was not before key x was found
    late_turn : (p t i s : ℕ) → t < a.k → a.step (key p) t ≡ key y → TurnsBelow a seed keys x i s → Prior p t i s → ⊥
    late_turn p t i s c e h r =
        let d = h p t c r (ap a.skips e ∙ (sound a seed n y b).counts) in
        omega (arith, ap (index_of keys) e ∙ own a seed n y b)

    late_seed : (p q : ℕ) → seed p ≡ key y → SeedsBelow a seed keys x q → p < q → ⊥
    late_seed p q e h r =
        let d = h p r (ap a.skips e ∙ (sound a seed n y b).counts) in
        omega (arith, ap (index_of keys) e ∙ own a seed n y b)

  same : {j q p : ℕ} {w v : List ℕ} → j < length keys → Came j q w → Came j p v → (q ≡ p) × (w ≡ v)
  same {j} {q} {p} b (seeded e x y) (seeded f u v) =
      by_test (ltb q p)
      (λ t. absurd (late_seed j j (omega arith) b q p e u (ltb-true q p t)))
      (λ t.
      ⊎_elim
      (λ z. (sym z, refl))
      (λ z. absurd (late_seed j j (omega arith) b p q f x z))
      (eq-or-lt_of_le (ltb-false q p t)))
  same {j} b (seeded e x y) (turned i s h low c f u v) = absurd (late_turn j j (omega arith) b i s j 0 c f y (inl low))
  same {j} b (turned i s h low c e x y) (seeded f u v) = absurd (late_turn j j (omega arith) b i s j 0 c e v (inl low))
  same {j} {q} {p} b (turned {w = w} i s h low c e x y) (turned {w = v} i' s' h' low' c' f u z) =
      ⊎_elim
      (λ r. absurd (late_turn j j (omega arith) b i s i' s' c e z r))
      (⊎_elim
      (λ r. absurd (late_turn j j (omega arith) b i' s' i s c' f y r))
      (λ r.
      let o = same (omega arith) h (subst (λ (g : ℕ). Came g p v) (sym r.0) h') in
      (o.0, cc)))
      (prior_or i s i' s')

  -- ---- 2
  -- a turn of key i leads to key y, and key j is not past that
  grows : {i j q p : ℕ} {w v : List ℕ} (s y : ℕ) → i < length keys → s < a.k → a.step (key i) s ≡ key y → y < length keys → j ≤ y
      → Came i q w
      → ((g r : ℕ) (u : List ℕ) → g < i → Came g r u → Earlier r u q w)
      → Came j p v
      → NotAfter p v q (w ++ (s ∷ []))
  grows {i} {j} {q} {p} {w} s y b c e d le h before (seeded f u z) =
      by_test (ltb i j)
      (λ t. absurd (late_turn j y le d i s j 0 c e z (inl (ltb-true i j t))))
      (λ t.
      ⊎_elim
      (λ k. inr ((same b (subst (λ (g : ℕ). Came g p []) k (seeded f u z)) h).0, empty_no_later (w ++ (s ∷ []))))
      (λ k. ⊎_elim (λ o. inl o) (λ o. inr (o.0, empty_no_later (w ++ (s ∷ [])))) (before j p [] k (seeded f u z)))
      (eq-or-lt_of_le (ltb-false i j t)))
  grows {i} {j} {q} {p} {w} s y b c e d le h before (turned {w = v} i' s' h' low' c' f u z) =
      ⊎_elim
      (λ r. absurd (late_turn j y le d i s i' s' c e z r))
      (⊎_elim
      (⊎_elim
      (λ k. ⊎_elim (λ o. inl o) (λ o. inr (o.0, inr (sooner_snoc v w s' s o.1))) (before i' p v k h'))
      (λ k.
      let o = same b (subst (λ (g : ℕ). Came g p v) k.0 h') h in
      inr (o.0, subst (λ (x : List ℕ). NoLater (v ++ (s' ∷ [])) (x ++ (s ∷ []))) o.1 (inr (sooner_last v s' s k.1)))))
      (λ k.
      let o = same b (subst (λ (g : ℕ). Came g p v) (sym k.0) h') h in
      inr (o.0, inl (cc))))
      (prior_or i s i' s')

  -- what was found before a seed is from a lower seed
  before_seed : {i j q p : ℕ} {w : List ℕ} → seed p ≡ key j → i < j → j < length keys → Came i q w → q < p
  before_seed {i} {j} {q} {p} e low b (seeded f x y) =
      by_test (ltb q p) (ltb-true q p)
      (λ t.
      absurd
      (⊎_elim
      (λ z. let k : i ≡ j = once a seed n i j (omega arith) b (sym f ∙ ap seed (sym z) ∙ e) in omega arith)
      (λ z. late_seed i j (omega arith) b p q e x z)
      (eq-or-lt_of_le (ltb-false q p t))))
  before_seed e low b (turned i s h low' c f x y) = before_seed e (omega arith) b h

  pub rises : {i j q p : ℕ} {w v : List ℕ} → i < j → j < length keys → Came i q w → Came j p v → Earlier q w p v
  rises {i} {j} {q} {p} {w} low b h (seeded e x y) = inl (before_seed e low b h)
  rises {i} {j} {q} {p} {w} low b h (turned {w = v} i' s h' low' c e x y) =
      ⊎_elim
      (λ o. inl o)
      (λ o.
      ⊎_elim
      (λ k.
      let z : i ≡ j = once a seed n i j (omega arith) b (sym (came_leads h) ∙ cc (o.0, k) ∙ came_leads (turned i' s h' low' c e x y)) in
      absurd (omega arith))
      (λ k. inr (o.0, k))
      o.1)
      (grows s j (omega arith) c e b (omega arith) h' (λ _ _ _ g k. rises g (omega arith) k h') h)

  -- a key with no higher number was found no later
  pub no_lower : {i j q p : ℕ} {w v : List ℕ} → i ≤ j → j < length keys → Came i q w → Came j p v → NotAfter q w p v
  no_lower {i} {j} {q} {p} {w} {v} le b h k =
      ⊎_elim
      (λ e. let o = same b (subst (λ (x : ℕ). Came x q w) e h) k in inr (o.0, inl o.1))
      (λ low. ⊎_elim (λ z. inl z) (λ z. inr (z.0, inr z.1)) (rises low b h k))
      (eq-or-lt_of_le le)

  -- ---- 3
  -- a key that was found no later than over the text v from seed p: x, to which this leads, or one
  -- past the first 512
  pub record Ends (x p : ℕ) (v : List ℕ) : Type 0 where
    pub number : ℕ
    pub below : number < length keys
    pub is : (key number ≡ x) ⊎ (512 ≤ number)
    pub from : ℕ
    pub text : List ℕ
    pub came : Came number from text
    pub not_after : NotAfter from text p v

  module _ (sinks : Sinks a) (most : length (settled a seed n) ≤ 512) where
    seed_ends : (p : ℕ) → p < n → a.skips (seed p) ≡ false → Ends (seed p) p []
    seed_ends p b ne =
        let d : Has keys (seed p) = up_to_seed a seed n p b ne in
        let at = number_at keys (seed p) d in
        let o = up_to_found a seed n most (index_of keys (seed p)) d in
        record {
          number = index_of keys (seed p);
          below = d;
          is = inl at;
          from = o.0;
          text = o.1;
          came = o.3;
          not_after = go d (sym at) o.3;
        }
      where
        go : {j q : ℕ} {w : List ℕ} → j < length keys → seed p ≡ key j → Came j q w → NotAfter q w p []
        go {j} {q} c e (seeded f x y) =
            by_test (ltb p q)
            (λ t. absurd (late_seed j j (omega arith) c p q e x (ltb-true p q t)))
            (λ t. ⊎_elim (λ z. inr (z, inl refl)) (λ z. inl z) (eq-or-lt_of_le (ltb-false p q t)))
        go {j} {q} c e (turned i s h low d f x y) =
            by_test (ltb p (suc q))
            (λ t. absurd (late_seed j j (omega arith) c p (suc q) e x (ltb-true p (suc q) t)))
            (λ t. inl (ltb-false p (suc q) t))

    -- one of the first 512 keys is expanded
    turn_low : (x p s : ℕ) (v : List ℕ) (h : Ends x p v) → key h.number ≡ x → h.number < 512 → s < a.k → a.skips (a.step x s) ≡ false
        → Ends (a.step x s) p (v ++ (s ∷ []))
    turn_low x p s v h is low c ne =
        let e : a.step (key h.number) s ≡ a.step x s = ap (λ (m : ℕ). a.step m s) is in
        let d : Has keys (a.step x s) =
        subst (Has keys) e (up_to_covers a seed n most h.number s (omega arith) low h.below c (ap a.skips e ∙ ne)) in
        let at = number_at keys (a.step x s) d in
        let o = up_to_found a seed n most (index_of keys (a.step x s)) d in
        record {
          number = index_of keys (a.step x s);
          below = d;
          is = inl at;
          from = o.0;
          text = o.1;
          came = o.3;
          not_after = not_after_trans o.0 h.from p o.1 (h.text ++ (s ∷ [])) (v ++ (s ∷ []))
              (grows s (index_of keys (a.step x s)) h.below c (e ∙ sym at) d (omega arith) h.came (λ _ _ _ g k. rises g h.below k h.came) o.3)
              (not_after_snoc h.from p h.text v s h.not_after);
        }

    -- past them a longer text changes nothing
    turn_past : (x y p s : ℕ) (v : List ℕ) (h : Ends x p v) → 512 ≤ h.number → Ends y p (v ++ (s ∷ []))
    turn_past x y p s v h past = record {
      number = h.number;
      below = h.below;
      is = inr past;
      from = h.from;
      text = h.text;
      came = h.came;
      not_after = not_after_trans h.from p p h.text v (v ++ (s ∷ [])) h.not_after (inr (refl, no_later_append v (s ∷ [])));
    }

    turn_ends : (x p s : ℕ) (v : List ℕ) → Ends x p v → s < a.k → a.skips (a.step x s) ≡ false → Ends (a.step x s) p (v ++ (s ∷ []))
    turn_ends x p s v h c ne =
        by_test (ltb h.number 512)
        (λ t.
        let low = ltb-true h.number 512 t in
        ⊎_elim (λ e. turn_low x p s v h e low c ne) (λ z. absurd (omega arith)) h.is)
        (λ t. turn_past x (a.step x s) p s v h (ltb-false h.number 512 t))

    ends_from_lem : (x p : ℕ) (v w : List ℕ) → Ends x p v → Symbols a.k w → a.skips (follow a x w) ≡ false → Ends (follow a x w) p (v ++ w)
    ends_from_lem x p v [] h c ne = rw append-nil h
    ends_from_lem x p v (s ∷ w) h (more b c) ne =
        let kept : a.skips (a.step x s) ≡ false =
        by_test (a.skips (a.step x s)) (λ z. not_both (skipped_after a sinks (a.step x s) w c z) ne) (λ z. z) in
        subst (Ends (follow a (a.step x s) w) p) (append_assoc v (s ∷ []) w) (ends_from_lem (a.step x s) p (v ++ (s ∷ [])) w (turn_ends x p s v h b kept) c ne)

    pub ends : (p : ℕ) (w : List ℕ) → p < n → Symbols a.k w → a.skips (follow a (seed p) w) ≡ false → Ends (follow a (seed p) w) p w
    ends p w b c ne =
        ends_from_lem (seed p) p [] w
        (seed_ends p b (by_test (a.skips (seed p)) (λ z. not_both (skipped_after a sinks (seed p) w c z) ne) (λ z. z)))
        c
        ne

    -- one of the first 513 keys was found no later than over any text that leads to it
    pub first : {j q : ℕ} {w : List ℕ} → j < length keys → j ≤ 512 → Came j q w → (p : ℕ) (v : List ℕ) → p < n → Symbols a.k v → follow a (seed p) v ≡ key j
        → NotAfter q w p v
    first {j} {q} {w} b top h p v c d e =
        let o = ends p v c d (ap a.skips e ∙ (sound a seed n j b).counts) in
        let le : j ≤ o.number =
        ⊎_elim (λ z. let k : o.number ≡ j = once a seed n o.number j o.below b (z ∙ e) in omega arith) (λ z. omega arith) o.is in
        not_after_trans q o.from p w o.text v (no_lower le o.below h o.came) o.not_after

  -- ---- what is claimed
  module _ (sinks : Sinks a) (most : length keys ≤ 512) where
    before : length (settled a seed n) ≤ 512
    before = settled_fits a seed n most

    record NumberingReply (j : ℕ) : Type 0 where
      from : ℕ
      text : List ℕ
      known : j < length keys → (from < n) × Came j from text

    told : (j : ℕ) → NumberingReply j
    told j =
        by_test (ltb j (length keys))
        (λ t. let o = up_to_found a seed n before j (ltb-true j (length keys) t) in record { from = o.0; text = o.1; known = λ _. (o.2, o.3) })
        (λ t. record { from = 0; text = []; known = λ b. absurd (omega (arith, ltb-false j (length keys) t)) })

    pub in_order : InOrder n (Leads a seed) (λ i. get_or keys i 0) (length keys)
    in_order = record {
      from = λ j. (told j).from;
      text = λ j. (told j).text;
      origin = λ j b.
          let o = (told j).known b in
          record {
            below = o.0;
            leads = (came_symbols o.1, came_leads o.1);
            first_seed = λ p v c x.
                ⊎_elim (λ z. omega arith) (λ z. omega (arith, z.0)) (first sinks before b (omega arith) o.1 p v c x.0 x.1);
            first_text = λ v x.
                ⊎_elim (λ z. absurd (omega arith)) (λ z. z.1)
                (first sinks before b (omega arith) o.1 (told j).from v o.0 x.0 x.1);
          };
      rises = λ i j h b. rises h b ((told i).known (omega arith)).1 ((told j).known b).1;
    }
