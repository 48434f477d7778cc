-- The laws of the procedure. Assumes nothing.
--
--   ..-begins                 each part only appends to the list of keys
--   symbols-.., keys-..       its loops unroll by one turn
--   close_keeps, up_to_keeps  what each turn of a key keeps holds of all the keys
--   settled                   the keys of the seeds before the last
--   up_to_covers, up_to_seed  what one of the first 512 keys leads to has a number, where the seeds
--                             before the last have at most 512 keys; and so has each seed, if it is
--                             not left out
use mathlib.Core.Path.{◌≡◌, refl, sym, ◌∙◌, subst}
use mathlib.Core.Bool.{false, cond}
use mathlib.Core.List.{List, []}
use mathlib.Core.Logic.{⊎_elim}
use Prim.Native.Nat.{ℕ, zero, suc, ◌+◌, ◌-◌, ◌≤◌, ◌<◌}
use native.Mathlib.Nat.{eq-or-lt_of_le, le_of_suc-le-suc}
use native.Mathlib.Numerals.{add-one}
use native.Mathlib.Omega.{arith}
use lib.Dec.{ltb}
use lib.ListN.{length, get_or}
use borrow.Author.Tests.{lt-ltb, le-ltb, ltb-true, ltb-false}
use Rattle.base.proofs.Tests.{by_test}
use Rattle.numbering.specs.Numbering.{Walk, numbered, expand_from, close_from, keys_up_to}
use Rattle.numbering.specs.mirror.Begins.{Begins}
use Rattle.numbering.proofs.Numbers.{Has, begins_self, begins_trans, begins_length, begins_at, begins_has, numbered_begins, numbered_has}

module _ (a : Walk) where
  -- ---- the procedure only appends
  pub expand_begins : (m s left : ℕ) (l : List ℕ) → Begins l (expand_from a m s left l)
  unfolding expand_from
  expand_begins m s zero l = begins_self l
  expand_begins m s (suc left) l = begins_trans (numbered_begins a.skips l _) (expand_begins m (suc s) left _)

  pub close_begins : (left i : ℕ) (l : List ℕ) → Begins l (close_from a left i l)
  unfolding close_from
  close_begins zero i l = begins_self l
  close_begins (suc left) i l =
      let e = expand_from a (get_or l i 0) 0 a.k l in
      let rest : Begins e (close_from a left (suc i) e) = close_begins left (suc i) e in
      by_test (ltb i (length l)) (λ t. rw t (begins_trans (expand_begins (get_or l i 0) 0 a.k l) rest)) (λ t. rw t (begins_self l))

  pub seed_begins : (seed : ℕ → ℕ) (q : ℕ) → Begins (keys_up_to a seed q) (keys_up_to a seed (suc q))
  unfolding keys_up_to
  seed_begins seed q =
      let l = keys_up_to a seed q in
      begins_trans (numbered_begins a.skips l (seed q)) (close_begins 512 _ (numbered a.skips l (seed q)))

  pub up_to_begins : (seed : ℕ → ℕ) (q p : ℕ) → q ≤ p → Begins (keys_up_to a seed q) (keys_up_to a seed p)
  up_to_begins seed q zero h = let e : q ≡ 0 = omega arith in rw e (begins_self (keys_up_to a seed 0))
  up_to_begins seed q (suc p) h =
      ⊎_elim
      (λ e. rw e (begins_self (keys_up_to a seed (suc p))))
      (λ b. begins_trans (up_to_begins seed q p (omega arith)) (seed_begins seed p))
      (eq-or-lt_of_le h)

  -- ---- one symbol more
  pub symbols_more : (m s : ℕ) (l : List ℕ) → s < a.k
      → expand_from a m s (a.k - s) l ≡ expand_from a m (s + 1) (a.k - (s + 1)) (numbered a.skips l (a.step m s))
  unfolding expand_from
  symbols_more m s l h = let e : a.k - s ≡ suc (a.k - (s + 1)) = omega arith in rw (e, add-one)

  pub symbols_end : (m s : ℕ) (l : List ℕ) → a.k ≤ s → expand_from a m s (a.k - s) l ≡ l
  unfolding expand_from
  symbols_end m s l h = let e : a.k - s ≡ 0 = omega arith in rw e

  -- ---- one key more
  pub keys_more : (top i : ℕ) (l : List ℕ) → i < length l → i < top
      → close_from a (top - i) i l ≡ close_from a (top - (i + 1)) (i + 1) (expand_from a (get_or l i 0) 0 (a.k - 0) l)
  unfolding close_from
  keys_more top i l h b =
      let e : top - i ≡ suc (top - (i + 1)) = omega arith in
      let z : a.k - 0 ≡ a.k = omega arith in
      rw (e, add-one, z, lt-ltb i (length l) h)

  pub keys_end : (left i : ℕ) (l : List ℕ) → length l ≤ i → close_from a left i l ≡ l
  unfolding close_from
  keys_end zero i l h = refl
  keys_end (suc left) i l h = rw (le-ltb i (length l) h)

-- ---- what each turn of a key keeps holds of all the keys. P i s may speak of the turn, which is
-- that of key i and symbol s
module _ (a : Walk) (P : ℕ → ℕ → List ℕ → Type 0)
    (turn : (l : List ℕ) (i s : ℕ) → i < length l → s < a.k → P i s l → P i (suc s) (numbered a.skips l (a.step (get_or l i 0) s)))
    (row : (l : List ℕ) (i : ℕ) → P i a.k l → P (suc i) 0 l) where
  expand_keeps : (i m s left : ℕ) (l : List ℕ) → s + left ≡ a.k → i < length l → get_or l i 0 ≡ m → P i s l → P i a.k (expand_from a m s left l)
  unfolding expand_from
  expand_keeps i m s zero l w b e p = let z : s ≡ a.k = omega arith in subst (λ (x : ℕ). P i x l) z p
  expand_keeps i m s (suc left) l w b e p =
      let g = numbered_begins a.skips l (a.step m s) in
      expand_keeps i m (suc s) left (numbered a.skips l (a.step m s)) (omega arith) (omega (arith, begins_length g)) (begins_at g i b ∙ e)
      (subst (λ (x : ℕ). P i (suc s) (numbered a.skips l (a.step x s))) e (turn l i s b (omega arith) p))

  -- where the expansion stops, with i as it is then
  pub record Stopped (l : List ℕ) : Type 0 where
    pub at : ℕ
    pub kept : P at 0 l

  pub close_keeps : (left i : ℕ) (l : List ℕ) → P i 0 l → Stopped (close_from a left i l)
  unfolding close_from
  close_keeps zero i l p = record { at = i; kept = p }
  close_keeps (suc left) i l p = go (close_keeps left (suc i) (expand_from a (get_or l i 0) 0 a.k l))
    where
      go : (P (suc i) 0 (expand_from a (get_or l i 0) 0 a.k l) → Stopped (close_from a left (suc i) (expand_from a (get_or l i 0) 0 a.k l)))
          → Stopped (cond (ltb i (length l)) (close_from a left (suc i) (expand_from a (get_or l i 0) 0 a.k l)) l)
      go ih =
          by_test (ltb i (length l))
          (λ t. rw t (ih (row _ i (expand_keeps i (get_or l i 0) 0 a.k l (omega arith) (ltb-true i (length l) t) refl p))))
          (λ t. rw t (record { at = i; kept = p }))

-- what does not speak of the turn
module _ (a : Walk) (P : List ℕ → Type 0)
    (turn : (l : List ℕ) (i s : ℕ) → i < length l → s < a.k → P l → P (numbered a.skips l (a.step (get_or l i 0) s))) where
  all_keep : (left i : ℕ) (l : List ℕ) → P l → P (close_from a left i l)
  all_keep left i l p = (close_keeps a (λ _ _ x. P x) turn (λ _ _ q. q) left i l p).kept

  pub up_to_keeps : (seed : ℕ → ℕ) (n : ℕ) → P [] → ((l : List ℕ) (q : ℕ) → q < n → P l → P (numbered a.skips l (seed q))) → (q : ℕ) → q ≤ n → P (keys_up_to a seed q)
  unfolding keys_up_to
  up_to_keeps seed n none seeds zero h = none
  up_to_keeps seed n none seeds (suc q) h =
      let l = keys_up_to a seed q in
      all_keep 512 _ (numbered a.skips l (seed q)) (seeds l q h (up_to_keeps seed n none seeds q (omega arith)))

-- ---- a key that is not left out has a number
abbrev pub Covers : Walk → List ℕ → ℕ → Type 0
Covers a l m = a.skips m ≡ false → Has l m

module _ (a : Walk) where
  -- a number stays
  pub covers_more : {l f : List ℕ} → Begins l f → (j s : ℕ) → j < length l → Covers a l (a.step (get_or l j 0) s) → Covers a f (a.step (get_or f j 0) s)
  covers_more {l} {f} g j s b h =
      subst (λ (x : ℕ). Covers a f (a.step x s)) (sym (begins_at g j b)) (λ ne. begins_has g (a.step (get_or l j 0) s) (h ne))

  expand_covers : (m s left : ℕ) (l : List ℕ) (t : ℕ) → s ≤ t → t < s + left → Covers a (expand_from a m s left l) (a.step m t)
  unfolding expand_from
  expand_covers m s zero l t x y = absurd (omega arith)
  expand_covers m s (suc left) l t x y =
      ⊎_elim
      (λ e.
      subst (λ (x : ℕ). Covers a (expand_from a m (suc s) left (numbered a.skips l (a.step m s))) (a.step m x)) e
      (λ ne.
      begins_has (expand_begins a m (suc s) left (numbered a.skips l (a.step m s))) (a.step m s) (numbered_has a.skips l (a.step m s) ne)))
      (λ c. expand_covers m (suc s) left (numbered a.skips l (a.step m s)) t c (omega arith))
      (eq-or-lt_of_le x)

  -- what the keys from number i on, below `top`, lead to has a number
  abbrev Closed : List ℕ → ℕ → ℕ → Type 0
  Closed f i top = (j s : ℕ) → i ≤ j → j < top → j < length f → s < a.k → Covers a f (a.step (get_or f j 0) s)

  -- the fuel is enough for so many keys
  close_covers : (left i : ℕ) (l : List ℕ) → Closed (close_from a left i l) i (i + left)
  unfolding close_from
  close_covers zero i l = λ j s x top y z. absurd (omega arith)
  close_covers (suc left) i l = go (close_covers left (suc i) (expand_from a (get_or l i 0) 0 a.k l))
    where
      e : List ℕ
      e = expand_from a (get_or l i 0) 0 a.k l

      f : List ℕ
      f = close_from a left (suc i) e

      expanded : Closed f (suc i) (suc i + left) → i < length l → Closed f i (i + suc left)
      expanded ih t j s x top y z =
          ⊎_elim
          (λ c.
          subst (λ (y : ℕ). Covers a f (a.step (get_or f y 0) s)) c
          (covers_more (close_begins a left (suc i) e) i s (omega (arith, begins_length (expand_begins a (get_or l i 0) 0 a.k l)))
          (subst (λ (y : ℕ). Covers a e (a.step y s)) (sym (begins_at (expand_begins a (get_or l i 0) 0 a.k l) i t))
          (expand_covers (get_or l i 0) 0 a.k l s (omega arith) (omega arith)))))
          (λ d. ih j s d (omega arith) y z)
          (eq-or-lt_of_le x)

      go : Closed f (suc i) (suc i + left) → Closed (cond (ltb i (length l)) f l) i (i + suc left)
      go ih =
          by_test (ltb i (length l))
          (λ t. rw t (expanded ih (ltb-true i (length l) t)))
          (λ t. rw t (λ j s x top y z. absurd (omega (arith, ltb-false i (length l) t))))

  module _ (seed : ℕ → ℕ) where
    -- the keys that are numbered when the last seed has its turn
    abbrev pub settled : ℕ → List ℕ
    settled zero = []
    settled (suc q) = keys_up_to a seed q

    pub settled_fits : (n : ℕ) → length (keys_up_to a seed n) ≤ 512 → length (settled n) ≤ 512
    settled_fits zero h = omega arith
    settled_fits (suc q) h = omega (arith, begins_length (seed_begins a seed q))

    -- where these are at most 512, every key that a step leads to from one of the first 512 has a
    -- number, if it is not left out
    pub up_to_covers : (n : ℕ) → length (settled n) ≤ 512 → Closed (keys_up_to a seed n) 0 512
    unfolding keys_up_to
    up_to_covers zero h j s x top y z = absurd (omega arith)
    up_to_covers (suc q) h j s x top y z = go (up_to_covers q)
      where
        l : List ℕ
        l = keys_up_to a seed q

        go : (length (settled q) ≤ 512 → Closed l 0 512) → Covers a (keys_up_to a seed (suc q)) (a.step (get_or (keys_up_to a seed (suc q)) j 0) s)
        go ih =
            by_test (ltb j (length l))
            (λ t.
            let d = ltb-true j (length l) t in
            covers_more (seed_begins a seed q) j s d (ih (settled_fits q h) j s x top d z))
            (λ t. close_covers 512 (length l) (numbered a.skips l (seed q)) j s (ltb-false j (length l) t) (omega arith) y z)

    -- each seed that was passed has a number, if it is not left out
    pub up_to_seed : (q p : ℕ) → p < q → Covers a (keys_up_to a seed q) (seed p)
    unfolding keys_up_to
    up_to_seed zero p h = absurd (omega arith)
    up_to_seed (suc q) p h =
        let l = keys_up_to a seed q in
        ⊎_elim
        (λ e.
        rw e
        (λ ne. begins_has (close_begins a 512 (length l) (numbered a.skips l (seed q))) (seed q) (numbered_has a.skips l (seed q) ne)))
        (λ b. λ ne. begins_has (seed_begins a seed q) (seed p) (up_to_seed q p b ne))
        (eq-or-lt_of_le (le_of_suc-le-suc h))
