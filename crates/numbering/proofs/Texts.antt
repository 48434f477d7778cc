-- The laws of texts and of their order. Assumes nothing.
use mathlib.Core.Path.{◌≡◌, refl, sym, ap, ◌∙◌}
use mathlib.Core.Logic.{inl, inr, ⊎_elim}
use mathlib.Core.Bool.{true}
use mathlib.Core.List.{List, [], ◌∷◌, ◌++◌, append-nil}
use Prim.Native.Nat.{ℕ, suc, ◌<◌}
use native.Mathlib.Omega.{arith}
use lib.ListN.{length, length-append}
use Rattle.numbering.specs.Numbering.{Walk}
use Rattle.numbering.specs.Texts.{follow, Symbols, none, more, Lex, lower, later, Sooner, NoLater}
use Rattle.numbering.specs.Claims.{Sinks}

pub follow_append : (a : Walk) (m : ℕ) (v w : List ℕ) → follow a m (v ++ w) ≡ follow a (follow a m v) w
follow_append a m [] w = refl
follow_append a m (s ∷ v) w = follow_append a (a.step m s) v w

pub symbols_append : {k : ℕ} {v w : List ℕ} → Symbols k v → Symbols k w → Symbols k (v ++ w)
symbols_append none q = q
symbols_append (more h p) q = more h (symbols_append p q)

pub skipped_after : (a : Walk) → Sinks a → (m : ℕ) (w : List ℕ) → Symbols a.k w → a.skips m ≡ true → a.skips (follow a m w) ≡ true
skipped_after a sinks m [] p h = h
skipped_after a sinks m (s ∷ w) (more b p) h = skipped_after a sinks (a.step m s) w p (sinks m s b h)

-- ---- the order
lex_trans : {u v w : List ℕ} → Lex u v → Lex v w → Lex u w
lex_trans (lower {s = s} h) (lower {t = t} g) = lower {s = s} {t = t} (omega arith)
lex_trans (lower h) (later q) = lower h
lex_trans (later p) (lower g) = lower g
lex_trans (later p) (later q) = later (lex_trans p q)

lex_append : {u v : List ℕ} (x y : List ℕ) → Lex u v → Lex (u ++ x) (v ++ y)
lex_append x y (lower h) = lower h
lex_append x y (later p) = later (lex_append x y p)

lex_last : (u : List ℕ) (s t : ℕ) → s < t → Lex (u ++ (s ∷ [])) (u ++ (t ∷ []))
lex_last [] s t h = lower h
lex_last (x ∷ u) s t h = later (lex_last u s t h)

snoc_length : (u : List ℕ) (s : ℕ) → length (u ++ (s ∷ [])) ≡ suc (length u)
snoc_length u s = rw length-append (omega arith)

sooner_trans : (u v w : List ℕ) → Sooner u v → Sooner v w → Sooner u w
sooner_trans u v w p q =
    ⊎_elim
    (λ h. ⊎_elim (λ g. inl (omega arith)) (λ g. inl (omega (arith, g.0))) q)
    (λ h. ⊎_elim (λ g. inl (omega (arith, h.0))) (λ g. inr (h.0 ∙ g.0, lex_trans h.1 g.1)) q)
    p

pub sooner_snoc : (u v : List ℕ) (s t : ℕ) → Sooner u v → Sooner (u ++ (s ∷ [])) (v ++ (t ∷ []))
sooner_snoc u v s t p =
    ⊎_elim
    (λ h. inl (omega (arith, snoc_length u s, snoc_length v t)))
    (λ h. inr (omega (arith, h.0, snoc_length u s, snoc_length v t), lex_append (s ∷ []) (t ∷ []) h.1))
    p

pub sooner_last : (u : List ℕ) (s t : ℕ) → s < t → Sooner (u ++ (s ∷ [])) (u ++ (t ∷ []))
sooner_last u s t h = inr (snoc_length u s ∙ sym (snoc_length u t), lex_last u s t h)

pub no_later_trans : {u v w : List ℕ} → NoLater u v → NoLater v w → NoLater u w
no_later_trans {u} {v} {w} p q =
    ⊎_elim
    (λ e. rw e q)
    (λ h. ⊎_elim (λ e. inr (rw e at h)) (λ g. inr (sooner_trans u v w h g)) q)
    p

pub no_later_snoc : (u v : List ℕ) (s : ℕ) → NoLater u v → NoLater (u ++ (s ∷ [])) (v ++ (s ∷ []))
no_later_snoc u v s p = ⊎_elim (λ e. inl (ap (λ (x : List ℕ). x ++ (s ∷ [])) e)) (λ h. inr (sooner_snoc u v s s h)) p

pub empty_no_later : (v : List ℕ) → NoLater [] v
empty_no_later [] = inl refl
empty_no_later (s ∷ v) = inr (inl (omega arith))

pub no_later_append : (v w : List ℕ) → NoLater v (v ++ w)
no_later_append v [] = inl (sym (append-nil v))
no_later_append v (s ∷ w) = inr (inl (rw length-append (omega arith)))
