-- Of two texts no more than one comes before the other. Assumes nothing.
use mathlib.Core.Path.{◌≡◌, refl, sym, subst}
use mathlib.Core.Logic.{⊎_elim}
use mathlib.Core.List.{List}
use Prim.Native.Nat.{ℕ}
use native.Mathlib.Omega.{arith}
use Rattle.numbering.specs.Texts.{Lex, lower, later, Sooner, NoLater}

not_lex : {a b c d : List ℕ} → Lex a b → Lex c d → a ≡ d → b ≡ c → ⊥
not_lex (lower {s = s} {t = t} h) (lower {s = x} {t = y} g) e f = let i : s ≡ y = cc in let j : t ≡ x = cc in omega arith
not_lex (lower {s = s} {t = t} h) (later {s = x} q) e f = let i : s ≡ x = cc in let j : t ≡ x = cc in omega arith
not_lex (later {s = s} p) (lower {s = x} {t = y} g) e f = let i : s ≡ y = cc in let j : s ≡ x = cc in omega arith
not_lex (later p) (later q) e f = not_lex p q (cc) (cc)

not_both_lex : {v w : List ℕ} → Lex v w → Lex w v → ⊥
not_both_lex p q = not_lex p q refl refl

not_both_sooner : (v w : List ℕ) → Sooner v w → Sooner w v → ⊥
not_both_sooner v w p q =
    ⊎_elim
    (λ h. ⊎_elim (λ g. omega arith) (λ g. omega (arith, g.0)) q)
    (λ h. ⊎_elim (λ g. omega (arith, h.0)) (λ g. not_both_lex h.1 g.1) q)
    p

-- no text is before one that is not after it
pub not_after_all : {v w : List ℕ} → Sooner v w → NoLater w v → ⊥
not_after_all {v} {w} p q = ⊎_elim (λ e. not_both_sooner v v (subst (Sooner v) e p) (subst (Sooner v) e p)) (λ h. not_both_sooner v w p h) q

pub one_text : (v w : List ℕ) → NoLater v w → NoLater w v → v ≡ w
one_text v w p q = ⊎_elim (λ e. e) (λ h. ⊎_elim (λ e. sym e) (λ g. absurd (not_both_sooner v w h g)) q) p
