-- The letters of a pattern are those among its bytes. Assumes nothing.
use mathlib.Core.Path.{◌≡◌, refl, sym, ap, ap₂, ◌∙◌}
use mathlib.Core.List.{List, [], ◌∷◌, ◌++◌, append_assoc, append-nil}
use Prim.Native.Nat.{ℕ}
use Rattle.patterns.specs.Patterns.{Pattern, letters}
use Rattle.patterns.specs.Grammar.{Level, Parses, a_letter, brackets, a_star, nothing, next, first, other}
use Rattle.patternscan.specs.declared.Sign.{Sign}
use Rattle.patternscan.specs.Signs.{sign_of, symbols_of, letters_in}
use Rattle.patternscan.proofs.Decision.{sign_letter, sign_bar, sign_opens, sign_closes, sign_star}

append : (b c : List ℕ) → letters_in (b ++ c) ≡ letters_in b ++ letters_in c
append [] c = refl
append (x ∷ b) c =
    ap (λ (w : List ℕ). symbols_of (sign_of x) ++ w) (append b c) ∙ sym (append_assoc (symbols_of (sign_of x)) (letters_in b) (letters_in c))

-- a byte that is no letter
skip : {s : Sign} (x : ℕ) (c : List ℕ) → sign_of x ≡ s → symbols_of s ≡ [] → letters_in (x ∷ c) ≡ letters_in c
skip x c e f = ap (λ (w : List ℕ). w ++ letters_in c) (ap symbols_of e ∙ f)

-- one at the end
last : {s : Sign} (b : List ℕ) (x : ℕ) → sign_of x ≡ s → symbols_of s ≡ [] → letters_in (b ++ (x ∷ [])) ≡ letters_in b
last b x e f = append b (x ∷ []) ∙ ap (λ (w : List ℕ). letters_in b ++ w) (skip x [] e f) ∙ append-nil (letters_in b)

pub lettered : {l : Level} {b : List ℕ} {p : Pattern} → Parses l b p → letters_in b ≡ letters p
lettered (a_letter {s = s} h) = ap (λ (x : Sign). symbols_of x ++ []) (sign_letter s h)
lettered (brackets {b = b} r) = skip 40 (b ++ (41 ∷ [])) sign_opens refl ∙ last b 41 sign_closes refl ∙ lettered r
lettered (a_star {b = b} r) = last b 42 sign_star refl ∙ lettered r
lettered nothing = refl
lettered (next {b = b} {c = c} r t) = append b c ∙ ap₂ (λ (v w : List ℕ). v ++ w) (lettered r) (lettered t)
lettered (first r) = lettered r
lettered (other {b = b} {c = c} r t) =
    append b (124 ∷ c) ∙ ap₂ (λ (v w : List ℕ). v ++ w) (lettered r) (skip 124 c sign_bar refl ∙ lettered t)
