-- Texts, and their order: shorter first, then by symbols.
--
--   follow a m w     the key that the text w leads to from the key m
--   Symbols k w      each symbol of w is below k
--   Lex v w          at the first place where v and w differ, v has the lower symbol
--   Sooner v w       v is shorter than w, or as long and first by symbols
--   NoLater v w      v is w, or sooner
use Rattle.std.specs.Prelude.{◌≡◌, ◌⊎◌, ℕ, ◌<◌, length}
use mathlib.Core.List.{List, [], ◌∷◌, foldl}
use Rattle.numbering.specs.Numbering.{Walk}

abbrev pub follow : Walk → ℕ → List ℕ → ℕ
follow a m w = foldl a.step m w

pub data Symbols (k : ℕ) : List ℕ → Type 0 where
  none : Symbols k []
  more : {s : ℕ} {w : List ℕ} → s < k → Symbols k w → Symbols k (s ∷ w)

pub data Lex : List ℕ → List ℕ → Type 0 where
  lower : {s t : ℕ} {v w : List ℕ} → s < t → Lex (s ∷ v) (t ∷ w)
  later : {s : ℕ} {v w : List ℕ} → Lex v w → Lex (s ∷ v) (s ∷ w)

abbrev pub Sooner : List ℕ → List ℕ → Type 0
Sooner v w = (length v < length w) ⊎ (length v ≡ length w) × Lex v w

abbrev pub NoLater : List ℕ → List ℕ → Type 0
NoLater v w = (v ≡ w) ⊎ Sooner v w
