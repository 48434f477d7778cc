-- What the text of a chunk is; proofs/Claims.antt proves it.
use Rattle.std.specs.Prelude.{◌≡◌, false, List, ◌∷◌, ◌++◌, ℕ, ◌≤◌, length}
use Rattle.marks.specs.Marks.{idle_mark, marked, text_of}

pub record Claims : Type 0 where
  -- a chunk without marks is its text
  pub unmarked : (w : List ℕ) → marked w ≡ false → text_of w ≡ w
  -- a mark is skipped, and any other byte kept
  pub skipped : (w : List ℕ) → text_of (idle_mark ∷ w) ≡ text_of w
  pub kept : (b : ℕ) (w : List ℕ) → (b ≡ idle_mark → ⊥) → text_of (b ∷ w) ≡ b ∷ text_of w
  -- no text has a mark
  pub text_unmarked : (w : List ℕ) → marked (text_of w) ≡ false
  -- a text is no longer than its chunk
  pub no_longer : (w : List ℕ) → length (text_of w) ≤ length w
  -- the text of two chunks joined is their texts joined
  pub text_append : (v w : List ℕ) → text_of (v ++ w) ≡ text_of v ++ text_of w
