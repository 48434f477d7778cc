-- Which chunks are taken (document 01, "Numbers caused by the input", with document 02, R-5): wherever a
-- chunk is judged by a rule of k symbols, it is refused by these conditions, in this order.
--
--   chunk_conditions k w  12, over 65,536 bytes, idle marks counted; 13, a byte of its text, which is
--                         the chunk without its idle marks, at or above k
--   chunk_number k w      the number with which the chunk w is refused, none where it is taken
--   TakenExactly k w      which it is, condition by condition
use Rattle.std.specs.Prelude.{◌≡◌, ◌↔◌, ◌⊎◌, true, false, List, [], ◌∷◌, ℕ, ◌≤◌, ◌<◌, ltb, length}
use Rattle.std.proofs.Math.Option.{Option, none, some}
use Rattle.limits.specs.Limits.{longest_chunk}
use Rattle.base.specs.Conditions.{Condition, on, first_of}
use Rattle.marks.specs.Marks.{text_of}
use Rattle.chunks.specs.Chunks.{foreign}

abbrev pub chunk_conditions : ℕ → List ℕ → List Condition
chunk_conditions k w = on 12 (ltb longest_chunk (length w)) ∷ on 13 (foreign (text_of w) k) ∷ []

unfoldable pub chunk_number : ℕ → List ℕ → Option ℕ
chunk_number k w = first_of (chunk_conditions k w)

pub record TakenExactly (k : ℕ) (w : List ℕ) : Type 0 where
  pub number_12 : (chunk_number k w ≡ some 12) ↔ (longest_chunk < length w)
  pub number_13 : (chunk_number k w ≡ some 13) ↔ ((length w ≤ longest_chunk) × (foreign (text_of w) k ≡ true))
  pub taken : (chunk_number k w ≡ none) ↔ ((length w ≤ longest_chunk) × (foreign (text_of w) k ≡ false))
  pub no_other : (x : ℕ) → chunk_number k w ≡ some x → (x ≡ 12) ⊎ (x ≡ 13)
