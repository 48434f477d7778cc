-- What is claimed of made texts; proofs/Claims.antt proves it.
use Rattle.std.specs.Prelude.{◌≡◌, ◌↔◌, ◌⊎◌, false, ℕ, ◌^◌, ◌≤◌, ◌<◌, length}
use Rattle.std.proofs.Math.Option.{none, some}
use Rattle.automaton.specs.Automaton.{Text}
use Rattle.marks.specs.Marks.{marked, text_of}
use Rattle.chunks.specs.Chunks.{foreign}
use Rattle.madetexts.specs.Values.{next_value, made_text}
use Rattle.madetexts.specs.Making.{made_number}

pub record Claims : Type 0 where
  -- accepted exactly for 1 to 16 symbols and a seed that is not zero; else 4 comes first
  pub accepted : (k seed : ℕ) → (made_number k seed ≡ none) ↔ ((1 ≤ k) × (k ≤ 16) × (0 < seed))
  pub number_4 : (k seed : ℕ) → (made_number k seed ≡ some 4) ↔ ((k < 1) ⊎ (16 < k))
  pub number_41 : (k seed : ℕ) → (made_number k seed ≡ some 41) ↔ ((1 ≤ k) × (k ≤ 16) × (seed ≡ 0))
  -- a text of the length asked for, of symbols below k
  pub long : (k x n : ℕ) → length (made_text k x n) ≡ n
  pub text : (k x n : ℕ) → 1 ≤ k → Text k (made_text k x n)
  -- so no rule with as many symbols or more refuses it with 13: it has no idle marks, it is the text
  -- of the chunk that it makes, and no byte of it is foreign
  pub no_marks : (k x n : ℕ) → 1 ≤ k → k ≤ 16 → marked (made_text k x n) ≡ false
  pub own_text : (k x n : ℕ) → 1 ≤ k → k ≤ 16 → text_of (made_text k x n) ≡ made_text k x n
  pub not_foreign : (k x n : ℕ) → 1 ≤ k → k ≤ 16 → (k' : ℕ) → k ≤ k' → foreign (text_of (made_text k x n)) k' ≡ false
  -- a value that is not zero is followed by one that is not, and by one of 64 bits
  pub not-zero : (x : ℕ) → 0 < x → x < 2 ^ 64 → 0 < next_value x
  pub fits : (x : ℕ) → x < 2 ^ 64 → next_value x < 2 ^ 64
