-- Which number a chunk is refused with, by cases of the two tests. Assumes nothing.
use mathlib.Core.Path.{◌≡◌, refl}
use mathlib.Core.Logic.{◌⊎◌, inl, inr}
use mathlib.Core.Bool.{Bool, true, false, cond}
use mathlib.Core.List.{List}
use mathlib.Core.Option.{Option, none, some}
use Prim.Native.Nat.{ℕ, ◌≤◌, ◌<◌}
use native.Mathlib.Omega.{arith}
use lib.Dec.{ltb}
use lib.ListN.{length}
use borrow.Author.Tests.{lt-ltb, le-ltb, ltb-true, ltb-false}
use Rattle.base.proofs.Options.{none-some}
use Rattle.marks.specs.Marks.{text_of}
use Rattle.chunks.specs.Chunks.{foreign}
use Rattle.chunks.specs.Taking.{chunk_number, TakenExactly}

data Tests (long strange : Bool) : Option ℕ → Type 0 where
  too_long : long ≡ true → Tests long strange (some 12)
  stray : long ≡ false → strange ≡ true → Tests long strange (some 13)
  fine : long ≡ false → strange ≡ false → Tests long strange none

tests : (long strange : Bool) → Tests long strange (cond long (some 12) (cond strange (some 13) none))
tests true strange = too_long refl
tests false true = stray refl refl
tests false false = fine refl refl

module _ (k : ℕ) (w : List ℕ) where
  abbrev Told : Option ℕ → Type 0
  Told = Tests (ltb 65536 (length w)) (foreign (text_of w) k)

  told : Told (chunk_number k w)
  unfolding chunk_number
  told = tests (ltb 65536 (length w)) (foreign (text_of w) k)

  is_12 : {o : Option ℕ} → Told o → o ≡ some 12 → 65536 < length w
  is_12 (too_long l) e = ltb-true 65536 (length w) l
  is_12 (stray l s) e = let z : ◌≡◌ {A = ℕ} 13 12 = cc in absurd (omega arith)
  is_12 (fine l s) e = none-some refl e

  is_13 : {o : Option ℕ} → Told o → o ≡ some 13 → (length w ≤ 65536) × (foreign (text_of w) k ≡ true)
  is_13 (too_long l) e = let z : ◌≡◌ {A = ℕ} 12 13 = cc in absurd (omega arith)
  is_13 (stray l s) e = (ltb-false 65536 (length w) l, s)
  is_13 (fine l s) e = none-some refl e

  is-none : {o : Option ℕ} → Told o → o ≡ none → (length w ≤ 65536) × (foreign (text_of w) k ≡ false)
  is-none (too_long l) e = none-some e refl
  is-none (stray l s) e = none-some e refl
  is-none (fine l s) e = (ltb-false 65536 (length w) l, s)

  one_of : {o : Option ℕ} (x : ℕ) → Told o → o ≡ some x → (x ≡ 12) ⊎ (x ≡ 13)
  one_of x (too_long l) e = inl cc
  one_of x (stray l s) e = inr cc
  one_of x (fine l s) e = none-some refl e

  pub taking : TakenExactly k w
  unfolding chunk_number
  taking = record {
    number_12 = (is_12 told, λ h. rw (lt-ltb 65536 (length w) h));
    number_13 = (is_13 told, λ h. rw (le-ltb 65536 (length w) h.0, h.1));
    taken = (is-none told, λ h. rw (le-ltb 65536 (length w) h.0, h.1));
    no_other = λ x. one_of x told;
  }
