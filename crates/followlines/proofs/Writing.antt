-- The text of an answer is written. Assumes nothing.
--
--   digits_room, end_room, mask_written   a mask behind a space
--   word_room, word_written               a word before it
--   bytes-room, mask_room, lost_written   the line of a trace that is lost
--   answered                              the line of an answer, by its case
use mathlib.Core.Path.{◌≡◌, sym, subst}
use mathlib.Core.List.{List, [], ◌∷◌, ◌++◌}
use Prim.Native.Nat.{ℕ, ◌+◌, ◌≤◌, ◌<◌}
use native.Mathlib.Omega.{arith}
use lib.ListN.{length, length-append}
use Rattle.text.specs.Writing.{Wrote}
use Rattle.text.specs.Numerals.{decimal, hex}
use Rattle.text.proofs.Rooms.{exact, most, left, more, two}
use Rattle.text.proofs.Digits.{decimal_most, hex_length}
use Rattle.followcalls.specs.declared.TraceAnswer.{TraceAnswer}
use Rattle.followcalls.specs.Calls.{answer_means}
use Rattle.followlines.specs.Answers.{mask_text, response_text}

mask_length : (m : ℕ) → length (mask_text m) ≤ 6
mask_length m = omega (arith, length-append (hex 4 m) (10 ∷ []), hex_length 4 m)

-- ---- a mask
module _ (m : ℕ) (before mid : List ℕ) (at e : ℕ) (room : at + 6 ≤ length before) (space : Wrote before at (32 ∷ []) mid e) where
  pub digits_room : e + 4 ≤ length mid
  digits_room = omega (arith, left 1 5 room (exact space))

  module _ (next : List ℕ) (f : ℕ) (digits : Wrote mid e (hex 4 m) next f) where
    piece : Wrote mid e (hex 4 m) next f × (f ≤ e + 4)
    piece = most 4 (omega (arith, hex_length 4 m)) digits

    pub end_room : f < length next
    end_room = more 4 0 (omega (arith, left 1 5 room (exact space))) piece

    pub mask_written : (after : List ℕ) (g : ℕ) → Wrote next f (10 ∷ []) after g → Wrote before at (mask_text m) after g
    mask_written after g last = (two 1 5 room (exact space) (λ h. two 4 1 h piece (λ l. exact last))).0

-- ---- a word before it
module _ (word before mid : List ℕ) (e : ℕ) (room : length word + 6 ≤ length before) (wrote : Wrote before 0 word mid e) where
  pub word_room : e + 6 ≤ length mid
  word_room = left (length word) 6 (omega arith) (exact wrote)

  pub word_written : (m : ℕ) (after : List ℕ) (g : ℕ) → Wrote mid e (mask_text m) after g → Wrote before 0 (word ++ mask_text m) after g
  word_written m after g last = (two (length word) 6 (omega arith) (exact wrote) (λ h. most 6 (mask_length m) last)).0

-- ---- lost
abbrev lost_word : List ℕ
lost_word = 108 ∷ 111 ∷ 115 ∷ 116 ∷ 32 ∷ []

module _ (b : ℕ) (small : b < 4294967296) (before mid : List ℕ) (e : ℕ) (room : 21 ≤ length before) (wrote : Wrote before 0 lost_word mid e) where
  short : length (decimal b) ≤ 10
  short = decimal_most 9 b (omega arith)

  behind : e + 16 ≤ length mid
  behind = left 5 16 room (exact wrote)

  pub bytes-room : e + length (decimal b) ≤ length mid
  bytes-room = omega (arith, behind, short)

  module _ (next : List ℕ) (f : ℕ) (digits : Wrote mid e (decimal b) next f) where
    pub mask_room : f + 6 ≤ length next
    mask_room = left 10 6 behind (most 10 short digits)

    pub lost_written : (m : ℕ) (after : List ℕ) (g : ℕ) → Wrote next f (mask_text m) after g
        → Wrote before 0 (lost_word ++ (decimal b ++ mask_text m)) after g
    lost_written m after g last =
        (two 5 16 room (exact wrote) (λ h. two 10 6 h (most 10 short digits) (λ l. most 6 (mask_length m) last))).0

-- ---- by the case of the answer
pub answered : (before after : List ℕ) (end : ℕ) (a b : TraceAnswer) → a ≡ b → Wrote before 0 (response_text (answer_means b)) after end
    → Wrote before 0 (response_text (answer_means a)) after end
answered before after end a b e wrote = subst (λ (x : TraceAnswer). Wrote before 0 (response_text (answer_means x)) after end) (sym e) wrote
