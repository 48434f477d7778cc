-- Rule files worked by hand, at the edges of what is read: one list, and one claim over it. A
-- refused file is as near to an accepted one as can be. proofs/Cases.antt proves the claim.
--
--   no_arcs n k     the file with n states, k symbols, both masks 0 and no arcs
--   case f answer   the file f and its number, none where it is accepted
--   files           the list
--   Answered cases  each file has the answer beside it
use Rattle.std.specs.Prelude.{◌≡◌, List, [], ◌∷◌, ◌++◌, ℕ, ◌+◌, ◌*◌, take, set, replicate}
use Rattle.std.proofs.Math.Option.{Option, none, some}
use Rattle.base.specs.Lists.{joined}
use Rattle.ruleformat.specs.Refusals.{refusal}
use Rattle.ruleformat.specs.Writing.{file_of}
use Rattle.ruleformat.specs.Worked.{file_A, file_A_final_8, full_rule}

-- each pair is (10 + 4n, 0), and n is small enough that 10 + 4n is a byte
abbrev pub no_arcs : ℕ → ℕ → List ℕ
no_arcs n k = n ∷ k ∷ (replicate 8 0x00 ++ joined (λ q. (10 + 4 * n) ∷ 0x00 ∷ 0x00 ∷ 0x00 ∷ []) n)

pub data Case : Type 0 where
  case : List ℕ → Option ℕ → Case

abbrev pub files : List Case
files =
    -- the fewest and the most states and symbols; masks that are 0; no arcs; and the longest file
    case (no_arcs 1 1) none ∷
    case (no_arcs 32 16) none ∷
    case (file_of full_rule) none ∷
    -- 1: rule A cut after 9 bytes
    case (take 9 file_A) (some 1) ∷
    -- 2: the longest file and one byte more
    case (file_of full_rule ++ (0x00 ∷ [])) (some 2) ∷
    -- 3: n = 0, n = 33
    case (no_arcs 0 16) (some 3) ∷
    case (no_arcs 33 16) (some 3) ∷
    -- 4: k = 0, k = 17
    case (no_arcs 32 0) (some 4) ∷
    case (no_arcs 32 17) (some 4) ∷
    -- 5: rule A cut in its last pair
    case (take 21 file_A) (some 5) ∷
    -- 6: rule A with a state 3, which it lacks, in the initial mask; in the final mask (P10)
    case (set file_A 2 0x08) (some 6) ∷
    case file_A_final_8 (some 6) ∷
    -- 7: rule A with its sections from byte 24 on; with bytes 28 and 29 in no section; with
    -- sections of 5 and 3 bytes; with an arc after the last section; without the last arc
    case (set (set file_A 10 0x18) 12 0x04) (some 7) ∷
    case (set (set file_A 14 0x1E) 16 0x00) (some 7) ∷
    case (set (set (set file_A 12 0x05) 14 0x1B) 16 0x03) (some 7) ∷
    case (file_A ++ (0x01 ∷ 0x02 ∷ [])) (some 7) ∷
    case (take 28 file_A) (some 7) ∷
    -- 8: rule A with the arc (k, 2); with (1, n); with (0, 0) twice; with (0, 1) before (0, 0);
    -- with (1, 0) before (0, 1)
    case (set file_A 28 0x02) (some 8) ∷
    case (set file_A 29 0x03) (some 8) ∷
    case (set file_A 25 0x00) (some 8) ∷
    case (set (set file_A 23 0x01) 25 0x00) (some 8) ∷
    case (set file_A 22 0x01) (some 8) ∷ []

abbrev pub Answered : List Case → Type 0
Answered [] = Unit {0}
Answered (case f answer ∷ cases) = (refusal f ≡ answer) × Answered cases
