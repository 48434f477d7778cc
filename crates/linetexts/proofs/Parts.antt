-- The parts of a block. Assumes nothing.
--
--   parts_there, parts_last   the first part, where a line feed follows and where none does
--   part_ended, part_on       the part at an index, by where the next line feed was found
--   first_part                the first part and the rest
--   lines_split               the lines that the parts end, and those of what follows
use mathlib.Core.Path.{◌≡◌, refl, sym, ap, ap₂, ◌∙◌, subst}
use mathlib.Core.Bool.{cond}
use mathlib.Core.List.{List, [], ◌∷◌, ◌++◌, append_assoc, append-nil}
use Prim.Native.Nat.{ℕ, suc, ◌+◌, ◌-◌, ◌≤◌, ◌<◌}
use native.Mathlib.Numerals.{add-one}
use native.Mathlib.Omega.{arith}
use borrow.Author.Tests.{ltb-true, ltb-false}
use lib.Dec.{eqb, ltb}
use lib.ListN.{length, take, drop}
use lib.Seq.{drop-length}
use Rattle.base.proofs.Tests.{by_test, either}
use Rattle.lines.specs.Splitting.{up_to, lines_from}
use Rattle.lines.proofs.Splits.{up_whole}
use Rattle.lines.proofs.Parts.{part-rest, part_is}
use Rattle.linetexts.specs.Parts.{Part, ends, goes_on, before, parts_of, first_of, part_at, part_size, lines_ended, line_begun, FirstPart}

pub parts_there : (w : List ℕ) → length (up_to 10 w) < length w → parts_of w ≡ ends (up_to 10 w) ∷ parts_of (drop (suc (length (up_to 10 w))) w)
unfolding up_to parts_of
parts_there [] = λ h. absurd (omega arith)
parts_there (x ∷ w) =
    either (eqb x 10)
    (λ t. length (cond t [] (x ∷ up_to 10 w)) < suc (length w)
    → cond t (ends [] ∷ parts_of w) (before x (parts_of w)) ≡ ends (cond t [] (x ∷ up_to 10 w)) ∷ parts_of (drop (length (cond t [] (x ∷ up_to 10 w))) w))
    (λ h. refl)
    (λ h. ap (before x) (parts_there w (omega arith)))

-- no line feed: one part, if there is a byte
last_part : List ℕ → List Part
last_part [] = []
last_part (x ∷ w) = goes_on (x ∷ w) ∷ []

before_last : (x : ℕ) (w : List ℕ) → before x (last_part w) ≡ goes_on (x ∷ w) ∷ []
unfolding last_part
before_last x [] = refl
before_last x (y ∷ w) = refl

last_by : (w : List ℕ) → length w ≤ length (up_to 10 w) → parts_of w ≡ last_part w
unfolding up_to parts_of last_part
last_by [] = λ h. refl
last_by (x ∷ w) =
    either (eqb x 10)
    (λ t. suc (length w) ≤ length (cond t [] (x ∷ up_to 10 w)) → cond t (ends [] ∷ parts_of w) (before x (parts_of w)) ≡ goes_on (x ∷ w) ∷ [])
    (λ h. absurd (omega arith))
    (λ h. ap (before x) (last_by w (omega arith)) ∙ before_last x w)

last-is : (w : List ℕ) → 0 < length w → last_part w ≡ goes_on w ∷ []
unfolding last_part
last-is [] h = absurd (omega arith)
last-is (x ∷ w) h = refl

pub parts_last : (w : List ℕ) → 0 < length w → length w ≤ length (up_to 10 w) → parts_of w ≡ goes_on w ∷ []
parts_last w some h = last_by w h ∙ last-is w some

-- ---- the first part and the rest
first_by : (block : List ℕ) (p : Part) → parts_of block ≡ p ∷ parts_of (drop (part_size p) block) → 0 < part_size p → part_size p ≤ length block
    → FirstPart block (first_of (parts_of block))
first_by block p e forward within =
    subst (λ (q : Part). FirstPart block q) (sym (ap first_of e)) (record { forward = forward; within = within; rest = e })

pub first_part : (block : List ℕ) → 0 < length block → FirstPart block (first_of (parts_of block))
unfolding parts_of
first_part block some =
    by_test (ltb (length (up_to 10 block)) (length block))
    (λ t.
    let there = ltb-true (length (up_to 10 block)) (length block) t in
    first_by block (ends (up_to 10 block))
    (parts_there block there ∙ ap (λ (n : ℕ). ends (up_to 10 block) ∷ parts_of (drop n block)) (sym (add-one (length (up_to 10 block)))))
    (omega arith)
    (omega (arith, there)))
    (λ t.
    let none = ltb-false (length (up_to 10 block)) (length block) t in
    first_by block (goes_on block)
    (parts_last block some none ∙ ap (λ (v : List ℕ). goes_on block ∷ parts_of v) (sym (drop-length block)))
    some
    (omega arith))

-- ---- the part at an index
module _ (block : List ℕ) (at end : ℕ) (here : at < length block) (found : end ≡ at + length (up_to 10 (drop at block))) where
  rest : length (drop at block) + at ≡ length block
  rest = part-rest block at end here found

  pub part_ended : end < length block → part_at block at ≡ ends (take (end - at) (drop at block))
  part_ended l =
      ap first_of (parts_there (drop at block) (omega (arith, found, rest, l)))
      ∙ ap ends (sym (part_is block at end here found))

  pub part_on : length block ≤ end → part_at block at ≡ goes_on (take (end - at) (drop at block))
  part_on l =
      let none : length (drop at block) ≤ length (up_to 10 (drop at block)) = omega (arith, found, rest, l) in
      ap first_of (parts_last (drop at block) (omega (arith, rest)) none)
      ∙ ap goes_on (sym (part_is block at end here found ∙ up_whole 10 (drop at block) none))

-- ---- the lines
module _ (w more : List ℕ) where
  split : List Part → List (List ℕ)
  split ps = lines_ended w ps ++ lines_from (line_begun w ps) more

split_before : (w more : List ℕ) (x : ℕ) (ps : List Part) → split (w ++ (x ∷ [])) more ps ≡ split w more (before x ps)
unfolding split lines_ended line_begun
split_before w more x [] = refl
split_before w more x (ends p ∷ ps) =
    ap (λ (l : List ℕ). l ∷ (lines_ended [] ps ++ lines_from (line_begun [] ps) more)) (append_assoc w (x ∷ []) p)
split_before w more x (goes_on p ∷ ps) =
    ap (λ (l : List ℕ). lines_ended l ps ++ lines_from (line_begun l ps) more) (append_assoc w (x ∷ []) p)

split_by : (block w more : List ℕ) → lines_from w (block ++ more) ≡ split w more (parts_of block)
unfolding split lines_from parts_of lines_ended line_begun
split_by [] w more = refl
split_by (x ∷ block) w more =
    either (eqb x 10)
    (λ t. cond t (w ∷ lines_from [] (block ++ more)) (lines_from (w ++ (x ∷ [])) (block ++ more))
    ≡ split w more (cond t (ends [] ∷ parts_of block) (before x (parts_of block))))
    (ap₂ (λ (l : List ℕ) (ls : List (List ℕ)). l ∷ ls) (sym (append-nil w)) (split_by block [] more))
    (split_by block (w ++ (x ∷ [])) more ∙ split_before w more x (parts_of block))

pub lines_split : (block w more : List ℕ) → lines_from w (block ++ more) ≡ lines_ended w (parts_of block) ++ lines_from (line_begun w (parts_of block)) more
unfolding split
lines_split block w more = split_by block w more
