-- A line that is read byte by byte means what it means as a whole. Assumes nothing.
--
-- The route: `means_from s w` is what the line means of which s was read and w is still to come; a
-- byte that goes over from w to s changes nothing (`step`).
use mathlib.Core.Path.{◌≡◌, refl, sym, ap, ◌∙◌}
use mathlib.Core.Bool.{true, cond}
use mathlib.Core.List.{List, [], ◌∷◌, ◌++◌}
use mathlib.Core.Option.{Option, none, some}
use Prim.Native.Nat.{ℕ, suc}
use borrow.Author.Tests.{eqb-true}
use lib.Dec.{eqb}
use lib.ListN.{length, drop}
use Rattle.base.proofs.Tests.{by_test}
use Rattle.lines.specs.Splitting.{begins, up_to, past}
use Rattle.hexfields.specs.Fields.{Begun, nothing, begun_by, says_now}
use Rattle.hexfields.proofs.Fields as field
use Rattle.mergetext.specs.declared.Verb.{Verb}
use Rattle.mergetext.specs.Lines.{Meaning, malformed, second_by, first_by, fields_in, line_in}
use Rattle.mergescan.specs.Lines.{Seen, start, in_word, in_first, in_second, stray, first_byte, after_first, seen_with, seen_by, means_now}

abbrev means_from : Seen → List ℕ → Meaning
means_from start w = line_in w
means_from (in_word verb x rest) w = cond (begins (x ∷ rest) w) (fields_in verb (drop (suc (length rest)) w)) malformed
means_from (in_first verb b) w = first_by verb (says_now (begun_by b (up_to 32 w))) (past 32 w)
means_from (in_second verb f b) w = second_by verb f (says_now (begun_by b w))
means_from stray w = malformed

-- ---- the line ends
ended : (s : Seen) → means_now s ≡ means_from s []
unfolding line_in begins up_to past
ended start = refl
ended (in_word verb x rest) = refl
ended (in_first verb b) = refl
ended (in_second verb f b) = refl
ended stray = refl

-- ---- it goes on
-- a first byte
first_step : (c : ℕ) (w : List ℕ) → line_in (c ∷ w) ≡ means_from (first_byte c) w
unfolding line_in begins
first_step c w =
    let is : (n : ℕ) → eqb c n ≡ true → line_in (c ∷ w) ≡ line_in (n ∷ w) = λ n e. ap (λ (x : ℕ). line_in (x ∷ w)) (eqb-true c n e) in
    by_test (eqb c 98) (λ t. is 98 t ∙ rw t) (λ e.
    by_test (eqb c 101) (λ t. is 101 t ∙ rw (e, t)) (λ f.
    by_test (eqb c 105) (λ t. is 105 t ∙ rw (e, f, t)) (λ g.
    by_test (eqb c 99) (λ t. is 99 t ∙ rw (e, f, g, t)) (λ h.
    by_test (eqb c 114) (λ t. is 114 t ∙ rw (e, f, g, h, t)) (λ i. rw (e, f, g, h, i))))))

-- a byte of the word
fields_begin : (verb : Verb) (w : List ℕ) → fields_in verb w ≡ means_from (in_first verb nothing) w
fields_begin verb w = ap (λ (o : Option (List ℕ)). first_by verb o (past 32 w)) (sym (field.whole (up_to 32 w)))

word_step : (verb : Verb) (x : ℕ) (rest : List ℕ) (c : ℕ) (w : List ℕ)
    → means_from (in_word verb x rest) (c ∷ w) ≡ means_from (seen_with (in_word verb x rest) c) w
unfolding begins
word_step verb x [] c w = by_test (eqb c x) (λ e. rw e (fields_begin verb w)) (λ e. rw e)
word_step verb x (y ∷ rest) c w = by_test (eqb c x) (λ e. rw e) (λ e. rw e)

-- the space behind the first field, and any other byte
space_step : (verb : Verb) (o : Option (List ℕ)) (w : List ℕ) → first_by verb o (some w) ≡ means_from (after_first verb o) w
space_step verb none w = refl
space_step verb (some f) w = ap (second_by verb f) (sym (field.whole w))

first_field_step : (verb : Verb) (b : Begun) (c : ℕ) (w : List ℕ)
    → means_from (in_first verb b) (c ∷ w) ≡ means_from (seen_with (in_first verb b) c) w
unfolding up_to past
first_field_step verb b c w =
    by_test (eqb c 32)
    (λ e. rw e (space_step verb (says_now b) w))
    (λ e. rw e)

step : (s : Seen) (c : ℕ) (w : List ℕ) → means_from s (c ∷ w) ≡ means_from (seen_with s c) w
step start c w = first_step c w
step (in_word verb x rest) c w = word_step verb x rest c w
step (in_first verb b) c w = first_field_step verb b c w
step (in_second verb f b) c w = refl
step stray c w = refl

means_by : (s : Seen) (w : List ℕ) → means_now (seen_by s w) ≡ means_from s w
means_by s [] = ended s
means_by s (c ∷ w) = means_by (seen_with s c) w ∙ sym (step s c w)

pub whole : (w : List ℕ) → means_now (seen_by start w) ≡ line_in w
whole w = means_by start w

pub pieces : (s : Seen) (v w : List ℕ) → seen_by s (v ++ w) ≡ seen_by (seen_by s v) w
pieces s [] w = refl
pieces s (c ∷ v) w = pieces (seen_with s c) v w
