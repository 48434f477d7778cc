-- The laws of splitting, byte by byte. Assumes nothing.
use mathlib.Core.Path.{◌≡◌, refl, sym, ap, ap₂, ◌∙◌}
use mathlib.Core.Bool.{true, false, cond, ◌&&◌, and-eq-true_iff}
use mathlib.Core.List.{List, [], ◌∷◌, ◌++◌, append_assoc, append-nil}
use mathlib.Core.Option.{none, some}
use Prim.Native.Nat.{ℕ, suc, ◌+◌, ◌≤◌, ◌<◌}
use native.Mathlib.Numerals.{add-one}
use native.Mathlib.Omega.{arith}
use borrow.Author.Tests.{eq-eqb, ne_eqb, eqb-true}
use lib.Dec.{eqb}
use lib.ListN.{length, get_or, take, drop, drop_of_length-le}
use lib.Seq.{drop-cons, take_all}
use Rattle.base.proofs.Options.{none-some}
use Rattle.base.proofs.Tests.{by_test, either, not_both}
use Rattle.lines.specs.Splitting.{begins, up_to, past, last_line, lines_from}

-- ---- the first c from i on
module _ (c : ℕ) (w : List ℕ) (i : ℕ) where
  pub up_here : i < length w → get_or w i 0 ≡ c → length (up_to c (drop i w)) ≡ 0
  unfolding up_to
  up_here h e = rw (drop-cons w i 0 h, eq-eqb (get_or w i 0) c e)

  pub up_on : i < length w → (get_or w i 0 ≡ c → ⊥) → i + length (up_to c (drop i w)) ≡ i + 1 + length (up_to c (drop (i + 1) w))
  unfolding up_to
  up_on h e = rw (add-one, drop-cons w i 0 h, ne_eqb (get_or w i 0) c e) (omega arith)

  pub up_end : length w ≤ i → length (up_to c (drop i w)) ≡ 0
  unfolding up_to
  up_end h = rw (drop_of_length-le w h)

-- ---- the heads from i on
module _ (h w : List ℕ) (i : ℕ) where
  pub begins_not : i < length h → i < length w → (get_or w i 0 ≡ get_or h i 0 → ⊥) → begins (drop i h) (drop i w) ≡ false
  unfolding begins
  begins_not a b e = rw (drop-cons h i 0 a, drop-cons w i 0 b, ne_eqb (get_or w i 0) (get_or h i 0) e)

  pub begins_on : i < length h → i < length w → get_or w i 0 ≡ get_or h i 0
      → begins (drop i h) (drop i w) ≡ begins (drop (i + 1) h) (drop (i + 1) w)
  unfolding begins
  begins_on a b e = rw (add-one, drop-cons h i 0 a, drop-cons w i 0 b, eq-eqb (get_or w i 0) (get_or h i 0) e)

  pub begins_end : length h ≤ i → begins (drop i h) (drop i w) ≡ true
  unfolding begins
  begins_end a = rw (drop_of_length-le h a)

pub begins_short : (h w : List ℕ) → length w < length h → begins h w ≡ false
unfolding begins
begins_short [] w l = absurd (omega arith)
begins_short (c ∷ h) [] l = refl
begins_short (c ∷ h) (x ∷ w) l = rw (begins_short h w (omega arith)) (either (eqb x c) (λ t. t && false ≡ false) refl refl)

-- a text that begins with the head is the head and what stands behind it
pub begins_whole : (h w : List ℕ) → begins h w ≡ true → w ≡ h ++ drop (length h) w
unfolding begins
begins_whole [] w e = refl
begins_whole (c ∷ h) [] e = not_both e refl
begins_whole (c ∷ h) (x ∷ w) e =
    let both = (and-eq-true_iff (eqb x c) (begins h w)).0 e in
    ap₂ ◌∷◌ (eqb-true x c both.0) (begins_whole h w both.1)

-- ---- where a text is split
module _ (c : ℕ) where
  pub past_whole : (w v : List ℕ) → past c w ≡ some v → w ≡ up_to c w ++ (c ∷ v)
  unfolding up_to past
  past_whole [] v e = none-some refl e
  past_whole (x ∷ w) v e =
      by_test (eqb x c)
      (λ t.
      let is : some w ≡ some v = rw t at e in
      let rest : w ≡ v = cc in
      rw t (ap₂ ◌∷◌ (eqb-true x c t) rest))
      (λ f. rw f (ap (λ (l : List ℕ). x ∷ l) (past_whole w v (rw f at e))))

  pub up_most : (w : List ℕ) → length (up_to c w) ≤ length w
  unfolding up_to
  up_most [] = omega arith
  up_most (x ∷ w) = either (eqb x c) (λ t. length (cond t [] (x ∷ up_to c w)) ≤ suc (length w)) (omega arith) (omega (arith, up_most w))

  pub up_take : (w : List ℕ) → up_to c w ≡ take (length (up_to c w)) w
  unfolding up_to
  up_take [] = refl
  up_take (x ∷ w) = either (eqb x c) (λ t. cond t [] (x ∷ up_to c w) ≡ take (length (cond t [] (x ∷ up_to c w))) (x ∷ w)) refl (ap (λ (l : List ℕ). x ∷ l) (up_take w))

  pub past_there : (w : List ℕ) → length (up_to c w) < length w → past c w ≡ some (drop (suc (length (up_to c w))) w)
  unfolding up_to past
  past_there [] = λ h. absurd (omega arith)
  past_there (x ∷ w) = either (eqb x c) (λ t. length (cond t [] (x ∷ up_to c w)) < suc (length w) → cond t (some w) (past c w) ≡ some (drop (length (cond t [] (x ∷ up_to c w))) w)) (λ h. refl) (λ h. past_there w (omega arith))

  pub past_none : (w : List ℕ) → length w ≤ length (up_to c w) → past c w ≡ none
  unfolding up_to past
  past_none [] = λ h. refl
  past_none (x ∷ w) = either (eqb x c) (λ t. suc (length w) ≤ length (cond t [] (x ∷ up_to c w)) → cond t (some w) (past c w) ≡ none) (λ h. absurd (omega arith)) (λ h. past_none w (omega arith))

-- a text that goes on, where the byte is there already
module _ (c : ℕ) where
  pub up_append : (v t : List ℕ) → length (up_to c v) < length v → up_to c (v ++ t) ≡ up_to c v
  unfolding up_to
  up_append [] t = λ h. absurd (omega arith)
  up_append (x ∷ v) t =
      either (eqb x c)
      (λ b. length (cond b [] (x ∷ up_to c v)) < suc (length v) → cond b [] (x ∷ up_to c (v ++ t)) ≡ cond b [] (x ∷ up_to c v))
      (λ h. refl)
      (λ h. ap (λ (l : List ℕ). x ∷ l) (up_append v t (omega arith)))

pub up_whole : (c : ℕ) (w : List ℕ) → length w ≤ length (up_to c w) → up_to c w ≡ w
up_whole c w h = up_take c w ∙ take_all (length (up_to c w)) w h

-- ---- the lines
pub lines_there : (w line : List ℕ) → length (up_to 10 w) < length w
    → lines_from line w ≡ (line ++ up_to 10 w) ∷ lines_from [] (drop (suc (length (up_to 10 w))) w)
unfolding up_to lines_from
lines_there [] line = λ h. absurd (omega arith)
lines_there (x ∷ w) line =
    either (eqb x 10) (λ t.
    length (cond t [] (x ∷ up_to 10 w)) < suc (length w)
    → cond t (line ∷ lines_from [] w) (lines_from (line ++ (x ∷ [])) w) ≡ (line ++ cond t [] (x ∷ up_to 10 w)) ∷ lines_from [] (drop (length (cond t [] (x ∷ up_to 10 w))) w))
    (λ h. ap (λ (l : List ℕ). l ∷ lines_from [] w) (sym (append-nil line)))
    (λ h. lines_there w (line ++ (x ∷ [])) (omega arith) ∙ ap (λ (l : List ℕ). l ∷ lines_from [] (drop (suc (length (up_to 10 w))) w)) (append_assoc line (x ∷ []) (up_to 10 w)))

pub lines_last : (w line : List ℕ) → length w ≤ length (up_to 10 w) → lines_from line w ≡ last_line (line ++ w)
unfolding up_to lines_from
lines_last [] line = λ h. ap last_line (sym (append-nil line))
lines_last (x ∷ w) line =
    either (eqb x 10) (λ t.
    suc (length w) ≤ length (cond t [] (x ∷ up_to 10 w)) → cond t (line ∷ lines_from [] w) (lines_from (line ++ (x ∷ [])) w) ≡ last_line (line ++ (x ∷ w)))
    (λ h. absurd (omega arith))
    (λ h. lines_last w (line ++ (x ∷ [])) (omega arith) ∙ ap last_line (append_assoc line (x ∷ []) w))

-- a text without a line feed, and what follows it
pub lines_over : (v t line : List ℕ) → length v ≤ length (up_to 10 v) → lines_from line (v ++ t) ≡ lines_from (line ++ v) t
unfolding up_to lines_from
lines_over [] t line = λ h. ap (λ (l : List ℕ). lines_from l t) (sym (append-nil line))
lines_over (x ∷ v) t line =
    either (eqb x 10)
    (λ b. suc (length v) ≤ length (cond b [] (x ∷ up_to 10 v))
    → cond b (line ∷ lines_from [] (v ++ t)) (lines_from (line ++ (x ∷ [])) (v ++ t)) ≡ lines_from (line ++ (x ∷ v)) t)
    (λ h. absurd (omega arith))
    (λ h. lines_over v t (line ++ (x ∷ [])) (omega arith) ∙ ap (λ (l : List ℕ). lines_from l t) (append_assoc line (x ∷ []) v))
