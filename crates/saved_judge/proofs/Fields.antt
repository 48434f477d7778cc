-- Fields in bytes: what is written is read back, and bytes are those of what is read from them.
-- Assumes nothing.
--
--   Shape, shape w n    n numbers, in w bytes each
--   shapes fs           the shapes of the fields fs
--   fields_at l b i      the fields of the shapes l that stand in b from i on
--   size_in l           how many bytes they have
--   AllFit fs           each number of fs has room
--   fields_back, fields_cut   the two ways
--   fields_bytes        the bytes of fields are bytes
use Rattle.std.proofs.Common.{◌≡◌, ℕ, ◌+◌, ◌*◌, ◌^◌, ◌<◌, ◌≤◌, List, [], ◌∷◌, ◌++◌, length, get_or, drop, sym, refl, ap, ◌∙◌, ap₂, append_assoc, arith, length-append, length-drop, drop-drop, drop_at}
use Rattle.ruleformat.specs.Writing.{Bytes}
use Rattle.ruleformat.proofs.Writing.{bytes_append}
use Rattle.saved_judge.specs.Little.{numbers_of, numbers_in, numbers_at}
use Rattle.saved_judge.specs.Saved.{Field, field, bytes_in}
use Rattle.saved_judge.proofs.Little.{bytes_drop, numbers_length, numbers_bytes, numbers_back, numbers_cut}

pub data Shape : Type 0 where
  shape : ℕ → ℕ → Shape

abbrev pub shapes : List Field → List Shape
shapes [] = []
shapes (field w xs ∷ fs) = shape w (length xs) ∷ shapes fs

abbrev pub fields_at : List Shape → List ℕ → ℕ → List Field
fields_at [] b i = []
fields_at (shape w n ∷ l) b i = field w (numbers_at w n b i) ∷ fields_at l b (i + w * n)

abbrev pub size_in : List Shape → ℕ
size_in [] = 0
size_in (shape w n ∷ l) = w * n + size_in l

abbrev pub AllFit : List Field → Type 0
AllFit [] = Unit {0}
AllFit (field w xs ∷ fs) = ((i : ℕ) → get_or xs i 0 < 256 ^ w) × AllFit fs

pub fields_back : (fs : List Field) → AllFit fs → (pre r : List ℕ) (i : ℕ) → length pre ≡ i → fields_at (shapes fs) (pre ++ (bytes_in fs ++ r)) i ≡ fs
unfolding bytes_in
fields_back [] fit pre r i e = refl
fields_back (field w xs ∷ fs) fit pre r i e =
    let whole = pre ++ ((numbers_of w xs ++ bytes_in fs) ++ r) in
    let same : whole ≡ (pre ++ numbers_of w xs) ++ (bytes_in fs ++ r) =
    ap (λ (z : List ℕ). pre ++ z) (append_assoc (numbers_of w xs) (bytes_in fs) r) ∙ sym (append_assoc pre (numbers_of w xs) (bytes_in fs ++ r)) in
    let here : drop i whole ≡ numbers_of w xs ++ (bytes_in fs ++ r) =
    drop_at pre ((numbers_of w xs ++ bytes_in fs) ++ r) i e ∙ append_assoc (numbers_of w xs) (bytes_in fs) r in
    let first : numbers_at w (length xs) whole i ≡ xs = ap (numbers_in w (length xs)) here ∙ numbers_back w xs (bytes_in fs ++ r) fit.0 in
    let place : length (pre ++ numbers_of w xs) ≡ i + w * length xs = length-append pre (numbers_of w xs) ∙ ap₂ ◌+◌ e (numbers_length w xs) in
    let rest : fields_at (shapes fs) whole (i + w * length xs) ≡ fs =
    ap (λ (z : List ℕ). fields_at (shapes fs) z (i + w * length xs)) same ∙ fields_back fs fit.1 (pre ++ numbers_of w xs) r (i + w * length xs) place in
    ap₂ (λ (ys : List ℕ) (gs : List Field). field w ys ∷ gs) first rest

pub fields_cut : (l : List Shape) (b : List ℕ) (i : ℕ) → i + size_in l ≤ length b → Bytes b → drop i b ≡ bytes_in (fields_at l b i) ++ drop (i + size_in l) b
unfolding bytes_in
fields_cut [] b i h bytes = let e : i ≡ i + 0 = omega arith in ap (λ (m : ℕ). drop m b) e
fields_cut (shape w n ∷ l) b i h bytes =
    let e : i + w * n + size_in l ≡ i + (w * n + size_in l) = omega arith in
    let first = numbers_cut w n (drop i b) (rw (length-drop i b) (omega (arith, h))) (bytes_drop b i bytes) in
    let rest = fields_cut l b (i + w * n) (omega (arith, h)) bytes in
    first
    ∙ ap (λ (z : List ℕ). numbers_of w (numbers_at w n b i) ++ z) (drop-drop (w * n) i b ∙ rest)
    ∙ sym (append_assoc (numbers_of w (numbers_at w n b i)) (bytes_in (fields_at l b (i + w * n))) (drop (i + w * n + size_in l) b))
    ∙ ap (λ (m : ℕ). (numbers_of w (numbers_at w n b i) ++ bytes_in (fields_at l b (i + w * n))) ++ drop m b) e

pub fields_bytes : (fs : List Field) → Bytes (bytes_in fs)
unfolding bytes_in
fields_bytes [] = λ i. omega arith
fields_bytes (field w xs ∷ fs) = bytes_append (numbers_of w xs) (bytes_in fs) (numbers_bytes w xs) (fields_bytes fs)
