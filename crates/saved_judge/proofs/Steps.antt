-- The loops over the bytes of a number and over the cells of an array, over the width. Assumes
-- nothing.
--
--   Digits, digits_begin, digits_room, digits_more, digits_done   writing a number, byte by byte:
--                    what is left of it
--   Cells, cells_begin, cells_room, cells_more, cells_done   writing the numbers of cells, one by one
--   Read, read_begin, read_fits, read_more, read_done        reading a number, the highest byte first
--   Got, got_begin, got_more, got_done             reading cells, one by one
--   are_cells        the cells that were read
use Rattle.std.proofs.Common.{◌≡◌, ℕ, suc, ◌+◌, ◌-◌, ◌*◌, ◌/◌, ◌%◌, ◌^◌, ◌<◌, ◌≤◌, List, [], ◌∷◌, ◌++◌, length, map, get_or, drop, set, sym, ap, ◌∙◌, add-one, arith, lit<, length-append, length-set, drop_of_length-le, drop-cons}
use native.Mathlib.Nat.{pow-succ', pow-le-pow_right}
use Rattle.std.proofs.lemmas.List.{length-map, map-id, map-set}
use Rattle.base.proofs.Lists.{cell_stored}
use Rattle.text.specs.Writing.{Wrote}
use Rattle.saved_judge.specs.Little.{little_of, little_in, little_at, numbers_of, numbers_at}
use Rattle.saved_judge.proofs.Little.{little_length, numbers_length, numbers_are}
use Rattle.saved_judge.proofs.Goes.{Goes, begins, goes_on, ends-here}

-- ---- writing a number
module _ (before : List ℕ) (start w x : ℕ) where
  pub record Digits (out : List ℕ) (at i rest : ℕ) : Type 0 where
    pub most : i ≤ w
    pub goes : Goes before start (little_of w x) out at (little_of (w - i) rest)

  pub digits_begin : start + w ≤ length before → Digits before start 0 x
  digits_begin h =
      let e : w - 0 ≡ w = omega arith in
      record { most = omega arith; goes = rw e (begins before start (little_of w x) (omega (arith, little_length w x))) }

  module _ (out : List ℕ) (at i rest : ℕ) (d : Digits out at i rest) where
    pub digits_room : i < w → at < length out
    digits_room h = omega (arith, little_length (w - i) rest, d.goes.room)

    pub digits_more : {mid : List ℕ} {e : ℕ} → i < w → Wrote out at (rest % 256 ∷ []) mid e → Digits mid e (i + 1) (rest / 256)
    unfolding little_of
    digits_more h v =
        let is : w - i ≡ suc (w - (i + 1)) = omega arith in
        let g : Goes before start (little_of w x) out at (little_of (suc (w - (i + 1))) rest) = rw is at d.goes in
        record {
          most = omega arith;
          goes = goes_on before start (little_of w x) {p = rest % 256 ∷ []} {q = little_of (w - (i + 1)) (rest / 256)} g v;
        }

    pub digits_done : w ≤ i → Wrote before start (little_of w x) out at × (at ≡ start + w)
    unfolding little_of
    digits_done h =
        let none : w - i ≡ 0 = omega arith in
        let g : Goes before start (little_of w x) out at (little_of 0 rest) = rw none at d.goes in
        let v = ends-here before start (little_of w x) g in
        (v, omega (arith, v.ends, little_length w x))

-- ---- writing cells, which stand for numbers
module _ {T : Type 0} (value : T → ℕ) (before : List ℕ) (start w : ℕ) (cells : List T) where
  pub record Cells (out : List ℕ) (at i : ℕ) : Type 0 where
    pub goes : Goes before start (numbers_of w (map value cells)) out at (numbers_of w (map value (drop i cells)))

  long : length (numbers_of w (map value cells)) ≡ w * length cells
  long = numbers_length w (map value cells) ∙ ap (λ (n : ℕ). w * n) (length-map cells value)

  pub cells_begin : start + w * length cells ≤ length before → Cells before start 0
  cells_begin h = record { goes = begins before start (numbers_of w (map value cells)) (omega (arith, long)) }

  module _ (out : List ℕ) (at i : ℕ) (c : Cells out at i) (x : T) (v n : ℕ) (inside : i < length cells) (is : x ≡ get_or cells i x) (width : v ≡ w) (number : n ≡ value x) where
    next : Goes before start (numbers_of w (map value cells)) out at (little_of w (value x) ++ numbers_of w (map value (drop (suc i) cells)))
    unfolding numbers_of
    next = rw (drop-cons cells i x inside, ← is) at c.goes

    pub cells_room : at + v ≤ length out
    cells_room =
        omega (
          arith,
          next.room,
          length-append (little_of w (value x)) (numbers_of w (map value (drop (suc i) cells))),
          little_length w (value x),
          width,
        )

    pub cells_more : {mid : List ℕ} {e : ℕ} → Wrote out at (little_of v n) mid e → Cells mid e (i + 1)
    cells_more p = record { goes = rw add-one (goes_on before start (numbers_of w (map value cells)) next (rw (width, number) at p)) }

  pub cells_done : (out : List ℕ) (at i : ℕ) → Cells out at i → length cells ≤ i → Wrote before start (numbers_of w (map value cells)) out at × (at ≡ start + w * length cells)
  unfolding numbers_of
  cells_done out at i c h =
      let g : Goes before start (numbers_of w (map value cells)) out at (numbers_of w []) = rw (drop_of_length-le cells h) at c.goes in
      let v = ends-here before start (numbers_of w (map value cells)) g in
      (v, omega (arith, v.ends, long))

-- ---- reading a number
module _ (b : List ℕ) (at w : ℕ) where
  pub record Read (number left : ℕ) : Type 0 where
    pub most : left ≤ w
    pub eight : w ≤ 8
    pub room : at + w ≤ length b
    pub is : number ≡ little_at (w - left) b (at + left)
    pub below : number < 256 ^ (w - left)

  pub read_begin : w ≤ 8 → at + w ≤ length b → Read 0 w
  unfolding little_in
  read_begin h l =
      let e : w - w ≡ 0 = omega arith in
      record { most = omega arith; eight = h; room = l; is = rw e; below = rw e (omega arith) }

  module _ (number left : ℕ) (r : Read number left) where
    pub read_fits : 0 < left → number < 2 ^ 56
    read_fits h =
        let m : w - left ≤ 7 = omega (arith, r.eight, h) in
        let p : 256 ^ (w - left) ≤ 256 ^ 7 = pow-le-pow_right (lit< tt) m in
        omega (arith, p, r.below)

    pub read_more : 0 < left → get_or b (at + (left - 1)) 0 < 256 → Read (256 * number + get_or b (at + (left - 1)) 0) (left - 1)
    unfolding little_in
    read_more h l =
        let x = get_or b (at + (left - 1)) 0 in
        let e : w - (left - 1) ≡ suc (w - left) = omega (arith, r.most, h) in
        let f : suc (at + (left - 1)) ≡ at + left = omega (arith, h) in
        let here = drop-cons b (at + (left - 1)) 0 (omega (arith, r.most, r.room, h)) in
        let p = pow-succ' 256 (w - left) in
        record {
          most = omega (arith, r.most);
          eight = r.eight;
          room = r.room;
          is = rw (e, here, f) (omega (arith, r.is));
          below = rw e (omega (arith, p, r.below, l));
        }

    pub read_done : left ≤ 0 → (number ≡ little_at w b at) × (number < 256 ^ w)
    read_done h =
        let e : w - left ≡ w = omega (arith, h) in
        let f : at + left ≡ at = omega (arith, h) in
        (rw (e, f) at r.is, rw e at r.below)

-- ---- reading cells, which stand for numbers
module _ {T : Type 0} (value : T → ℕ) (b : List ℕ) (at w n : ℕ) where
  pub record Got (cells : List T) (i : ℕ) : Type 0 where
    pub size : length cells ≡ n
    pub room : at + w * n ≤ length b
    pub is : (c : ℕ) → c < i → get_or (map value cells) c 0 ≡ little_at w b (at + w * c)

  pub got_begin : (cells : List T) → length cells ≡ n → at + w * n ≤ length b → Got cells 0
  got_begin cells l h = record { size = l; room = h; is = λ c m. absurd (omega (arith, m)) }

  module _ (cells : List T) (i : ℕ) (g : Got cells i) where
    pub got_more : (x : T) (m : ℕ) → i < n → value x ≡ m → m ≡ little_at w b (at + w * i) → Got (set cells i x) (i + 1)
    got_more x m h v e = record {
      size = length-set cells i x ∙ g.size;
      room = g.room;
      is = rw (map-set value cells i x) (cell_stored (map value cells) (λ c. little_at w b (at + w * c)) i (value x) (omega (arith, length-map cells value, g.size)) (v ∙ e) g.is);
    }

    pub got_done : n ≤ i → map value cells ≡ numbers_at w n b at
    got_done h = numbers_are w n b at (map value cells) (length-map cells value ∙ g.size) (λ c m. g.is c (omega (arith, m)))

-- cells that are their own numbers
pub are_cells : (b : List ℕ) (at w m n : ℕ) (cells : List ℕ) → map (λ x. x) cells ≡ numbers_at w m b at → m ≡ n → cells ≡ numbers_at w n b at
are_cells b at w m n cells e f = sym (map-id cells) ∙ e ∙ ap (λ (k : ℕ). numbers_at w k b at) f
