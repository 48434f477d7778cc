-- Pieces written one after the other, by what is left of them. Assumes nothing.
--
--   Goes         what is left has its room, and where it is written the whole is
--   begins       nothing is written yet
--   goes_on      a piece of it more
--   ends-here    nothing is left
--   Rest         the fields that are left
--   all_left     all of them
--   next_field, next_cells, next_one   a field more, an array of cells more, a number alone more
--   none_left    none of them
use Rattle.std.proofs.Common.{◌≡◌, ℕ, ◌+◌, ◌≤◌, List, [], ◌∷◌, ◌++◌, length, map, map-id, refl, arith, length-append}
use Rattle.text.specs.Writing.{Wrote}
use Rattle.text.proofs.Pieces.{wrote_none, wrote_more, wrote_length}
use Rattle.saved_judge.specs.Little.{little_of, numbers_of}
use Rattle.saved_judge.specs.Saved.{Field, field, one, bytes_in}
use Rattle.saved_judge.proofs.Little.{single_of}

module _ (before : List ℕ) (start : ℕ) (whole : List ℕ) where
  pub record Goes (out : List ℕ) (at : ℕ) (left : List ℕ) : Type 0 where
    pub room : at + length left ≤ length out
    pub kept : length out ≡ length before
    pub goes : (after : List ℕ) (end : ℕ) → Wrote out at left after end → Wrote before start whole after end

  pub begins : start + length whole ≤ length before → Goes before start whole
  begins h = record { room = h; kept = refl; goes = λ after end w. w }

  module _ {out : List ℕ} {at : ℕ} where
    pub goes_on : {p q mid : List ℕ} {e : ℕ} → Goes out at (p ++ q) → Wrote out at p mid e → Goes mid e q
    goes_on {p} {q} {mid} {e} g w =
        let fits : at + length p ≤ length out = omega (arith, g.room, length-append p q) in
        let same = wrote_length out at p mid e fits w in
        record {
          room = omega (arith, g.room, length-append p q, same, w.ends);
          kept = omega (arith, same, g.kept);
          goes = λ after end v. g.goes after end (wrote_more out at p q fits mid after e end w v);
        }

    pub ends-here : Goes out at [] → Wrote before start whole out at
    ends-here g = g.goes out at (wrote_none out at)

-- ---- fields
pub record Rest (before : List ℕ) (start : ℕ) (whole out : List ℕ) (at : ℕ) (fs : List Field) : Type 0 where
  pub left : Goes before start whole out at (bytes_in fs)

pub all_left : (before : List ℕ) (start : ℕ) (fs : List Field) → start + length (bytes_in fs) ≤ length before
    → Rest before start (bytes_in fs) before start fs
all_left before start fs h = record { left = begins before start (bytes_in fs) h }

module _ {before : List ℕ} {start : ℕ} {whole out : List ℕ} {at : ℕ} where
  pub next_field : {w : ℕ} {xs : List ℕ} {fs : List Field} {mid : List ℕ} {e : ℕ}
      → Rest before start whole out at (field w xs ∷ fs) → Wrote out at (numbers_of w xs) mid e → Rest before start whole mid e fs
  unfolding bytes_in
  next_field r w = record { left = goes_on before start whole r.left w }

  pub next_cells : {w : ℕ} {xs : List ℕ} {fs : List Field} {mid : List ℕ} {e : ℕ}
      → Rest before start whole out at (field w xs ∷ fs) → Wrote out at (numbers_of w (map (λ x. x) xs)) mid e → Rest before start whole mid e fs
  next_cells {w} {xs} r v = next_field r (rw (map-id xs) at v)

  pub next_one : {w x : ℕ} {fs : List Field} {mid : List ℕ} {e : ℕ}
      → Rest before start whole out at (one w x ∷ fs) → Wrote out at (little_of w x) mid e → Rest before start whole mid e fs
  next_one {w} {x} r v = next_field r (rw (single_of w x) v)

  pub none_left : Rest before start whole out at [] → Wrote before start whole out at
  unfolding bytes_in
  none_left r = ends-here before start whole r.left
