-- The judge in its fields: there and back. Assumes nothing.
--
--   layout            the shapes of all that comes before the digest
--   head_numbers, head_is_right   what a right head says, number by number
--   read_all          the fields that stand in bytes with a right head are those of the judge in them
--   shapes_are, all_fit   the fields of a judge whose numbers fit have that layout, and fit
--   head_in           the head of bytes in which the fields of a judge stand
--   judge_of_lem, judge_in  the judge that fields are of, and the one that stands in bytes
--   fits_in           the numbers of the judge that stands in bytes fit
use Rattle.std.proofs.Common.{◌≡◌, ℕ, zero, suc, ◌^◌, ◌<◌, Bool, true, false, ◌&&◌, eqb, List, [], ◌∷◌, get_or, refl, ap, lit<, eqb-true}
use native.Mathlib.Nat.{one-le-pow}
use Rattle.base.proofs.Tests.{not_both}
use Rattle.ruleformat.specs.Writing.{Bytes}
use Rattle.calls.specs.declared.Judge.{Judge}
use Rattle.saved_judge.specs.Little.{little_at, numbers_in, numbers_at}
use Rattle.saved_judge.specs.Saved.{Field, field, fields_of, head_right, judge_at}
use Rattle.saved_judge.specs.Claims.{Cells, Fits}
use Rattle.saved_judge.proofs.Little.{bytes_drop, little_below, numbers-below, numbers_count, single_in}
use Rattle.saved_judge.proofs.Fields.{Shape, shape, shapes, fields_at, AllFit}

pub and_both : (a b : Bool) → (a && b) ≡ true → (a ≡ true) × (b ≡ true)
and_both true b e = (refl, e)
and_both false b e = not_both e refl

abbrev pub layout : List Shape
layout =
    shape 1 1 ∷ shape 1 1 ∷ shape 1 1 ∷ shape 1 1 ∷ shape 4 1 ∷
    shape 1 1 ∷ shape 1 1 ∷ shape 1 1 ∷ shape 2 1 ∷ shape 4 1 ∷ shape 4 1 ∷
    shape 1 32 ∷ shape 2 32 ∷ shape 4 512 ∷ shape 2 8192 ∷
    shape 1 1 ∷ shape 1 64 ∷ shape 4 64 ∷ shape 4 64 ∷ shape 8 64 ∷ shape 4 2048 ∷ []

pub record Head (b : List ℕ) : Type 0 where
  pub first : little_at 1 b 0 ≡ 66
  pub second : little_at 1 b 1 ≡ 66
  pub third : little_at 1 b 2 ≡ 74
  pub version : little_at 1 b 3 ≡ 1
  pub size : little_at 4 b 4 ≡ 27838

pub head_is_right : (b : List ℕ) → Head b → head_right b ≡ true
unfolding head_right
head_is_right b h = rw (h.first, h.second, h.third, h.version, h.size)

pub head_numbers : (b : List ℕ) → head_right b ≡ true → Head b
unfolding head_right
head_numbers b e =
    let p = and_both (eqb (little_at 1 b 0) 66) _ e in
    let q = and_both (eqb (little_at 1 b 1) 66) _ p.1 in
    let r = and_both (eqb (little_at 1 b 2) 74) _ q.1 in
    let s = and_both (eqb (little_at 1 b 3) 1) _ r.1 in
    record {
      first = eqb-true _ _ p.0;
      second = eqb-true _ _ q.0;
      third = eqb-true _ _ r.0;
      version = eqb-true _ _ s.0;
      size = eqb-true _ _ s.1;
    }

-- ---- from bytes
pub read_all : (b : List ℕ) → Head b → fields_at layout b 0 ≡ fields_of (judge_at b)
read_all b h = simp (single_in) (rw (h.first, h.second, h.third, h.version, h.size))

module _ (b : List ℕ) (bytes : Bytes b) where
  number_in : (w i : ℕ) → little_at w b i < 256 ^ w
  number_in w i = little_below w _ (bytes_drop b i bytes)

  cells_in : (w n i : ℕ) → Cells w n (numbers_at w n b i)
  cells_in w n i = record { size = numbers_count w n _; below = numbers-below w n _ (bytes_drop b i bytes) }

  pub fits_in : Fits (judge_at b)
  fits_in = record {
    built = record {
      states = number_in 1 8;
      symbols = number_in 1 9;
      startcount = number_in 1 10;
      setcount = number_in 2 11;
      initials = number_in 4 13;
      finals = number_in 4 17;
      delegates = cells_in 1 32 21;
      singles = cells_in 2 32 53;
      sets = cells_in 4 512 117;
      next = cells_in 2 8192 2165;
    };
    board = record {
      places = number_in 1 18549;
      filled = cells_in 1 64 18550;
      counts = cells_in 4 64 18614;
      lengths = cells_in 4 64 18870;
      revisions = cells_in 8 64 19126;
      ends = cells_in 4 2048 19638;
    };
  }

-- ---- from a judge
module _ (j : Judge) (fits : Fits j) where
  pub shapes_are : shapes (fields_of j) ≡ layout
  shapes_are =
      rw (
        fits.built.delegates.size,
        fits.built.singles.size,
        fits.built.sets.size,
        fits.built.next.size,
        fits.board.filled.size,
        fits.board.counts.size,
        fits.board.lengths.size,
        fits.board.revisions.size,
        fits.board.ends.size,
      )

  alone : (w x : ℕ) → x < 256 ^ w → (i : ℕ) → get_or (x ∷ []) i 0 < 256 ^ w
  alone w x h zero = h
  alone w x h (suc i) = one-le-pow w 256 (lit< tt)

  pub all_fit : AllFit (fields_of j)
  all_fit = (
    alone 1 66 (lit< tt),
    (
      alone 1 66 (lit< tt),
      (
        alone 1 74 (lit< tt),
        (
          alone 1 1 (lit< tt),
          (
            alone 4 27838 (lit< tt),
            (
              alone 1 _ fits.built.states,
              (
                alone 1 _ fits.built.symbols,
                (
                  alone 1 _ fits.built.startcount,
                  (
                    alone 2 _ fits.built.setcount,
                    (
                      alone 4 _ fits.built.initials,
                      (
                        alone 4 _ fits.built.finals,
                        (
                          fits.built.delegates.below,
                          (
                            fits.built.singles.below,
                            (
                              fits.built.sets.below,
                              (
                                fits.built.next.below,
                                (
                                  alone 1 _ fits.board.places,
                                  (
                                    fits.board.filled.below,
                                    (
                                      fits.board.counts.below,
                                      (
                                        fits.board.lengths.below,
                                        (
                                          fits.board.revisions.below,
                                          (
                                            fits.board.ends.below,
                                            tt,
                                          ),
                                        ),
                                      ),
                                    ),
                                  ),
                                ),
                              ),
                            ),
                          ),
                        ),
                      ),
                    ),
                  ),
                ),
              ),
            ),
          ),
        ),
      ),
    ),
  )

-- ---- the judge of fields
part : List Field → ℕ → List ℕ
part [] i = []
part (field w xs ∷ fs) zero = xs
part (field w xs ∷ fs) (suc i) = part fs i

first : List Field → ℕ → ℕ
first fs i = get_or (part fs i) 0 0

pub judge_of_lem : List Field → Judge
judge_of_lem fs = record {
  built = record {
    n = first fs 5;
    k = first fs 6;
    startcount = first fs 7;
    setcount = first fs 8;
    initials = first fs 9;
    finals = first fs 10;
    delegates = part fs 11;
    singles = part fs 12;
    sets = part fs 13;
    next = part fs 14;
  };
  board = record {
    places = first fs 15;
    filled = part fs 16;
    counts = part fs 17;
    lengths = part fs 18;
    revisions = part fs 19;
    ends = part fs 20;
  };
}

pub own_judge : (j : Judge) → judge_of_lem (fields_of j) ≡ j
unfolding judge_of_lem first part
own_judge j = refl

pub judge_in : (b : List ℕ) → judge_of_lem (fields_at layout b 0) ≡ judge_at b
unfolding judge_of_lem first part
judge_in b = simp (single_in)

-- ---- the head of fields
pub head_in : (b : List ℕ) (j : Judge) → fields_at layout b 0 ≡ fields_of j → Head b
unfolding first part numbers_in
head_in b j e = record {
  first = ap (λ (fs : List Field). first fs 0) e;
  second = ap (λ (fs : List Field). first fs 1) e;
  third = ap (λ (fs : List Field). first fs 2) e;
  version = ap (λ (fs : List Field). first fs 3) e;
  size = ap (λ (fs : List Field). first fs 4) e;
}
