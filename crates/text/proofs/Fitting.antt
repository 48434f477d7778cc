-- Pieces that fit where they are written, one after the other. Assumes nothing.
--
--   Put             the piece fits and was written; the buffer keeps its length
--   put             what a call says of its piece
--   ◌then◌          a piece and then another is both in one
--   none_put, one_more   for a loop over `joined`
--   taken           a piece that was written from the start is read back
use mathlib.Core.Path.{◌≡◌, refl, ap, ◌∙◌}
use mathlib.Core.List.{List, ◌++◌}
use Prim.Native.Nat.{ℕ, ◌+◌, ◌≤◌}
use native.Mathlib.Omega.{arith}
use lib.ListN.{length, take, drop, length-append}
use lib.Seq.{take_at}
use Rattle.base.specs.Lists.{joined}
use Rattle.base.proofs.Lists.{joined-none, joined-more}
use Rattle.text.specs.Writing.{Wrote}
use Rattle.text.proofs.Pieces.{wrote_none, wrote_more, wrote_length}

pub record Put (before : List ℕ) (at : ℕ) (piece after : List ℕ) (end : ℕ) : Type 0 where
  pub wrote : Wrote before at piece after end
  pub fits : at + length piece ≤ length before
  pub kept : length after ≡ length before

infixr 20 ◌then◌
module _ {before : List ℕ} {at : ℕ} {p mid : List ℕ} {e : ℕ} where
  pub put : at + length p ≤ length before → Wrote before at p mid e → Put before at p mid e
  put fits w = record { wrote = w; fits = fits; kept = wrote_length before at p mid e fits w }

  pub ◌then◌ : {q after : List ℕ} {f : ℕ} → Put before at p mid e → Put mid e q after f → Put before at (p ++ q) after f
  ◌then◌ {q} {after} {f} u v = record {
    wrote = wrote_more before at p q u.fits mid after e f u.wrote v.wrote;
    fits = omega (arith, length-append p q, u.kept, v.fits, u.wrote.ends);
    kept = v.kept ∙ u.kept;
  }

pub none_put : (g : ℕ → List ℕ) (before : List ℕ) (at : ℕ) → at ≤ length before → Put before at (joined g 0) before at
none_put g before at h = rw joined-none (record { wrote = wrote_none before at; fits = omega arith; kept = refl })

pub one_more : (g : ℕ → List ℕ) (i : ℕ) {before : List ℕ} {start : ℕ} {mid : List ℕ} {at : ℕ} {after : List ℕ} {e : ℕ}
    → Put before start (joined g i) mid at → Put mid at (g i) after e → Put before start (joined g (i + 1)) after e
one_more g i u v = rw (joined-more g i) (u then v)

pub taken : {piece before after : List ℕ} {end : ℕ} → Wrote before 0 piece after end → take end after ≡ piece
taken {piece} {before} {after} {end} w =
    ap (take end) w.is ∙ take_at piece (drop (0 + length piece) before) end (omega (arith, w.ends))
