-- Pieces that take no more than their room. Assumes nothing.
--
--   exact    a piece takes its length
--   most     a piece takes no more than it is known to
--   placed   a piece fits where its room does
--   left     the room that is left past a piece
--   fits     so much fits there
--   more     a byte does
--   two      a piece and then another is both in one, and takes the room of both
--   nothing  no piece takes no room
--
--   made      the length of a new buffer, given by a law and not by counting it out
--   has_room  what is to be written has room in it
--   within    so where it ends lies in the buffer
--   still_within   and in one of the same length
--   whole_within   a text that fits ends within the buffer that it was written to
use mathlib.Core.Path.{◌≡◌}
use mathlib.Core.List.{List, [], ◌++◌}
use Prim.Native.Nat.{ℕ, ◌+◌, ◌≤◌, ◌<◌}
use native.Mathlib.Omega.{arith}
use lib.ListN.{length, replicate, length-replicate}
use Rattle.text.specs.Writing.{Wrote}
use Rattle.text.proofs.Fitting.{Put, put, ◌then◌}
use Rattle.text.proofs.Pieces.{wrote_none}

module _ {before : List ℕ} {at : ℕ} {p mid : List ℕ} {e : ℕ} where
  pub exact : Wrote before at p mid e → Wrote before at p mid e × (e ≤ at + length p)
  exact w = (w, omega (arith, w.ends))

  pub most : (x : ℕ) → length p ≤ x → Wrote before at p mid e → Wrote before at p mid e × (e ≤ at + x)
  most x h w = (w, omega (arith, w.ends))

  pub placed : (x : ℕ) → at + x ≤ length before → Wrote before at p mid e × (e ≤ at + x) → Put before at p mid e
  placed x h w = put (omega (arith, w.0.ends, w.1)) w.0

module _ {before : List ℕ} {at : ℕ} {p mid : List ℕ} {e : ℕ} where
  pub left : (x y : ℕ) → at + (x + y) ≤ length before → Wrote before at p mid e × (e ≤ at + x) → e + y ≤ length mid
  left x y h w = let u = placed x (omega arith) w in omega (arith, u.kept, w.1)

  pub fits : (x y z : ℕ) {n : ℕ} → at + (x + (y + z)) ≤ length before → Wrote before at p mid e × (e ≤ at + x) → n ≤ y → e + n ≤ length mid
  fits x y z h w l = omega (arith, left x (y + z) h w)

  pub more : (x y : ℕ) → at + (x + (1 + y)) ≤ length before → Wrote before at p mid e × (e ≤ at + x) → e < length mid
  more x y h w = omega (arith, left x (1 + y) h w)

  pub two : (x y : ℕ) {q after : List ℕ} {f : ℕ} → at + (x + y) ≤ length before → Wrote before at p mid e × (e ≤ at + x)
      → (e + y ≤ length mid → Wrote mid e q after f × (f ≤ e + y))
      → Wrote before at (p ++ q) after f × (f ≤ at + (x + y))
  two x y h w next =
      let m = left x y h w in
      let v = next m in
      ((placed x (omega arith) w then placed y m v).wrote, omega (arith, w.1, v.1))

pub nothing : (before : List ℕ) (at room : ℕ) → Wrote before at [] before at × (at ≤ at + room)
nothing before at room = (wrote_none before at, omega arith)

pub made : (n : ℕ) → length (replicate {A = ℕ} n 0) ≡ n
made n = length-replicate {A = ℕ} n 0

pub has_room : (room spare : ℕ) {x : ℕ} → x ≡ room + spare → room ≤ x
has_room room spare is = omega arith

pub within : (room spare : ℕ) {x y end : ℕ} → x ≡ room + spare → y ≡ x → end ≤ room → end ≤ y
within room spare is kept most = omega arith

pub still_within : {x y end : ℕ} → end ≤ x → y ≡ x → end ≤ y
still_within most kept = omega arith

pub whole_within : {text before after : List ℕ} {end : ℕ} → Wrote before 0 text after end → length after ≡ length before
    → (room : ℕ) → length text ≤ room → room ≤ length before → end ≤ length after
whole_within w kept room fits has = omega (arith, w.ends)
