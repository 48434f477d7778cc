-- A loop that writes one part after the other, each within its room. Assumes nothing.
--
--   Row     the first i of n parts are written, from start on
--   begin   none of them
--   fits    the next part has its room
--   more    one part more
--   all     the n parts
use mathlib.Core.Path.{◌≡◌}
use mathlib.Core.List.{List}
use Prim.Native.Nat.{ℕ, suc, ◌+◌, ◌*◌, ◌≤◌, ◌<◌}
use native.Mathlib.Nat.{mul-suc, mul-zero, mul-le-mul_left}
use native.Mathlib.Numerals.{add-one}
use native.Mathlib.Omega.{arith}
use lib.ListN.{length}
use Rattle.base.specs.Lists.{joined}
use Rattle.text.specs.Writing.{Wrote}
use Rattle.text.proofs.Fitting.{Put, none_put, one_more}
use Rattle.text.proofs.Rooms.{placed}

pub record Row (part : ℕ → List ℕ) (room n : ℕ) (before : List ℕ) (start : ℕ) (after : List ℕ) (at i : ℕ)
    : Type 0 where
  pub low : i ≤ n
  pub has : start + room * n ≤ length before
  pub spent : at ≤ start + room * i
  pub parts : Put before start (joined part i) after at

pub begin : (part : ℕ → List ℕ) (room n : ℕ) {before : List ℕ} {start : ℕ}
    → start + room * n ≤ length before → Row part room n before start before start 0
begin part room n {before} {start} has = record {
  low = omega arith;
  has = has;
  spent = omega (arith, mul-zero room);
  parts = none_put part before start (omega arith);
}

module _ {part : ℕ → List ℕ} {room n : ℕ} {before : List ℕ} {start : ℕ} {mid : List ℕ} {at i : ℕ} (w : Row part room n before start mid at i) where
  pub all : n ≤ i → Wrote before start (joined part n) mid at × (at ≤ start + room * n)
  all end = let e : i ≡ n = omega (arith, w.low) in (rw e at w.parts.wrote, rw e at w.spent)

  module _ (next : i < n) where
    after_next : room * i + room ≤ room * n
    after_next =
        let e = mul-suc room i in
        omega (arith, mul-le-mul_left {m = suc i} {n = n} room (omega arith))

    pub fits : at + room ≤ length mid
    fits = omega (arith, after_next, w.has, w.spent, w.parts.kept)

    pub more : {after : List ℕ} {end : ℕ} → Wrote mid at (part i) after end × (end ≤ at + room)
        → Row part room n before start after end (i + 1)
    more p = record {
      low = omega arith;
      has = w.has;
      spent = rw (add-one, mul-suc) (omega (arith, w.spent, p.1));
      parts = one_more part i w.parts (placed room fits p);
    }
