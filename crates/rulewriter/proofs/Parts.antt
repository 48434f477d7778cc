-- Pieces written one after the other where the room is exactly theirs. Assumes nothing.
--
--   both      a piece and then another is both in one
--   Parts     the first i of n parts are written, from start on, and there is room for the others
--   begin     none of them
--   fits      the next part has its room
--   more      one part more
--   all       the n parts
use mathlib.Core.Path.{◌≡◌, ap}
use mathlib.Core.List.{List, ◌++◌}
use Prim.Native.Nat.{ℕ, ◌+◌, ◌≤◌, ◌<◌}
use native.Mathlib.Omega.{arith}
use lib.ListN.{length, length-append}
use Rattle.base.specs.Lists.{joined}
use Rattle.base.proofs.Lists.{joined_split}
use Rattle.text.specs.Writing.{Wrote}
use Rattle.text.proofs.Fitting.{Put, put, ◌then◌, none_put, one_more}

pub both : {before : List ℕ} {at : ℕ} {p mid : List ℕ} {e : ℕ} {q after : List ℕ} {f : ℕ}
    → at + (length p + length q) ≤ length before → Wrote before at p mid e
    → (e + length q ≤ length mid → Wrote mid e q after f) → Wrote before at (p ++ q) after f
both {before} {at} {p} {mid} {e} {q} room u next =
    let first : Put before at p mid e = put (omega arith) u in
    let left : e + length q ≤ length mid = omega (arith, first.kept, u.ends) in
    (first then put left (next left)).wrote

pub record Parts (part : ℕ → List ℕ) (n : ℕ) (before : List ℕ) (start : ℕ) (after : List ℕ) (at i : ℕ)
    : Type 0 where
  pub low : i ≤ n
  pub room : start + length (joined part n) ≤ length before
  pub put : Put before start (joined part i) after at

pub begin : (part : ℕ → List ℕ) (n : ℕ) {before : List ℕ} {start : ℕ}
    → start + length (joined part n) ≤ length before → Parts part n before start before start 0
begin part n {before} {start} room =
    record { low = omega arith; room = room; put = none_put part before start (omega arith) }

module _ {part : ℕ → List ℕ} {n : ℕ} {before : List ℕ} {start : ℕ} {mid : List ℕ} {at i : ℕ}
    (w : Parts part n before start mid at i) where
  pub all : n ≤ i → Wrote before start (joined part n) mid at
  all end = let e : i ≡ n = omega (arith, w.low) in rw e at w.put.wrote

  module _ (next : i < n) where
    pub fits : at + length (part i) ≤ length mid
    fits =
        let r = joined_split part n i next in
        omega (
          arith,
          ap length r.1,
          length-append (joined part i) (part i ++ r.0),
          length-append (part i) r.0,
          w.room,
          w.put.kept,
          w.put.wrote.ends,
        )

    pub more : {after : List ℕ} {end : ℕ} → Wrote mid at (part i) after end
        → Parts part n before start after end (i + 1)
    more p = record {
      low = omega arith;
      room = w.room;
      put = one_more part i w.put (put fits p);
    }
