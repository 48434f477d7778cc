-- A chunk that is too long is refused by its length alone, so the first of its bytes stand for all.
-- Assumes nothing.
use mathlib.Core.Path.{◌≡◌, refl, ap}
use mathlib.Core.Bool.{Bool, true, false, cond}
use mathlib.Core.List.{List}
use mathlib.Core.Option.{some}
use Prim.Native.Nat.{ℕ, ◌≤◌, ◌<◌}
use native.Mathlib.Omega.{arith}
use borrow.Author.Tests.{lt-ltb, ltb-true, ltb-false}
use lib.Dec.{ltb, leb}
use lib.ListN.{length, take}
use lib.Seq.{take_all, length-take-le}
use Rattle.base.proofs.Tests.{by_test}
use Rattle.board.specs.Boards.{places_of}
use Rattle.calls.specs.declared.Judge.{Judge}
use Rattle.calls.specs.mirror.Steps.{lacks_board}
use Rattle.locating.specs.Locating.{Spot, spot_by, spot_of}

by_12 : (a b : Bool) (x y : Spot) → spot_by (cond a (some 21) (cond b (some 11) (some 12))) x ≡ spot_by (cond a (some 21) (cond b (some 11) (some 12))) y
by_12 true b x y = refl
by_12 false true x y = refl
by_12 false false x y = refl

pub spots_long : (j : Judge) (p : ℕ) (f g : List ℕ) → 65536 < length f → 65536 < length g → spot_of j p f ≡ spot_of j p g
unfolding spot_of
spots_long j p f g hf hg = rw (lt-ltb 65536 (length f) hf, lt-ltb 65536 (length g) hg) (by_12 (lacks_board j) (leb (places_of j.board) p) _ _)

pub spots_clip : (j : Judge) (p : ℕ) (w : List ℕ) (n : ℕ) → 65537 ≤ n → spot_of j p (take n w) ≡ spot_of j p w
spots_clip j p w n h =
    by_test (ltb n (length w))
    (λ t.
    let more = ltb-true n (length w) t in
    spots_long j p (take n w) w (omega (arith, length-take-le n w (omega (arith, more)))) (omega (arith, more)))
    (λ t. ap (spot_of j p) (take_all n w (ltb-false n (length w) t)))
