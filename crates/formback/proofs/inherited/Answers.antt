-- `inherited` meets its contract. Assumes nothing.
use mathlib.Core.Path.{◌≡◌}
use mathlib.Core.Bool.{cond}
use mathlib.Core.List.{List}
use Prim.Native.Nat.{ℕ, ◌+◌, ◌*◌, ◌<◌, ◌≤◌}
use native.Mathlib.Omega.{arith}
use lib.Dec.{ltb}
use lib.ListN.{get_or}
use borrow.Author.Rules.{rules}
use borrow.Author.Tests.{lt-ltb, le-ltb}
use Rattle.formback.proofs.inherited.Goals as goal

there : (failure next : List ℕ) (k t s w : ℕ) → s < k → w ≡ get_or failure t 0
    → get_or next (w * 16 + s) 0 ≡ cond (ltb s k) (get_or next (get_or failure t 0 * 16 + s) 0) 512
there failure next k t s w h e = rw (lt-ltb s k h, e)

nowhere : (failure next : List ℕ) (k t s : ℕ) → k ≤ s
    → 512 ≡ cond (ltb s k) (get_or next (get_or failure t 0 * 16 + s) 0) 512
nowhere failure next k t s h = rw (le-ltb s k h)

pub overflow_mul-result : goal.overflow_mul-result
overflow_mul-result c = omega (arith, c.requires.2 (omega arith))

pub overflow_add-result : goal.overflow_add-result
overflow_add-result c = omega (arith, c.requires.2 (omega arith))

pub offset_bounds-next-wide : goal.offset_bounds-next-wide
offset_bounds-next-wide c = omega (arith, c.requires.2 (omega arith))

pub bounds-next-wide : goal.bounds-next-wide
bounds-next-wide c = omega (arith, c.requires.2 (omega arith))

pub returns-then-s-k : goal.returns-then-s-k
returns-then-s-k c = search (rules, there)

pub returns : goal.returns
returns c = search (rules, nowhere)
