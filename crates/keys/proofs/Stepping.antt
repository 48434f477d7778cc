-- The successor of a set looks at the lowest 32 bits alone. Assumes nothing.
use mathlib.Core.Path.{◌≡◌, sym, ap, ◌∙◌}
use mathlib.Core.List.{List}
use Prim.Native.Nat.{ℕ, ◌+◌, ◌-◌, ◌/◌, ◌%◌, ◌^◌, ◌<◌}
use native.Mathlib.Omega.{arith}
use lib.Pow.{field, mod-mod-pow}
use Rattle.masks.specs.Masks.{bit}
use Rattle.masks.proofs.Laws.{ext, part_of, in_union}
use Rattle.automaton.specs.Rules.{target_mask}
use Rattle.automaton.specs.Successor.{successor}

-- a bit below n is one of the lowest n
low_bit : (n m q : ℕ) → q < n → bit (m % 2 ^ n) q ≡ bit m q
low_bit n m q b =
    let e : n ≡ (n - q - 1) + 1 + q = omega arith in
    ap (λ (x : ℕ). m % 2 ^ x / 2 ^ q % 2) e
    ∙ ap (λ (x : ℕ). x % 2) (field m ((n - q - 1) + 1) q)
    ∙ mod-mod-pow (m / 2 ^ q) (n - q - 1) 1

pub successor_low : (ts : List ℕ) (m s : ℕ) → successor ts (m % 2 ^ 32) s ≡ successor ts m s
successor_low ts m s = ext (successor ts (m % 2 ^ 32) s) (successor ts m s) λ p. (
  (λ e.
      let r = part_of (λ q. target_mask ts q s) (m % 2 ^ 32) p 32 e in
      in_union (λ q. target_mask ts q s) m p 32 r.from r.below (sym (low_bit 32 m r.from r.below) ∙ r.member) r.there),
  λ e.
      let r = part_of (λ q. target_mask ts q s) m p 32 e in
      in_union (λ q. target_mask ts q s) (m % 2 ^ 32) p 32 r.from r.below (low_bit 32 m r.from r.below ∙ r.member) r.there,
)
