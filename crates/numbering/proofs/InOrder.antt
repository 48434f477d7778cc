-- What stands in order by one way of leading does so by another, which says the same of what stands
-- at each number there. Assumes nothing.
use mathlib.Core.Logic.{◌↔◌}
use mathlib.Core.List.{List}
use Prim.Native.Nat.{ℕ, ◌<◌}
use Rattle.numbering.specs.Order.{InOrder}

pub in_order_by : (n : ℕ) {L M : ℕ → List ℕ → ℕ → Type 0} (at there : ℕ → ℕ) (c : ℕ)
    → ((i q : ℕ) (w : List ℕ) → i < c → q < n → L q w (at i) ↔ M q w (there i))
    → InOrder n L at c
    → InOrder n M there c
in_order_by n at there c same o = record {
  from = o.from;
  text = o.text;
  origin = λ i b.
      let h = o.origin i b in
      record {
        below = h.below;
        leads = (same i (o.from i) (o.text i) b h.below).0 h.leads;
        first_seed = λ p v l x. h.first_seed p v l ((same i p v b l).1 x);
        first_text = λ v x. h.first_text v ((same i (o.from i) v b h.below).1 x);
      };
  rises = o.rises;
}
