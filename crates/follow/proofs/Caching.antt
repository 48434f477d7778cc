-- The cache of successors is right, at first and after each step; and each way out of `step`. Assumes
-- nothing.
use Rattle.std.proofs.Common.{◌≡◌, ℕ, ◌+◌, ◌*◌, ◌%◌, ◌<◌, ◌≤◌, eqb, List, get_or, set, replicate, sym, ap, ◌∙◌, subst, arith, length-set, get_or-set_other, get_or-set_same, eqb-true}
use lib.ListN.{length-replicate, get_or-replicate}
use borrow.Author.Tests.{eqb-false}
use Rattle.base.proofs.Tests.{by_test}
use Rattle.masks.proofs.Laws.{union-empty}
use Rattle.automaton.specs.Rules.{target_mask}
use Rattle.automaton.specs.Successor.{successor}
use Rattle.automaton.proofs.Laws.{successor_foreign}
use Rattle.follow.specs.declared.Here.{Here}
use Rattle.follow.specs.mirror.Cache.{Cached, Stepped}
use Rattle.follow.proofs.Steps.{step_idle, step_symbol}

zero_at : (c : ℕ) → c < 976 → ◌≡◌ {A = ℕ} (get_or (replicate 976 0) c 0) 0
zero_at c h = get_or-replicate 976 c 0 0 h

-- at first each cell has the empty set, which leads to itself
pub cached_first : (ts : List ℕ) → Cached ts (replicate 976 0) (replicate 976 0) (replicate 976 0)
cached_first ts = record {
  from_cells = length-replicate {A = ℕ} 976 0;
  to_cells = length-replicate {A = ℕ} 976 0;
  row_cells = length-replicate {A = ℕ} 976 0;
  right = λ c h. zero_at c h ∙ sym (ap (λ (x : ℕ). successor ts x (c % 16)) (zero_at c h) ∙ union-empty (λ q. target_mask ts q (c % 16)) 32);
  is_row = λ c h. let e = zero_at c h in omega arith;
}

-- one cell is written anew
module _ (ts from to rows : List ℕ) (ok : Cached ts from to rows) (c m next row : ℕ) (h : c < 976) (is : next ≡ successor ts m (c % 16)) (low : row < 61) where
  pub cached_more : Cached ts (set from c m) (set to c next) (set rows c row)
  cached_more = record {
    from_cells = length-set from c m ∙ ok.from_cells;
    to_cells = length-set to c next ∙ ok.to_cells;
    row_cells = length-set rows c row ∙ ok.row_cells;
    right = λ d b.
        by_test (eqb d c)
        (λ t.
        let z : d ≡ c = eqb-true d c t in
        subst (λ (x : ℕ). get_or (set to c next) x 0 ≡ successor ts (get_or (set from c m) x 0) (x % 16)) (sym z)
        (get_or-set_same to c next 0 (omega (arith, ok.to_cells))
        ∙ is
        ∙ sym (ap (λ (x : ℕ). successor ts x (c % 16)) (get_or-set_same from c m 0 (omega (arith, ok.from_cells))))))
        (λ f.
        let n : d ≡ c → ⊥ = eqb-false d c f in
        get_or-set_other to c d next 0 n
        ∙ ok.right d b
        ∙ sym (ap (λ (x : ℕ). successor ts x (d % 16)) (get_or-set_other from c d m 0 n)));
    is_row = λ d b.
        by_test (eqb d c)
        (λ t.
        let z : d ≡ c = eqb-true d c t in
        let e : get_or (set rows c row) d 0 ≡ row = ap (λ (x : ℕ). get_or (set rows c row) x 0) z ∙ get_or-set_same rows c row 0 (omega (arith, ok.row_cells)) in
        omega arith)
        (λ f.
        let n : d ≡ c → ⊥ = eqb-false d c f in
        let e = get_or-set_other rows c d row 0 n in
        omega (arith, ok.is_row d b));
  }

-- ---- each way out of a step
module _ (ts from to rows : List ℕ) (ok : Cached ts from to rows) (b : ℕ) where
  pub stepped_idle : (here : Here) → here.row < 61 → b ≡ 255 → Stepped ts here.set b here from to rows
  stepped_idle here low e = record { set = step_idle ts here.set b e; row = low; cached = ok }

  pub stepped_beyond : (m : ℕ) → 16 ≤ b → (b ≡ 255 → ⊥) → Stepped ts m b (record { set = 0; row = 0 }) from to rows
  stepped_beyond m h n = record { set = sym (successor_foreign ts m b h) ∙ step_symbol ts m b n; row = omega arith; cached = ok }

  module _ (m row : ℕ) (h : b < 16) (low : row < 61) where
    not_idle : b ≡ 255 → ⊥
    not_idle e = omega arith

    at : row * 16 + b < 976
    at = omega arith

    symbol : (row * 16 + b) % 16 ≡ b
    symbol = omega arith

    pub stepped_known : get_or from (row * 16 + b) 0 ≡ m
        → Stepped ts m b (record { set = get_or to (row * 16 + b) 0; row = get_or rows (row * 16 + b) 0 }) from to rows
    stepped_known e = record {
      set = ok.right (row * 16 + b) at
          ∙ ap (λ (x : ℕ). successor ts x ((row * 16 + b) % 16)) e
          ∙ ap (successor ts m) symbol
          ∙ step_symbol ts m b not_idle;
      row = ok.is_row (row * 16 + b) at;
      cached = ok;
    }

    pub stepped_new : (next new : ℕ) → next ≡ successor ts m b → new < 61
        → Stepped ts m b (record { set = next; row = new }) (set from (row * 16 + b) m) (set to (row * 16 + b) next) (set rows (row * 16 + b) new)
    stepped_new next new is l = record {
      set = is ∙ step_symbol ts m b not_idle;
      row = l;
      cached = cached_more ts from to rows ok (row * 16 + b) m next new at (is ∙ ap (successor ts m) (sym symbol)) l;
    }
