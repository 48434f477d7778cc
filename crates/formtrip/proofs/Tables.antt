-- The next-set table of a well-formed rule with at most 512 sets is a table: it has the set {0}, a
-- cell in use is 512 or the number of a set, and one that is not in use is 512. Assumes nothing.
use mathlib.Core.Path.{◌≡◌, refl, ◌∙◌}
use mathlib.Core.Logic.{◌⊎◌, inl, inr, ⊎_elim}
use mathlib.Core.Bool.{and-false}
use mathlib.Core.List.{[]}
use Prim.Native.Nat.{ℕ, ◌+◌, ◌*◌, ◌/◌, ◌%◌, ◌^◌, ◌≤◌, ◌<◌, min}
use native.Mathlib.Omega.{arith}
use lib.Dec.{eqb, ltb}
use lib.ListN.{length, get_or}
use lib.Pow.{pow_pos}
use borrow.Author.Tests.{eqb-true, eqb-false, le-ltb, ltb-false}
use Rattle.base.proofs.Lists.{cell_of_lem, length_list_from}
use Rattle.base.proofs.Tests.{by_test}
use Rattle.limits.specs.Limits.{most_symbols, most_sets, empty_set, table_cells}
use Rattle.masks.specs.Masks.{single}
use Rattle.automaton.specs.declared.Rule.{Rule}
use Rattle.automaton.specs.Rules.{WellFormed}
use Rattle.automaton.specs.Successor.{successor}
use Rattle.subsets.specs.Sets.{too_many, next_set}
use Rattle.subsets.specs.Claims.{fits, sets, next}
use Rattle.subsets.proofs.Claims as subsets
use Rattle.build.specs.mirror.Building.{built_of}
use Rattle.forms.specs.Form.{cell}
use Rattle.forms.specs.Claims.{IsTable}
use Rattle.forms.proofs.Trip.{place}

module _ (r : Rule) (good : WellFormed r) (few : fits r) where
  abbrev count : ℕ
  count = length (sets r)

  pub most : count ≤ most_sets
  unfolding too_many
  most = ltb-false most_sets count few

  pub symbols : min r.k most_symbols ≡ r.k
  symbols = omega (arith, good.symbols)

  -- {0} has a number
  some_set : 1 ≤ count
  some_set =
      let p : 0 < 2 ^ 0 = pow_pos 0 in
      let x = (subsets.claims).complete r good few (single 0) (record {
        some_state = λ e. absurd (omega arith);
        state = 0;
        below = omega (arith, good.states);
        text = [];
        leads = refl;
      }) in
      omega (arith, x.1)

  at_cell : (c : ℕ) → c < table_cells → get_or (built_of r).next c 0 ≡ next r (c / most_symbols) (c % most_symbols)
  at_cell c h = cell_of_lem table_cells (λ c. next_set r.targets r.n r.k (c / most_symbols) (c % most_symbols)) c 0 h

  names : (t s : ℕ) → t < count → s < r.k → (cell (built_of r).next t s ≡ empty_set) ⊎ (cell (built_of r).next t s < count)
  names t s h b =
      let q = place t s (omega (arith, good.symbols)) in
      let law = (subsets.claims).cell r good few t s h b in
      rw (at_cell (t * most_symbols + s) (omega (arith, most, good.symbols)), q.0, q.1)
      (by_test (eqb (successor r.targets (get_or (sets r) t 0) s) 0)
      (λ e. inl (law.0 (eqb-true (successor r.targets (get_or (sets r) t 0) s) 0 e)))
      (λ e. inr (law.1 (eqb-false (successor r.targets (get_or (sets r) t 0) s) 0 e)).0))

  unused : (t s : ℕ) → (count ≤ t) ⊎ (r.k ≤ s) → next r t s ≡ empty_set
  unfolding next_set
  unused t s o =
      ⊎_elim
      (λ x. rw (le-ltb t count x))
      (λ x. rw (le-ltb s r.k x, and-false (ltb t count)))
      o

  pub a_table : IsTable count r.k (built_of r).next
  a_table = record {
    numbered = record {
      some_set = some_set;
      sets = most;
      some_symbol = good.symbols.0;
      symbols = good.symbols.1;
      names = names;
    };
    long = length_list_from 0 table_cells (λ c. next_set r.targets r.n r.k (c / most_symbols) (c % most_symbols));
    unused = λ c h o. at_cell c h ∙ unused (c / most_symbols) (c % most_symbols) o;
  }
