-- The former delegates are an assignment too, so the former join said yes exactly where the join
-- does: specs/Former.antt proved. Assumes nothing.
use mathlib.Core.Path.{◌≡◌, refl, ap, ◌∙◌, subst}
use mathlib.Core.Logic.{◌↔◌}
use mathlib.Core.Bool.{true, cond}
use mathlib.Core.List.{List, flatten}
use mathlib.Core.Option.{Option, some}
use Prim.Native.Nat.{ℕ, zero, suc, ◌<◌}
use native.Mathlib.Omega.{arith}
use borrow.Author.Tests.{lt-ltb, le-ltb, ltb-true, ltb-false}
use lib.Dec.{ltb}
use lib.ListN.{length, get_or, get_or-eq_default}
use Rattle.base.specs.Lists.{list_from}
use Rattle.base.proofs.Lists.{length_list_from, cell_of_lem}
use Rattle.base.proofs.Tests.{by_test, same_truth}
use Rattle.masks.specs.Masks.{◌∈◌, single, union, shares}
use Rattle.masks.proofs.Laws.{single_law, in_union}
use Rattle.automaton.specs.declared.Rule.{Rule}
use Rattle.automaton.specs.Automaton.{Accepts}
use Rattle.automaton.specs.Rules.{automaton_of, WellFormed}
use Rattle.limits.specs.Limits.{most_states}
use Rattle.subsets.specs.Sets.{sets_of, set_cells, next_cells}
use Rattle.subsets.specs.mirror.Singles.{singles_of}
use Rattle.subsets.specs.Claims.{fits}
use Rattle.delegates.specs.mirror.Classes.{lowest_of}
use Rattle.subsets.proofs.Claims as subsets
use Rattle.delegates.specs.Alike.{Lowest, start_set, start_count}
use Rattle.delegates.proofs.Alike.{one_lowest, own_lowest}
use Rattle.delegates.proofs.Acceptance.{lowest_law}
use Rattle.chunks.proofs.Claims as chunks
use Rattle.joins.specs.Joining.{join_of}
use Rattle.joins.specs.Claims.{Texts}
use Rattle.joins.specs.Former.{FormerMerged, former_run_set, former_join, former_yes, FormerEnds, FormerClaims}
use Rattle.joins.proofs.Joined.{Assigned, join_any}
use Rattle.joins.proofs.Delegated.{join_accepts}

-- ---- the former list, by the arrays of the rule's numbered sets
unfoldable former_delegate : Rule → ℕ → ℕ
former_delegate r q =
    lowest_of (set_cells r.targets r.n r.k) (next_cells r.targets r.n r.k) r.finals
    (singles_of (set_cells r.targets r.n r.k) (length (sets_of r.targets r.n r.k)))
    r.k
    q

unfoldable former_delegates : Rule → List ℕ
former_delegates r = list_from 0 most_states (λ q. cond (ltb q r.n) (former_delegate r q) 0)

-- every state is given what the list has for it
abbrev former : List ℕ → ℕ → Option ℕ
former d q = some (get_or d q 0)

join_is : (e : ℕ → ℕ → ℕ) (d : List ℕ) (n m p : ℕ) → join_of e (former d) n m p ≡ former_join e d n m p
unfolding join_of former_join
join_is e d n m zero = refl
join_is e d n m (suc p) = ap (λ (c : ℕ). union (λ q. e p (get_or d q 0)) c n) (join_is e d n m p)

module _ (r : Rule) (good : WellFormed r) (d : List ℕ) (m : ℕ) (merged : FormerMerged (automaton_of r) d m) where
  -- the lowest alike state is its own, so it was a start
  own : (q : ℕ) → q < r.n → get_or d (get_or d q 0) 0 ≡ get_or d q 0
  own q h =
      let f = merged.delegates q h in
      one_lowest (automaton_of r) (get_or d q 0) (get_or d (get_or d q 0) 0) (get_or d q 0) (merged.delegates (get_or d q 0) f.state)
      (own_lowest (automaton_of r) q (get_or d q 0) f)

  was_start : (q x : ℕ) → q < r.n → former d q ≡ some x → x ∈ start_set d r.n
  was_start q x h e =
      let z : get_or d q 0 ≡ x = cc in
      subst (λ (y : ℕ). y ∈ start_set d r.n) z
      (((chunks.claims).start_law d r.n (get_or d q 0)).1 ((merged.delegates q h).state, own q h))

  was_run : (q x : ℕ) → q < r.n → q ∈ r.initials → former d q ≡ some x → x ∈ former_run_set d r.n r.initials 0
  was_run q x h i e =
      let z : x ≡ get_or d q 0 = cc in
      in_union (λ p. single (get_or d p 0)) r.initials x r.n q h i ((single_law (get_or d q 0) x).1 z)

  assigned : Assigned r (former d) (former_run_set d r.n r.initials)
  assigned = record {
    given = λ q h. let f = merged.delegates q h in (f.state, f.alike);
    first = was_run;
    later = λ p q x h e. was_start q x h e;
  }

  pub former_join_lem : (e : ℕ → ℕ → ℕ) (ws : List (List ℕ)) → Texts r.k ws → FormerEnds r d e ws
      → (former_yes e d r.n r.initials r.finals (length ws) ≡ true) ↔ Accepts (automaton_of r) (flatten ws)
  former_join_lem e ws texts holds =
      subst (λ (c : ℕ). (shares c r.finals ≡ true) ↔ Accepts (automaton_of r) (flatten ws))
      (join_is e d r.n r.initials (length ws))
      (join_any r good (former d) (former_run_set d r.n r.initials) assigned e ws texts holds)

-- ---- the list as a function of the rule
module _ (r : Rule) (good : WellFormed r) (fit : fits r) where
  lowest_is : (q : ℕ) → q < r.n → Lowest (automaton_of r) q (former_delegate r q)
  unfolding former_delegate
  lowest_is q h = lowest_law subsets.claims r good fit q h

  abbrev cell : ℕ → ℕ
  cell q = cond (ltb q r.n) (former_delegate r q) 0

  former_merged : FormerMerged (automaton_of r) (former_delegates r) (start_count (former_delegates r) r.n)
  unfolding former_delegates
  former_merged = record {
    cells = length_list_from 0 32 cell;
    delegates = λ q h.
        let few = good.states.1 in
        rw (cell_of_lem 32 cell q 0 (omega arith), lt-ltb q r.n h) (lowest_is q h);
    zeros = λ q h.
        by_test (ltb q 32)
        (λ t. cell_of_lem 32 cell q 0 (ltb-true q 32 t) ∙ rw (le-ltb q r.n h))
        (λ t. get_or-eq_default (list_from 0 32 cell) 0 (omega (arith, length_list_from 0 32 cell, ltb-false q 32 t)));
    starts = refl;
  }

pub former_claims : FormerClaims
former_claims = record {
  former_merged = λ r good fit. (former_delegates r, start_count (former_delegates r) r.n, former_merged r good fit);
  former_join_lem = former_join_lem;
  same_answer = λ r good ws texts d m merged e holds g l live f also.
      let a = former_join_lem r good d m merged e ws texts holds in
      let b = join_accepts chunks.claims r good g l live f ws texts also in
      same_truth (former_yes e d r.n r.initials r.finals (length ws)) _ (λ y. b.1 (a.0 y), λ y. a.1 (b.0 y));
}
