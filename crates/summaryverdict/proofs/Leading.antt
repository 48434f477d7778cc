-- Leading by the leads of summaries is joining place by place, seen through the delegates: the
-- starts that are reached are the delegates of the members of C, and one of them is final exactly
-- where a member of C is. Assumes nothing, and in the last part a well-formed rule with its
-- delegates.
--
--   lead_place         one place
--   join_first         the join, the first place apart
--   final_reached      C has a final state exactly where a final start is reached
use mathlib.Core.Path.{◌≡◌, refl, sym, ap, ◌∙◌, subst}
use mathlib.Core.Logic.{◌↔◌}
use mathlib.Core.Bool.{true}
use mathlib.Core.List.{List, []}
use mathlib.Core.Option.{Option, none, some}
use Prim.Native.Nat.{ℕ, zero, suc, ◌<◌, min}
use lib.ListN.{get_or}
use Rattle.base.proofs.Lists.{cell_of_lem}
use Rattle.masks.specs.Masks.{◌∈◌, single, union, shares}
use Rattle.masks.proofs.Laws.{members_below, shares_law, union_or, union_same, union-empty}
use Rattle.compositions.specs.Relations.{image_of}
use Rattle.compositions.proofs.Unions.{union_of_single, union_through}
use Rattle.automaton.specs.declared.Rule.{Rule}
use Rattle.automaton.specs.Automaton.{Run, stay}
use Rattle.automaton.specs.Rules.{automaton_of, WellFormed}
use Rattle.delegates.specs.Alike.{AcceptsFrom, Delegate, delegate_in, of_delegate, Merged}
use Rattle.delegates.proofs.Alike.{some_said, final_live, delegates_in_lem}
use Rattle.chunks.specs.mirror.Walks.{delegate_mask}
use Rattle.chunks.proofs.Claims as chunks
use Rattle.joins.specs.Joining.{join_of}
use Rattle.summaries.specs.Summaries.{leads_of}

module _ (d : List ℕ) (n : ℕ) where
  abbrev through : ℕ → ℕ
  through m = delegate_mask d n m

  -- what a place makes of C
  abbrev pub passed : (ℕ → ℕ) → ℕ → ℕ
  passed e m = union (λ q. of_delegate e (delegate_in d q)) m (min n 32)

  through_none : through 0 ≡ 0
  through_none = union-empty (λ q. of_delegate single (delegate_in d q)) (min n 32)

  -- the image of the delegates, by way of them
  image_through : (f : List ℕ) (m : ℕ) → image_of 32 f (through m) ≡ passed (λ x. get_or f x 0) m
  image_through f m =
      union_through (λ z. image_of 32 f z) (λ q. of_delegate single (delegate_in d q))
      (union-empty (λ x. get_or f x 0) 32)
      (λ a b. union_or (λ x. get_or f x 0) a b 32)
      m
      (min n 32)
      ∙ union_same (λ q. image_of 32 f (of_delegate single (delegate_in d q))) (λ q. of_delegate (λ x. get_or f x 0) (delegate_in d q)) m (min n 32)
      (λ q l. one (delegate_in d q) (λ x s. (some_said d q x s).1))
    where
      one : (o : Option ℕ) → ((x : ℕ) → o ≡ some x → x < 32) → image_of 32 f (of_delegate single o) ≡ of_delegate (λ x. get_or f x 0) o
      one none h = union-empty (λ x. get_or f x 0) 32
      one (some x) h = union_of_single (λ y. get_or f y 0) x 32 (h x refl)

  -- the leads of end sets lead from the delegates of m to the delegates of what the place makes of
  -- m
  pub lead_place : (ends : List ℕ) (m : ℕ) → image_of 32 (leads_of d n ends) (through m) ≡ through (passed (λ x. get_or ends x 0) m)
  lead_place ends m =
      image_through (leads_of d n ends) m
      ∙ union_same (λ q. of_delegate (λ x. get_or (leads_of d n ends) x 0) (delegate_in d q)) (λ q. through (of_delegate (λ x. get_or ends x 0) (delegate_in d q))) m (min n 32)
      (λ q l. one (delegate_in d q) (λ x s. (some_said d q x s).1))
      ∙ sym
      (union_through through (λ q. of_delegate (λ x. get_or ends x 0) (delegate_in d q)) through_none
      (λ a b. union_or (λ q. of_delegate single (delegate_in d q)) a b (min n 32))
      m
      (min n 32))
    where
      one : (o : Option ℕ) → ((x : ℕ) → o ≡ some x → x < 32) → of_delegate (λ x. get_or (leads_of d n ends) x 0) o ≡ through (of_delegate (λ x. get_or ends x 0) o)
      one none h = sym through_none
      one (some x) h = cell_of_lem 32 (λ q. through (get_or ends q 0)) x 0 (h x refl)

  -- the join: the first place apart
  pub join_first : (e : ℕ → ℕ → ℕ) (m p : ℕ)
      → join_of e (delegate_in d) (min n 32) m (suc p) ≡ join_of (λ i. e (suc i)) (delegate_in d) (min n 32) (passed (e 0) m) p
  unfolding join_of
  join_first e m zero = refl
  join_first e m (suc p) = ap (passed (e (suc p))) (join_first e m p)

-- ---- final states
module _ (r : Rule) (good : WellFormed r) (d : List ℕ) (m : ℕ) (is : Merged (automaton_of r) d m) where
  -- the empty text is accepted from the final states
  from_final : (q : ℕ) → q < r.n → q ∈ r.finals → AcceptsFrom (automaton_of r) q []
  from_final q l f = record { to = q; ends = f; run = stay l }

  to_final : (q : ℕ) → AcceptsFrom (automaton_of r) q [] → q ∈ r.finals
  to_final q a = of a.run a.ends
    where
      of : {p : ℕ} → Run (automaton_of r) q [] p → p ∈ r.finals → q ∈ r.finals
      of (stay l) f = f

  -- a final state has a delegate, and it is final
  has_delegate : (q : ℕ) → q < r.n → q ∈ r.finals → (p : ℕ) × (delegate_in d q ≡ some p) × (p ∈ r.finals)
  has_delegate q l f = of (delegate_in d q) refl (delegates_in_lem (automaton_of r) good.states.1 d m is q l)
    where
      of : (o : Option ℕ) → delegate_in d q ≡ o → Delegate (automaton_of r) q o → (p : ℕ) × (delegate_in d q ≡ some p) × (p ∈ r.finals)
      of none e g = absurd (g (final_live (automaton_of r) q l f))
      of (some p) e g = (p, e, to_final p ((g.1.alike [] tt).0 (from_final q l f)))

  -- and what a final state is the delegate of is final
  of_final : (q p : ℕ) → q < r.n → delegate_in d q ≡ some p → p ∈ r.finals → q ∈ r.finals
  of_final q p l e f =
      let g : Delegate (automaton_of r) q (some p) =
      subst (Delegate (automaton_of r) q) e (delegates_in_lem (automaton_of r) good.states.1 d m is q l) in
      to_final q ((g.1.alike [] tt).1 (from_final p g.1.state f))

  pub final_reached : (c : ℕ) → (shares (delegate_mask d r.n c) r.finals ≡ true) ↔ (shares c r.finals ≡ true)
  final_reached c =
      let reached = shares_law (delegate_mask d r.n c) r.finals in
      let own = shares_law c r.finals in
      let same = (chunks.claims).delegate_mask_lem d r.n c good.states.1 in (
        (λ e.
            let u = reached.0 e in
            let v = ((chunks.claims).delegate_law d r.n c u.0).0 (subst (λ (x : ℕ). u.0 ∈ x) same u.1) in
            own.1 (v.0, v.2, of_final v.0 u.0 v.1 v.3 u.2)),
        λ e.
            let u = own.0 e in
            let l = members_below r.n r.finals u.0 good.finals_below u.2 in
            let v = has_delegate u.0 l u.2 in
            reached.1 (v.0, subst (λ (x : ℕ). v.0 ∈ x) (sym same) (((chunks.claims).delegate_law d r.n c v.0).1 (u.0, l, u.1, v.1)), v.2),
      )
