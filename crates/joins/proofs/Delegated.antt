-- The delegates of a rule are an assignment: so the join by them says yes exactly where the rule's
-- automaton accepts. And what is run at a place is a start. Assumes what crates/chunks claims of
-- the states that are run, a well-formed rule and its delegates.
use mathlib.Core.Path.{◌≡◌}
use mathlib.Core.Logic.{◌↔◌}
use mathlib.Core.Bool.{true}
use mathlib.Core.List.{List, flatten}
use mathlib.Core.Option.{Option, none, some}
use Prim.Native.Nat.{ℕ, zero, suc, ◌≤◌, ◌<◌}
use lib.ListN.{length}
use Rattle.masks.specs.Masks.{◌∈◌}
use Rattle.automaton.specs.declared.Rule.{Rule}
use Rattle.automaton.specs.Automaton.{Automaton, Accepts}
use Rattle.automaton.specs.Rules.{automaton_of, WellFormed}
use Rattle.delegates.specs.Alike.{Delegate, delegate_in, Merged, start_set}
use Rattle.delegates.proofs.Alike.{merged_some, delegates_in_lem, delegates_start}
use Rattle.chunks.specs.Chunks.{run_set}
use Rattle.chunks.specs.Claims.{Claims as ChunksClaims}
use Rattle.joins.specs.Joining.{yes_of}
use Rattle.joins.specs.Claims.{Texts, HoldsEnds}
use Rattle.joins.proofs.Joined.{Given, Assigned, join_any}

given_delegate : (a : Automaton) (q : ℕ) (o : Option ℕ) → Delegate a q o → Given a q o
given_delegate a q none f = f
given_delegate a q (some x) f = (f.1.state, f.1.alike)

module _ (given : ChunksClaims) (r : Rule) (good : WellFormed r) (d : List ℕ) (m : ℕ) (merged : Merged (automaton_of r) d m) where
  few : r.n ≤ 32
  few = good.states.1

  -- a delegate is a start
  delegate_start : (q x : ℕ) → q < r.n → delegate_in d q ≡ some x → x ∈ start_set d r.n
  delegate_start q x h e =
      (given.start_own d r.n x few).1
      ((merged_some (automaton_of r) d m merged q x h e).1.state, delegates_start (automaton_of r) d m merged q x h e)

  -- what is run at a place is a start
  pub run_start : (p x : ℕ) → x ∈ run_set d r.n r.initials p → x ∈ start_set d r.n
  run_start zero x i =
      let u = (given.delegate_law d r.n r.initials x).0 i in
      delegate_start u.0 x u.1 u.3
  run_start (suc p) x i = i

  assigned : Assigned r (delegate_in d) (run_set d r.n r.initials)
  assigned = record {
    given = λ q h. given_delegate (automaton_of r) q (delegate_in d q) (delegates_in_lem (automaton_of r) few d m merged q h);
    first = λ q x h i e. (given.delegate_law d r.n r.initials x).1 (q, h, i, e);
    later = λ p q x h e. delegate_start q x h e;
  }

  pub join_accepts : (e : ℕ → ℕ → ℕ) (ws : List (List ℕ)) → Texts r.k ws → HoldsEnds r d e ws
      → (yes_of e (delegate_in d) r.n r.initials r.finals (length ws) ≡ true) ↔ Accepts (automaton_of r) (flatten ws)
  join_accepts e ws texts holds = join_any r good (delegate_in d) (run_set d r.n r.initials) assigned e ws texts holds
