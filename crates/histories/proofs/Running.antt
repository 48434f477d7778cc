-- What running a chunk gives, for a rule that is built: the end sets and the count that document 01
-- gives to it at its place, and the number of bytes of R-2. Assumes nothing.
use mathlib.Core.Path.{◌≡◌, ap, ◌∙◌, subst}
use mathlib.Core.List.{List}
use mathlib.Core.Option.{some}
use Prim.Native.Nat.{ℕ, zero, suc, ◌^◌, ◌<◌}
use native.Mathlib.Omega.{arith}
use lib.ListN.{get_or}
use Rattle.base.proofs.Lists.{cell_of_lem}
use Rattle.masks.proofs.Laws.{below_of}
use Rattle.automaton.specs.declared.Rule.{Rule}
use Rattle.automaton.specs.Rules.{automaton_of, WellFormed}
use Rattle.subsets.specs.Claims.{fits}
use Rattle.automaton.specs.Automaton.{Text}
use Rattle.delegates.specs.Alike.{Delegate, delegate_in, Merged}
use Rattle.delegates.proofs.Claims as delegates
use Rattle.delegates.specs.Claims.{starts_in}
use Rattle.build.specs.mirror.Building.{built_of}
use Rattle.build.proofs.Claims as build
use Rattle.chunks.specs.Chunks.{end_set, chunk_count, looked}
use Rattle.chunks.specs.mirror.Walks.{run_mask, runs_of}
use Rattle.chunks.proofs.Claims as chunks
use Rattle.histories.specs.History.{run_at}

module _ (r : Rule) (good : WellFormed r) (fit : fits r) where
  pub n_same : (built_of r).n ≡ r.n
  n_same = omega (arith, good.states)

  pub k_same : (built_of r).k ≡ r.k
  k_same = omega (arith, good.symbols)

  pub merged : Merged (automaton_of r) (starts_in r).delegates (starts_in r).startcount
  merged = (build.claims).delegates r good fit

  pub delegate_below : (q x : ℕ) → q < r.n → delegate_in (starts_in r).delegates q ≡ some x → x < r.n
  delegate_below q x h e =
      (subst (Delegate (automaton_of r) q) e
      ((delegates.claims).delegates_in_lem (automaton_of r) good.states.1 (starts_in r).delegates (starts_in r).startcount merged q h)
      ).1.state

  pub run-below : (p : ℕ) → run_at r p < 2 ^ r.n
  run-below zero =
      below_of r.n (run_at r 0)
      (λ q e.
      let u = ((chunks.claims).delegate_law (starts_in r).delegates r.n r.initials q).0 e in
      delegate_below u.0 q u.1 u.3)
  run-below (suc p) =
      below_of r.n (run_at r (suc p))
      (λ q e. (((chunks.claims).start_law (starts_in r).delegates r.n q).0 e).0)

  -- the states that the code runs at a place are document 01's
  run_same : (p : ℕ) → run_mask (starts_in r).delegates (built_of r).n r.initials p ≡ run_at r p
  run_same p =
      rw n_same
      ((chunks.claims).run_mask_lem (starts_in r).delegates r.n r.initials good.states.1 p)

  module _ (p : ℕ) (w : List ℕ) (text : Text r.k w) where
    pub count_same : (runs_of (built_of r).sets (built_of r).next (built_of r).singles (run_mask (starts_in r).delegates (built_of r).n r.initials p) w).count
        ≡ chunk_count r.targets (run_at r p) w
    count_same =
        ap (λ (m : ℕ). (runs_of (built_of r).sets (built_of r).next (built_of r).singles m w).count) (run_same p)
        ∙ (chunks.claims).count r good fit (run_at r p) (run-below p) w text

    pub looked_same : (runs_of (built_of r).sets (built_of r).next (built_of r).singles (run_mask (starts_in r).delegates (built_of r).n r.initials p) w).looked
        ≡ looked r.targets (run_at r p) w
    looked_same =
        ap (λ (m : ℕ). (runs_of (built_of r).sets (built_of r).next (built_of r).singles m w).looked) (run_same p)
        ∙ (chunks.claims).looks r good fit (run_at r p) (run-below p) w text

    pub end_same : (q : ℕ) → q < 32
        → get_or (runs_of (built_of r).sets (built_of r).next (built_of r).singles (run_mask (starts_in r).delegates (built_of r).n r.initials p) w).ends q 0
        ≡ end_set r.targets (run_at r p) w q
    end_same q h =
        ap (λ (m : ℕ). get_or (runs_of (built_of r).sets (built_of r).next (built_of r).singles m w).ends q 0) (run_same p)
        ∙ ap (λ (l : List ℕ). get_or l q 0) ((chunks.claims).ends r good fit (run_at r p) (run-below p) w text)
        ∙ cell_of_lem 32 (end_set r.targets (run_at r p) w) q 0 h
