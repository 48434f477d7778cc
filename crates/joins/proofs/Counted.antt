-- The bound on the count: the summed count is at most M times the bytes of all chunks, since what
-- is run at a place is a start. Assumes what crates/chunks claims of a chunk's count, a well-formed
-- rule and its delegates.
use mathlib.Core.List.{List, [], ◌∷◌, flatten}
use Prim.Native.Nat.{ℕ, suc, ◌*◌, ◌≤◌, ◌<◌}
use native.Mathlib.Nat.{mul-add, add-le-add}
use native.Mathlib.Omega.{arith}
use lib.ListN.{length, get_or, length-append}
use Rattle.base.specs.Totals.{total}
use Rattle.base.proofs.Totals.{total_first}
use Rattle.automaton.specs.declared.Rule.{Rule}
use Rattle.automaton.specs.Rules.{automaton_of, WellFormed}
use Rattle.delegates.specs.Alike.{Merged}
use Rattle.chunks.specs.Chunks.{run_set, chunk_count}
use Rattle.chunks.specs.Claims.{Claims as ChunksClaims}
use Rattle.joins.specs.Claims.{count_of}
use Rattle.joins.proofs.Delegated.{run_start}

-- a sum over chunks, each term at most most times the chunk's bytes
flat_most : (most : ℕ) (ws : List (List ℕ)) (f : ℕ → ℕ) → ((p : ℕ) → p < length ws → f p ≤ most * length (get_or ws p []))
    → total f (length ws) ≤ most * length (flatten ws)
unfolding flatten total
flat_most most [] f h = omega arith
flat_most most (w ∷ ws) f h =
    rw (total_first f (length ws), length-append, mul-add)
    (add-le-add (h 0 (omega arith)) (flat_most most ws (λ p. f (suc p)) (λ p l. h (suc p) (omega arith))))

module _ (given : ChunksClaims) (r : Rule) (good : WellFormed r) (d : List ℕ) (m : ℕ) (merged : Merged (automaton_of r) d m) where
  pub place_most : (p : ℕ) (w : List ℕ) → chunk_count r.targets (run_set d r.n r.initials p) w ≤ m * length w
  place_most p w =
      rw merged.starts
      (given.chunk_most r.targets d r.n (run_set d r.n r.initials p) good.states.1 (run_start given r good d m merged p) w)

  pub count_most : (ws : List (List ℕ)) → count_of r d ws ≤ m * length (flatten ws)
  count_most ws =
      flat_most m ws (λ p. chunk_count r.targets (run_set d r.n r.initials p) (get_or ws p [])) (λ p l. place_most p (get_or ws p []))
