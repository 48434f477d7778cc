-- After how many bytes of a chunk a trace is lost: what is answered, and on any state whatever. On a
-- state that no list of calls leaves, nobody says what it should be; what stands here is what the
-- code does. crates/losses says what it is after a list of calls.
--
--   Spot                     what is answered
--     refused_for x          refused with the number x
--     stuck_after b          nothing can follow the first b bytes, and something can follow fewer
--     nowhere                something can follow all of them
--   found_means              what a number of bytes says, or that there is none
--   located_means            what the code's answer says
--   some_left ends           some end set is not empty
--   found_by x               what the runs x over a text say: where none is left, the bytes for which
--                            they looked a successor up
--   text_spot .. k gap t     the same for the runs over the text t, in bytes of it, with 13 and 23
--                            before it: gap says whether a place before is empty
--   cut_of b                  the pruned table of the built rule b
--   spot_in b m t            what the runs over it say, from the delegates of the set m
--   in_chunk w s             the same in bytes of the chunk w, idle marks counted
--   locate_conditions        21, 11, 12, 13, 23
--   spot_of j p w             what is answered on the state j for the chunk w at place p
use Rattle.std.specs.Prelude.{Result, Ok, Err, Some, None, Bool, cond, List, [], ◌∷◌, ℕ, min, leb, ltb, length, get_or}
use Rattle.std.specs.Prelude as code
use Rattle.std.proofs.Math.Option.{Option, none, some}
use Rattle.limits.specs.Limits.{most_states, longest_chunk}
use Rattle.base.specs.declared.Refusal.{Refusal}
use Rattle.base.specs.Answers.{refusal_number}
use Rattle.base.specs.Conditions.{Condition, on, first_of, any_below}
use Rattle.marks.specs.Marks.{text_of}
use Rattle.build.specs.declared.Built.{Built}
use Rattle.chunks.specs.declared.Runs.{Runs}
use Rattle.chunks.specs.Chunks.{foreign}
use Rattle.chunks.specs.mirror.Walks.{runs_of, delegate_mask}
use Rattle.board.specs.Boards.{places_of, is_empty}
use Rattle.joins.specs.Joining.{join_up_to}
use Rattle.calls.specs.declared.Judge.{Judge}
use Rattle.calls.specs.mirror.Steps.{lacks_board}
use Rattle.locating.specs.Positions.{position_of}
use Rattle.locating.specs.mirror.Pruning.{live_set, pruned}

pub data Spot : Type 0 where
  refused_for : ℕ → Spot
  stuck_after : ℕ → Spot
  nowhere : Spot

abbrev pub found_means : code.Option ℕ → Spot
found_means (Some bytes) = stuck_after bytes
found_means None = nowhere

abbrev pub located_means : Result (code.Option ℕ) Refusal → Spot
located_means (Ok found) = found_means found
located_means (Err refusal) = refused_for (refusal_number refusal)

abbrev pub some_left : List ℕ → Bool
some_left ends = any_below (λ q. ltb 0 (get_or ends q 0)) most_states

abbrev pub found_by : Runs → Spot
found_by x = cond (some_left x.ends) nowhere (stuck_after x.looked)

unfoldable pub text_spot : List ℕ → List ℕ → List ℕ → ℕ → ℕ → Bool → List ℕ → Spot
text_spot sets next singles run k gap t = cond (foreign t k) (refused_for 13) (cond gap (refused_for 23) (found_by (runs_of sets next singles run t)))

abbrev pub cut_of : Built → List ℕ
cut_of b = pruned b.sets b.next (live_set b.delegates (min b.n most_states)) b.setcount

abbrev pub spot_in : Built → ℕ → List ℕ → Spot
spot_in b m t = found_by (runs_of b.sets (cut_of b) b.singles (delegate_mask b.delegates b.n m) t)

abbrev pub in_chunk : List ℕ → Spot → Spot
in_chunk w (refused_for x) = refused_for x
in_chunk w (stuck_after b) = stuck_after (position_of w b)
in_chunk w nowhere = nowhere

abbrev pub locate_conditions : Bool → ℕ → ℕ → List ℕ → ℕ → Bool → List Condition
locate_conditions lacks places p w k gap =
    on 21 lacks ∷
    on 11 (leb places p) ∷
    on 12 (ltb longest_chunk (length w)) ∷
    on 13 (foreign (text_of w) k) ∷
    on 23 gap ∷ []

abbrev pub spot_by : Option ℕ → Spot → Spot
spot_by none s = s
spot_by (some number) s = refused_for number

unfoldable pub spot_of : Judge → ℕ → List ℕ → Spot
spot_of j p w =
    spot_by (first_of (locate_conditions (lacks_board j) (places_of j.board) p w j.built.k (any_below (is_empty j.board) p)))
    (in_chunk w (spot_in j.built (join_up_to j.board.ends j.built.delegates j.built.n j.built.initials p) (text_of w)))
