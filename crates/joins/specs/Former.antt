-- The delegates, runs and join that document 01 had before R-7 of document 02 took the states that
-- lead nowhere out of them, and the claim that an owner sees the same yes or no as with them. No
-- code goes by these definitions.
--
--   FormerMerged a d m     d lists the lowest alike state of each state, also of one from which no
--                          final state can be reached, with zeros after them, and m is how many
--                          states are their own
--   former_run_set d n m p  the states that a chunk was run from at place p, where m is the set of
--                          initial states: at place 0 the delegates of initial states, at any other
--                          place all starts
--   former_join, former_yes  C after the first p places, and yes
--   FormerEnds r d e ws    each place holds, for each state, the end set of its chunk there
use Rattle.std.specs.Prelude.{◌≡◌, ◌↔◌, Bool, true, ℕ, zero, suc, ◌≤◌, ◌<◌, length, get_or}
use mathlib.Core.List.{List, [], flatten}
use Rattle.limits.specs.Limits.{most_states}
use Rattle.masks.specs.Masks.{single, union, shares}
use Rattle.automaton.specs.declared.Rule.{Rule}
use Rattle.automaton.specs.Automaton.{Automaton, Accepts}
use Rattle.automaton.specs.Rules.{automaton_of, WellFormed}
use Rattle.subsets.specs.Claims.{fits}
use Rattle.delegates.specs.Alike.{Lowest, delegate_in, start_set, start_count, Merged}
use Rattle.chunks.specs.Chunks.{end_set}
use Rattle.joins.specs.Joining.{yes_of}
use Rattle.joins.specs.Claims.{Texts, HoldsEnds}

pub record FormerMerged (a : Automaton) (d : List ℕ) (m : ℕ) : Type 0 where
  pub cells : length d ≡ most_states
  pub delegates : (q : ℕ) → q < a.n → Lowest a q (get_or d q 0)
  pub zeros : (q : ℕ) → a.n ≤ q → get_or d q 0 ≡ 0
  pub starts : m ≡ start_count d a.n

abbrev pub former_run_set : List ℕ → ℕ → ℕ → ℕ → ℕ
former_run_set d n m zero = union (λ q. single (get_or d q 0)) m n
former_run_set d n m (suc place) = start_set d n

unfoldable pub former_join : (ℕ → ℕ → ℕ) → List ℕ → ℕ → ℕ → ℕ → ℕ
former_join e d n m zero = m
former_join e d n m (suc p) = union (λ q. e p (get_or d q 0)) (former_join e d n m p) n

abbrev pub former_yes : (ℕ → ℕ → ℕ) → List ℕ → ℕ → ℕ → ℕ → ℕ → Bool
former_yes e d n m f p = shares (former_join e d n m p) f

abbrev pub FormerEnds : Rule → List ℕ → (ℕ → ℕ → ℕ) → List (List ℕ) → Type 0
FormerEnds r d e ws =
    (p : ℕ) → p < length ws → (q : ℕ) → q < r.n
    → e p q ≡ end_set r.targets (former_run_set d r.n r.initials p) (get_or ws p []) q

pub record FormerClaims : Type 0 where
  -- every well-formed rule with at most 512 sets has the former list
  pub former_merged : (r : Rule) → WellFormed r → fits r → (d : List ℕ) × (m : ℕ) × FormerMerged (automaton_of r) d m
  -- the former join said yes exactly where the rule's automaton has an accepting run over the
  -- chunks
  pub former_join_lem : (r : Rule) → WellFormed r → (d : List ℕ) (m : ℕ) → FormerMerged (automaton_of r) d m
      → (e : ℕ → ℕ → ℕ) (ws : List (List ℕ)) → Texts r.k ws → FormerEnds r d e ws
      → (former_yes e d r.n r.initials r.finals (length ws) ≡ true) ↔ Accepts (automaton_of r) (flatten ws)
  -- on the same chunks the former join and the join say the same
  pub same_answer : (r : Rule) → WellFormed r → (ws : List (List ℕ)) → Texts r.k ws
      → (d : List ℕ) (m : ℕ) → FormerMerged (automaton_of r) d m → (e : ℕ → ℕ → ℕ) → FormerEnds r d e ws
      → (g : List ℕ) (l : ℕ) → Merged (automaton_of r) g l → (f : ℕ → ℕ → ℕ) → HoldsEnds r g f ws
      → former_yes e d r.n r.initials r.finals (length ws)
      ≡ yes_of f (delegate_in g) r.n r.initials r.finals (length ws)
