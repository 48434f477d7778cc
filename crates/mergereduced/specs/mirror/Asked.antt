-- Sets of pairs as the code has them, and what its functions ask of each other; `merge_reduced`
-- itself asks nothing.
--
--   most_pairs                 the most pairs of a state of each rule
--   set_in l                   the set of the numbers whose cell of the list l is 1
--   symbols_to ts x y          the symbols by which the table ts has an arc from x to y
--   symbols_of ts              the list of these for every two states
--   symbols_at m x y           what such a list m has for x and y
--   link_in way .. q p          the test that the result has an arc from q to p, from the two lists
--   link_by forth link q p     a link from q to p, or from p to q
--   fresh_in m done q          the test that q is in m and not yet done
--   Sized n1 n2                two numbers of states, of at least one state each
--   Tabled n1 n2 ts us         such numbers, and the tables of two such rules
--   ArcAsked way .. q s p      two states of the result, and a symbol
--   pair_arcs way .. q p       the test that the result has an arc from q to p
--   Few way n1 n2 m n c        n states of the result, of which the c in the set m stay
--   Listed way n1 n2 list c    c states of the result
--   places_in list c m         the places among the first c of the list where a member of m stands
--   cell_in ts list c cell     a cell of the table of the states that stay
--   paired_of way one two      what is answered of two rules that pass their checks and have the
--                              same symbols
use Rattle.std.specs.Prelude.{Bool, true, false, cond, not, ◌&&◌, ◌||◌, List, ◌≡◌, ℕ, ◌+◌, ◌-◌, ◌*◌, ◌/◌, ◌%◌, ◌<◌, ◌≤◌, eqb, ltb, get_or}
use Rattle.std.proofs.Math.Option.{none, some}
use Rattle.base.specs.Lists.{list_from}
use Rattle.limits.specs.Limits.{most_states, most_symbols}
use Rattle.masks.specs.Masks.{has, mask_of, shares}
use Rattle.masks.specs.Turns.{rank}
use Rattle.automaton.specs.declared.Rule.{Rule}
use Rattle.automaton.specs.Rules.{target_mask}
use Rattle.merging.specs.Merging.{Merging, merging_by}
use Rattle.merging.specs.declared.Way.{Way}
use Rattle.merging.specs.declared.Way.TheVariants.{Both, Either, Interleaving}
use Rattle.merging.specs.Merged.{states_of, targets_of}
use Rattle.merge.specs.mirror.Asked.{Tables}
use Rattle.mergereduce.specs.MergeReduced.{pair_count, trimmed_pairs, reduced_or_own}
use Rattle.mergereduce.specs.Trimmed.{arcs}

abbrev pub most_pairs : ℕ
most_pairs = 1024

unfoldable pub set_in : List ℕ → ℕ
set_in l = mask_of (λ q. eqb (get_or l q 0) 1) most_pairs

abbrev pub symbols_to : List ℕ → ℕ → ℕ → ℕ
symbols_to ts x y = mask_of (λ s. has (target_mask ts x s) y) most_symbols

abbrev pub symbols_of : List ℕ → List ℕ
symbols_of ts = list_from 0 most_pairs (λ cell. symbols_to ts (cell / most_states) (cell % most_states))

abbrev pub symbols_at : List ℕ → ℕ → ℕ → ℕ
symbols_at m x y = get_or m (x * most_states + y) 0

abbrev pub link_in : Way → ℕ → ℕ → List ℕ → List ℕ → ℕ → ℕ → Bool
link_in Both n1 n2 m1 m2 q p = shares (symbols_at m1 (q / n2) (p / n2)) (symbols_at m2 (q % n2) (p % n2))
link_in Either n1 n2 m1 m2 q p =
    cond (ltb q n1)
    (ltb p n1 && not (eqb (symbols_at m1 q p) 0))
    (not (ltb p n1) && not (eqb (symbols_at m2 (q - n1) (p - n1)) 0))
link_in Interleaving n1 n2 m1 m2 q p =
    (eqb (q % n2) (p % n2) && not (eqb (symbols_at m1 (q / n2) (p / n2)) 0))
    || (eqb (q / n2) (p / n2) && not (eqb (symbols_at m2 (q % n2) (p % n2)) 0))

abbrev pub link_by : Bool → (ℕ → ℕ → Bool) → ℕ → ℕ → Bool
link_by true link q p = link q p
link_by false link q p = link p q

abbrev pub fresh_in : ℕ → ℕ → ℕ → Bool
fresh_in m done q = has m q && not (has done q)

pub record Sized (n1 n2 : ℕ) : Type 0 where
  pub first : (1 ≤ n1) × (n1 ≤ most_states)
  pub second : (1 ≤ n2) × (n2 ≤ most_states)

pub record Tabled (n1 n2 : ℕ) (ts us : List ℕ) : Type 0 where
  pub sizes : Sized n1 n2
  pub tables : Tables n1 n2 ts us

pub record ArcAsked (way : Way) (n1 n2 : ℕ) (ts us : List ℕ) (q s p : ℕ) : Type 0 where
  pub tabled : Tabled n1 n2 ts us
  pub from : q < states_of way n1 n2
  pub to : p < states_of way n1 n2
  pub symbol : s < most_symbols

abbrev pub pair_arcs : Way → ℕ → ℕ → List ℕ → List ℕ → ℕ → ℕ → Bool
pair_arcs way n1 n2 ts us = arcs (states_of way n1 n2) (targets_of way n1 n2 ts us)

pub record Few (way : Way) (n1 n2 m n c : ℕ) : Type 0 where
  pub size : n ≡ states_of way n1 n2
  pub most : n ≤ most_pairs
  pub count : c ≡ rank m n
  pub fits : c ≤ most_states

pub record Listed (way : Way) (n1 n2 : ℕ) (list : List ℕ) (c : ℕ) : Type 0 where
  pub fits : c ≤ most_states
  pub states : (p : ℕ) → p < c → get_or list p 0 < states_of way n1 n2

abbrev pub places_in : List ℕ → ℕ → ℕ → ℕ
places_in list c m = mask_of (λ p. has m (get_or list p 0)) c

abbrev pub cell_in : (ℕ → ℕ → ℕ) → List ℕ → ℕ → ℕ → ℕ
cell_in ts list c cell =
    cond (ltb (cell / most_symbols) c) (places_in list c (ts (get_or list (cell / most_symbols) 0) (cell % most_symbols))) 0

unfoldable pub paired_of : Way → Rule → Rule → Merging
paired_of way one two =
    merging_by (cond (ltb most_states (pair_count way one two)) (some 37) none) (reduced_or_own (trimmed_pairs way one two))
