-- What makes the delegates believable; proofs/Claims.antt proves it.
use Rattle.std.specs.Prelude.{◌≡◌, ◌↔◌, Bool, true, List, ℕ, ◌≤◌, ◌<◌, length, get_or}
use Rattle.std.proofs.Math.Option.{Option, some}
use Rattle.limits.specs.Limits.{most_states, empty_set, most_classes}
use Rattle.masks.specs.Masks.{single}
use Rattle.automaton.specs.declared.Rule.{Rule}
use Rattle.automaton.specs.Automaton.{Automaton}
use Rattle.automaton.specs.Rules.{automaton_of, WellFormed}
use Rattle.subsets.specs.Sets.{sets_of, set_cells, next_cells}
use Rattle.subsets.specs.Claims.{fits}
use Rattle.subsets.specs.mirror.Singles.{singleton_number, singles_of}
use Rattle.delegates.specs.declared.Starts.{Starts}
use Rattle.delegates.specs.Alike.{Alike, Live, Delegate, delegate_in, Merged}
use Rattle.delegates.specs.mirror.Classes.{AlikeSets, alike_to, live_of, starts_of}

-- the delegates and the number of starts of a rule, by the arrays of its numbered sets
unfoldable pub starts_in : Rule → Starts
starts_in r =
    starts_of (set_cells r.targets r.n r.k) (next_cells r.targets r.n r.k) r.finals
    (singles_of (set_cells r.targets r.n r.k) (length (sets_of r.targets r.n r.k)))
    r.n
    r.k

-- the test that state q of a rule is live, by the same arrays
unfoldable pub live_in : Rule → ℕ → Bool
live_in r q =
    live_of (set_cells r.targets r.n r.k) (next_cells r.targets r.n r.k) r.finals
    (singles_of (set_cells r.targets r.n r.k) (length (sets_of r.targets r.n r.k)))
    r.k
    q

pub record Claims : Type 1 where
  -- of a well-formed rule with at most 512 sets, they are the delegates and the number of starts of
  -- the automaton
  pub merged : (r : Rule) → WellFormed r → fits r → Merged (automaton_of r) (starts_in r).delegates (starts_in r).startcount
  -- a text that tells two sets apart has 512 symbols or fewer, or there is one that has
  pub alike_at : (sets next : List ℕ) (finals k s t : ℕ) → s ≤ empty_set → t ≤ empty_set
      → (alike_to sets next finals k most_classes s t ≡ true) ↔ AlikeSets sets next finals k s t
  -- each state's singleton has a number, which names it
  pub singles : (r : Rule) → WellFormed r → fits r → (q : ℕ) → q < r.n
      → (singleton_number (set_cells r.targets r.n r.k) (length (sets_of r.targets r.n r.k)) q < length (sets_of r.targets r.n r.k))
      × (get_or (sets_of r.targets r.n r.k) (singleton_number (set_cells r.targets r.n r.k) (length (sets_of r.targets r.n r.k)) q) 0 ≡ single q)
  -- alike is an equivalence
  pub alike_self : (a : Automaton) (q : ℕ) → Alike a q q
  pub alike_back : (a : Automaton) (q r : ℕ) → Alike a q r → Alike a r q
  pub alike_on : (a : Automaton) (q r s : ℕ) → Alike a q r → Alike a r s → Alike a q s
  -- a final state is live, with arcs or without; where there is no final state, none is live, and
  -- there is no start
  pub final_live : (a : Automaton) (q : ℕ) → q < a.n → a.Final q → Live a q
  pub none_live : (a : Automaton) → ((q : ℕ) → a.Final q → ⊥) → (q : ℕ) → Live a q → ⊥
  pub none_start : (a : Automaton) → a.n ≤ most_states → ((q : ℕ) → a.Final q → ⊥) → (d : List ℕ) (m : ℕ) → Merged a d m → m ≡ 0
  -- a state alike to a live one is live; two that are not live are alike
  pub live_alike : (a : Automaton) (q r : ℕ) → Alike a q r → Live a q → Live a r
  pub dead_alike : (a : Automaton) (q r : ℕ) → (Live a q → ⊥) → (Live a r → ⊥) → Alike a q r
  -- whether a state is live is decided: the code's test, by the classes of sets, says it
  pub live_law : (r : Rule) → WellFormed r → fits r → (q : ℕ) → q < r.n → (live_in r q ≡ true) ↔ Live (automaton_of r) q
  -- a state has one delegate at most, or none; two live states have the same one exactly where they
  -- are alike
  pub one_delegate : (a : Automaton) (q : ℕ) (o u : Option ℕ) → Delegate a q o → Delegate a q u → o ≡ u
  pub same_delegate : (a : Automaton) (q r d e : ℕ) → Delegate a q (some d) → Delegate a r (some e) → Alike a q r ↔ d ≡ e
  -- a delegate is its own delegate, so it is a start
  pub own_delegate : (a : Automaton) (q d : ℕ) → Delegate a q (some d) → Delegate a d (some d)
  pub delegates_start : (a : Automaton) (d : List ℕ) (m : ℕ) → Merged a d m
      → (q x : ℕ) → q < a.n → delegate_in d q ≡ some x → delegate_in d x ≡ some x
  -- the list says the delegate of each state
  pub delegates_in_lem : (a : Automaton) → a.n ≤ most_states → (d : List ℕ) (m : ℕ) → Merged a d m
      → (q : ℕ) → q < a.n → Delegate a q (delegate_in d q)
  -- the list of delegates and the number of starts are fixed by the automaton
  pub one_list : (a : Automaton) (d e : List ℕ) (m k : ℕ) → Merged a d m → Merged a e k → (d ≡ e) × (m ≡ k)
