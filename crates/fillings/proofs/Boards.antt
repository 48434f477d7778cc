-- Chunks on a board as a list, and boards that are filled with a list of chunks. Assumes nothing.
--
--   filled        a board without an empty place is filled with a list of chunks
--   text_is       the text on a filled board is the chunks' texts joined
--   taken         a standing chunk meets neither 12 nor 13
--   fillings      the calls that fill a board
use mathlib.Core.Path.{◌≡◌, refl, sym, ap, ◌∙◌, subst}
use mathlib.Core.Bool.{Bool, true, false, cond}
use mathlib.Core.List.{List, [], ◌∷◌, ◌++◌, map, flatten}
use mathlib.Core.Option.{Option, none, some}
use Prim.Native.Nat.{ℕ, zero, suc, ◌+◌, ◌≤◌, ◌<◌}
use native.Mathlib.Omega.{arith}
use lib.ListN.{length, get_or}
use borrow.Author.Tests.{eq-eqb, ne_eqb, lt-leb, le-ltb}
use Rattle.base.specs.Conditions.{outside}
use Rattle.base.specs.Lists.{joined}
use Rattle.base.specs.Options.{is_none}
use Rattle.base.specs.Totals.{total}
use Rattle.base.proofs.Conditions.{outside_law}
use Rattle.base.proofs.Lists.{joined_same, joined_first}
use Rattle.base.proofs.Tests.{zero_one}
use Rattle.base.proofs.Totals.{total_most, term_most}
use Rattle.marks.specs.Marks.{text_of}
use Rattle.automaton.specs.declared.Rule.{Rule}
use Rattle.automaton.specs.Automaton.{Text}
use Rattle.chunks.specs.Chunks.{foreign}
use Rattle.chunks.proofs.Claims as chunks
use Rattle.calls.specs.Calls.{Call, installs, opens, delivers, install_number}
use Rattle.histories.specs.History.{rule_there, rule_from, rule_in, board_in, places_in, deliver_number, last_revision, standing, standing_text, joined_up_to, text_in, empties_in}
use Rattle.histories.proofs.EveryList.{good}
use Rattle.histories.proofs.CountBound.{standing_short}
use Rattle.fillings.specs.Filled.{Filled, TakenAll}

-- ---- a list of n chunks, the first that of place i
unfoldable chunks_from : (ℕ → List ℕ) → ℕ → ℕ → List (List ℕ)
chunks_from at i zero = []
chunks_from at i (suc n) = at i ∷ chunks_from at (suc i) n

chunks_long : (at : ℕ → List ℕ) (i n : ℕ) → length (chunks_from at i n) ≡ n
unfolding chunks_from
chunks_long at i zero = refl
chunks_long at i (suc n) = ap suc (chunks_long at (suc i) n)

chunk_at : (at : ℕ → List ℕ) (i n p : ℕ) → p < n → get_or (chunks_from at i n) p [] ≡ at (i + p)
unfolding chunks_from
chunk_at at i zero p b = absurd (omega arith)
chunk_at at i (suc n) zero b = let e : i ≡ i + 0 = omega arith in ap at e
chunk_at at i (suc n) (suc p) b = let e : suc i + p ≡ i + suc p = omega arith in chunk_at at (suc i) n p (omega arith) ∙ ap at e

-- ---- a board without an empty place
chunk_of : Option (List ℕ) → List ℕ
chunk_of none = []
chunk_of (some w) = w

is_there : (o : Option (List ℕ)) → is_none o ≡ false → o ≡ some (chunk_of o)
unfolding chunk_of
is_there none e = zero_one cc
is_there (some w) e = refl

none_empty : (at : ℕ → Option (List ℕ)) (n : ℕ) → total (λ p. cond (is_none (at p)) 1 0) n ≡ 0 → (p : ℕ) → p < n → is_none (at p) ≡ false
none_empty at n z p b = go (is_none (at p)) (omega (arith, z, term_most (λ i. cond (is_none (at i)) 1 0) n p b))
  where
    go : (t : Bool) → cond t 1 0 ≤ 0 → t ≡ false
    go true x = absurd (let y = x in omega arith)
    go false x = refl

pub filled : (h : List Call) (r : Rule) → rule_there h ≡ some r → board_in h ≡ true → empties_in h ≡ 0 → (ws : List (List ℕ)) × Filled h r ws
filled h r rule board empty =
    let at : ℕ → List ℕ = λ p. chunk_of (standing h p) in
    let n = places_in h in
    let long = chunks_long at 0 n in (
      chunks_from at 0 n,
      record {
        rule = rule;
        board = board;
        places = sym long;
        stands = λ p b.
            let c : p < n = omega (arith, long) in
            let e : 0 + p ≡ p = omega arith in
            is_there (standing h p) (none_empty (standing h) n empty p c) ∙ ap some (sym (chunk_at at 0 n p c ∙ ap at e));
      },
    )

-- ---- its text
joined_list : (ws : List (List ℕ)) → joined (λ p. text_of (get_or ws p [])) (length ws) ≡ flatten (map text_of ws)
unfolding joined flatten
joined_list [] = refl
joined_list (w ∷ ws) = joined_first (λ p. text_of (get_or (w ∷ ws) p [])) (length ws) ∙ ap (λ (x : List ℕ). text_of w ++ x) (joined_list ws)

module _ (h : List Call) (r : Rule) (ws : List (List ℕ)) (is : Filled h r ws) where
  pub text_is : text_in h ≡ flatten (map text_of ws)
  text_is =
      ap (joined_up_to (standing h)) is.places
      ∙ joined_same (λ p. standing_text (standing h p)) (λ p. text_of (get_or ws p [])) (length ws) (λ p b. ap standing_text (is.stands p b))
      ∙ joined_list ws

  pub rule_is : rule_in h ≡ r
  rule_is = ap rule_from is.rule

  pub none_missing : empties_in h ≡ 0
  none_missing =
      ap (total (λ p. cond (is_none (standing h p)) 1 0)) is.places
      ∙ omega (
        arith,
        total_most (λ p. cond (is_none (standing h p)) 1 0) 0 (length ws)
            (λ p b. let z = ap (λ (o : Option (List ℕ)). cond {A = ℕ} (is_none o) 1 0) (is.stands p b) in omega arith),
      )

  -- what stands was delivered
  pub taken : TakenAll r.k ws
  taken p b =
      let known =
      ((chunks.claims).text_law (text_of (get_or ws p [])) r.k).1
      (subst (λ (x : Rule). Text x.k (text_of (get_or ws p []))) rule_is ((good h).texts p (get_or ws p []) (is.stands p b))) in
      ((chunks.claims).taking r.k (get_or ws p [])).taken.1 (standing_short h p (get_or ws p []) (is.stands p b), known)

-- ---- the calls that fill a board: one chunk after the other, each as revision 0, from place p on
unfoldable fill_from : ℕ → List (List ℕ) → List Call → List Call
fill_from p [] h = h
fill_from p (w ∷ ws) h = fill_from (suc p) ws (delivers p 0 w ∷ h)

module _ (r : Rule) (n : ℕ) where
  -- the rule r is there, and a board of n places on which those from p on never had a chunk
  record Stage (h : List Call) (p : ℕ) : Type 0 where
    rule : rule_there h ≡ some r
    board : board_in h ≡ true
    places : places_in h ≡ n
    free : (i : ℕ) → p ≤ i → last_revision h i ≡ none

  -- a chunk that the rule runs
  abbrev Good : List ℕ → Type 0
  Good w = (length w ≤ 65536) × (foreign (text_of w) r.k ≡ false)

  opened : install_number r ≡ none → outside 1 64 n ≡ false → Stage (opens n ∷ installs r ∷ []) 0
  unfolding rule_there board_in places_in last_revision
  opened taken fine = record {
    rule = rw taken;
    board = rw (taken, fine);
    places = rw (taken, fine);
    free = λ i _. rw (taken, fine);
  }

  module _ (h : List Call) (p : ℕ) (s : Stage h p) (below : p < n) (w : List ℕ) (ok : Good w) where
    number : deliver_number h p 0 w ≡ none
    number =
        rw (s.rule, s.places, s.free p (omega arith), ne_eqb n 0 (λ z. omega arith), lt-leb n p below, le-ltb 65536 (length w) ok.0, ok.1)

    there : standing (delivers p 0 w ∷ h) p ≡ some w
    unfolding standing
    there = rw (number, eq-eqb p p refl)

    elsewhere : (i : ℕ) → (p ≡ i → ⊥) → standing (delivers p 0 w ∷ h) i ≡ standing h i
    unfolding standing
    elsewhere i ne = rw (ne_eqb p i ne)

    never_there : (i : ℕ) → (p ≡ i → ⊥) → last_revision (delivers p 0 w ∷ h) i ≡ last_revision h i
    unfolding last_revision
    never_there i ne = rw (ne_eqb p i ne)

    next : Stage (delivers p 0 w ∷ h) (suc p)
    unfolding rule_there board_in places_in
    next = record {
      rule = s.rule;
      board = s.board;
      places = s.places;
      free = λ i b. never_there i (λ e. omega arith) ∙ s.free i (omega arith);
    }

  record Put (p : ℕ) (ws : List (List ℕ)) (h after : List Call) : Type 0 where
    rule : rule_there after ≡ some r
    board : board_in after ≡ true
    places : places_in after ≡ n
    before : (i : ℕ) → i < p → standing after i ≡ standing h i
    stands : (i : ℕ) → i < length ws → standing after (p + i) ≡ some (get_or ws i [])

  put : (ws : List (List ℕ)) (p : ℕ) (h : List Call) → Stage h p → p + length ws ≤ n → ((i : ℕ) → i < length ws → Good (get_or ws i []))
      → Put p ws h (fill_from p ws h)
  unfolding fill_from
  put [] p h s room ok = record { rule = s.rule; board = s.board; places = s.places; before = λ i b. refl; stands = λ i b. absurd (omega arith) }
  put (w ∷ ws) p h s room ok =
      let below : p < n = omega arith in
      let fine = ok 0 (omega arith) in
      let rest = put ws (suc p) (delivers p 0 w ∷ h) (next h p s below w fine) (omega arith) (λ i b. ok (suc i) (omega arith)) in
      record {
        rule = rest.rule;
        board = rest.board;
        places = rest.places;
        before = λ i b. rest.before i (omega arith) ∙ elsewhere h p s below w fine i (λ e. omega arith);
        stands = λ i b. at i b (rest.before p (omega arith) ∙ there h p s below w fine) rest.stands;
      }
    where
      at : (i : ℕ) → i < suc (length ws) → standing (fill_from (suc p) ws (delivers p 0 w ∷ h)) p ≡ some w
          → ((j : ℕ) → j < length ws → standing (fill_from (suc p) ws (delivers p 0 w ∷ h)) (suc p + j) ≡ some (get_or ws j []))
          → standing (fill_from (suc p) ws (delivers p 0 w ∷ h)) (p + i) ≡ some (get_or (w ∷ ws) i [])
      at zero b first others = let e : p ≡ p + 0 = omega arith in subst (λ (x : ℕ). standing (fill_from (suc p) ws (delivers p 0 w ∷ h)) x ≡ some w) e first
      at (suc i) b first others =
          let e : suc p + i ≡ p + suc i = omega arith in
          subst (λ (x : ℕ). standing (fill_from (suc p) ws (delivers p 0 w ∷ h)) x ≡ some (get_or ws i [])) e (others i (omega arith))

pub fillings : (r : Rule) → install_number r ≡ none → (ws : List (List ℕ)) → 1 ≤ length ws → length ws ≤ 64 → TakenAll r.k ws
    → (h : List Call) × Filled h r ws
fillings r takes ws one most ok =
    let n = length ws in
    let h = opens n ∷ installs r ∷ [] in
    let x = put r n ws 0 h (opened r n takes ((outside_law 1 64 n).1 (one, most))) (omega arith) (λ i b. ((chunks.claims).taking r.k (get_or ws i [])).taken.0 (ok i b)) in (
      fill_from 0 ws h,
      record {
        rule = x.rule;
        board = x.board;
        places = x.places;
        stands = λ p b. let e : 0 + p ≡ p = omega arith in subst (λ (y : ℕ). standing (fill_from 0 ws h) y ≡ some (get_or ws p [])) e (x.stands p b);
      },
    )
