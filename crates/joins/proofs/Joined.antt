-- The theorem of the join, over any assignment of a state, or of none, to each state: it says yes
-- exactly where the rule's automaton accepts the chunks joined in order. Assumes a well-formed rule
-- and that each place holds the end sets of its chunk.
--
--   Given a q o        q is given a state alike to it; or none, and then q is not live
--   Assigned r g run   each state is given such a state, and that is run at each place where it may
--                      be asked for: at place 0 what an initial state is given, at any other place
--                      what any state is given. `run p` is the set of the states that are run there
--   Holds r run e ws   each place holds, for each state, the end set of its chunk there
--
-- The invariant, after p places: C accepts what is left of the text exactly where the initial
-- states accept the whole. C need not be the set that the automaton reaches. A place keeps it: a
-- member of C that is given a state accepts the rest exactly where that one does, being alike to
-- it; and that one does exactly where its end set accepts what is left after the chunk. A member
-- that is given none accepts no text, and adds nothing to C.
use mathlib.Core.Path.{◌≡◌, refl, sym, ap, ◌∙◌, subst}
use mathlib.Core.Logic.{◌↔◌}
use mathlib.Core.Bool.{true}
use mathlib.Core.List.{List, [], ◌++◌, flatten}
use mathlib.Core.Option.{Option, none, some}
use Prim.Native.Nat.{ℕ, zero, suc, ◌^◌, ◌≤◌, ◌<◌}
use native.Mathlib.Omega.{arith}
use lib.ListN.{length, get_or, drop}
use lib.Pow.{pow-lt, pow_pos}
use lib.Seq.{drop-cons, drop-length}
use Rattle.masks.specs.Masks.{◌∈◌, single, union, shares}
use Rattle.masks.proofs.Laws.{no_member, has_member, members_below, below_of, part_of, in_union}
use Rattle.automaton.specs.declared.Rule.{Rule}
use Rattle.automaton.specs.Automaton.{Automaton, Accepts, Text}
use Rattle.automaton.specs.Rules.{automaton_of, WellFormed}
use Rattle.automaton.specs.Successor.{after}
use Rattle.automaton.proofs.Laws.{after-append, after_below, accepts_law}
use Rattle.delegates.specs.Alike.{AcceptsFrom, Alike, Live, of_delegate}
use Rattle.chunks.specs.Chunks.{end_set}
use Rattle.joins.specs.Joining.{join_of, yes_of}
use Rattle.joins.specs.Claims.{Texts}
use Rattle.joins.proofs.Acceptance.{Accepting, accepting_law, accepting_single, text_flatten, texts_drop}

abbrev pub Given : Automaton → ℕ → Option ℕ → Type 0
Given a q none = Live a q → ⊥
Given a q (some x) = (x < a.n) × Alike a q x

pub record Assigned (r : Rule) (g : ℕ → Option ℕ) (run : ℕ → ℕ) : Type 0 where
  pub given : (q : ℕ) → q < r.n → Given (automaton_of r) q (g q)
  pub first : (q x : ℕ) → q < r.n → q ∈ r.initials → g q ≡ some x → x ∈ run 0
  pub later : (p q x : ℕ) → q < r.n → g q ≡ some x → x ∈ run (suc p)

abbrev pub Holds : Rule → (ℕ → ℕ) → (ℕ → ℕ → ℕ) → List (List ℕ) → Type 0
Holds r run e ws = (p : ℕ) → p < length ws → (q : ℕ) → q < r.n → e p q ≡ end_set r.targets (run p) (get_or ws p []) q

module _ (r : Rule) (good : WellFormed r) where
  -- ---- one state q that is given o, over a chunk w, with end sets e
  module _ (q : ℕ) (e : ℕ → ℕ) (w : List ℕ) where
    -- what is given was run
    abbrev Ran : Option ℕ → Type 0
    Ran o = (x : ℕ) → o ≡ some x → e x ≡ after r.targets (single x) w

    end_below : (o : Option ℕ) → Given (automaton_of r) q o → Ran o → of_delegate e o < 2 ^ r.n
    end_below none f i = pow_pos r.n
    end_below (some x) f i = subst (λ (z : ℕ). z < 2 ^ r.n) (sym (i x refl)) (after_below r good (single x) w (pow-lt f.0))

    -- q accepts the chunk and the rest exactly where the end set of what it is given accepts the
    -- rest
    through : (rest : List ℕ) → Text r.k (w ++ rest) → (o : Option ℕ) → Given (automaton_of r) q o → Ran o
        → AcceptsFrom (automaton_of r) q (w ++ rest) ↔ Accepting r (of_delegate e o) rest
    through rest text none f i = (
      (λ t. absurd (f (record { text = w ++ rest; accepts = t }))),
      λ y. let u = (accepting_law r good 0 rest (pow_pos r.n)).0 y in absurd (no_member u.0 u.1),
    )
    through rest text (some x) f i =
        let alike = f.1 (w ++ rest) text in
        let one = accepting_single r good x (w ++ rest) f.0 in
        let apart = after-append r.targets (single x) w rest in (
          (λ t.
              subst (λ (z : ℕ). Accepting r z rest) (sym (i x refl))
              (subst (λ (z : ℕ). shares z r.finals ≡ true) apart (one.1 (alike.0 t)))),
          λ y.
              alike.1
              (one.0 (subst (λ (z : ℕ). shares z r.finals ≡ true) (sym apart) (subst (λ (z : ℕ). Accepting r z rest) (i x refl) y))),
        )

  module _ (g : ℕ → Option ℕ) (run : ℕ → ℕ) (assigned : Assigned r g run) (e : ℕ → ℕ → ℕ) (ws : List (List ℕ)) (texts : Texts r.k ws)
      (holds : Holds r run e ws) where
    -- C after p places
    joined : ℕ → ℕ
    joined p = join_of e g r.n r.initials p

    given_state : (q x : ℕ) → q < r.n → g q ≡ some x → x < r.n
    given_state q x h s = let f : Given (automaton_of r) q (some x) = subst (λ (o : Option ℕ). Given (automaton_of r) q o) s (assigned.given q h) in f.0

    -- what a member of C is given is run at the place
    given_run : (p q x : ℕ) → q < r.n → q ∈ joined p → g q ≡ some x → x ∈ run p
    unfolding joined join_of
    given_run zero q x h i s = assigned.first q x h i s
    given_run (suc p) q x h i s = assigned.later p q x h s

    module _ (p : ℕ) (h : p < length ws) where
      -- what q adds to C at the place
      adds : ℕ → ℕ
      adds q = of_delegate (e p) (g q)

      joined_place : joined (suc p) ≡ union adds (joined p) r.n
      unfolding joined join_of adds
      joined_place = refl

      ran : (q : ℕ) → q < r.n → q ∈ joined p → Ran q (e p) (get_or ws p []) (g q)
      ran q l i x s = holds p h x (given_state q x l s) ∙ rw (has_member (run p) x (given_run p q x l i s))

      adds_below : (q : ℕ) → q < r.n → q ∈ joined p → adds q < 2 ^ r.n
      unfolding adds
      adds_below q l i = end_below q (e p) (get_or ws p []) (g q) (assigned.given q l) (ran q l i)

      next_below : joined (suc p) < 2 ^ r.n
      next_below =
          below_of r.n (joined (suc p))
          (λ s i.
          let u = part_of adds (joined p) s r.n (subst (λ (z : ℕ). s ∈ z) joined_place i) in
          members_below r.n (adds u.from) s (adds_below u.from u.below u.member) u.there)

    joined_below : (p : ℕ) → p ≤ length ws → joined p < 2 ^ r.n
    unfolding joined join_of
    joined_below zero h = good.initials_below
    joined_below (suc p) h = next_below p h

    module _ (p : ℕ) (h : p < length ws) (rest : List ℕ) (text : Text r.k (get_or ws p [] ++ rest)) where
      passes : (q : ℕ) → q < r.n → q ∈ joined p → AcceptsFrom (automaton_of r) q (get_or ws p [] ++ rest) ↔ Accepting r (adds p h q) rest
      unfolding adds
      passes q l i = through q (e p) (get_or ws p []) rest text (g q) (assigned.given q l) (ran p h q l i)

      place_law : Accepting r (joined p) (get_or ws p [] ++ rest) ↔ Accepting r (joined (suc p)) rest
      place_law =
          let small = joined_below p (omega arith) in
          let before = accepting_law r good (joined p) (get_or ws p [] ++ rest) small in
          let next = accepting_law r good (joined (suc p)) rest (next_below p h) in (
            (λ y.
                let u = before.0 y in
                let l = members_below r.n (joined p) u.0 small u.1 in
                let s = (accepting_law r good (adds p h u.0) rest (adds_below p h u.0 l u.1)).0 ((passes u.0 l u.1).0 u.2) in
                next.1 (
                  s.0,
                  subst (λ (z : ℕ). s.0 ∈ z) (sym (joined_place p h)) (in_union (adds p h) (joined p) s.0 r.n u.0 l u.1 s.1),
                  s.2,
                )),
            λ y.
                let s = next.0 y in
                let u = part_of (adds p h) (joined p) s.0 r.n (subst (λ (z : ℕ). s.0 ∈ z) (joined_place p h) s.1) in
                let x = (accepting_law r good (adds p h u.from) rest (adds_below p h u.from u.below u.member)).1 (s.0, u.there, s.2) in
                before.1 (u.from, u.member, (passes u.from u.below u.member).1 x),
          )

    -- the invariant
    rest_law : (p : ℕ) → p ≤ length ws → Accepting r (joined p) (flatten (drop p ws)) ↔ Accepting r r.initials (flatten ws)
    unfolding joined join_of flatten
    rest_law zero h = ((λ y. y), λ y. y)
    rest_law (suc p) h =
        let before = rest_law p (omega arith) in
        let rest = flatten (drop (suc p) ws) in
        let same : flatten (drop p ws) ≡ get_or ws p [] ++ rest = ap flatten (drop-cons ws p [] h) in
        let text = subst (λ (v : List ℕ). Text r.k v) same (text_flatten r.k (drop p ws) (texts_drop r.k ws p texts)) in
        let step = place_law p h rest text in (
          (λ y. before.0 (subst (λ (v : List ℕ). Accepting r (joined p) v) (sym same) (step.1 y))),
          λ y. step.0 (subst (λ (v : List ℕ). Accepting r (joined p) v) same (before.1 y)),
        )

    pub join_any : (yes_of e g r.n r.initials r.finals (length ws) ≡ true) ↔ Accepts (automaton_of r) (flatten ws)
    unfolding joined flatten
    join_any =
        let all = rest_law (length ws) (omega arith) in
        let same : flatten (drop (length ws) ws) ≡ [] = ap flatten (drop-length ws) in
        let law = accepts_law r good (flatten ws) in (
          (λ y. law.1 (all.0 (subst (λ (v : List ℕ). Accepting r (joined (length ws)) v) (sym same) y))),
          λ t. subst (λ (v : List ℕ). Accepting r (joined (length ws)) v) same (all.1 (law.0 t)),
        )
