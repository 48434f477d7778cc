-- What is answered of a chunk is what a list of calls says. Assumes nothing.
--
-- The route: after a list of calls the runs over the pruned table are those of Living.antt, and a live
-- state is left exactly where something can follow (Continuing.antt); so what is found says it in
-- bytes of the text (`in_words`), and its position says it in bytes of the chunk (`of_chunk`).
use mathlib.Core.Path.{◌≡◌, refl, sym, ap, ap₂, ◌∙◌, subst}
use mathlib.Core.Logic.{◌↔◌}
use mathlib.Core.Bool.{Bool, true, false, cond, ◌||◌}
use mathlib.Core.List.{List, [], ◌∷◌, ◌++◌, append-nil}
use mathlib.Core.Option.{Option, none, some}
use Prim.Native.Nat.{ℕ, zero, suc, ◌≤◌, ◌<◌, min}
use native.Mathlib.Omega.{arith}
use lib.Dec.{eqb, ltb, leb}
use lib.ListN.{length, take, drop, length-append, take-append-drop}
use lib.Seq.{take-length, take-append_seam}
use borrow.Author.Tests.{ne_eqb, lt-leb, le-ltb, leb-false}
use Rattle.base.specs.Conditions.{Condition, on, first_of, any_below}
use Rattle.base.specs.Options.{is_none}
use Rattle.base.proofs.Conditions.{passed, none_at, none_all}
use Rattle.base.proofs.Lists.{joined_suc}
use Rattle.base.proofs.Options.{none-some}
use Rattle.base.proofs.Tests.{not_both}
use Rattle.masks.specs.Masks.{shares}
use Rattle.marks.specs.Marks.{text_of}
use Rattle.marks.proofs.Claims as marks
use Rattle.automaton.specs.declared.Rule.{Rule}
use Rattle.automaton.specs.Automaton.{Automaton, Text}
use Rattle.automaton.specs.Rules.{automaton_of, WellFormed}
use Rattle.automaton.specs.Successor.{after}
use Rattle.live.specs.Continued.{Continued}
use Rattle.subsets.specs.Claims.{fits}
use Rattle.delegates.specs.Alike.{delegate_in}
use Rattle.delegates.specs.Claims.{starts_in}
use Rattle.build.specs.mirror.Building.{built_of}
use Rattle.chunks.specs.declared.Runs.{Runs}
use Rattle.chunks.specs.Chunks.{foreign, delegate_set}
use Rattle.chunks.specs.mirror.Walks.{runs_of}
use Rattle.chunks.proofs.Claims as chunks
use Rattle.board.specs.Boards.{places_of, is_empty, held_in}
use Rattle.joins.specs.Joining.{join_up_to}
use Rattle.joins.proofs.Claims as joins
use Rattle.calls.specs.declared.Judge.{Judge}
use Rattle.calls.specs.Calls.{Call}
use Rattle.calls.specs.mirror.Steps.{lacks_board}
use Rattle.locating.specs.Positions.{position_of}
use Rattle.locating.specs.mirror.Pruning.{live_set, pruned}
use Rattle.locating.specs.Locating.{Spot, refused_for, stuck_after, nowhere, some_left, found_by, spot_in, in_chunk, locate_conditions, spot_by, spot_of}
use Rattle.locating.proofs.Positions.{position_claims}
use Rattle.locating.proofs.Spotting.{looked_within}
use Rattle.histories.specs.History.{rule_there, rule_from, rule_in, places_in, last_revision, standing, standing_text, end_of, joined_up_to}
use Rattle.histories.specs.Claims.{judge_after}
use Rattle.histories.proofs.Running.{n_same, delegate_below}
use Rattle.histories.proofs.Agreement.{Agrees}
use Rattle.histories.proofs.Numbers.{same_test, no_board, places_same, symbols_there}
use Rattle.histories.proofs.EveryList.{good}
use Rattle.histories.proofs.CountBound.{standing_short}
use Rattle.losses.specs.Losses.{text_up_to, Lost}
use Rattle.losses.specs.Spots.{spot_number, text_with, StuckAfter, Spotted}
use Rattle.losses.proofs.Living.{text-take, lives, cut, alive_before, left_alive, needed, dies}
use Rattle.losses.proofs.Continuing.{joined_at, live_at, live_below, all_live, continues, live_left}
use Rattle.losses.proofs.Diagnosing.{three_ways}

-- ---- in words, for a text and for a chunk
module _ (a : Automaton) (before : List ℕ) where
  abbrev TextSays : List ℕ → Spot → Type 0
  TextSays t (refused_for x) = ⊥
  TextSays t (stuck_after b) =
      (b ≤ length t) × (Continued a (before ++ take b t) → ⊥) × ((i : ℕ) → i < b → Continued a (before ++ take i t))
  TextSays t nowhere = (i : ℕ) → i ≤ length t → Continued a (before ++ take i t)

  abbrev pub SpotSays : List ℕ → Spot → Type 0
  SpotSays w (refused_for x) = ⊥
  SpotSays w (stuck_after b) =
      (b ≤ length w) × (Continued a (before ++ text_of (take b w)) → ⊥) × ((i : ℕ) → i < b → Continued a (before ++ text_of (take i w)))
  SpotSays w nowhere = (i : ℕ) → i ≤ length w → Continued a (before ++ text_of (take i w))

  module _ (w : List ℕ) where
    -- the text of the first bytes is the first of the text
    begins : (i : ℕ) → text_of (take i w) ≡ take (length (text_of (take i w))) (text_of w)
    begins i =
        sym (take-append_seam (text_of (take i w)) (text_of (drop i w)))
        ∙ ap (take (length (text_of (take i w)))) (sym ((marks.claims).text_append (take i w) (drop i w)) ∙ ap text_of (take-append-drop i w))

    no_more : (i : ℕ) → length (text_of (take i w)) ≤ length (text_of w)
    no_more i =
        let e = ap length (sym ((marks.claims).text_append (take i w) (drop i w)) ∙ ap text_of (take-append-drop i w)) in
        omega (arith, e, length-append (text_of (take i w)) (text_of (drop i w)))

    shown : (i : ℕ) → Continued a (before ++ take (length (text_of (take i w))) (text_of w)) → Continued a (before ++ text_of (take i w))
    shown i c = subst (λ (u : List ℕ). Continued a (before ++ u)) (sym (begins i)) c

    of_chunk : (s : Spot) → TextSays (text_of w) s → SpotSays w (in_chunk w s)
    of_chunk (refused_for x) y = y
    of_chunk (stuck_after b) y =
        let c = position_of w b in
        let there = position_claims.there w b y.0 in (
          position_claims.within w b,
          (λ z. y.1 (subst (λ (u : List ℕ). Continued a (before ++ u)) (begins c ∙ ap (λ (n : ℕ). take n (text_of w)) there) z)),
          λ i l. shown i (y.2 (length (text_of (take i w))) (position_claims.least w b i l)),
        )
    of_chunk nowhere y = λ i l. shown i (y (length (text_of (take i w))) (no_more i))

-- ---- for a rule that is there
module _ (r : Rule) (places : ℕ) (at : ℕ → Option (List ℕ)) (last : ℕ → Option ℕ) (j : Judge) (holds : Agrees (some r) places at last j) where
  from_is : (p : ℕ) → p < places
      → join_up_to j.board.ends (starts_in r).delegates r.n r.initials p ≡ joined_at r holds.rule.1 holds.rule.2 at p
  from_is p l =
      let d = (starts_in r).delegates in
      (joins.claims).join_law j.board.ends d r.n r.initials p holds.rule.1.states.1
      ∙ (joins.claims).join_same (held_in j.board.ends) (λ p q. end_of r p q (at p)) (delegate_in d) r.n r.initials p
      (λ i q x b s e.
      holds.ends i x (omega (arith, l, b, holds.few))
      (omega (arith, delegate_below r holds.rule.1 holds.rule.2 q x s e, holds.rule.1.states)))

  module _ (p : ℕ) (within : p < places) (full : (i : ℕ) → i < p → is_none (at i) ≡ false) (t : List ℕ) (text : Text r.k t) where
    abbrev wf : WellFormed r
    wf = holds.rule.1

    abbrev fit : fits r
    fit = holds.rule.2

    abbrev run : ℕ
    run = live_at r wf fit at p

    abbrev runs : Runs
    runs = runs_of (built_of r).sets (cut r wf fit) (built_of r).singles run t

    abbrev d : List ℕ
    d = (starts_in r).delegates

    spot_is : spot_in j.built (join_up_to j.board.ends j.built.delegates j.built.n j.built.initials p) t ≡ found_by runs
    spot_is =
        let e : min r.n 32 ≡ r.n = omega (arith, wf.states) in
        rw (holds.rule.0, n_same r wf fit)
        (ap found_by
        (ap₂ (λ (x : ℕ) (s : ℕ). runs_of (built_of r).sets (pruned (built_of r).sets (built_of r).next (live_set d x) (built_of r).setcount) (built_of r).singles s t)
        e
        ((chunks.claims).delegate_mask_lem d r.n (join_up_to j.board.ends d r.n r.initials p) wf.states.1
        ∙ ap (delegate_set d r.n) (from_is p within))))

    alive : (i : ℕ) → shares (after r.targets run (take i t)) (lives r wf fit) ≡ true → Continued (automaton_of r) (joined_up_to at p ++ take i t)
    alive i e = continues r wf fit at holds.texts p full (take i t) (text-take r.k t i text) e

    not_dead : (i : ℕ) → Continued (automaton_of r) (joined_up_to at p ++ take i t) → shares (after r.targets run (take i t)) (lives r wf fit) ≡ true
    not_dead i c = live_left r wf fit at holds.texts p full (take i t) (text-take r.k t i text) c

    -- alive after the whole text, so after each part
    part_alive : (i : ℕ) → shares (after r.targets run t) (lives r wf fit) ≡ true → shares (after r.targets run (take i t)) (lives r wf fit) ≡ true
    part_alive i e =
        alive_before r wf fit run (take i t) (drop i t) (live_below r wf fit at p)
        (subst (λ (u : List ℕ). shares (after r.targets run u) (lives r wf fit) ≡ true) (sym (take-append-drop i t)) e)

    in_words : (left : Bool) → some_left runs.ends ≡ left → TextSays (automaton_of r) (joined_up_to at p) t (cond left nowhere (stuck_after runs.looked))
    in_words true e = λ i l. alive i (part_alive i (left_alive r wf fit run (live_below r wf fit at p) (all_live r wf fit at p) t text e))
    in_words false e = (
      looked_within (built_of r).sets (cut r wf fit) (built_of r).singles run t,
      (λ c. not_both (not_dead runs.looked c) (dies r wf fit run (live_below r wf fit at p) (all_live r wf fit at p) t text e)),
      λ i l. alive i (needed r wf fit run (live_below r wf fit at p) (all_live r wf fit at p) t text i l),
    )

    says : TextSays (automaton_of r) (joined_up_to at p) t
        (spot_in j.built (join_up_to j.board.ends j.built.delegates j.built.n j.built.initials p) t)
    says = subst (TextSays (automaton_of r) (joined_up_to at p) t) (sym spot_is) (in_words (some_left runs.ends) refl)

-- ---- the number by the state is the number by the list
any_same : (f g : ℕ → Bool) (n : ℕ) → ((i : ℕ) → i < n → f i ≡ g i) → any_below f n ≡ any_below g n
unfolding any_below
any_same f g zero h = refl
any_same f g (suc n) h = ap₂ ◌||◌ (any_same f g n (λ i l. h i (omega arith))) (h n (omega arith))

module _ (present : Option Rule) (places : ℕ) (at : ℕ → Option (List ℕ)) (last : ℕ → Option ℕ) (j : Judge) (holds : Agrees present places at last j) (p : ℕ) (w : List ℕ) where
  from_12 : ℕ → Bool → List Condition
  from_12 k gap = on 12 (ltb 65536 (length w)) ∷ on 13 (foreign (text_of w) k) ∷ on 23 gap ∷ []

  number_same : first_of (locate_conditions (lacks_board j) (places_of j.board) p w j.built.k (any_below (is_empty j.board) p))
      ≡ first_of (locate_conditions (eqb places 0) places p w (rule_from present).k (any_below (λ i. is_none (at i)) p))
  unfolding from_12
  number_same =
      same_test 21 (lacks_board j) (eqb places 0)
      (first_of (on 11 (leb (places_of j.board) p) ∷ from_12 j.built.k (any_below (is_empty j.board) p)))
      (first_of (on 11 (leb places p) ∷ from_12 (rule_from present).k (any_below (λ i. is_none (at i)) p)))
      (no_board present places at last j holds)
      (λ b.
      same_test 11 (leb (places_of j.board) p) (leb places p)
      (first_of (from_12 j.built.k (any_below (is_empty j.board) p)))
      (first_of (from_12 (rule_from present).k (any_below (λ i. is_none (at i)) p)))
      (ap (λ (x : ℕ). leb x p) (places_same present places at last j holds))
      (λ l.
      ap₂ (λ (k : ℕ) (gap : Bool). first_of (from_12 k gap))
      (symbols_there present j holds.rule)
      (any_same (is_empty j.board) (λ i. is_none (at i)) p (λ i b. holds.empty i (omega (arith, b, leb-false places p l, holds.few))))))

  -- what holds where there is none
  pub number-none : first_of (locate_conditions (eqb places 0) places p w (rule_from present).k (any_below (λ i. is_none (at i)) p)) ≡ none
      → (p < places) × Text (rule_from present).k (text_of w) × ((i : ℕ) → i < p → is_none (at i) ≡ false)
  unfolding from_12
  number-none e =
      let a = passed 21 (eqb places 0) (first_of (on 11 (leb places p) ∷ from_12 (rule_from present).k (any_below (λ i. is_none (at i)) p))) e in
      let b = passed 11 (leb places p) (first_of (from_12 (rule_from present).k (any_below (λ i. is_none (at i)) p))) a.1 in
      let c = passed 12 (ltb 65536 (length w)) (first_of (on 13 (foreign (text_of w) (rule_from present).k) ∷ on 23 (any_below (λ i. is_none (at i)) p) ∷ [])) b.1 in
      let d = passed 13 (foreign (text_of w) (rule_from present).k) (first_of (on 23 (any_below (λ i. is_none (at i)) p) ∷ [])) c.1 in
      let f = passed 23 (any_below (λ i. is_none (at i)) p) none d.1 in (
        leb-false places p b.0,
        ((chunks.claims).text_law (text_of w) (rule_from present).k).0 d.0,
        λ i l. none_at (λ i. is_none (at i)) p i f.0 l,
      )

says_by : (present : Option Rule) (places : ℕ) (at : ℕ → Option (List ℕ)) (last : ℕ → Option ℕ) (j : Judge) → Agrees present places at last j
    → (p : ℕ) → p < places → ((i : ℕ) → i < p → is_none (at i) ≡ false) → (t : List ℕ) → Text (rule_from present).k t
    → TextSays (automaton_of (rule_from present)) (joined_up_to at p) t
    (spot_in j.built (join_up_to j.board.ends j.built.delegates j.built.n j.built.initials p) t)
says_by none places at last j holds p l full t text = not_both refl (holds.ruled (omega arith))
says_by (some r) places at last j holds p l full t text = says r places at last j holds p l full t text

-- ---- for every list of calls
module _ (h : List Call) (p : ℕ) (w : List ℕ) where
  abbrev answer : Spot
  answer =
      spot_in (judge_after h).built
      (join_up_to (judge_after h).board.ends (judge_after h).built.delegates (judge_after h).built.n (judge_after h).built.initials p)
      (text_of w)

  pub given_spot : (s : Spot) → spot_number h p w ≡ none → SpotSays (automaton_of (rule_in h)) (text_up_to h p) w s → Spotted h p w s
  given_spot (refused_for x) e s = absurd s
  given_spot (stuck_after b) e s = (e, record { most = s.0; stuck = s.1; least = s.2 })
  given_spot nowhere e s = (e, s)

  by_spot : (number : Option ℕ) → spot_number h p w ≡ number → Spotted h p w (spot_by number (in_chunk w answer))
  by_spot (some x) e = e
  by_spot none e =
      let x = number-none (rule_there h) (places_in h) (standing h) (last_revision h) (judge_after h) (good h) p w e in
      given_spot (in_chunk w answer) e
      (of_chunk (automaton_of (rule_in h)) (text_up_to h p) w answer
      (says_by (rule_there h) (places_in h) (standing h) (last_revision h) (judge_after h) (good h) p x.0 x.2 (text_of w) x.1))

  pub spotted : Spotted h p w (spot_of (judge_after h) p w)
  unfolding spot_of
  spotted =
      subst (λ (o : Option ℕ). Spotted h p w (spot_by o (in_chunk w answer)))
      (sym (number_same (rule_there h) (places_in h) (standing h) (last_revision h) (judge_after h) (good h) p w))
      (by_spot (spot_number h p w) refl)

  -- ---- only one
  stuck_once : (b c : ℕ) → StuckAfter h p w b → StuckAfter h p w c → b ≡ c
  stuck_once b c x y = three_ways h b c (λ l. absurd (x.stuck (y.least b l))) (λ e. e) (λ l. absurd (y.stuck (x.least c l)))

  one_spot : (s u : Spot) → Spotted h p w s → Spotted h p w u → s ≡ u
  one_spot (refused_for x) (refused_for y) a b = cc
  one_spot (refused_for x) (stuck_after c) a b = none-some b.0 a
  one_spot (refused_for x) nowhere a b = none-some b.0 a
  one_spot (stuck_after b) (refused_for y) a c = none-some a.0 c
  one_spot (stuck_after b) (stuck_after c) a d = ap stuck_after (stuck_once b c a.1 d.1)
  one_spot (stuck_after b) nowhere a c = absurd (a.1.stuck (c.1 b a.1.most))
  one_spot nowhere (refused_for y) a b = none-some a.0 b
  one_spot nowhere (stuck_after c) a b = absurd (b.1.stuck (a.1 c b.1.most))
  one_spot nowhere nowhere a b = refl

  pub spot : (s : Spot) → (spot_of (judge_after h) p w ≡ s) ↔ Spotted h p w s
  spot s = ((λ e. subst (Spotted h p w) e spotted), λ x. one_spot (spot_of (judge_after h) p w) s spotted x)

-- ---- the chunk of the lost place
module _ (h : List Call) (p : ℕ) (w : List ℕ) (lost : Lost h p) (here : standing h p ≡ some w) where
  nothing_wrong : spot_number h p w ≡ none
  nothing_wrong =
      rw (
        ne_eqb (places_in h) 0 (λ z. absurd (omega (arith, z, lost.within))),
        lt-leb (places_in h) p lost.within,
        le-ltb 65536 (length w) (standing_short h p w here),
        ((chunks.claims).text_law (text_of w) (rule_in h).k).1 ((good h).texts p w here),
        none_all (λ i. is_none (standing h i)) p (λ i l. lost.filled i (omega arith)),
      )

  whole : text_with h p w (length w) ≡ text_up_to h (suc p)
  whole =
      ap (λ (t : List ℕ). text_up_to h p ++ t) (ap text_of (take-length w) ∙ sym (ap standing_text here)) ∙ sym (joined_suc (λ i. standing_text (standing h i)) p)

  text_none : text_with h p w 0 ≡ text_up_to h p
  unfolding text_of
  text_none = append-nil (text_up_to h p)

  no_zero : (b : ℕ) → StuckAfter h p w b → 0 < p → 0 < b
  no_zero b x l = later p refl l b x
    where
      later : (q : ℕ) → q ≡ p → 0 < q → (b : ℕ) → StuckAfter h p w b → 0 < b
      later zero e l b x = absurd (omega arith)
      later (suc q) e l zero x =
          absurd (x.stuck
          (subst (Continued (automaton_of (rule_in h))) (sym text_none)
          (subst (λ (m : ℕ). Continued (automaton_of (rule_in h)) (text_up_to h m)) e (lost.least q (omega (arith, e))))))
      later (suc q) e l (suc b) x = omega arith

  told : (s : Spot) → spot_of (judge_after h) p w ≡ s → Spotted h p w s → (b : ℕ) × (spot_of (judge_after h) p w ≡ stuck_after b) × StuckAfter h p w b × (0 < p → 0 < b)
  told (refused_for x) e s = none-some nothing_wrong s
  told (stuck_after b) e s = (b, e, s.1, no_zero b s.1)
  told nowhere e s = absurd (lost.stuck (subst (Continued (automaton_of (rule_in h))) whole (s.1 (length w) (omega arith))))

  pub lost_spot : (b : ℕ) × (spot_of (judge_after h) p w ≡ stuck_after b) × StuckAfter h p w b × (0 < p → 0 < b)
  lost_spot = told (spot_of (judge_after h) p w) refl (spotted h p w)
