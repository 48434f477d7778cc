-- The words of demand 3 for the verdict that a list of calls says. Assumes nothing.
--
-- Which of the four a verdict is, is told by its numbers (`which`); 21, waiting and the counts
-- follow. Yes and no go so: with no place empty, the standing chunks are a list of texts, what the
-- places hold are their end sets, and the theorem of the join applies to that list. The bounds on
-- the counts are those of the chunks, of which an empty one counts nothing.
use mathlib.Core.Path.{◌≡◌, refl, sym, ap, ◌∙◌, subst, subst₂}
use mathlib.Core.Logic.Iff
use mathlib.Core.Logic.{◌↔◌}
use mathlib.Core.Bool.{Bool, true, false, cond}
use mathlib.Core.List.{List, [], ◌∷◌, ◌++◌, flatten, append_assoc, append-nil}
use mathlib.Core.Option.{Option, none, some}
use Prim.Native.Nat.{ℕ, zero, suc, ◌+◌, ◌*◌, ◌≤◌, ◌<◌, zero-le}
use native.Mathlib.Numerals.{add-one}
use native.Mathlib.Omega.{arith}
use lib.Dec.{eqb, ltb}
use lib.ListN.{length, get_or, length-append, get_or-append}
use lib.Seq.{get_or_at}
use borrow.Author.Tests.{lt-ltb, eq-eqb, ne_eqb, eqb-true, eqb-false, ltb-true, ltb-false}
use Rattle.base.specs.Conditions.{outside}
use Rattle.base.specs.Lists.{joined}
use Rattle.base.specs.Options.{is_none}
use Rattle.base.specs.Totals.{total}
use Rattle.base.proofs.Conditions.{passed}
use Rattle.base.proofs.Tests.{by_test, or_left, zero_one, not_both}
use Rattle.base.proofs.Totals.{total_same, term_most}
use Rattle.masks.specs.Masks.{has}
use Rattle.marks.specs.Marks.{text_of}
use Rattle.automaton.specs.declared.Rule.{Rule}
use Rattle.automaton.specs.Automaton.{Accepts, Text}
use Rattle.automaton.specs.Rules.{automaton_of, WellFormed}
use Rattle.subsets.specs.Claims.{fits}
use Rattle.delegates.specs.Alike.{delegate_in}
use Rattle.delegates.specs.Claims.{starts_in}
use Rattle.chunks.specs.Chunks.{counted, end_set, chunk_count}
use Rattle.joins.specs.Joining.{yes_of}
use Rattle.joins.specs.Claims as joins_specs
use Rattle.joins.proofs.Claims as joins
use Rattle.calls.specs.declared.Judge.{Judge}
use Rattle.calls.specs.Replies.{Judgement, waiting, yes_with, no_with, refused_with}
use Rattle.histories.specs.History.{rule_there, rule_from, open_number, board_in, places_in, run_at, count_of, standing_end, end_of, last_revision, standing, empties_in, summed_in, yes_in, standing_text, joined_up_to}
use Rattle.calls.specs.Calls.{Call, installs, loads, opens, delivers, withdraws, asks_verdict, install_number, load_number, verdict_by}
use Rattle.histories.specs.Claims.{VerdictClauses}
use Rattle.histories.proofs.Running.{merged}
use Rattle.histories.proofs.Agreement.{Agrees}
use Rattle.histories.proofs.Steps.{AgreesWith}

-- ---- the verdict by its numbers
module _ (places empties : ℕ) (yes-there : Bool) (sum : ℕ) where
  abbrev by_numbers : Judgement
  by_numbers = verdict_by (eqb places 0) empties yes-there sum

  -- which of the four it is, with what it says
  data Which : Type 0 where
    no_board : places ≡ 0 → by_numbers ≡ refused_with 21 → Which
    waits : 0 < places → 0 < empties → by_numbers ≡ waiting empties → Which
    says_yes_lem : 0 < places → empties ≡ 0 → yes-there ≡ true → by_numbers ≡ yes_with sum → Which
    says_no_lem : 0 < places → empties ≡ 0 → yes-there ≡ false → by_numbers ≡ no_with sum → Which

  which : Which
  which =
      by_test (eqb places 0)
      (λ p. no_board (eqb-true places 0 p) (rw p))
      (λ p.
      let np = eqb-false places 0 p in
      by_test (eqb empties 0)
      (λ e.
      by_test yes-there
      (λ y. says_yes_lem (omega arith) (eqb-true empties 0 e) y (rw (p, e, y)))
      (λ y. says_no_lem (omega arith) (eqb-true empties 0 e) y (rw (p, e, y))))
      (λ e. let ne = eqb-false empties 0 e in waits (omega arith) (omega arith) (rw (p, e))))

absurd_reply : {A : Type 0} → ◌≡◌ {A = ℕ} 0 1 → A
absurd_reply z = absurd (omega arith)

module _ (places empties : ℕ) (t : Bool) (sum : ℕ) where
  refused_law : (by_numbers places empties t sum ≡ refused_with 21) ↔ (places ≡ 0)
  refused_law = (
    (λ e. to (which places empties t sum) e),
    λ z. rw (eq-eqb places 0 z),
  )
    where
      to : Which places empties t sum → by_numbers places empties t sum ≡ refused_with 21 → places ≡ 0
      to (no_board p e) x = p
      to (waits p q e) x = absurd_reply (cc)
      to (says_yes_lem p q y e) x = absurd_reply (cc)
      to (says_no_lem p q y e) x = absurd_reply (cc)

  -- a verdict is refused with no other number
  pub refused_number : (x : ℕ) → by_numbers places empties t sum ≡ refused_with x → x ≡ 21
  refused_number n x = to (which places empties t sum)
    where
      to : Which places empties t sum → n ≡ 21
      to (no_board p e) = cc
      to (waits p q e) = absurd_reply (cc)
      to (says_yes_lem p q y e) = absurd_reply (cc)
      to (says_no_lem p q y e) = absurd_reply (cc)

  waiting_law : (e : ℕ) → (by_numbers places empties t sum ≡ waiting e) ↔ ((0 < places) × (0 < e) × (e ≡ empties))
  waiting_law w = (
    (λ x. to (which places empties t sum) x),
    λ x. back x.0 x.1 x.2,
  )
    where
      to : Which places empties t sum → by_numbers places empties t sum ≡ waiting w → (0 < places) × (0 < w) × (w ≡ empties)
      to (no_board p e) x = absurd_reply (cc)
      to (waits p q e) x = let z : w ≡ empties = cc in (p, omega arith, z)
      to (says_yes_lem p q y e) x = absurd_reply (cc)
      to (says_no_lem p q y e) x = absurd_reply (cc)

      back : 0 < places → 0 < w → w ≡ empties → by_numbers places empties t sum ≡ waiting w
      back p q e = rw (ne_eqb places 0 (λ z. absurd (omega arith)), ne_eqb empties 0 (λ z. absurd (omega arith))) (ap waiting (sym e))

  yes_count : (c : ℕ) → by_numbers places empties t sum ≡ yes_with c → c ≡ sum
  yes_count c x = to (which places empties t sum)
    where
      to : Which places empties t sum → c ≡ sum
      to (no_board p e) = absurd_reply (cc)
      to (waits p q e) = absurd_reply (cc)
      to (says_yes_lem p q y e) = cc
      to (says_no_lem p q y e) = absurd_reply (cc)

  no_count : (c : ℕ) → by_numbers places empties t sum ≡ no_with c → c ≡ sum
  no_count c x = to (which places empties t sum)
    where
      to : Which places empties t sum → c ≡ sum
      to (no_board p e) = absurd_reply (cc)
      to (waits p q e) = absurd_reply (cc)
      to (says_yes_lem p q y e) = absurd_reply (cc)
      to (says_no_lem p q y e) = cc

  no_law : 0 < places → empties ≡ 0 → (by_numbers places empties t sum ≡ no_with sum) ↔ (t ≡ false)
  no_law p e = (
    (λ x. to (which places empties t sum) x),
    λ y. rw (ne_eqb places 0 (λ z. absurd (omega arith)), eq-eqb empties 0 e, y),
  )
    where
      to : Which places empties t sum → by_numbers places empties t sum ≡ no_with sum → t ≡ false
      to (no_board z w) x = absurd (omega arith)
      to (waits z w v) x = absurd (omega arith)
      to (says_yes_lem z w y v) x = absurd_reply (cc)
      to (says_no_lem z w y v) x = y

  yes_law : 0 < places → empties ≡ 0 → (by_numbers places empties t sum ≡ yes_with sum) ↔ (t ≡ true)
  yes_law p e = (
    (λ x. to (which places empties t sum) x),
    λ y. rw (ne_eqb places 0 (λ z. absurd (omega arith)), eq-eqb empties 0 e, y),
  )
    where
      to : Which places empties t sum → by_numbers places empties t sum ≡ yes_with sum → t ≡ true
      to (no_board z w) x = absurd (omega arith)
      to (waits z w v) x = absurd (omega arith)
      to (says_yes_lem z w y v) x = y
      to (says_no_lem z w y v) x = absurd_reply (cc)

-- ---- the texts of the standing chunks as a list
unfoldable pub chunks_up_to : (ℕ → Option (List ℕ)) → ℕ → List (List ℕ)
chunks_up_to at zero = []
chunks_up_to at (suc p) = chunks_up_to at p ++ (standing_text (at p) ∷ [])

pub flatten_more : (l : List (List ℕ)) (w : List ℕ) → flatten (l ++ (w ∷ [])) ≡ flatten l ++ w
unfolding flatten
flatten_more [] w = append-nil w
flatten_more (v ∷ l) w = ap (λ (x : List ℕ). v ++ x) (flatten_more l w) ∙ sym (append_assoc v (flatten l) w)

module _ (at : ℕ → Option (List ℕ)) where
  pub chunks_length : (n : ℕ) → length (chunks_up_to at n) ≡ n
  unfolding chunks_up_to
  chunks_length zero = refl
  chunks_length (suc n) = length-append (chunks_up_to at n) (standing_text (at n) ∷ []) ∙ ap (λ (x : ℕ). x + 1) (chunks_length n) ∙ add-one n

  pub chunk_at : (n p : ℕ) → p < n → get_or (chunks_up_to at n) p [] ≡ standing_text (at p)
  unfolding chunks_up_to
  chunk_at zero p h = absurd (let x = h in omega arith)
  chunk_at (suc n) p h =
      by_test (ltb p n)
      (λ l. get_or-append (chunks_up_to at n) (standing_text (at n) ∷ []) [] p (rw (chunks_length n) (ltb-true p n l)) ∙ chunk_at n p (ltb-true p n l))
      (λ l.
      let g = ltb-false p n l in
      let e : n ≡ p = omega arith in
      subst (λ (x : ℕ). get_or (chunks_up_to at n ++ (standing_text (at n) ∷ [])) x [] ≡ standing_text (at x)) e
      (get_or_at (chunks_up_to at n) (standing_text (at n)) [] [] n (chunks_length n)))

  pub joined_is : (n : ℕ) → joined_up_to at n ≡ flatten (chunks_up_to at n)
  unfolding chunks_up_to joined flatten
  joined_is zero = refl
  joined_is (suc n) = ap (λ (x : List ℕ). x ++ standing_text (at n)) (joined_is n) ∙ sym (flatten_more (chunks_up_to at n) (standing_text (at n)))

pub texts_more : (k : ℕ) (l : List (List ℕ)) (w : List ℕ) → joins_specs.Texts k l → Text k w → joins_specs.Texts k (l ++ (w ∷ []))
texts_more k [] w t u = (u, tt)
texts_more k (v ∷ l) w t u = (t.0, texts_more k l w t.1 u)

text-of : (k : ℕ) (o : Option (List ℕ)) → ((w : List ℕ) → o ≡ some w → Text k (text_of w)) → Text k (standing_text o)
text-of k none h = tt
text-of k (some w) h = h w refl

pub chunk_texts : (k : ℕ) (at : ℕ → Option (List ℕ)) → ((p : ℕ) (w : List ℕ) → at p ≡ some w → Text k (text_of w)) → (n : ℕ) → joins_specs.Texts k (chunks_up_to at n)
unfolding chunks_up_to
chunk_texts k at h zero = tt
chunk_texts k at h (suc n) = texts_more k (chunks_up_to at n) (standing_text (at n)) (chunk_texts k at h n) (text-of k (at n) (h n))

-- ---- an empty chunk counts nothing
total_none : (f : ℕ → ℕ) (n : ℕ) → ((p : ℕ) → f p ≡ 0) → total f n ≡ 0
unfolding total
total_none f zero h = refl
total_none f (suc n) h = rw (total_none f n h, h n)

empty_count : (ts : List ℕ) (run : ℕ) → chunk_count ts run [] ≡ 0
unfolding counted
empty_count ts run = total_none (λ q. cond (has run q) 0 0) 32 (λ q. same (has run q))
  where
    same : (b : Bool) → cond {A = ℕ} b 0 0 ≡ 0
    same true = refl
    same false = refl

-- the end set of a chunk that stands
pub filled : (ts : List ℕ) (run q : ℕ) (o : Option (List ℕ)) → is_none o ≡ false → standing_end ts run q o ≡ end_set ts run (standing_text o) q
filled ts run q none e = zero_one cc
filled ts run q (some w) e = refl

-- ---- for a rule that is there
module _ (r : Rule) (good : WellFormed r) (fit : fits r) (places : ℕ) (at : ℕ → Option (List ℕ)) where
  count-is : (p : ℕ) (o : Option (List ℕ)) → count_of r p o ≡ chunk_count r.targets (run_at r p) (standing_text o)
  count-is p none = sym (empty_count r.targets (run_at r p))
  count-is p (some w) = refl

  sum_most : total (λ p. count_of r p (at p)) places ≤ (starts_in r).startcount * length (joined_up_to at places)
  sum_most =
      let ws = chunks_up_to at places in
      let e : total (λ p. count_of r p (at p)) places ≡ joins_specs.count_of r (starts_in r).delegates ws =
      total_same (λ p. count_of r p (at p)) (λ p. chunk_count r.targets (run_at r p) (get_or ws p [])) places
      (λ p l. count-is p (at p) ∙ ap (chunk_count r.targets (run_at r p)) (sym (chunk_at at places p l)))
      ∙ ap (total (λ p. chunk_count r.targets (run_at r p) (get_or ws p []))) (sym (chunks_length at places)) in
      rw (e, joined_is at places) ((joins.claims).count_most r good (starts_in r).delegates (starts_in r).startcount (merged r good fit) ws)

  pub none_empty : total (λ p. cond (is_none (at p)) 1 0) places ≡ 0 → (p : ℕ) → p < places → is_none (at p) ≡ false
  none_empty z p l = no_term (is_none (at p)) (omega (arith, z, term_most (λ i. cond (is_none (at i)) 1 0) places p l))
    where
      no_term : (t : Bool) → cond t 1 0 ≤ 0 → t ≡ false
      no_term true x = absurd (let y = x in omega arith)
      no_term false x = refl

  -- what each place holds, by place and state
  abbrev held_at : ℕ → ℕ → ℕ
  held_at p q = end_of r p q (at p)

  accepts_law : ((p : ℕ) (w : List ℕ) → at p ≡ some w → Text r.k (text_of w)) → total (λ p. cond (is_none (at p)) 1 0) places ≡ 0
      → (yes_of held_at (delegate_in (starts_in r).delegates) r.n r.initials r.finals places ≡ true)
      ↔ Accepts (automaton_of r) (joined_up_to at places)
  accepts_law texts z =
      let ws = chunks_up_to at places in
      let d = (starts_in r).delegates in
      let holds : joins_specs.HoldsEnds r d held_at ws =
      λ p l q b.
      let lp : p < places = rw (chunks_length at places) at l in
      filled r.targets (run_at r p) q (at p) (none_empty z p lp) ∙ ap (λ (w : List ℕ). end_set r.targets (run_at r p) w q) (sym (chunk_at at places p lp)) in
      subst₂ (λ (x : ℕ) (y : List ℕ). (yes_of held_at (delegate_in d) r.n r.initials r.finals x ≡ true) ↔ Accepts (automaton_of r) y)
      (chunks_length at places)
      (sym (joined_is at places))
      ((joins.claims).join r good d (starts_in r).startcount (merged r good fit) held_at ws (chunk_texts r.k at texts places) holds)

  place_most : (p : ℕ) → count_of r p (at p) ≤ (starts_in r).startcount * length (standing_text (at p))
  place_most p =
      rw (count-is p (at p)) ((joins.claims).place_most r good (starts_in r).delegates (starts_in r).startcount (merged r good fit) p (standing_text (at p)))

-- ---- for every list of calls
module _ (places : ℕ) (at : ℕ → Option (List ℕ)) (last : ℕ → Option ℕ) (j : Judge) where
  most_by : (present : Option Rule) → Agrees present places at last j
      → total (λ p. count_of (rule_from present) p (at p)) places ≤ (starts_in (rule_from present)).startcount * length (joined_up_to at places)
  unfolding total
  most_by none holds =
      by_test (ltb 0 places)
      (λ l. not_both refl (holds.ruled (ltb-true 0 places l)))
      (λ l. let z : places ≡ 0 = omega (arith, ltb-false 0 places l) in rw z zero-le)
  most_by (some r) holds =
      sum_most r holds.rule.1 holds.rule.2 places at

  place_by : (present : Option Rule) → Agrees present places at last j → (p : ℕ)
      → count_of (rule_from present) p (at p) ≤ (starts_in (rule_from present)).startcount * length (standing_text (at p))
  place_by none holds p =
      let free : places ≤ p = by_test (ltb 0 places)
      (λ l. not_both refl (holds.ruled (ltb-true 0 places l)))
      (λ l. omega (arith, ltb-false 0 places l)) in
      rw (holds.beyond p free) (omega arith)
  place_by (some r) holds p = place_most r holds.rule.1 holds.rule.2 places at p

  accepts_by : (present : Option Rule) → Agrees present places at last j → 0 < places
      → total (λ p. cond (is_none (at p)) 1 0) places ≡ 0
      → (yes_of (λ p q. end_of (rule_from present) p q (at p)) (delegate_in (starts_in (rule_from present)).delegates) (rule_from present).n (rule_from present).initials (rule_from present).finals places ≡ true)
      ↔ Accepts (automaton_of (rule_from present)) (joined_up_to at places)
  accepts_by none holds h z = not_both refl (holds.ruled h)
  accepts_by (some r) holds h z = accepts_law r holds.rule.1 holds.rule.2 places at holds.texts z

-- a board is there exactly where it has places
opened_places : (n : ℕ) → outside 1 64 n ≡ false → 0 < n
opened_places n e = ltb-false n 1 (or_left (ltb n 1) (ltb 64 n) e)

board_law : (h : List Call) → board_in h ≡ ltb 0 (places_in h)
unfolding board_in places_in
board_law [] = refl
board_law (installs r ∷ h) = by_test (is_none (install_number r)) (λ e. rw e) (λ e. rw e (board_law h))
board_law (loads f ∷ h) = by_test (is_none (load_number f)) (λ e. rw e) (λ e. rw e (board_law h))
board_law (opens n ∷ h) =
    by_test (is_none (open_number h n))
    (λ e. rw e (sym (lt-ltb 0 n (opened_places n (accepted_opening (open_number h n) refl e)))))
    (λ e. rw e (board_law h))
  where
    accepted_opening : (o : Option ℕ) → open_number h n ≡ o → is_none o ≡ true → outside 1 64 n ≡ false
    accepted_opening none z t =
        let a = passed 20 (is_none (rule_there h)) (cond (outside 1 64 n) (some 10) none) z in
        (passed 10 (outside 1 64 n) none a.1).0
    accepted_opening (some x) z t = zero_one cc
board_law (delivers p v w ∷ h) = board_law h
board_law (withdraws p ∷ h) = board_law h
board_law (asks_verdict ∷ h) = board_law h

pub there : (h : List Call) → board_in h ≡ true → 0 < places_in h
there h e = ltb-true 0 (places_in h) (sym (board_law h) ∙ e)

not_true_false : (t : Bool) {A : Type 0} → (t ≡ true) ↔ A → (t ≡ false) ↔ (A → ⊥)
not_true_false true law = (λ e. zero_one cc, λ n. absurd (n (law.0 refl)))
not_true_false false law = (λ e a. let z = law.1 a in zero_one cc, λ n. refl)

pub words : (h : List Call) (j : Judge) → AgreesWith h j → VerdictClauses h
words h j good =
    let s = standing h in
    record {
      board = ((λ e. there h e), λ l. board_law h ∙ lt-ltb 0 (places_in h) l);
      none_there = Iff.trans (refused_law (places_in h) (empties_in h) (yes_in h) (summed_in h)) (
        (λ z. board_law h ∙ rw z),
        λ e. omega (arith, ltb-false 0 (places_in h) (sym (board_law h) ∙ e)),
      );
      waits = λ e. Iff.trans (waiting_law (places_in h) (empties_in h) (yes_in h) (summed_in h) e) (
        (λ x. (board_law h ∙ lt-ltb 0 (places_in h) x.0, x.1, x.2)),
        λ x. (there h x.0, x.1, x.2),
      );
      counted = yes_count (places_in h) (empties_in h) (yes_in h) (summed_in h);
      counted_no = no_count (places_in h) (empties_in h) (yes_in h) (summed_in h);
      most = most_by (places_in h) s (last_revision h) j (rule_there h) good;
      place_most = place_by (places_in h) s (last_revision h) j (rule_there h) good;
      accepts = λ b e.
          Iff.trans (yes_law (places_in h) (empties_in h) (yes_in h) (summed_in h) (there h b) e) (accepts_by (places_in h) s (last_revision h) j (rule_there h) good (there h b) e);
      rejects = λ b e.
          Iff.trans (no_law (places_in h) (empties_in h) (yes_in h) (summed_in h) (there h b) e)
          (not_true_false (yes_in h) (accepts_by (places_in h) s (last_revision h) j (rule_there h) good (there h b) e));
      joins = λ b e. yes_law (places_in h) (empties_in h) (yes_in h) (summed_in h) (there h b) e;
    }
