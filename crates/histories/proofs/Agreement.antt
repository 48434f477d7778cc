-- The state agrees with a rule and with a chunk at each place, or none: `Agrees`. A fresh judge
-- agrees with nothing, an installation brings a rule, an opening empties all places, a delivery changes one
-- place and a withdrawal empties one. Assumes nothing.
use mathlib.Core.Path.{◌≡◌, refl, sym, ap, ◌∙◌, subst, fun_ext}
use mathlib.Core.Bool.{true, false, cond}
use mathlib.Core.List.{List}
use mathlib.Core.Option.{Option, none, some}
use Prim.Native.Nat.{ℕ, ◌≤◌, ◌<◌}
use native.Mathlib.Omega.{arith}
use lib.Dec.{eqb}
use lib.ListN.{length, get_or}
use borrow.Author.Tests.{eq-eqb, ne_eqb, eqb-true, eqb-false}
use Rattle.base.specs.Options.{is_none}
use Rattle.base.proofs.Options.{none-some}
use Rattle.base.proofs.Tests.{by_test}
use Rattle.marks.specs.Marks.{text_of}
use Rattle.automaton.specs.declared.Rule.{Rule}
use Rattle.automaton.specs.Automaton.{Text}
use Rattle.build.specs.mirror.Building.{no_built}
use Rattle.board.specs.declared.Board.{Board}
use Rattle.board.specs.Boards.{held, is_empty, last_at, empty_board, filled_at, cleared_at}
use Rattle.board.proofs.Laws.{Sized, sized_empty, empty_all, empty_held, empty_count, empty_length, empty_last, Changed, filled_at_lem, cleared_at_lem}
use Rattle.calls.specs.declared.Judge.{Judge}
use Rattle.histories.specs.History.{rule_from, count_of, end_of, standing_text, looked_of}
use Rattle.calls.specs.mirror.Steps.{fresh, with_board, runs_at}
use Rattle.histories.specs.Claims.{BuiltBy, least_after}
use Rattle.histories.proofs.Running.{count_same, looked_same, end_same}

pub record Agrees (present : Option Rule) (places : ℕ) (at : ℕ → Option (List ℕ)) (last : ℕ → Option ℕ) (j : Judge) : Type 0 where
  pub rule : BuiltBy present j
  pub sized : Sized j.board
  pub places_are : j.board.places ≡ places
  pub few : places ≤ 64
  pub ruled : 0 < places → is_none present ≡ false
  pub beyond : (p : ℕ) → places ≤ p → at p ≡ none
  pub texts : (p : ℕ) (w : List ℕ) → at p ≡ some w → Text (rule_from present).k (text_of w)
  pub empty : (p : ℕ) → p < 64 → is_empty j.board p ≡ is_none (at p)
  pub ends : (p q : ℕ) → p < 64 → q < 32 → held j.board p q ≡ end_of (rule_from present) p q (at p)
  pub counts : (p : ℕ) → p < 64 → get_or j.board.counts p 0 ≡ count_of (rule_from present) p (at p)
  pub lengths : (p : ℕ) → p < 64 → get_or j.board.lengths p 0 ≡ length (standing_text (at p))
  pub revisions : (p : ℕ) → p < 64 → last_at j.board p ≡ least_after (last p)

-- ---- all places empty
module _ (present : Option Rule) (n : ℕ) (j : Judge) (rule : BuiltBy present j) (is : j.board ≡ empty_board n) (few : n ≤ 64) (ruled : 0 < n → is_none present ≡ false) where
  pub all-empty : Agrees present n (λ p. none) (λ p. none) j
  unfolding empty_board
  all-empty = record {
    rule = rule;
    sized = subst Sized (sym is) (sized_empty n);
    places_are = ap (λ b. b.places) is;
    few = few;
    ruled = ruled;
    beyond = λ p h. refl;
    texts = λ p w e. none-some refl e;
    empty = λ p h. ap (λ b. is_empty b p) is ∙ empty_all n p;
    ends = λ p q hp hq. ap (λ b. held b p q) is ∙ empty_held n p q;
    counts = λ p h. ap (λ b. get_or b.counts p 0) is ∙ empty_count n p;
    lengths = λ p h. ap (λ b. get_or b.lengths p 0) is ∙ empty_length n p;
    revisions = λ p h. ap (λ b. last_at b p) is ∙ empty_last n p;
  }

pub fresh_holds : Agrees none 0 (λ p. none) (λ p. none) fresh
unfolding fresh
fresh_holds = all-empty none 0 (record { built = no_built; board = empty_board 0 }) refl refl (omega arith) (λ h. absurd (omega arith))

-- ---- one place changed
-- place p has the chunk `new`, or none; the others stay
unfoldable pub placed : {A : Type 0} → (ℕ → A) → ℕ → A → ℕ → A
placed at p new i = cond (eqb p i) new (at i)

module _ {A : Type 0} (at : ℕ → A) (p : ℕ) (new : A) where
  pub placed_own : placed at p new p ≡ new
  unfolding placed
  placed_own = rw (eq-eqb p p refl)

  pub placed_other : (i : ℕ) → (i ≡ p → ⊥) → placed at p new i ≡ at i
  unfolding placed
  placed_other i ne = rw (ne_eqb p i (λ e. ne (sym e)))

  -- what holds at p and at every other place holds everywhere
  each : (P : ℕ → A → Type 0) → P p new → ((i : ℕ) → (i ≡ p → ⊥) → P i (at i)) → (i : ℕ) → P i (placed at p new i)
  each P own other i =
      by_test (eqb i p)
      (λ e. let z = eqb-true i p e in subst (λ (x : ℕ). P x (placed at p new x)) (sym z) (subst (P p) (sym placed_own) own))
      (λ e. let ne = eqb-false i p e in subst (P i) (sym (placed_other i ne)) (other i ne))

module _ (present : Option Rule) (places : ℕ) (at : ℕ → Option (List ℕ)) (last : ℕ → Option ℕ) (j : Judge) (holds : Agrees present places at last j) (p : ℕ) (h : p < places) where
  pub place_below : p < 64
  place_below = omega (arith, h, holds.few)

  changed_holds : (new : Option (List ℕ)) (revision : Option ℕ) (c : Board) → ((w : List ℕ) → new ≡ some w → Text (rule_from present).k (text_of w))
      → Changed j.board c p (is_none new) (count_of (rule_from present) p new) (length (standing_text new)) (least_after revision) (λ q. end_of (rule_from present) p q new)
      → Agrees present places (placed at p new) (placed last p revision) (with_board j c)
  changed_holds new revision c text changed = record {
    rule = kept present holds.rule;
    sized = changed.sized;
    places_are = changed.places_same ∙ holds.places_are;
    few = holds.few;
    ruled = holds.ruled;
    beyond = λ i b. placed_other at p new i (λ e. absurd (omega (arith, h, b, e))) ∙ holds.beyond i b;
    texts =
        each at p new (λ i o. (w : List ℕ) → o ≡ some w → Text (rule_from present).k (text_of w)) text (λ i ne. holds.texts i);
    empty =
        each at p new (λ i o. i < 64 → is_empty c i ≡ is_none o) (λ b. changed.empty_own) (λ i ne b. changed.empty_other i ne ∙ holds.empty i b);
    ends = λ i q b.
        each at p new (λ i o. i < 64 → q < 32 → held c i q ≡ end_of (rule_from present) i q o)
        (λ b l. changed.held_own q l)
        (λ i ne b l. changed.held_other i q b l ne ∙ holds.ends i q b l)
        i
        b;
    counts =
        each at p new (λ i o. i < 64 → get_or c.counts i 0 ≡ count_of (rule_from present) i o)
        (λ b. changed.count_own)
        (λ i ne b. changed.count_other i ne ∙ holds.counts i b);
    lengths =
        each at p new (λ i o. i < 64 → get_or c.lengths i 0 ≡ length (standing_text o))
        (λ b. changed.length_own)
        (λ i ne b. changed.length_other i ne ∙ holds.lengths i b);
    revisions =
        each last p revision (λ i o. i < 64 → last_at c i ≡ least_after o)
        (λ b. changed.last_own)
        (λ i ne b. changed.last_other i ne ∙ holds.revisions i b);
  }
    where
      kept : (o : Option Rule) → BuiltBy o j → BuiltBy o (with_board j c)
      kept none e = e
      kept (some r) e = e

  -- the revision stays
  pub cleared_holds : Agrees present places (placed at p none) last (with_board j (cleared_at j.board p))
  cleared_holds =
      subst (λ (l : ℕ → Option ℕ). Agrees present places (placed at p none) l (with_board j (cleared_at j.board p))) kept_last
      (changed_holds none (last p) (cleared_at j.board p) (λ w e. none-some refl e) changed)
    where
      changed : Changed j.board (cleared_at j.board p) p true 0 0 (least_after (last p)) (λ q. 0)
      changed =
          subst (λ (x : ℕ). Changed j.board (cleared_at j.board p) p true 0 0 x (λ q. 0)) (holds.revisions p place_below)
          (cleared_at_lem j.board p holds.sized place_below)

      kept_last : placed last p (last p) ≡ last
      kept_last =
          fun_ext λ i.
          by_test (eqb i p)
          (λ e. let z = eqb-true i p e in subst (λ (x : ℕ). placed last p (last p) x ≡ last x) (sym z) (placed_own last p (last p)))
          (λ e. placed_other last p (last p) i (eqb-false i p e))

-- ---- the text of a chunk is run, and what comes of it kept
module _ (r : Rule) (places : ℕ) (at : ℕ → Option (List ℕ)) (last : ℕ → Option ℕ) (j : Judge) (holds : Agrees (some r) places at last j) (p : ℕ) (h : p < places) (v : ℕ) (w : List ℕ) (text : Text r.k (text_of w)) where
  pub run_count : (runs_at j p w).count ≡ count_of r p (some w)
  run_count = rw holds.rule.0 (count_same r holds.rule.1 holds.rule.2 p (text_of w) text)

  pub run_looked : (runs_at j p w).looked ≡ looked_of r p w
  run_looked = rw holds.rule.0 (looked_same r holds.rule.1 holds.rule.2 p (text_of w) text)

  run_end : (q : ℕ) → q < 32 → get_or (runs_at j p w).ends q 0 ≡ end_of r p q (some w)
  run_end q l = rw holds.rule.0 (end_same r holds.rule.1 holds.rule.2 p (text_of w) text q l)

  pub filled_holds : Agrees (some r) places (placed at p (some w)) (placed last p (some v)) (with_board j (filled_at j.board p v (runs_at j p w)))
  filled_holds =
      let c = filled_at_lem j.board p holds.sized (place_below (some r) places at last j holds p h) v (runs_at j p w) in
      changed_holds (some r) places at last j holds p h (some w) (some v) (filled_at j.board p v (runs_at j p w))
      (λ v e. let z : w ≡ v = cc in subst (λ (x : List ℕ). Text r.k (text_of x)) z text)
      (record {
        sized = c.sized;
        places_same = c.places_same;
        empty_own = c.empty_own;
        empty_other = c.empty_other;
        count_own = c.count_own ∙ run_count;
        count_other = c.count_other;
        length_own = c.length_own;
        length_other = c.length_other;
        last_own = c.last_own;
        last_other = c.last_other;
        held_own = λ q l. c.held_own q l ∙ run_end q l;
        held_other = c.held_other;
      })
