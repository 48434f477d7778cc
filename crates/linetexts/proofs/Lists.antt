-- Lists of lines that a malformed line ends. Assumes nothing.
--
--   told_lists              the lines of lists are told apart where each list's are
--   skips_not, skips-look   what `skips` answers
--   skipped_state, skipped_text_lem  a line that is held is skipped
--   run_held                it comes to what it does in its list
--   Agrees, Follows         what a machine's state has to do with what is known of the list
--   lists_right             a machine that answers each line of a list rightly answers texts rightly
--   ends_list               what a malformed line does
use mathlib.Core.Path.{◌≡◌, refl, sym, ap, ap₂, ◌∙◌, subst}
use mathlib.Core.Bool.{Bool, true, false, cond, not, ◌&&◌}
use mathlib.Core.List.{List, [], ◌∷◌, ◌++◌, append-nil}
use mathlib.Core.Option.{Option, none, some}
use Prim.Native.Nat.{ℕ, ◌≤◌}
use native.Mathlib.Omega.{arith}
use borrow.Author.Tests.{lt-ltb}
use lib.Dec.{ltb}
use lib.ListN.{length, take}
use Rattle.base.proofs.Tests.{not_both}
use Rattle.text.specs.Writing.{Wrote}
use Rattle.answers.specs.Answers.{skipped_text}
use Rattle.longlines.specs.declared.Held.{Held}
use Rattle.longlines.specs.declared.Seen.{Seen}
use Rattle.longlines.specs.Holding.{seen_of, held_meaning}
use Rattle.longlines.specs.Claims.{TellsWithin}
use Rattle.longlines.proofs.Standing.{by_bytes, by_stray}
use Rattle.linetexts.specs.Feeding.{Outcome}
use Rattle.linetexts.specs.Beginnings.{held_step, Told}
use Rattle.linetexts.specs.Lists.{Listed, ListMachine, is_line, list_of, skip, list_teller, list_lines, skips_held, list_text, NoneEmpty, no_line, one_more, skipped_lines, Ends}
use Rattle.linetexts.specs.Claims.{lines_step}

-- ---- lines of any length
long_line : (v t : List ℕ) → 1 ≤ length v → is_line (v ++ t) ≡ true
long_line [] t h = absurd (omega arith)
long_line (x ∷ v) t h = refl

module _ {J : Type 0} (m : ListMachine J) (some-room : 1 ≤ m.room) where
  told_by : (j : J) (ended : Bool) → TellsWithin m.room (m.step j) (m.stray j)
      → TellsWithin m.room ((list_teller m).step (list_of j ended)) ((list_teller m).stray (list_of j ended))
  told_by j true t = record {
    stray = λ v w long stray. ap (λ (b : Bool). cond b (skip (list_of j true)) (m.step j (v ++ w))) (long_line v w (omega arith));
    hex = λ v w long hex even.
        ap (λ (b : Bool). cond b (skip (list_of j true)) (m.step j v)) (ap is_line (sym (append-nil v)) ∙ long_line v [] (omega arith))
        ∙ sym (ap (λ (b : Bool). cond b (skip (list_of j true)) (m.step j (v ++ w))) (long_line v w (omega arith)));
  }
  told_by j false t = record { stray = t.stray; hex = t.hex }

  pub told_lists : ((j : J) → TellsWithin m.room (m.step j) (m.stray j)) → Told (list_teller m)
  told_lists told s = told_by s.machine s.ended (told s.machine)

-- ---- which lines are skipped
some_line : (w : List ℕ) → ltb 0 (length w) ≡ is_line w
some_line [] = refl
some_line (x ∷ w) = lt-ltb 0 (length (x ∷ w)) (omega arith)

module _ (ended : Bool) (line : List ℕ) (held : Held) where
  pub skips_not : not ended ≡ true → false ≡ skips_held ended line held
  skips_not e = by ended e
    where
      by : (b : Bool) → not b ≡ true → false ≡ skips_held b line held
      by true e = not_both e refl
      by false e = refl

  module _ (gone : not ended ≡ false) where
    has_ended : (b : Bool) → b ≡ held_meaning is_line true line held → b ≡ skips_held ended line held
    has_ended b e = e ∙ by ended gone
      where
        by : (d : Bool) → not d ≡ false → held_meaning is_line true line held ≡ skips_held d line held
        by true g = refl
        by false g = not_both refl g

    module _ (seen : Seen) (is : seen ≡ seen_of line held) where
      pub skips_some : seen.length ≡ length (take seen.length line) → seen.hex ≡ true → ltb 0 seen.length ≡ skips_held ended line held
      skips_some whole hex =
          has_ended (ltb 0 seen.length)
          (ap (ltb 0) whole ∙ some_line (take seen.length line) ∙ by_bytes is_line true line held seen is hex)

      pub skips_stray : seen.hex ≡ false → true ≡ skips_held ended line held
      skips_stray hex = has_ended true (by_stray is_line true line held seen is hex)

-- ---- a line that is held
module _ {A : Type 0} (f : List ℕ → A) (bad none-run : A) where
  skipped_by : (ended hex : Bool) (w : List ℕ) → (ended && cond hex (is_line w) true) ≡ true
      → cond hex (cond (ended && is_line w) none-run (f w)) (cond ended none-run bad) ≡ none-run
  skipped_by true true w e = ap (λ (b : Bool). cond b none-run (f w)) e
  skipped_by true false w e = refl
  skipped_by false hex w e = not_both e refl

  run_by_lem : (ended hex : Bool) (w : List ℕ) → (ended && cond hex (is_line w) true) ≡ false
      → cond hex (cond (ended && is_line w) none-run (f w)) (cond ended none-run bad) ≡ cond hex (f w) bad
  run_by_lem true true w e = ap (λ (b : Bool). cond b none-run (f w)) e
  run_by_lem true false w e = not_both refl e
  run_by_lem false hex w e = refl

-- `b` is what `skips` answered
module _ {J : Type 0} (m : ListMachine J) (j : J) (ended : Bool) (line : List ℕ) (held : Held) (b : Bool) (tested : b ≡ skips_held ended line held) where
  skip_held : b ≡ true → skip (list_of j ended) ≡ held_step (list_lines m) (list_of j ended) line held
  skip_held taken =
      sym (skipped_by (m.step j) (m.stray j) (skip (list_of j ended)) ended (seen_of line held).hex (take (seen_of line held).length line) (sym tested ∙ taken))

  pub skipped_state : b ≡ true → list_of j ended ≡ (held_step (list_lines m) (list_of j ended) line held).state
  skipped_state taken = ap (λ (o : Outcome (Listed J)). o.state) (skip_held taken)

  pub skipped_text_lem : b ≡ true → (before after : List ℕ) (end : ℕ) → Wrote before 0 skipped_text after end
      → Wrote before 0 (held_step (list_lines m) (list_of j ended) line held).text after end
  skipped_text_lem taken before after end wrote = subst (λ (o : Outcome (Listed J)). Wrote before 0 o.text after end) (skip_held taken) wrote

  pub run_held : b ≡ false → held_meaning (m.step j) (m.stray j) line held ≡ held_step (list_lines m) (list_of j ended) line held
  run_held left =
      sym (run_by_lem (m.step j) (m.stray j) (skip (list_of j ended)) ended (seen_of line held).hex (take (seen_of line held).length line) (sym tested ∙ left))

-- ---- the right answers
module _ {H J : Type 0} (state : H → J) where
  abbrev pub Agrees : Listed J → Option H → Type 0
  Agrees s (some h) = s ≡ list_of (state h) false
  Agrees s none = s.ended ≡ true

pub record Follows {H J : Type 0} (m : ListMachine J) (state : H → J) (begin : H) (answer : H → List ℕ → List ℕ) (next : H → List ℕ → Option H) : Type 0 where
  pub afresh : (j : J) → m.step j [] ≡ record { text = 10 ∷ []; state = list_of (state begin) false }
  pub answers : (h : H) (l : List ℕ) → (m.step (state h) l).text ≡ answer h l
  pub leaves : (h : H) (l : List ℕ) → Agrees state (m.step (state h) l).state (next h l)

module _ {H J : Type 0} (m : ListMachine J) (state : H → J) (begin : H) (answer : H → List ℕ → List ℕ) (next : H → List ℕ → Option H)
    (follows : Follows m state begin answer next) where
  pub lists_right : (ls : List (List ℕ)) (s : Listed J) (h : Option H) → Agrees state s h
      → (lines_step (list_lines m) s ls).text ≡ list_text begin answer next h ls
  unfolding lines_step list_text
  lists_right [] s h a = refl
  lists_right (l ∷ ls) s (some h) a =
      ap (λ (x : Listed J). (lines_step (list_lines m) x (l ∷ ls)).text) a
      ∙ ap₂ (λ (x y : List ℕ). x ++ y) (follows.answers h l) (lists_right ls (m.step (state h) l).state (next h l) (follows.leaves h l))
  lists_right ([] ∷ ls) s none a =
      ap (λ (b : Bool). (lines_step (list_lines m) (list_of s.machine b) ([] ∷ ls)).text) a
      ∙ ap (λ (o : Outcome (Listed J)). o.text ++ (lines_step (list_lines m) o.state ls).text) (follows.afresh s.machine)
      ∙ ap (λ (t : List ℕ). (10 ∷ []) ++ t) (lists_right ls (list_of (state begin) false) (some begin) refl)
  lists_right ((x ∷ l) ∷ ls) s none a =
      ap (λ (b : Bool). (lines_step (list_lines m) (list_of s.machine b) ((x ∷ l) ∷ ls)).text) a
      ∙ ap (λ (t : List ℕ). skipped_text ++ t) (lists_right ls (list_of s.machine true) none refl)

-- ---- what a malformed line does
module _ {H : Type 0} (begin : H) (answer : H → List ℕ → List ℕ) (next : H → List ℕ → Option H) where
  skipped_rest : {ls : List (List ℕ)} → NoneEmpty ls → list_text begin answer next none ls ≡ skipped_lines ls
  unfolding list_text skipped_lines
  skipped_rest no_line = refl
  skipped_rest (one_more n) = ap (λ (t : List ℕ). skipped_text ++ t) (skipped_rest n)

  skipped_up_to : {ls : List (List ℕ)} → NoneEmpty ls → (more : List (List ℕ))
      → list_text begin answer next none (ls ++ ([] ∷ more)) ≡ skipped_lines ls ++ ((10 ∷ []) ++ list_text begin answer next (some begin) more)
  unfolding list_text skipped_lines
  skipped_up_to no_line more = refl
  skipped_up_to (one_more n) more = ap (λ (t : List ℕ). skipped_text ++ t) (skipped_up_to n more)

  pub ends_list : Ends begin answer next
  unfolding list_text
  ends_list = record {
    rest = λ h l ls malformed n.
        ap (λ (k : Option H). answer h l ++ list_text begin answer next k ls) malformed
        ∙ ap (λ (t : List ℕ). answer h l ++ t) (skipped_rest n);
    afresh = λ h l ls more malformed n.
        ap (λ (k : Option H). answer h l ++ list_text begin answer next k (ls ++ ([] ∷ more))) malformed
        ∙ ap (λ (t : List ℕ). answer h l ++ t) (skipped_up_to n more);
  }
