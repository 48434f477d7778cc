-- The words fix every reply: whatever is a right answer to the calls h is document 01's.
-- Assumes nothing.
--
--   one_number       R-2's number is fixed
--   one_report       what the verdict reports is fixed
--   one_reply        an answer to a call after the calls h
--   one_list         the replies to a whole list
use mathlib.Core.Path.{◌≡◌, refl, sym, ap, ap₂, ◌∙◌, subst}
use mathlib.Core.Logic.{inl, inr}
use mathlib.Core.Bool.{cond}
use mathlib.Core.List.{List, [], ◌∷◌}
use mathlib.Core.Option.{Option, none, some}
use Prim.Native.Nat.{ℕ, ◌/◌, ◌%◌, ◌≤◌, ◌<◌}
use native.Mathlib.Omega.{arith}
use lib.Arith.{digits_div, digits_mod}
use lib.Dec.{eqb, ltb}
use lib.ListN.{length}
use borrow.Author.Tests.{eqb-true, eqb-false, ltb-true, ltb-false}
use Rattle.base.proofs.Options.{none-some}
use Rattle.base.proofs.Tests.{by_test, not_both}
use Rattle.marks.specs.Marks.{text_of}
use Rattle.automaton.specs.Automaton.{Automaton}
use Rattle.automaton.specs.Rules.{automaton_of}
use Rattle.ruleformat.specs.Language.{automaton_in}
use Rattle.calls.specs.Replies.{Judgement, waiting, yes_with, no_with, refused_with, Reported, Reply, delivered, judged, installed}
use Rattle.calls.specs.Calls.{Call, installs, loads, opens, delivers, withdraws, asks_verdict}
use Rattle.calls.specs.Claims.{Divided}
use Rattle.histories.specs.History.{places_in, report_in, answer_of, answers_to}
use Rattle.histories.proofs.EveryList.{every_list}
use Rattle.histories.proofs.VerdictSays.{in_words}
use Rattle.transcripts.specs.Standing.{Standing, standing_after, the_automaton, text_in}
use Rattle.transcripts.specs.Runs.{LookedUp}
use Rattle.transcripts.specs.Answers.{Reports, BuildReply, Value, Answers, Right, no_call, one_more}
use Rattle.transcripts.specs.Claims.{OneAnswer}
use Rattle.transcripts.specs.Agreement.{Agree}
use Rattle.transcripts.proofs.Agree.{agree}
use Rattle.transcripts.proofs.Conditions.{number_of, refused_law, accepted_law}
use Rattle.transcripts.proofs.OneMethod.{one_method}
use Rattle.transcripts.proofs.Replies.{answers}

-- ---- R-2's number
no_less : (a : Automaton) (p : ℕ) (w : List ℕ) (n m : ℕ) → LookedUp a p w n → LookedUp a p w m → n ≤ m
no_less a p w n m x y =
    by_test (ltb m n)
    (λ t. let l = ltb-true m n t in absurd (x.least m l (y.all-empty (omega (arith, l, x.most)))))
    (λ t. ltb-false m n t)

one_number : (a : Automaton) (p : ℕ) (w : List ℕ) (n m : ℕ) → LookedUp a p w n → LookedUp a p w m → n ≡ m
one_number a p w n m x y = omega (arith, no_less a p w n m x y, no_less a p w m n y x)

-- ---- a report
one_division : (c b : ℕ) (r q : Reported) → Divided c b r → Divided c b q
    → (r.bytes ≡ q.bytes) × (r.quotient ≡ q.quotient) × (r.remainder ≡ q.remainder)
one_division c b r q x y =
    by_test (eqb b 0)
    (λ t.
    let z = eqb-true b 0 t in
    let u = x.no_bytes z in
    let v = y.no_bytes z in
    (x.bytes_are ∙ sym y.bytes_are, u.0 ∙ sym v.0, u.1 ∙ sym v.1))
    (λ t.
    let some_byte : 0 < b = let n = eqb-false b 0 t in omega arith in
    let e = x.whole some_byte in
    let f = y.whole some_byte in
    let k = x.below some_byte in
    let l = y.below some_byte in (
      x.bytes_are ∙ sym y.bytes_are,
      sym (digits_div r.quotient k) ∙ ap (λ (z : ℕ). z / b) (sym e ∙ f) ∙ digits_div q.quotient l,
      sym (digits_mod r.quotient k) ∙ ap (λ (z : ℕ). z % b) (sym e ∙ f) ∙ digits_mod q.quotient l,
    ))

same_report : (r q : Reported) → r.verdict ≡ q.verdict → (r.bytes ≡ q.bytes) × (r.quotient ≡ q.quotient) × (r.remainder ≡ q.remainder) → r ≡ q
same_report r q v x =
    ap (λ (z : Judgement). record { verdict = z; bytes = r.bytes; quotient = r.quotient; remainder = r.remainder }) v
    ∙ ap (λ (z : ℕ). record { verdict = q.verdict; bytes = z; quotient = r.quotient; remainder = r.remainder }) x.0
    ∙ ap (λ (z : ℕ). record { verdict = q.verdict; bytes = q.bytes; quotient = z; remainder = r.remainder }) x.1
    ∙ ap (λ (z : ℕ). record { verdict = q.verdict; bytes = q.bytes; quotient = q.quotient; remainder = z }) x.2

-- what one report says the other says
module _ (s : Standing) (r q : Reported) (x : Reports s r) (y : Reports s q) where
  one_report : ((n : ℕ) → q.verdict ≡ refused_with n → ⊥) → r ≡ q
  one_report never = of q.verdict refl
    where
      of : (v : Judgement) → q.verdict ≡ v → r ≡ q
      of (waiting e) z =
          let w = (x.waits e).1 ((y.waits e).0 z) in
          let a = x.zeros e w in
          let b = y.zeros e z in
          same_report r q (w ∙ sym z) (a.0 ∙ sym b.0, a.1 ∙ sym b.1, a.2 ∙ sym b.2)
      of (yes_with c) z =
          let w = (x.says_yes_lem c).1 ((y.says_yes_lem c).0 z) in
          same_report r q (w ∙ sym z) (one_division c (length (text_in s)) r q (x.divided c (inl w)) (y.divided c (inl z)))
      of (no_with c) z =
          let w = (x.says_no_lem c).1 ((y.says_no_lem c).0 z) in
          same_report r q (w ∙ sym z) (one_division c (length (text_in s)) r q (x.divided c (inr w)) (y.divided c (inr z)))
      of (refused_with n) z = absurd (never n z)

-- ---- a reply
-- the numbers of what is built are fixed
one_build : (a : Automaton) (r q : Reply) → BuildReply a r → BuildReply a q → r ≡ q
one_build a r q x y =
    let same = one_method a x.0 y.0 x.1 y.1 in
    x.2 ∙ ap₂ installed same.sets same.starts ∙ sym y.2

module _ (h : List Call) (s : Standing) (g : Agree h s) where
  never_refused : number_of h asks_verdict ≡ none → (n : ℕ) → (report_in h).verdict ≡ refused_with n → ⊥
  never_refused e n z =
      let words = in_words h (judged (report_in h)) refl in
      let no_board = (words.says_refused n).0 (report_in h, refl, z) in
      let l = (every_list h).verdict.board in
      by_test (eqb (places_in h) 0)
      (λ t. let w : cond (eqb (places_in h) 0) (some 21) none ≡ some 21 = rw t in none-some e w)
      (λ t. not_both (l.1 (let m = eqb-false (places_in h) 0 t in omega arith)) no_board.1)

  -- an accepted call
  one_value : (c : Call) (a : Reply) → number_of h c ≡ none → Value s c a → Value s c (answer_of h c) → a ≡ answer_of h c
  one_value (installs r) a e x y = one_build (automaton_of r) a (answer_of h (installs r)) x y
  one_value (loads f) a e x y = one_build (automaton_in f) a (answer_of h (loads f)) x y
  one_value (opens n) a e x y = x ∙ sym y
  one_value (delivers p v w) a e x y =
      x.1 ∙ ap delivered (one_number (the_automaton s) p (text_of w) x.0 y.0 x.2 y.2) ∙ sym y.1
  one_value (withdraws p) a e x y = x ∙ sym y
  one_value asks_verdict a e x y =
      let same : report_in h ≡ y.0 = let z : judged (report_in h) ≡ judged y.0 = y.1 in cc in
      x.1 ∙ ap judged (one_report s x.0 (report_in h) x.2 (subst (Reports s) (sym same) y.2) (never_refused e))

  one_reply : (c : Call) (a : Reply) → Answers s c a → a ≡ answer_of h c
  one_reply c a x = of (number_of h c) refl
    where
      y : Answers s c (answer_of h c)
      y = answers h s g c

      of : (o : Option ℕ) → number_of h c ≡ o → a ≡ answer_of h c
      of none e = let t = (accepted_law h s g c).0 e in one_value c a e (x.answered t) (y.answered t)
      of (some n) e = let t = (refused_law h s g c n).0 e in (x.refused_exactly n).1 t ∙ sym ((y.refused_exactly n).1 t)

-- ---- a list
pub right : (h : List Call) → Right h (answers_to h)
unfolding answers_to
right [] = no_call
right (c ∷ h) = one_more (right h) (answers h (standing_after h (answers_to h)) (agree h) c)

pub only_right : {h : List Call} {rs : List Reply} → Right h rs → rs ≡ answers_to h
unfolding answers_to
only_right no_call = refl
only_right (one_more {h} {rs} {c} {a} r x) =
    let before = only_right r in
    let y : Answers (standing_after h (answers_to h)) c a = subst (λ (l : List Reply). Answers (standing_after h l) c a) before x in
    ap₂ ◌∷◌ (one_reply h (standing_after h (answers_to h)) (agree h) c a y) before

pub one_answer : OneAnswer
one_answer h rs qs x y = only_right x ∙ sym (only_right y)
