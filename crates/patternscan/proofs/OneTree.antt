-- Bytes stand for at most one pattern: the tree is what reading them sign by sign leaves, and that is
-- a function of the bytes. Assumes nothing.
--
--   Frame, State   what stood before an open bracket; what was read so far: the alternatives before
--                  the last bar, the sequence, the last item, and the open brackets
--   whole st       the tree of what was read since the last open bracket
--   after st s     the state after one sign more; `run`, after bytes
--   Reads l b p    what reading bytes that parse as p at the level l leaves
use mathlib.Core.Path.{◌≡◌, refl, sym, ap, ◌∙◌}
use mathlib.Core.List.{List, [], ◌∷◌, ◌++◌}
use mathlib.Core.Option.{Option, none, some}
use Prim.Native.Nat.{ℕ}
use Rattle.patterns.specs.Patterns.{Pattern, empty, letter, then, or, star}
use Rattle.patterns.specs.Grammar.{Level, alternatives, sequence, item, Parses, a_letter, brackets, a_star, nothing, next, first, other, StandsFor}
use Rattle.patternscan.specs.declared.Sign.{Sign}
use Rattle.patternscan.specs.declared.Sign.TheVariants.{Letter, Bar, Opens, Closes, Star, Foreign}
use Rattle.patternscan.specs.Signs.{sign_of}
use Rattle.patternscan.proofs.Decision.{sign_letter, sign_bar, sign_opens, sign_closes, sign_star}

data Frame : Type 0 where
  frame : Option Pattern → Pattern → Frame

data State : Type 0 where
  state : Option Pattern → Pattern → Option Pattern → List Frame → State

abbrev appended : Pattern → Option Pattern → Pattern
appended s none = s
appended s (some q) = then s q

abbrev alternated : Option Pattern → Pattern → Pattern
alternated none s = s
alternated (some a) s = or a s

abbrev starred : Option Pattern → Option Pattern
starred none = none
starred (some q) = some (star q)

abbrev whole : State → Pattern
whole (state d s i fs) = alternated d (appended s i)

abbrev closed : List Frame → Pattern → State
closed [] q = state none empty (some q) []
closed (frame d s ∷ fs) q = state d s (some q) fs

abbrev after : State → Sign → State
after (state d s i fs) (Letter a) = state d (appended s i) (some (letter a)) fs
after (state d s i fs) Bar = state (some (alternated d (appended s i))) empty none fs
after (state d s i fs) Opens = state none empty none (frame d (appended s i) ∷ fs)
after (state d s i fs) Closes = closed fs (alternated d (appended s i))
after (state d s i fs) Star = state d s (starred i) fs
after (state d s i fs) Foreign = state d s i fs

abbrev run : State → List ℕ → State
run st [] = st
run st (b ∷ bs) = run (after st (sign_of b)) bs

run-append : (st : State) (b c : List ℕ) → run st (b ++ c) ≡ run (run st b) c
run-append st [] c = refl
run-append st (x ∷ b) c = run-append (after st (sign_of x)) b c

-- ---- what is left: an item is the last item, a sequence and alternatives are the whole
record Sequence (d : Option Pattern) (fs : List Frame) (b : List ℕ) (p : Pattern) : Type 0 where
  before : Pattern
  last : Option Pattern
  leaves : run (state d empty none fs) b ≡ state d before last fs
  is : appended before last ≡ p

record Alternatives (fs : List Frame) (b : List ℕ) (p : Pattern) : Type 0 where
  done : Option Pattern
  before : Pattern
  last : Option Pattern
  leaves : run (state none empty none fs) b ≡ state done before last fs
  is : alternated done (appended before last) ≡ p

abbrev Reads : Level → List ℕ → Pattern → Type 0
Reads item b p = (d : Option Pattern) (s : Pattern) (i : Option Pattern) (fs : List Frame) → run (state d s i fs) b ≡ state d (appended s i) (some p) fs
Reads sequence b p = (d : Option Pattern) (fs : List Frame) → Sequence d fs b p
Reads alternatives b p = (fs : List Frame) → Alternatives fs b p

-- bytes, and one sign more
then_sign : {s : Sign} (st : State) (b : List ℕ) (x : ℕ) {left : State} → sign_of x ≡ s → run st b ≡ left → run st (b ++ (x ∷ [])) ≡ after left s
then_sign {s = s} st b x e f =
    run-append st b (x ∷ []) ∙ ap (after (run st b)) e ∙ ap (λ (t : State). after t s) f

reads : {l : Level} {b : List ℕ} {p : Pattern} → Parses l b p → Reads l b p
reads (a_letter {s = a} h) = λ d s i fs. ap (after (state d s i fs)) (sign_letter a h)
reads (brackets {b = b} r) = λ d s i fs.
    let n = reads r (frame d (appended s i) ∷ fs) in
    ap (λ (x : Sign). run (after (state d s i fs) x) (b ++ (41 ∷ []))) sign_opens
    ∙ then_sign (state none empty none (frame d (appended s i) ∷ fs)) b 41 sign_closes n.leaves
    ∙ ap (λ (q : Pattern). state d (appended s i) (some q) fs) n.is
reads (a_star {b = b} r) = λ d s i fs. then_sign (state d s i fs) b 42 sign_star (reads r d s i fs)
reads nothing = λ d fs. record { before = empty; last = none; leaves = refl; is = refl }
reads (next {b = b} {c = c} {q = q} r t) = λ d fs.
    let n = reads r d fs in
    record {
      before = appended n.before n.last;
      last = some q;
      leaves = run-append (state d empty none fs) b c ∙ ap (λ (st : State). run st c) n.leaves ∙ reads t d n.before n.last fs;
      is = ap (λ (x : Pattern). then x q) n.is;
    }
reads (first r) = λ fs.
    let n = reads r none fs in
    record { done = none; before = n.before; last = n.last; leaves = n.leaves; is = n.is }
reads (other {b = b} {c = c} {p = p} r t) = λ fs.
    let n = reads r fs in
    let m = reads t (some p) fs in
    record {
      done = some p;
      before = m.before;
      last = m.last;
      leaves = run-append (state none empty none fs) b (124 ∷ c)
          ∙ ap (λ (st : State). run (after st (sign_of 124)) c) n.leaves
          ∙ ap (λ (x : Sign). run (after (state n.done n.before n.last fs) x) c) sign_bar
          ∙ ap (λ (x : Pattern). run (state (some x) empty none fs) c) n.is
          ∙ m.leaves;
      is = ap (λ (x : Pattern). or p x) m.is;
    }

tree_of : {p : Pattern} {b : List ℕ} → StandsFor p b → p ≡ whole (run (state none empty none []) b)
tree_of s = let n = reads s [] in sym n.is ∙ sym (ap whole n.leaves)

pub one_tree : (p q : Pattern) (b : List ℕ) → StandsFor p b → StandsFor q b → p ≡ q
one_tree p q b s t = tree_of s ∙ sym (tree_of t)
