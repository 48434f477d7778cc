-- The test of specs/Scanning.antt says yes exactly where the bytes are a pattern. Assumes nothing.
--
-- From the grammar to the test: an item leaves the depth and lets a star follow (`scans`). From the
-- test to the grammar: what stands before each open bracket, and since the last, parses as
-- alternatives, and where a star may follow they end in an item (`rest`).
use mathlib.Core.Path.{◌≡◌, refl, sym, ap, ◌∙◌, subst}
use mathlib.Core.Logic.{◌↔◌}
use mathlib.Core.Bool.{Bool, true, false, cond}
use mathlib.Core.List.{List, [], ◌∷◌, ◌++◌, append_assoc, append-nil}
use Prim.Native.Nat.{ℕ, zero, suc, ◌+◌, ◌-◌, ◌≤◌, ◌<◌}
use native.Mathlib.Omega.{arith}
use lib.Dec.{eqb, ltb, leb}
use borrow.Author.Tests.{le-ltb, ltb-false, le-leb, leb-true, eqb-true}
use Rattle.base.proofs.Tests.{by_test, not_both}
use Rattle.patterns.specs.Patterns.{Pattern, then, or}
use Rattle.patterns.specs.Grammar.{Level, alternatives, sequence, item, Parses, a_letter, brackets, a_star, nothing, next, first, other}
use Rattle.patternscan.specs.declared.Sign.{Sign}
use Rattle.patternscan.specs.declared.Sign.TheVariants.{Letter, Bar, Opens, Closes, Star, Foreign}
use Rattle.patternscan.specs.Signs.{sign_of}
use Rattle.patternscan.specs.Scanning.{Scan, lost, within, step, scan, whole, grammatical}

-- ---- signs
pub sign_letter : (a : ℕ) → a < 16 → sign_of (97 + a) ≡ Letter a
unfolding sign_of
sign_letter a h =
    let e : 97 + a - 97 ≡ a = omega arith in
    rw (le-ltb (97 + a) 97 (omega arith), le-leb (97 + a) 112 (omega arith)) (ap Letter e)

pub sign_bar : sign_of 124 ≡ Bar
unfolding sign_of
sign_bar = refl

pub sign_opens : sign_of 40 ≡ Opens
unfolding sign_of
sign_opens = refl

pub sign_closes : sign_of 41 ≡ Closes
unfolding sign_of
sign_closes = refl

pub sign_star : sign_of 42 ≡ Star
unfolding sign_of
sign_star = refl

data View : ℕ → Sign → Type 0 where
  v_letter : {a : ℕ} → a < 16 → View (97 + a) (Letter a)
  v_bar : View 124 Bar
  v_opens : View 40 Opens
  v_closes : View 41 Closes
  v_star : View 42 Star
  v_foreign : {b : ℕ} → View b Foreign

at : {s : Sign} {b : ℕ} (c : ℕ) → b ≡ c → View c s → View b s
at {s = s} c e v = subst (λ (x : ℕ). View x s) (sym e) v

view : (b : ℕ) → View b (sign_of b)
unfolding sign_of
view b = by_test (ltb b 97) (λ e. rw e low) (λ e. rw e (high (ltb-false b 97 e)))
  where
    low : View b (cond (eqb b 40) Opens (cond (eqb b 41) Closes (cond (eqb b 42) Star Foreign)))
    low =
        by_test (eqb b 40) (λ e. rw e (at 40 (eqb-true b 40 e) v_opens))
        (λ e. rw e
        (by_test (eqb b 41) (λ f. rw f (at 41 (eqb-true b 41 f) v_closes))
        (λ f. rw f (by_test (eqb b 42) (λ g. rw g (at 42 (eqb-true b 42 g) v_star)) (λ g. rw g v_foreign)))))

    high : 97 ≤ b → View b (cond (leb b 112) (Letter (b - 97)) (cond (eqb b 124) Bar Foreign))
    high l =
        by_test (leb b 112)
        (λ e. rw e (let h : b ≤ 112 = leb-true b 112 e in at (97 + (b - 97)) (omega arith) (v_letter (omega arith))))
        (λ e. rw e (by_test (eqb b 124) (λ f. rw f (at 124 (eqb-true b 124 f) v_bar)) (λ f. rw f v_foreign)))

-- ---- a parsed text is scanned
pub scan-append : (r : Scan) (b c : List ℕ) → scan r (b ++ c) ≡ scan (scan r b) c
scan-append r [] c = refl
scan-append r (x ∷ b) c = scan-append (step (sign_of x) r) b c

one_more : {s : Sign} (b : ℕ) (r : Scan) (c : List ℕ) → sign_of b ≡ s → scan r (b ∷ c) ≡ scan (step s r) c
one_more b r c e = ap (λ (x : Sign). scan (step x r) c) e

-- an item leaves the depth, and a star may follow it; other texts leave the depth
Scans : Level → List ℕ → Type 0
Scans item b = (d : ℕ) (f : Bool) → scan (within d f) b ≡ within d true
Scans sequence b = (d : ℕ) (f : Bool) → (g : Bool) × (scan (within d f) b ≡ within d g)
Scans alternatives b = (d : ℕ) (f : Bool) → (g : Bool) × (scan (within d f) b ≡ within d g)

scans : {l : Level} {b : List ℕ} {p : Pattern} → Parses l b p → Scans l b
unfolding Scans
scans (a_letter {s = s} h) = λ d f. one_more (97 + s) (within d f) [] (sign_letter s h)
scans (brackets {b = b} r) = λ d f.
    let i = scans r (suc d) false in
    one_more 40 (within d f) (b ++ (41 ∷ [])) sign_opens
    ∙ scan-append (within (suc d) false) b (41 ∷ [])
    ∙ ap (λ (x : Scan). scan x (41 ∷ [])) i.1
    ∙ one_more 41 (within (suc d) i.0) [] sign_closes
scans (a_star {b = b} r) = λ d f.
    scan-append (within d f) b (42 ∷ []) ∙ ap (λ (x : Scan). scan x (42 ∷ [])) (scans r d f) ∙ one_more 42 (within d true) [] sign_star
scans nothing = λ d f. (f, refl)
scans (next {b = b} {c = c} r t) = λ d f.
    let i = scans r d f in
    (true, scan-append (within d f) b c ∙ ap (λ (x : Scan). scan x c) i.1 ∙ scans t d i.0)
scans (first r) = scans r
scans (other {b = b} {c = c} r t) = λ d f.
    let i = scans r d f in
    let j = scans t d false in
    (j.0, scan-append (within d f) b (124 ∷ c) ∙ ap (λ (x : Scan). scan x (124 ∷ c)) i.1 ∙ one_more 124 (within d i.0) c sign_bar ∙ j.1)

-- ---- a scanned text is parsed
record Ending (b : List ℕ) : Type 0 where
  front : List ℕ
  back : List ℕ
  before : Pattern
  tree : Pattern
  parts : b ≡ front ++ back
  first_part : Parses alternatives front before
  last_part : Parses item back tree

-- the alternatives since the last open bracket; a star may follow where they end in an item
record Read (b : List ℕ) (f : Bool) : Type 0 where
  tree : Pattern
  parses : Parses alternatives b tree
  ending : f ≡ true → Ending b

-- the alternatives before each open bracket
data Stack : ℕ → List ℕ → Type 0 where
  bottom : Stack 0 []
  pushed : {d : ℕ} {pre b : List ℕ} {p : Pattern} → Stack d pre → Parses alternatives b p → Stack (suc d) (pre ++ (b ++ (40 ∷ [])))

Tree : List ℕ → Type 0
Tree b = (p : Pattern) × Parses alternatives b p

extend : {b c : List ℕ} {p q : Pattern} → Parses alternatives b p → Parses item c q → Tree (b ++ c)
unfolding Tree
extend {q = q} (first {p = p} s) i = (then p q, first (next s i))
extend {q = r} (other {p = p} {q = q} a s) i = (or p (then q r), rw append_assoc (other a (next s i)))

-- one item more
read_item : {b c : List ℕ} {p q : Pattern} → Parses alternatives b p → Parses item c q → Read (b ++ c) true
unfolding Tree
read_item {b} {c} {p} {q} a i =
    let t = extend a i in
    record {
      tree = t.0;
      parses = t.1;
      ending = λ e. record { front = b; back = c; before = p; tree = q; parts = refl; first_part = a; last_part = i };
    }

-- the alternatives so far end in nothing
read_fresh : {b : List ℕ} {p : Pattern} → Parses alternatives b p → Read b false
read_fresh {p = p} a = record { tree = p; parses = a; ending = λ e. not_both e refl }

pub scan_lost : (c : List ℕ) → scan lost c ≡ lost
scan_lost [] = refl
scan_lost (x ∷ c) = scan_lost c

no_tree : {A : Type 0} (c : List ℕ) → whole (scan lost c) ≡ true → A
no_tree c e = not_both (sym (ap whole (scan_lost c)) ∙ e) refl

-- what is read, and what is left
Rest : List ℕ → Type 0
Rest c = (d : ℕ) (f : Bool) (pre b : List ℕ) → Stack d pre → Read b f → whole (scan (within d f) c) ≡ true → Tree ((pre ++ b) ++ c)

retree : {b c : List ℕ} → b ≡ c → Tree b → Tree c
retree e t = subst Tree e t

rest_step : (x : ℕ) (c : List ℕ) → Rest c → {s : Sign} → View x s
    → (d : ℕ) (f : Bool) (pre b : List ℕ) → Stack d pre → Read b f → whole (scan (step s (within d f)) c) ≡ true → Tree ((pre ++ b) ++ (x ∷ c))
unfolding Rest
rest_step x c rec (v_letter {a = a} h) d f pre b st r e =
    retree (simp append_assoc) (rec d true pre (b ++ ((97 + a) ∷ [])) st (read_item r.parses (a_letter h)) e)
rest_step x c rec v_bar d f pre b st r e =
    retree (simp append_assoc) (rec d false pre (b ++ (124 ∷ [])) st (read_fresh (other r.parses nothing)) e)
rest_step x c rec v_opens d f pre b st r e =
    retree (simp append_assoc) (rec (suc d) false (pre ++ (b ++ (40 ∷ []))) [] (pushed st r.parses) (read_fresh (first nothing)) e)
rest_step x c rec v_closes zero f pre b st r e = no_tree c e
rest_step x c rec v_closes (suc d) f pre b (pushed {pre = pre'} {b = b'} st a) r e =
    retree (simp append_assoc) (rec d true pre' (b' ++ (40 ∷ (b ++ (41 ∷ [])))) st (read_item a (brackets r.parses)) e)
rest_step x c rec v_star d true pre b st r e =
    let n = r.ending refl in
    retree (rw n.parts (simp append_assoc))
    (rec d true pre (n.front ++ (n.back ++ (42 ∷ []))) st (read_item n.first_part (a_star n.last_part)) e)
rest_step x c rec v_star d false pre b st r e = no_tree c e
rest_step x c rec v_foreign d f pre b st r e = no_tree c e

end_tree : (d : ℕ) (pre b : List ℕ) {f : Bool} → Stack d pre → Read b f → d ≡ 0 → Tree ((pre ++ b) ++ [])
unfolding Tree
end_tree d pre b bottom r e = (r.tree, rw append-nil r.parses)
end_tree d pre b (pushed st a) r e = absurd (omega arith)

rest : (c : List ℕ) → Rest c
unfolding Rest
rest [] = λ d f pre b st r e. end_tree d pre b st r (eqb-true d 0 e)
rest (x ∷ c) = λ d f pre b st r e. rest_step x c (rest c) (view x) d f pre b st r e

pub decides : (b : List ℕ) → (grammatical b ≡ true) ↔ (p : Pattern) × Parses alternatives b p
unfolding Tree Rest Scans
decides b = (
  (λ e. rest b 0 false [] [] bottom (read_fresh (first nothing)) e),
  λ t. ap whole (scans t.1 0 false).1,
)
