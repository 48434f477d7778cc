-- The proof of all that specs/Claims.antt claims: the tests decide what the grammar says, and the
-- file is that of the positions of every pattern that the bytes stand for. Assumes nothing.
use mathlib.Core.Path.{◌≡◌, refl, sym, ap, ap₂, ◌∙◌, subst}
use mathlib.Core.Logic.{◌↔◌, ◌⊎◌, inl, inr}
use mathlib.Core.Bool.{Bool, true, false, not}
use mathlib.Core.List.{List, []}
use mathlib.Core.Option.{Option, none, some}
use Prim.Native.Nat.{ℕ, zero, suc, ◌≤◌, ◌<◌}
use native.Mathlib.Omega.{arith}
use lib.ListN.{length, get_or}
use borrow.Author.Tests.{lt-ltb, le-ltb, ltb-true, ltb-false, not-true, not-false}
use Rattle.base.proofs.Tests.{not_both}
use Rattle.base.proofs.Conditions.{named, first_law, none_law, first_here, first_past}
use Rattle.masks.specs.Masks.{◌∈◌, single}
use Rattle.masks.proofs.Laws.{single_law}
use Rattle.automaton.specs.declared.Rule.{Rule}
use Rattle.automaton.specs.Automaton.{Arc, Accepts}
use Rattle.automaton.specs.Rules.{automaton_of}
use Rattle.ruleformat.specs.Refusals.{refusal}
use Rattle.ruleformat.specs.Format.{initial_mask}
use Rattle.ruleformat.specs.Reader.{Reading, read_of, rule_of, rule_by}
use Rattle.ruleformat.specs.Language.{automaton_in}
use Rattle.ruleformat.specs.Writing.{file_of}
use Rattle.ruleformat.proofs.Claims as format
use Rattle.rulewriter.specs.Written.{padded}
use Rattle.rulewriter.proofs.Claims.{front, padded_length}
use Rattle.patterns.specs.Limits.{longest_pattern_file}
use Rattle.patterns.specs.Patterns.{Pattern, Matches, count}
use Rattle.patterns.specs.Grammar.{StandsFor}
use Rattle.patterns.specs.Positions.{position_rule}
use Rattle.patterns.specs.Claims.{Few, Letter}
use Rattle.patterns.proofs.Claims as patterns
use Rattle.patternscan.specs.Signs.{letters_in}
use Rattle.patternscan.specs.Scanning.{grammatical}
use Rattle.patternscan.proofs.Claims as scan
use Rattle.patternreader.specs.Rules.{rule_read}
use Rattle.patternreader.proofs.Claims as reader
use Rattle.patternfile.specs.Answers.{too_long, no_pattern, too_many_letters, pattern_conditions, pattern_number, pattern_file_by, pattern_file, pattern_of, file_in}
use Rattle.patternfile.specs.Claims.{LetterIn, States, RefusedExactly, AllZero, AcceptedFor, Claims}
use Rattle.patternfile.proofs.Ways.{from_31, from_32, refuses}
use Rattle.patternfile.proofs.Examples.{answered}

-- ---- the tests in the words of the grammar
letter_count : (p : Pattern) (b : List ℕ) → StandsFor p b → length (letters_in b) ≡ count p
letter_count p b s = ap length ((scan.claims).lettered p b s) ∙ (patterns.claims).counted p

no_yes : (t : Bool) → (t ≡ true → ⊥) → t ≡ false
no_yes true n = absurd (n refl)
no_yes false n = refl

module _ (b : List ℕ) where
  long : (too_long b ≡ true) ↔ (128 < length b)
  long = (ltb-true 128 (length b), lt-ltb 128 (length b))

  short : (too_long b ≡ false) ↔ (length b ≤ 128)
  short = (ltb-false 128 (length b), le-ltb 128 (length b))

  outside : (no_pattern b ≡ true) ↔ ((p : Pattern) → StandsFor p b → ⊥)
  outside = (
    (λ e p s. not_both (((scan.claims).decides b).1 (p, s)) (not-true (grammatical b) e)),
    λ n. ap not (no_yes (grammatical b) (λ e. let t = ((scan.claims).decides b).0 e in n t.0 t.1)),
  )

  inside : (no_pattern b ≡ false) ↔ ((p : Pattern) × StandsFor p b)
  inside = (
    (λ e. ((scan.claims).decides b).0 (not-false (grammatical b) e)),
    λ t. ap not (((scan.claims).decides b).1 t),
  )

  many : (p : Pattern) → StandsFor p b → (too_many_letters b ≡ true) ↔ (31 < count p)
  many p s =
      let e = letter_count p b s in
      ((λ t. omega (arith, ltb-true 31 (length (letters_in b)) t)), λ h. lt-ltb 31 (length (letters_in b)) (omega arith))

  few : (p : Pattern) → StandsFor p b → (too_many_letters b ≡ false) ↔ Few p
  few p s =
      let e = letter_count p b s in
      ((λ t. omega (arith, ltb-false 31 (length (letters_in b)) t)), λ h. le-ltb 31 (length (letters_in b)) (omega arith))

  -- ---- the numbers
  is_30 : (pattern_number b ≡ some 30) ↔ (too_long b ≡ true)
  unfolding named
  is_30 = first_here 30 (too_long b) (from_31 b) refl

  is_31 : (pattern_number b ≡ some 31) ↔ ((too_long b ≡ false) × (no_pattern b ≡ true))
  unfolding named
  is_31 =
      let a = first_past 30 31 (too_long b) (from_31 b) refl in
      let c = first_here 31 (no_pattern b) (from_32 b) refl in
      ((λ e. ((a.0 e).0, c.0 (a.0 e).1)), λ x. a.1 (x.0, c.1 x.1))

  is_32 : (pattern_number b ≡ some 32) ↔ ((too_long b ≡ false) × (no_pattern b ≡ false) × (too_many_letters b ≡ true))
  unfolding named
  is_32 =
      let a = first_past 30 32 (too_long b) (from_31 b) refl in
      let c = first_past 31 32 (no_pattern b) (from_32 b) refl in
      let d = first_here 32 (too_many_letters b) [] refl in (
        (λ e. let x = a.0 e in let y = c.0 x.1 in (x.0, y.0, d.0 y.1)),
        λ x. a.1 (x.0, c.1 (x.1, d.1 x.2)),
      )

  is-none : (pattern_number b ≡ none) ↔ ((too_long b ≡ false) × ((no_pattern b ≡ false) × ((too_many_letters b ≡ false) × Unit {0})))
  is-none = none_law (pattern_conditions b)

  no_other : (x : ℕ) → pattern_number b ≡ some x → (x ≡ 30) ⊎ (x ≡ 31) ⊎ (x ≡ 32)
  no_other x e = told ((first_law x (pattern_conditions b)).0 e)
    where
      told : ((too_long b ≡ true) × (30 ≡ x)) ⊎ ((too_long b ≡ false) × (((no_pattern b ≡ true) × (31 ≡ x)) ⊎ ((no_pattern b ≡ false) × (((too_many_letters b ≡ true) × (32 ≡ x)) ⊎ ((too_many_letters b ≡ false) × ⊥)))))
          → (x ≡ 30) ⊎ (x ≡ 31) ⊎ (x ≡ 32)
      told (inl h) = inl (sym h.1)
      told (inr (t, inl h)) = inr (inl (sym h.1))
      told (inr (t, inr (u, inl h))) = inr (inr (sym h.1))
      told (inr (t, inr (u, inr (v, h)))) = absurd h

  refused : RefusedExactly b
  refused = record {
    number_30 = ((λ e. long.0 (is_30.0 e)), λ h. is_30.1 (long.1 h));
    number_31 = (
      (λ e. let x = is_31.0 e in (short.0 x.0, outside.0 x.1)),
      λ x. is_31.1 (short.1 x.0, outside.1 x.1),
    );
    number_32 = (
      (λ e.
          let x = is_32.0 e in
          let t = inside.0 x.1 in
          (short.0 x.0, (t.0, t.1, (many t.0 t.1).0 x.2))),
      λ x. is_32.1 (short.1 x.0, inside.1 (x.1.0, x.1.1), (many x.1.0 x.1.1).1 x.1.2),
    );
    no_other = no_other;
  }

  accepted : (pattern_number b ≡ none) ↔ ((length b ≤ 128) × ((p : Pattern) × StandsFor p b × Few p))
  accepted = (
    (λ e.
        let x = is-none.0 e in
        let t = inside.0 x.1.0 in
        (short.0 x.0, (t.0, t.1, (few t.0 t.1).0 x.1.1.0))),
    λ x. is-none.1 (short.1 x.0, (inside.1 (x.1.0, x.1.1), ((few x.1.0 x.1.1).1 x.1.2, tt))),
  )

-- ---- the file
module _ (p : Pattern) (b : List ℕ) (s : StandsFor p b) (e : pattern_number b ≡ none) where
  few_letters : Few p
  few_letters = (few b p s).0 ((is-none b).0 e).1.1.0

  rule_is : rule_read b ≡ position_rule p
  rule_is = (reader.claims).rule p b s ((short b).0 ((is-none b).0 e).0) few_letters

  file_is : pattern_file b ≡ file_of (position_rule p)
  file_is = ap (λ (o : Option ℕ). pattern_file_by o b) e ∙ ap file_of rule_is

  outcome : pattern_of b ≡ record {
    number = none;
    length = length (file_of (position_rule p));
    bytes = padded longest_pattern_file (file_of (position_rule p));
  }
  outcome =
      ap₂ (λ (o : Option ℕ) (f : List ℕ). record { number = o; length = length f; bytes = padded longest_pattern_file f }) e file_is

  held : file_in (pattern_of b) ≡ file_of (position_rule p)
  held = front longest_pattern_file (pattern_file b) ∙ file_is

  reads : read_of (file_of (position_rule p)) ≡ record { number = none; rule = position_rule p }
  reads = (patterns.claims).file_read p few_letters

  accepts : refusal (file_of (position_rule p)) ≡ none
  accepts = ap (λ (x : Reading). x.number) reads

  holds : rule_of (file_of (position_rule p)) ≡ position_rule p
  holds = sym (ap (λ (o : Option ℕ). rule_by o (file_of (position_rule p))) accepts) ∙ ap (λ (x : Reading). x.rule) reads

  -- an arc of the file is one of the rule
  letter_of_lem : (q t i : ℕ) → Arc (automaton_in (file_of (position_rule p))) q t i → Letter p i t
  letter_of_lem q t i a =
      let f = file_of (position_rule p) in
      let there = ((format.claims).arcs f accepts q t i).0 a.there in
      let arc : Arc (automaton_of (rule_of f)) q t i =
      record { source = a.source; symbol = a.symbol; target = a.target; there = there } in
      (patterns.claims).arc_letter p few_letters q t i (subst (λ (r : Rule). Arc (automaton_of r) q t i) holds arc)

  letter_in : (i t : ℕ) → Letter p i t → LetterIn b i t
  letter_in zero t h = h
  letter_in (suc j) t h =
      let l = (scan.claims).lettered p b s in
      (omega (arith, h.0, letter_count p b s), ap (λ (w : List ℕ). get_or w j 0) l ∙ h.1)

  states : States b (automaton_in (file_of (position_rule p)))
  states = record {
    number = ap suc (sym (letter_count p b s));
    symbols = refl;
    start = λ q. (
      (λ h. (single_law 0 q).0 (subst (λ (m : ℕ). q ∈ m) initials h)),
      λ z. subst (λ (m : ℕ). q ∈ m) (sym initials) ((single_law 0 q).1 z),
    );
    arcs = λ q t i a. letter_in i t (letter_of_lem q t i a);
  }
    where
      initials : initial_mask (file_of (position_rule p)) ≡ single 0
      initials = ap (λ (r : Rule). r.initials) holds

  accepted_for : AcceptedFor p b
  accepted_for = record {
    file = outcome;
    read = ap read_of held ∙ reads;
    language = λ w.
        subst (λ (f : List ℕ). Accepts (automaton_in f) w ↔ Matches p w) (sym held)
        ((patterns.claims).file_language p b s few_letters w);
    states = subst (λ (f : List ℕ). States b (automaton_in f)) (sym held) states;
  }

-- ---- its room
fits_by : (o : Option ℕ) (b : List ℕ) → pattern_number b ≡ o → length (pattern_file_by o b) ≤ 2122
fits_by none b e =
    let x = (is-none b).0 e in
    let t = (inside b).0 x.1.0 in
    let is = rule_is t.0 b t.1 e in
    subst (λ (r : Rule). length (file_of r) ≤ 2122) (sym is) ((patterns.claims).small_file t.0 (few_letters t.0 b t.1 e))
fits_by (some number) b e = omega arith

fits : (b : List ℕ) → length (pattern_file b) ≤ 2122
fits b = fits_by (pattern_number b) b refl

pub claims : Claims
claims = record {
  answered = answered;
  refused = refused;
  zeros = λ b x e. sym (refuses b e);
  each_zero = λ b x e. subst AllZero (refuses b e) (refl, refl);
  accepted = accepted;
  accepted_for = accepted_for;
  fits = fits;
  room = λ b. padded_length longest_pattern_file (pattern_file b) (fits b);
}
