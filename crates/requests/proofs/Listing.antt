-- What is printed of a rule file goes by the number of its load; a rule that is built has the
-- numbers of a printable one; and the listing of rule A. Assumes nothing.
use mathlib.Core.Path.{◌≡◌, refl, sym, ap, ◌∙◌}
use mathlib.Core.Logic.{◌↔◌, ⊎_elim}
use mathlib.Core.Bool.{Bool, true, false, cond}
use mathlib.Core.List.{List, [], ◌∷◌, ◌++◌}
use mathlib.Core.Option.{Option, none, some}
use Prim.Native.Nat.{ℕ, ◌^◌, ◌≤◌, ◌<◌, min}
use native.Mathlib.Nat.{lt_of_lt_of_le}
use native.Mathlib.Omega.{arith}
use lib.Pow.{pow_mono, pow-lt}
use lib.ListN.{length, get_or, drop}
use Rattle.base.specs.Lists.{list_from, joined}
use Rattle.base.proofs.Lists.{cell_of_lem}
use Rattle.base.proofs.Options.{none-some}
use Rattle.limits.specs.Limits.{largest_number}
use Rattle.masks.specs.Masks.{single, union}
use Rattle.automaton.specs.declared.Rule.{Rule}
use Rattle.automaton.specs.Rules.{WellFormed}
use Rattle.automaton.specs.Successor.{after}
use Rattle.automaton.proofs.Claims as automaton
use Rattle.ruleformat.specs.Refusals.{refusal}
use Rattle.ruleformat.specs.Reader.{targets_up_to, rule_of}
use Rattle.ruleformat.specs.Worked.{file_A}
use Rattle.ruleformat.proofs.Claims as rulefile
use Rattle.numbering.specs.Numbering.{index_of, numbered, expand_from, close_from, keys_up_to}
use Rattle.subsets.specs.Sets.{sets_of, too_many, set_cells, next_set, next_cells}
use Rattle.subsets.specs.mirror.Singles.{singles_of}
use Rattle.subsets.specs.Claims.{fits, sets}
use Rattle.subsets.proofs.Claims as subsets
use Rattle.delegates.specs.declared.Starts.{Starts}
use Rattle.delegates.specs.Alike.{delegate_in}
use Rattle.build.specs.declared.Built.{Built}
use Rattle.build.specs.mirror.Building.{built_of, build_of}
use Rattle.text.specs.Numerals.{decimal_below, decimal, hex}
use Rattle.ruletext.specs.RuleText.{rule_text, refused_text}
use Rattle.ruletext.specs.Printing.{built_text, text_by, text_for}
use Rattle.ruletext.specs.Claims.{Printable, SamePrinted}
use Rattle.ruletext.proofs.Reading.{decimal_one, last_same}
use Rattle.ruletext.proofs.Claims as ruletext
use Rattle.formtrip.proofs.Tables as tables
use Rattle.calls.specs.Calls.{load_number}
use Rattle.calls.proofs.Conditions.{over, not_refused, load_number_lem, load_accepted}
use Rattle.histories.proofs.TwoRules.{listed, starts_A}

-- ---- by the number of the load
abbrev pub printed_by : Rule → Option ℕ → List ℕ
printed_by r none = rule_text (built_of r)
printed_by r (some x) = refused_text x

abbrev by_both : Option ℕ → Bool → Option ℕ
by_both none many = cond many (some 9) none
by_both (some x) many = some x

built_text_lem : (r : Rule) (many : Bool) → over r ≡ many
    → built_text (build_of r).answer (build_of r).built ≡ printed_by r (cond many (some 9) none)
unfolding build_of
built_text_lem r true e = rw e
built_text_lem r false e = rw e

told : (f : List ℕ) (o : Option ℕ) → refusal f ≡ o → (many : Bool) → over (rule_of f) ≡ many
    → (load_number f ≡ by_both o many) × (text_for f ≡ printed_by (rule_of f) (by_both o many))
told f none e many t = (
  load_number_lem f ∙ rw (e, t),
  ap (λ (p : Option ℕ). text_by p (build_of (rule_of f))) e ∙ built_text_lem (rule_of f) many t,
)
told f (some x) e many t = (load_number_lem f ∙ rw e, ap (λ (p : Option ℕ). text_by p (build_of (rule_of f))) e)

pub by_number : (f : List ℕ) → text_for f ≡ printed_by (rule_of f) (load_number f)
by_number f =
    let x = told f (refusal f) refl (over (rule_of f)) refl in
    x.1 ∙ ap (printed_by (rule_of f)) (sym x.0)

pub accepted : (f : List ℕ) → load_number f ≡ none → text_for f ≡ rule_text (built_of (rule_of f))
accepted f e = by_number f ∙ ap (printed_by (rule_of f)) e

both_low : (f : List ℕ) (o : Option ℕ) → refusal f ≡ o → (many : Bool) (x : ℕ) → by_both o many ≡ some x → x ≤ 9
both_low f none e true x i = let z : 9 ≡ x = cc in omega arith
both_low f none e false x i = none-some refl i
both_low f (some y) e many x i = let z : y ≡ x = cc in omega (arith, ruletext.low f y e)

number_low : (f : List ℕ) (x : ℕ) → load_number f ≡ some x → x ≤ 9
number_low f x e =
    both_low f (refusal f) refl (over (rule_of f)) x
    (sym (told f (refusal f) refl (over (rule_of f)) refl).0 ∙ e)

same_number : (f : List ℕ) (x : ℕ) (o : Option ℕ) → x ≤ largest_number → load_number f ≡ o → printed_by (rule_of f) o ≡ refused_text x → load_number f ≡ some x
same_number f x none h e t =
    let z : ◌≡◌ {A = ℕ} 115 114 = ap (λ (l : List ℕ). get_or l 0 0) t in absurd (omega arith)
same_number f x (some y) h e t =
    let z : decimal y ++ (10 ∷ []) ≡ decimal x ++ (10 ∷ []) = ap (drop 8) t in
    e ∙ ap some (decimal_one y x (omega (arith, number_low f y e)) h (last_same (decimal y) (decimal x) 10 10 z).0)

pub refused_exactly : (f : List ℕ) (x : ℕ) → x ≤ largest_number → (text_for f ≡ refused_text x) ↔ (load_number f ≡ some x)
refused_exactly f x h = (
  (λ t. same_number f x (load_number f) h refl (sym (by_number f) ∙ t)),
  λ e. by_number f ∙ ap (printed_by (rule_of f)) e,
)

-- ---- a rule that is built
module _ (r : Rule) (good : WellFormed r) (few : fits r) where
  mask : (i : ℕ) → i < length (sets r) → get_or (built_of r).sets i 0 < 4294967296
  mask i h =
      let m = (subsets.claims).sound r good i h in
      let below : single m.state < 2 ^ r.n = pow-lt m.below in
      let reached : after r.targets (single m.state) m.text < 2 ^ r.n =
      (automaton.claims).after_below r good (single m.state) m.text below in
      let wide : 2 ^ r.n ≤ 2 ^ 32 = pow_mono good.states.1 in
      let at : get_or (built_of r).sets i 0 ≡ get_or (sets r) i 0 =
      cell_of_lem 512 (λ i. get_or (sets r) i 0) i 0 (omega (arith, tables.most r good few)) in
      rw (at, ← m.leads) (lt_of_lt_of_le reached wide)

  pub printable : Printable (built_of r)
  printable =
      let t = (tables.a_table r good few).numbered in
      record {
        some_set = t.some_set;
        sets = t.sets;
        symbols = omega arith;
        states = omega arith;
        starts = omega (arith, ruletext.starts_low r good few);
        masks = mask;
        cells = λ i s h l.
            ⊎_elim (λ e. omega (arith, e)) (λ e. omega (arith, e, t.sets)) (t.names i s h (omega (arith, l)));
      }

pub printable_file : (f : List ℕ) → load_number f ≡ none → Printable (built_of (rule_of f))
printable_file f e =
    let a = load_accepted f e in
    printable (rule_of f) ((rulefile.claims).well_formed f a.0) (not_refused (rule_of f) a.1).1

pub determines : (f g : List ℕ) → load_number f ≡ none → load_number g ≡ none → text_for f ≡ text_for g
    → SamePrinted (built_of (rule_of f)) (built_of (rule_of g))
determines f g e d t =
    (ruletext.claims).determines (built_of (rule_of f)) (built_of (rule_of g)) (printable_file f e) (printable_file g d)
    (sym (accepted f e) ∙ t ∙ accepted g d)

-- ---- rule A
-- a built rule with the starts put in
abbrev built_with : Rule → Starts → Built
built_with r s = record {
  n = min r.n 32;
  k = min r.k 16;
  startcount = s.startcount;
  setcount = length (sets r);
  initials = r.initials;
  finals = r.finals;
  delegates = s.delegates;
  singles = singles_of (set_cells r.targets r.n r.k) (length (sets r));
  sets = set_cells r.targets r.n r.k;
  next = next_cells r.targets r.n r.k;
}

-- document 01, line by line
abbrev pub listing_A : List ℕ
listing_A =
    115 ∷ 101 ∷ 116 ∷ 115 ∷ 32 ∷ 53 ∷ 32 ∷ 115 ∷ 116 ∷ 97 ∷ 114 ∷ 116 ∷ 115 ∷ 32 ∷ 51 ∷ 10 ∷
    48 ∷ 32 ∷ 48 ∷ 48 ∷ 48 ∷ 48 ∷ 48 ∷ 48 ∷ 48 ∷ 49 ∷ 32 ∷ 49 ∷ 32 ∷ 48 ∷ 10 ∷
    49 ∷ 32 ∷ 48 ∷ 48 ∷ 48 ∷ 48 ∷ 48 ∷ 48 ∷ 48 ∷ 51 ∷ 32 ∷ 49 ∷ 32 ∷ 50 ∷ 10 ∷
    50 ∷ 32 ∷ 48 ∷ 48 ∷ 48 ∷ 48 ∷ 48 ∷ 48 ∷ 48 ∷ 53 ∷ 32 ∷ 49 ∷ 32 ∷ 48 ∷ 10 ∷
    51 ∷ 32 ∷ 48 ∷ 48 ∷ 48 ∷ 48 ∷ 48 ∷ 48 ∷ 48 ∷ 50 ∷ 32 ∷ 45 ∷ 32 ∷ 52 ∷ 10 ∷
    52 ∷ 32 ∷ 48 ∷ 48 ∷ 48 ∷ 48 ∷ 48 ∷ 48 ∷ 48 ∷ 52 ∷ 32 ∷ 45 ∷ 32 ∷ 45 ∷ 10 ∷
    100 ∷ 101 ∷ 108 ∷ 101 ∷ 103 ∷ 97 ∷ 116 ∷ 101 ∷ 115 ∷ 32 ∷ 48 ∷ 32 ∷ 49 ∷ 32 ∷ 50 ∷ 10 ∷ []

computed : rule_text (built_with (rule_of file_A) (record { delegates = listed 0 1 2; startcount = 3 })) ≡ listing_A
unfolding union list_from targets_up_to index_of numbered expand_from close_from keys_up_to sets_of next_set joined decimal_below hex delegate_in
computed = refl

few_A : over (rule_of file_A) ≡ false
unfolding union list_from targets_up_to index_of numbered expand_from close_from keys_up_to sets_of too_many
few_A = refl

pub listing_A_lem : text_for file_A ≡ listing_A
listing_A_lem =
    (told file_A none (rulefile.claims).accepted_A false few_A).1
    ∙ ap (λ (s : Starts). rule_text (built_with (rule_of file_A) s)) starts_A
    ∙ computed
