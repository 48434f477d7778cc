-- The proof of all that specs/Claims.antt claims. Assumes nothing.
use mathlib.Core.Path.{◌≡◌, sym, ap, ap₂, ◌∙◌, subst}
use mathlib.Core.Logic.{◌↔◌}
use mathlib.Core.List.{List}
use mathlib.Core.Option.{Option, none}
use Prim.Native.Nat.{ℕ, ◌/◌, ◌%◌}
use lib.Bits.{bit_and}
use lib.ListN.{length}
use Rattle.base.proofs.Lists.{length_list_from}
use Rattle.masks.proofs.Laws.{single_law}
use Rattle.automaton.specs.declared.Rule.{Rule}
use Rattle.automaton.specs.Automaton.{Accepts}
use Rattle.automaton.specs.Rules.{automaton_of}
use Rattle.ruleformat.specs.Refusals.{refusal}
use Rattle.ruleformat.specs.Reader.{rule_of, rule_by, read_of}
use Rattle.ruleformat.specs.Language.{automaton_in}
use Rattle.ruleformat.specs.Writing.{file_of}
use Rattle.ruleformat.proofs.Written.{file_accepted, rule_is}
use Rattle.ruleformat.proofs.Claims as format
use Rattle.patterns.specs.Patterns.{Pattern, Matches}
use Rattle.patterns.specs.Grammar.{StandsFor}
use Rattle.patterns.specs.Positions.{next_states, positions_of, position_rule}
use Rattle.patterns.specs.Claims.{Few, Claims}
use Rattle.patterns.proofs.Language as theory
use Rattle.patterns.proofs.Letters.{counted, lettered}
use Rattle.patterns.proofs.Arcs as arcs
use Rattle.patterns.proofs.Marked.{first_law, last_law, follow_law}
use Rattle.patterns.proofs.Size.{small_file}

language : (p : Pattern) (b : List ℕ) → StandsFor p b → Few p → (w : List ℕ) → Accepts (automaton_of (position_rule p)) w ↔ Matches p w
language p b s few w = theory.language p few (lettered s) w

module _ (p : Pattern) (few : Few p) where
  accepted : refusal (file_of (position_rule p)) ≡ none
  accepted = file_accepted (position_rule p) (theory.well_formed p few)

  cells : length (position_rule p).targets ≡ 512
  cells = length_list_from 0 512 (λ c. bit_and (next_states p (c / 16)) (positions_of p 0 (c % 16)))

  holds : rule_of (file_of (position_rule p)) ≡ position_rule p
  holds = rule_is (position_rule p) (theory.well_formed p few) cells

  file_read : read_of (file_of (position_rule p)) ≡ record { number = none; rule = position_rule p }
  file_read =
      ap₂ (λ (o : Option ℕ) (x : Rule). record { number = o; rule = x }) accepted
      (ap (λ (o : Option ℕ). rule_by o (file_of (position_rule p))) accepted ∙ holds)

-- from the file's automaton to that of its rule, which is the pattern's
file_language : (p : Pattern) (b : List ℕ) → StandsFor p b → Few p → (w : List ℕ)
    → Accepts (automaton_in (file_of (position_rule p))) w ↔ Matches p w
file_language p b s few w =
    let e = (format.claims).language (file_of (position_rule p)) (accepted p few) w in
    let m : Accepts (automaton_of (rule_of (file_of (position_rule p)))) w ↔ Matches p w =
    subst (λ (x : Rule). Accepts (automaton_of x) w ↔ Matches p w) (sym (holds p few)) (language p b s few w) in
    ((λ a. m.0 (e.0 a)), λ a. e.1 (m.1 a))

pub claims : Claims
claims = record {
  empty_text = arcs.empty_text;
  counted = counted;
  firsts = first_law;
  lasts = last_law;
  follows = follow_law;
  well_formed = theory.well_formed;
  language = language;
  initial = λ p q. single_law 0 q;
  arc_letter = λ p few q s i a. arcs.arc_letter p few a;
  arc = λ p b s few q t i. arcs.arc p few (lettered s) q t i;
  final = arcs.final;
  small_file = small_file;
  file_read = file_read;
  file_language = file_language;
}
