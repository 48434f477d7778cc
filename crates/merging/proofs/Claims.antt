-- The one proof of all that specs/Claims.antt claims. Assumes nothing.
use mathlib.Core.Path.{◌≡◌, refl, sym, ◌∙◌}
use mathlib.Core.Logic.{◌↔◌}
use mathlib.Core.Option.{some}
use Prim.Native.Nat.{◌<◌}
use Rattle.base.proofs.Lists.{length_list_from}
use Rattle.automaton.specs.declared.Rule.{Rule}
use Rattle.automaton.specs.Rules.{WellFormed}
use Rattle.merging.specs.declared.Way.{Way}
use Rattle.merging.specs.declared.Way.TheVariants.{Both, Either, Interleaving}
use Rattle.merging.specs.Merged.{states_of, cell_in, merged_of}
use Rattle.merging.specs.Merging.{merge_number, merge_of}
use Rattle.merging.specs.Claims.{Claims}
use Rattle.merging.proofs.Sets.{pairs_law}
use Rattle.merging.proofs.Languages.{well_formed, automaton_law, language}
use Rattle.merging.proofs.Conditions.{refused_exactly}
use Rattle.merging.proofs.Law.{number_of, merge_law}
use Rattle.merging.proofs.Examples.{answered}

many : (way : Way) (one two : Rule) → WellFormed one → WellFormed two → one.k ≡ two.k
    → ((merge_of way one two).number ≡ some 37) ↔ (32 < states_of way one.n two.n)
many way one two a b same =
    let is = number_of (merge_number way one two) (merged_of way one two) in
    let r = (refused_exactly way one two).number_37 in
    ((λ e. (r.0 (sym is ∙ e)).3), λ h. is ∙ r.1 (a, b, same, h))

pub claims : Claims
claims = record {
  answered = answered;
  merging = merge_law;
  refused = refused_exactly;
  states = λ n1 n2. (refl, refl, refl);
  thirty_seven = λ one two a b same.
      (many Both one two a b same, many Interleaving one two a b same, many Either one two a b same);
  pair_members = pairs_law;
  well_formed = well_formed;
  cells = λ way one two.
      length_list_from 0 512 (cell_in way one.n two.n one.targets two.targets);
  automaton = automaton_law;
  language = language;
}
