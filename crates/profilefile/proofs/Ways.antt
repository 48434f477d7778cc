-- One lemma for each way out of `build_file`. Assumes nothing.
use mathlib.Core.Path.{◌≡◌, sym, ap, ◌∙◌}
use mathlib.Core.List.{List}
use mathlib.Core.Option.{Option, none, some}
use Prim.Native.Nat.{ℕ}
use Rattle.automaton.specs.declared.Rule.{Rule}
use Rattle.ruleformat.specs.Refusals.{refusal}
use Rattle.ruleformat.specs.Reader.{Reading, read_of, rule_by, rule_of, no_rule}
use Rattle.profile.specs.Profiles.{refused_build, build_of}
use Rattle.profilefile.specs.Files.{profile_by, profile_in}

module _ (f : List ℕ) where
  pub unread : (x : ℕ) → record { number = some x; rule = no_rule } ≡ read_of f → refused_build x ≡ profile_in f
  unfolding profile_in
  unread x read = ap (λ (r : Reading). profile_by r.number f) read

  pub built : (r : Rule) → record { number = none; rule = r } ≡ read_of f → build_of r ≡ profile_in f
  unfolding profile_in
  built r read =
      let n : none ≡ refusal f = ap (λ (x : Reading). x.number) read in
      let rule : r ≡ rule_of f = ap (λ (x : Reading). x.rule) read ∙ sym (ap (λ (o : Option ℕ). rule_by o f) n) in
      ap build_of rule ∙ ap (λ (o : Option ℕ). profile_by o f) n
