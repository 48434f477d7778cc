-- The rule of a reading that has the sets of a pattern's positions is the rule of the positions.
-- Assumes at most 31 letters.
use mathlib.Core.Path.{◌≡◌, ap, ◌∙◌}
use mathlib.Core.Bool.{cond}
use mathlib.Core.List.{List}
use Prim.Native.Nat.{ℕ, zero, suc, ◌+◌, ◌/◌, ◌%◌, ◌≤◌, ◌<◌}
use native.Mathlib.Omega.{arith}
use lib.ListN.{length, get_or}
use lib.Seq.{get_or-set_same, get_or-set_other}
use lib.Bits.{bit_or, bit_and}
use Rattle.base.proofs.Lists.{cell_of_lem, length_list_from, is_list_from}
use Rattle.automaton.specs.declared.Rule.{Rule}
use Rattle.patterns.specs.Patterns.{Pattern, count}
use Rattle.patterns.specs.Positions.{next_states, positions_of, position_rule}
use Rattle.patternreader.specs.declared.Reading.{Reading}
use Rattle.patternreader.specs.declared.Part.{Part}
use Rattle.patternreader.specs.Reader.{Positions}
use Rattle.patternreader.specs.Rules.{rows_of, targets_of, rule_from}

same_rule : {n m f g : ℕ} {s t : List ℕ} → n ≡ m → f ≡ g → s ≡ t
    → ◌≡◌ {A = Rule} (record { n = n; k = 16; initials = 1; finals = f; targets = s }) (record { n = m; k = 16; initials = 1; finals = g; targets = t })
same_rule {n} {m} {f} {g} {s} {t} e d l =
    ap (λ (x : ℕ). record { n = x; k = 16; initials = 1; finals = f; targets = s }) e
    ∙ ap (λ (x : ℕ). record { n = m; k = 16; initials = 1; finals = x; targets = s }) d
    ∙ ap (λ (x : List ℕ). record { n = m; k = 16; initials = 1; finals = g; targets = x }) l

module _ (r : Reading) (p : Pattern) (few : count p ≤ 31) (size : length r.follow ≡ 32) (a : Positions r p) where
  row_of_lem : (q : ℕ) → q < 32 → get_or (rows_of r) q 0 ≡ next_states p q
  row_of_lem zero h = get_or-set_same r.follow 0 r.alternatives.first 0 (omega arith) ∙ ap (λ (x : Part). x.first) a.part
  row_of_lem (suc i) h = get_or-set_other r.follow 0 (suc i) r.alternatives.first 0 (λ z. absurd (omega arith)) ∙ a.followed (suc i) h

  pub rule_of_lem : rule_from r ≡ position_rule p
  rule_of_lem =
      let e : r.letters % 32 + 1 ≡ suc (count p) = omega (arith, a.letters) in
      let f : bit_or (cond r.alternatives.empty 1 0) r.alternatives.last ≡ (position_rule p).finals =
      ap (λ (x : Part). bit_or (cond x.empty 1 0) x.last) a.part in
      let g : targets_of (rows_of r) r.positions ≡ (position_rule p).targets =
      is_list_from (targets_of (rows_of r) r.positions) 512 (λ c. bit_and (next_states p (c / 16)) (positions_of p 0 (c % 16)))
      (length_list_from 0 512 (λ c. bit_and (get_or (rows_of r) (c / 16) 0) (get_or r.positions (c % 16) 0)))
      (λ c h.
      cell_of_lem 512 (λ c. bit_and (get_or (rows_of r) (c / 16) 0) (get_or r.positions (c % 16) 0)) c 0 h
      ∙ ap (λ (x : ℕ). bit_and x (get_or r.positions (c % 16) 0)) (row_of_lem (c / 16) (omega arith))
      ∙ ap (λ (x : ℕ). bit_and (next_states p (c / 16)) x) (a.marked (c % 16) (omega arith))) in
      same_rule e f g
