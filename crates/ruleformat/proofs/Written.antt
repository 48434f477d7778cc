-- The file of a well-formed rule is accepted, is a list of bytes, and holds the rule. Its sections
-- have the arcs of the rule's masks, so reading finds the masks again. Assumes nothing.
use mathlib.Core.Path.{◌≡◌, sym, ap, ◌∙◌}
use mathlib.Core.Logic.{inl, inr}
use mathlib.Core.List.{List}
use mathlib.Core.Option.{none}
use Prim.Native.Nat.{ℕ, ◌+◌, ◌*◌, ◌/◌, ◌%◌, ◌≤◌, ◌<◌}
use native.Mathlib.Omega.{arith}
use lib.Dec.{ltb}
use lib.ListN.{length, get_or}
use borrow.Author.Tests.{lt-ltb, ltb-true, ltb-false}
use Rattle.base.specs.Lists.{list_from}
use Rattle.base.proofs.Lists.{is_list_from, joined_length}
use Rattle.base.proofs.Tests.{by_test}
use Rattle.masks.specs.Masks.{◌∈◌}
use Rattle.masks.proofs.Laws.{members_below, no_member, ext}
use Rattle.automaton.specs.declared.Rule.{Rule}
use Rattle.automaton.specs.Rules.{target_mask, WellFormed}
use Rattle.ruleformat.specs.Refusals.{refusal}
use Rattle.ruleformat.specs.Reader.{targets_by, targets_from, rule_of}
use Rattle.ruleformat.specs.Writing.{Bytes, section_of, file_of}
use Rattle.ruleformat.proofs.Rising.{even, passes, rising_bytes, targets_in}
use Rattle.ruleformat.proofs.Sections.{section_rises, section_size, arcs_of, of_arcs}
use Rattle.ruleformat.proofs.Writing.{size_is, section_is, initial_is, final_is, accepted, bytes_file}

same_rule : (n k : ℕ) {i j f g : ℕ} {s t : List ℕ} → i ≡ j → f ≡ g → s ≡ t
    → ◌≡◌ {A = Rule} (record { n = n; k = k; initials = i; finals = f; targets = s }) (record { n = n; k = k; initials = j; finals = g; targets = t })
same_rule n k a b c = cc

module _ (r : Rule) (good : WellFormed r) where
  abbrev masks : ℕ → ℕ → ℕ
  masks = target_mask r.targets

  abbrev sections : ℕ → List ℕ
  sections q = section_of r.n r.k (masks q)

  few : r.n ≤ 256
  few = omega (arith, good.states.1)

  -- the targets by a symbol of the section that is written are those of the mask
  targets_are : (q s : ℕ) → q < 32 → targets_by (sections q) s ≡ masks q s
  targets_are q s l =
      ext (targets_by (sections q) s) (masks q s) λ t. (
        (λ e. (arcs_of r.n r.k few (masks q) ((targets_in (sections q) s t).0 e)).2),
        λ e. (targets_in (sections q) s t).1 (of_arcs r.n r.k few (masks q) (symbol_below s t e) (members_below r.n (masks q s) t (good.targets_below q s l) e) e),
      )
    where
      symbol_below : (s t : ℕ) → t ∈ masks q s → s < r.k
      symbol_below s t e =
          by_test (ltb s r.k)
          (λ h. ltb-true s r.k h)
          (λ h. absurd (no_member t (rw (good.zero_outside q s l (inr (ltb-false s r.k h))) at e)))

  short : (q : ℕ) → q < r.n → length (sections q) ≤ 1024
  short q l = section_size r.n r.k few (masks q) good.states.1 good.symbols.1

  pub file_size : length (file_of r) ≤ 32906
  file_size =
      omega (arith, size_is r.n r.k r.initials r.finals sections, joined_length sections r.n 1024 short, good.states.1)

  pub file_accepted : refusal (file_of r) ≡ none
  file_accepted =
      accepted r.n r.k r.initials r.finals sections good.states good.symbols good.initials_below good.finals_below file_size
      (λ q l. even (section_rises r.n r.k few (masks q)))
      (λ q l. passes few r.k (sections q) (section_rises r.n r.k few (masks q)))

  pub file_bytes : Bytes (file_of r)
  file_bytes =
      bytes_file r.n r.k r.initials r.finals sections good.states.1 good.symbols.1 good.initials_below good.finals_below
      short
      (λ q l. rising_bytes few (omega (arith, good.symbols.1)) (section_rises r.n r.k few (masks q)))

  cell-is : (c : ℕ) → c < 512 → get_or r.targets c 0 ≡ targets_from (file_of r) (c / 16) (c % 16)
  cell-is c l =
      let s : c % 16 < 16 = omega arith in
      let e : c / 16 * 16 + c % 16 ≡ c = omega arith in
      let here : masks (c / 16) (c % 16) ≡ get_or r.targets c 0 = rw (lt-ltb (c % 16) 16 s) (ap (λ (x : ℕ). get_or r.targets x 0) e) in
      by_test (ltb (c / 16) r.n)
      (λ t.
      let q : c / 16 < r.n = ltb-true (c / 16) r.n t in
      sym (rw t
      (ap (λ (b : List ℕ). targets_by b (c % 16)) (section_is r.n r.k r.initials r.finals sections (c / 16) q)
      ∙ targets_are (c / 16) (c % 16) (omega arith)
      ∙ here)))
      (λ t. sym (rw t (sym (good.zero_outside (c / 16) (c % 16) (omega arith) (inl (ltb-false (c / 16) r.n t))) ∙ here)))

  pub rule_is : length r.targets ≡ 512 → rule_of (file_of r) ≡ r
  rule_is cells =
      let t : r.targets ≡ list_from 0 512 (λ c. targets_from (file_of r) (c / 16) (c % 16)) =
      is_list_from r.targets 512 (λ c. targets_from (file_of r) (c / 16) (c % 16)) cells cell-is in
      same_rule r.n r.k
      (initial_is r.n r.k r.initials r.finals sections)
      (final_is r.n r.k r.initials r.finals sections)
      (sym t)
