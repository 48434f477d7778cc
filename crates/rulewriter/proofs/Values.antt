-- A file by value: what was written into zeros, and zeros after it. Assumes nothing.
--
--   padded_is    a piece that was written into zeros is padded by them
--   room_for     a rule that passes has a file of at most 32,906 bytes
--   file_put     the header and then the states are the file
use mathlib.Core.Path.{◌≡◌, refl, ap, ◌∙◌}
use mathlib.Core.List.{List, ◌++◌}
use mathlib.Core.Option.{none}
use Prim.Native.Nat.{ℕ, zero, suc, ◌-◌, ◌≤◌}
use native.Mathlib.Nat.{zero-add}
use native.Mathlib.Omega.{arith}
use lib.ListN.{length, drop, replicate}
use Rattle.limits.specs.Limits.{longest_file}
use Rattle.text.specs.Writing.{Wrote}
use Rattle.automaton.specs.declared.Rule.{Rule}
use Rattle.automaton.specs.Rules.{WellFormed}
use Rattle.rulecheck.specs.Checking.{rule_number}
use Rattle.rulecheck.proofs.Laws as rulecheck
use Rattle.ruleformat.specs.Writing.{header, file_of}
use Rattle.ruleformat.proofs.Written.{file_size}
use Rattle.rulewriter.specs.Written.{padded, states_part}
use Rattle.rulewriter.proofs.Parts.{both}

zeros_after_lem : (n m : ℕ) → drop m (replicate {A = ℕ} n 0) ≡ replicate (n - m) 0
zeros_after_lem zero zero = refl
zeros_after_lem zero (suc m) = let e : 0 ≡ 0 - suc m = omega arith in ap (λ (x : ℕ). replicate {A = ℕ} x 0) e
zeros_after_lem (suc n) zero = let e : suc n ≡ suc n - 0 = omega arith in ap (λ (x : ℕ). replicate {A = ℕ} x 0) e
zeros_after_lem (suc n) (suc m) = let e : n - m ≡ suc n - suc m = omega arith in zeros_after_lem n m ∙ ap (λ (x : ℕ). replicate {A = ℕ} x 0) e

module _ (room : ℕ) {f after : List ℕ} {end : ℕ} (w : Wrote (replicate room 0) 0 f after end) where
  pub padded_is : after ≡ padded room f
  padded_is =
      w.is
      ∙ ap (λ (x : ℕ). f ++ drop x (replicate {A = ℕ} room 0)) (zero-add (length f))
      ∙ ap (λ (x : List ℕ). f ++ x) (zeros_after_lem room (length f))

  pub length_is : end ≡ length f
  length_is = w.ends ∙ zero-add (length f)

pub well_formed : (r : Rule) → rule_number r ≡ none → WellFormed r
well_formed r e = (rulecheck.passes r).0 e

pub room_for : (r : Rule) → rule_number r ≡ none → length (file_of r) ≤ longest_file
room_for r e = file_size r (well_formed r e)

pub file_put : (r : Rule) {before mid after : List ℕ} {e end : ℕ} → length (file_of r) ≤ length before
    → Wrote before 0 (header r.n r.k r.initials r.finals) mid e
    → Wrote mid 10 (states_part r.n r.k r.targets) after end → Wrote before 0 (file_of r) after end
file_put r {before} {mid} room u v =
    let head = header r.n r.k r.initials r.finals in
    let w : Wrote before 0 head mid 10 = record { is = u.is; ends = refl } in
    both {p = head} (omega arith) w (λ _. v)
