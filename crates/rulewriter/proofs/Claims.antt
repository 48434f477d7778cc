-- The proof of all that specs/Claims.antt claims. Assumes nothing.
use mathlib.Core.Path.{◌≡◌, refl, ap, ap₂, ◌∙◌}
use mathlib.Core.List.{List}
use mathlib.Core.Option.{Option, none}
use Prim.Native.Nat.{ℕ, ◌-◌, ◌≤◌}
use native.Mathlib.Omega.{arith}
use lib.ListN.{length, take, replicate, length-append, length-replicate}
use lib.Seq.{take_at}
use Rattle.limits.specs.Limits.{target_cells}
use Rattle.automaton.specs.declared.Rule.{Rule}
use Rattle.rulecheck.specs.Checking.{rule_number}
use Rattle.ruleformat.specs.Reader.{rule_by, read_of}
use Rattle.ruleformat.specs.Writing.{file_of}
use Rattle.ruleformat.proofs.Written.{file_accepted, rule_is}
use Rattle.rulewriter.specs.Written.{padded}
use Rattle.rulewriter.specs.Claims.{Claims}
use Rattle.rulewriter.proofs.Values.{well_formed, room_for}

read_file : (r : Rule) → length r.targets ≡ target_cells → rule_number r ≡ none
    → read_of (file_of r) ≡ record { number = none; rule = r }
read_file r cells e =
    let good = well_formed r e in
    let a = file_accepted r good in
    ap₂ (λ (o : Option ℕ) (x : Rule). record { number = o; rule = x }) a
    (ap (λ (o : Option ℕ). rule_by o (file_of r)) a ∙ rule_is r good cells)

pub front : (room : ℕ) (f : List ℕ) → take (length f) (padded room f) ≡ f
front room f = take_at f (replicate (room - length f) 0) (length f) refl

pub padded_length : (room : ℕ) (f : List ℕ) → length f ≤ room → length (padded room f) ≡ room
padded_length room f h =
    omega (arith, length-append f (replicate (room - length f) 0), length-replicate {A = ℕ} (room - length f) 0)

pub claims : Claims
claims = record { read_back = read_file; fits = room_for }
