-- `number_single` meets its contract: what the search found is the number. Assumes nothing.
use borrow.Author.Rules.{rules}
use mathlib.Core.Path.{◌≡◌, sym, ap, ◌∙◌}
use mathlib.Core.Option.{none, some}
use Prim.Native.Nat.{ℕ}
use lib.ListN.{take}
use Rattle.masks.specs.Masks.{single}
use Rattle.numbering.specs.mirror.Arrays.{found_in}
use Rattle.keys.specs.mirror.Steps.{found_means}
use Rattle.subsets.proofs.Singles.{single_found, single_missing}
use Rattle.subsets.proofs.number_single.Goals as goal

pub returns-in-Some : goal.returns-in-Some
returns-in-Some c =
    let a = c.args in
    let s = c.singleton in
    let f = c.find in
    let e : found_in (take a.count a.sets.now) (single a.q.0) ≡ some c.in-Some.number.0 =
    ap (λ (m : ℕ). found_in (take a.count a.sets.now) m) (sym s.ensures) ∙ sym f.ensures ∙ ap found_means c.in-Some.is in
    single_found a.sets.now a.count a.q.0 c.in-Some.number.0 e

pub returns-in-None : goal.returns-in-None
returns-in-None c =
    let a = c.args in
    let s = c.singleton in
    let f = c.find in
    let e : found_in (take a.count a.sets.now) (single a.q.0) ≡ none =
    ap (λ (m : ℕ). found_in (take a.count a.sets.now) m) (sym s.ensures) ∙ sym f.ensures ∙ ap found_means c.in-None.is in
    single_missing a.sets.now a.count a.q.0 (search rules) e
