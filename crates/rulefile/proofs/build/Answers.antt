-- `build` meets its contract. The loop's invariant: the table has the arcs of the sections before
-- q, and no others. Assumes nothing.
use Rattle.base.proofs.Lists.{is_list_from}
use Rattle.ruleformat.proofs.Accepted.{accepted, tabled}
use Rattle.ruleformat.proofs.Tables.{cell_up_to, no_section, section_stored}
use Rattle.ruleformat.proofs.Pairs.{within, section_part}
use Rattle.ruleformat.specs.Reader.{targets_by, targets_from}
use Rattle.ruleformat.specs.Refusals.{bad_section}
use Rattle.ruleformat.specs.Format.{state_count, symbol_count}
use lib.Bits.{bit_or}
use lib.Dec.{eqb}
use lib.ListN.{get_or}
use native.Mathlib.Omega.{arith}
use Prim.Native.Nat.{ℕ, ◌/◌, ◌%◌}
use mathlib.Core.List.{List}
use mathlib.Core.Bool.{cond}
use mathlib.Core.Path.{◌≡◌, refl, ap, ◌∙◌}
use Rattle.rulefile.proofs.build.Goals as goal

pub bounds-file-0 : goal.bounds-file-0
bounds-file-0 c = omega (arith, accepted c.args.file.now c.requires)

pub bounds-file-1 : goal.bounds-file-1
bounds-file-1 c = omega (arith, accepted c.args.file.now c.requires)

pub word-initials-requires : goal.word-initials-requires
word-initials-requires c = omega (arith, accepted c.args.file.now c.requires)

pub word-finals-requires : goal.word-finals-requires
word-finals-requires c = (accepted c.args.file.now c.requires).long

pub loop-q-init : goal.loop-q-init
loop-q-init c =
    let f = c.args.file.now in
    let a = accepted f c.requires in
    (refl, a.states.1, a.room, c.requires, refl, no_section f 512)

pub slice_bounds-store_arcs-end : goal.slice_bounds-store_arcs-end
slice_bounds-store_arcs-end c =
    let x = c.loop-q in
    let f = c.args.file.now in
    omega (arith, within f (accepted f x.invariant.3).pairs x.q (omega arith), c.half-from.ensures.0, c.half-len.ensures.0)

pub store_arcs-requires : goal.store_arcs-requires
store_arcs-requires c =
    let x = c.loop-q in
    let f = c.args.file.now in
    let part = section_part f x.q c.half-from.result c.half-len.result c.half-from.ensures.0 c.half-len.ensures.0 in
    (omega arith, x.invariant.4, ap (bad_section 32 16) part ∙ tabled f (accepted f x.invariant.3) x.q (omega arith))

pub loop-q-preserved : goal.loop-q-preserved
loop-q-preserved c =
    let x = c.loop-q in
    let f = c.args.file.now in
    let part = section_part f x.q c.half-from.result c.half-len.result c.half-from.ensures.0 c.half-len.ensures.0 in
    let w = c.store_arcs.ensures in (
      x.invariant.0,
      x.invariant.1,
      x.invariant.2,
      x.invariant.3,
      w.0,
      section_stored f x.targets c.store_arcs.new.targets x.q x.invariant.5
          (λ cell. w.1 cell ∙ ap (λ (l : List ℕ). bit_or (get_or x.targets cell 0) (cond (eqb (cell / 16) x.q) (targets_by l (cell % 16)) 0)) part),
    )

pub returns : goal.returns
returns c =
    let x = c.loop-q in
    let f = c.args.file.now in
    let e : x.q ≡ state_count f = omega arith in
    let table = is_list_from x.targets 512 (λ cell. targets_from f (cell / 16) (cell % 16)) x.invariant.4 (λ cell h. x.invariant.5 cell ∙ ap (λ (q : ℕ). cell_up_to f q cell) e) in
    λ i. record {
      n = state_count f;
      k = symbol_count f;
      initials = c.word-initials.ensures i;
      finals = c.word-finals.ensures i;
      targets = table i;
    }
