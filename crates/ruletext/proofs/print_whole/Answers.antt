-- `print_whole` meets its contract. Assumes nothing.
use mathlib.Core.Path.{◌≡◌, sym, ap, ◌∙◌}
use mathlib.Core.Option.{Option, none, some}
use Prim.Native.Nat.{ℕ}
use Rattle.ruleformat.specs.Refusals.{refusal}
use Rattle.ruleformat.specs.Reader.{Reading, read_outcome, read_of, rule_by, rule_of}
use Rattle.build.specs.mirror.Building.{build_of}
use Rattle.ruletext.proofs.ForFile.{text_for_lem, text_unread}
use Rattle.ruletext.proofs.print_whole.Goals as goal

pub returns-in-Ok : goal.returns-in-Ok
returns-in-Ok c =
    let f = c.args.file.now in
    let g : record { number = none; rule = c.in-Ok.rule } ≡ read_of f = ap read_outcome (sym c.in-Ok.is) ∙ c.read.ensures in
    let n : refusal f ≡ none = ap (λ (x : Reading). x.number) (sym g) in
    let r : c.in-Ok.rule ≡ rule_of f = ap (λ (x : Reading). x.rule) g ∙ ap (λ (o : Option ℕ). rule_by o f) n in
    rw (← text_for_lem f n c.build_rule.result (c.build_rule.ensures ∙ ap build_of r)) c.put_building.ensures

pub returns-in-Err : goal.returns-in-Err
returns-in-Err c =
    let f = c.args.file.now in
    let e : refusal f ≡ some c.number.result =
    ap (λ (x : Reading). x.number) (sym c.read.ensures ∙ ap read_outcome c.in-Err.is) ∙ ap some (sym c.number.ensures) in
    rw (← text_unread f c.number.result e) c.put_refused.ensures
