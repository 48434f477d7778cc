-- The bytes that a write took follow those that were put before.
use Rattle.std.proofs.Common.{◌++◌, rules, take, sym, ap, ◌∙◌, subst}
use Rattle.std.proofs.lemmas.List.{take_rest}
use Rattle.std.specs.Io.KnownBytes.{Appends}
use Rattle.std.proofs.KnownBytes.{Appends-trans}
use lib.Seq.{take-add}
use Rattle.stdio.proofs.write_all.Goals as goal

pub loop-from-preserved : goal.loop-from-preserved
loop-from-preserved g c =
    let bytes = c.args.bytes.now in
    let from = c.loop-from.from in
    let n = c.write_some-n.result in
    (search rules, subst (Appends _ _) (ap (λ l. take from bytes ++ take n l) (take_rest bytes from) ∙ sym (take-add from n bytes)) (Appends-trans _ _ _ _ _ c.loop-from.invariant.1 c.write_some-n.ensures.written))
