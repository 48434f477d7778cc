-- `summarize` meets its contract: each way out has its lemma. Assumes nothing.
use mathlib.Core.Path.{refl}
use borrow.Author.Rules.{rules}
use Rattle.std.proofs.lemmas.Result.{err_from_is_err_and}
use Rattle.summaries.proofs.Ways.{summary_20, summary_12, summary_refused_lem, summary_made}
use Rattle.summaries.proofs.summarize.Goals as goal

pub returns-then-built-eq0 : goal.returns-then-built-eq0
returns-then-built-eq0 c = search (rules, summary_20)

pub returns-then-chunk-gt-CHUNK : goal.returns-then-chunk-gt-CHUNK
returns-then-chunk-gt-CHUNK c = search (rules, summary_12)

pub returns-in_err-runs : goal.returns-in_err-runs
returns-in_err-runs c =
    let p = err_from_is_err_and c.from_residual.result c.from_residual.ensures.1 in
    rw (p.1, p.2)
    (summary_refused_lem c.args.judge c.args.number c.args.chunk.now _ c.if-built-eq0.false c.if-chunk-gt-CHUNK.false
    _ c.place_of.ensures _ c.run_mask-mask.ensures _ c.run_delivery.ensures _ c.in_err-runs.was refl)

pub returns : goal.returns
returns c =
    summary_made c.args.judge c.args.number c.args.chunk.now _ c.if-built-eq0.false c.if-chunk-gt-CHUNK.false
    _ c.place_of.ensures _ c.run_mask-mask.ensures _ c.run_delivery.ensures _ c.in_ok-runs.was _ c.summary_of.ensures refl
