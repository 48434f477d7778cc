-- `run_chunk` meets its contract: from no state, zeros. Assumes nothing.
use mathlib.Core.Path.{sym, ap, ◌∙◌}
use Prim.Native.Nat.{ℕ}
use Rattle.chunks.specs.mirror.Walks.{runs_of}
use Rattle.chunks.proofs.Running.{runs_none}
use Rattle.chunks.proofs.run_chunk.Goals as goal

pub returns-then-mask-eq0 : goal.returns-then-mask-eq0
returns-then-mask-eq0 c =
    let a = c.args in
    let w = a.chunk.now in
    c.run_none.ensures ∙ runs_none a.sets.now a.next.now a.singles.now w
    ∙ ap (λ (m : ℕ). runs_of a.sets.now a.next.now a.singles.now m w) (sym c.if-mask-eq0.true)
