-- `front_text` meets its contract. Assumes nothing.
use mathlib.Core.Path.{refl, ap, ◌∙◌}
use mathlib.Core.List.{List, ◌++◌}
use Prim.Native.Nat.{ℕ}
use lib.ListN.{length, drop, replicate}
use Rattle.searches.proofs.Copies.{copied}
use Rattle.searches.proofs.front_text.Goals as goal

pub returns : goal.returns
returns c =
    let w = c.args.word.now in
    record {
      long = refl;
      are = ap (λ (x : List ℕ). x ++ drop (length w) (replicate 511 0)) c.copy_from_slice.ensures.after ∙ copied w c.requires;
    }
