-- What stands fixes what the judge holds at each place. Assumes nothing.
use mathlib.Core.Path.{sym, ◌∙◌}
use mathlib.Core.Logic.Iff
use Rattle.base.proofs.Tests.{same_truth}
use Rattle.masks.proofs.Claims as masks
use Rattle.board.specs.Boards.{held, is_empty}
use Rattle.chunks.proofs.Counting.{how_many_once}
use Rattle.calls.specs.declared.Judge.{Judge}
use Rattle.transcripts.specs.Standing.{Standing}
use Rattle.transcripts.specs.Claims.{Holds, SameBoard}

pub one_board : (s : Standing) (j k : Judge) → Holds s j → Holds s k → SameBoard j k
one_board s j k x y = record {
  places = x.places ∙ sym y.places;
  empty = λ p l. same_truth (is_empty j.board p) (is_empty k.board p) (Iff.trans (x.empty p l) ((y.empty p l).1, (y.empty p l).0));
  ends = λ p q l b.
      (masks.claims).same (held j.board p q) (held k.board p q)
      (λ z. Iff.trans (x.ends p q l b z) ((y.ends p q l b z).1, (y.ends p q l b z).0));
  counts = λ p l. how_many_once (x.counts p l) (y.counts p l);
  lengths = λ p l. x.lengths p l ∙ sym (y.lengths p l);
  revisions = λ p l. x.revisions p l ∙ sym (y.revisions p l);
}
