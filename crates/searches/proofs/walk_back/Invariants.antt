-- `walk_back` meets its contract. The way leads to lower numbers, which is its measure. Assumes
-- nothing.
use Rattle.searches.proofs.Back.{Back}
use Rattle.searches.proofs.walk_back.Given as goal

abbrev pub invariant-loop-at : goal.invariant-loop-at
invariant-loop-at l = Back l.next l.k l.initial.at l.text l.from l.at

abbrev pub decreases-loop-at : goal.decreases-loop-at
decreases-loop-at l = l.at
