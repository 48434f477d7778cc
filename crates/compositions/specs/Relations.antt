-- Relations on the numbers below n, as a list of masks: the mask at q has the numbers that q is
-- related to.
--
--   image_of n f m      every number that the relation f leads to from a member of the set m
--   compose_of n f g   first f, then g
use Rattle.std.specs.Prelude.{List, ℕ, get_or}
use Rattle.base.specs.Lists.{list_from}
use Rattle.masks.specs.Masks.{union}

abbrev pub image_of : ℕ → List ℕ → ℕ → ℕ
image_of n f m = union (λ q. get_or f q 0) m n

abbrev pub compose_of : ℕ → List ℕ → List ℕ → List ℕ
compose_of n f g = list_from 0 n (λ q. image_of n g (get_or f q 0))
