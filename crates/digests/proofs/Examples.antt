-- The digests worked by another program are those of the definition: antt computes it. Assumes
-- nothing.
use Rattle.std.proofs.Common.{refl}
use Rattle.base.specs.Lists.{list_from}
use Rattle.digests.specs.Digests.{stirred, half_step, digest_step, digest_from, digest_of}
use Rattle.digests.specs.Worked.{cases, Digests}

pub digests : Digests cases
unfolding list_from stirred half_step digest_step digest_from digest_of
digests = (refl, (refl, (refl, tt)))
