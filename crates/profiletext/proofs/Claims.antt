-- The text for any file has room. Assumes nothing.
use Prim.Native.Nat.{◌≤◌}
use native.Mathlib.Omega.{arith}
use lib.ListN.{length}
use Rattle.answers.proofs.Lengths.{refused_short}
use Rattle.profile.specs.declared.Profile.{Profile}
use Rattle.profile.specs.Profiles.{Reply, accepted, refused}
use Rattle.profiletext.specs.ProfileText.{text_by, most_bytes}
use Rattle.profiletext.specs.Claims.{Claims}
use Rattle.profiletext.proofs.Examples.{worked}
use Rattle.profiletext.proofs.Lengths.{profile_most}
use Rattle.profilefile.specs.Files.{profile_in}

text_most : (r : Reply) (p : Profile) → length (text_by r p) ≤ most_bytes
text_most (accepted count) p = profile_most p
text_most (refused number) p = omega (arith, refused_short number)

pub claims : Claims
claims = record { worked = worked; fits = λ f. text_most (profile_in f).reply (profile_in f).profile }
