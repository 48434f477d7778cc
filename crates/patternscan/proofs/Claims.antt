-- The proof of all that specs/Claims.antt claims. Assumes nothing.
use Rattle.patternscan.specs.Claims.{Claims}
use Rattle.patternscan.proofs.Decision.{decides}
use Rattle.patternscan.proofs.Letters as letters
use Rattle.patternscan.proofs.OneTree.{one_tree}

pub claims : Claims
claims = record { decides = decides; lettered = λ p b s. letters.lettered s; one_tree = one_tree }
