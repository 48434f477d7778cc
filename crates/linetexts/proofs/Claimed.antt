-- The claims of specs/Claims.antt. Assumes nothing.
use mathlib.Core.List.{List}
use Prim.Native.Nat.{ℕ}
use Rattle.linetexts.specs.Feeding.{LineMachine}
use Rattle.linetexts.specs.Claims.{KeepsLines, Claims, PartClaims}
use Rattle.linetexts.proofs.Parts.{first_part, lines_split}
use Rattle.linetexts.proofs.Rounds.{forward, within, rounds}
use Rattle.linetexts.proofs.Fed.{gathered, fed}
use Rattle.linetexts.proofs.Whole.{feeds, finishes, whole, written_is}

pub parts : PartClaims
parts = record { first = first_part; split = lines_split }

pub claims : {K J : Type 0} (m : LineMachine K J) {Keeps : K → List ℕ → Type 0} → KeepsLines m Keeps → Claims m Keeps
claims m keeps = record {
  feeds = feeds m keeps;
  finishes = finishes m keeps;
  whole = whole m keeps;
  forward = forward m;
  within = within m;
  rounds = rounds m;
  gathered = gathered m;
  fed = fed m;
  written = written_is m keeps;
}
