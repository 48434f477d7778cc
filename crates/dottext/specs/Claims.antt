-- What is claimed of a drawing, for any file whatever; proofs/Claims.antt proves it.
use Rattle.std.specs.Prelude.{List, ℕ, ◌≤◌, length}
use Rattle.dotgraph.specs.DotText.{most_bytes}
use Rattle.dottext.specs.Answers.{drawing_for}

pub record Claims : Type 0 where
  -- the drawing of a file has at most so many bytes
  pub fits : (f : List ℕ) → length (drawing_for f) ≤ most_bytes
