-- The one proof of all that specs/Claims.antt claims. Assumes nothing.
use mathlib.Core.Path.{◌≡◌, ap, ◌∙◌}
use Prim.Native.Nat.{◌+◌, ◌*◌}
use native.Mathlib.Omega.{arith}
use Rattle.forms.specs.Form.{how_many, kept_at}
use Rattle.formtext.specs.Claims.{Claims}
use Rattle.formtext.proofs.Examples.{worked}
use Rattle.formtext.proofs.Counting.{first-is}

pub claims : Claims
claims = record {
  worked = worked;
  first-is = λ f t.
      let e : t * 16 ≡ t * 16 + 0 = omega arith in
      first-is f.kept t ∙ ap (how_many (kept_at f.kept)) e;
  count-is = λ f. first-is f.kept f.sets;
}
