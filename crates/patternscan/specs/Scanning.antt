-- The test whether bytes are a pattern: the number of open brackets, and whether a `*` may follow.
-- specs/Claims.antt ties it to the grammar.
--
--   Scan             the test: lost, or so many brackets are open, and whether a star may follow
--   scan_means r     what each case of the code's result stands for
--   step s r         the test after one sign more
--   scan r bs        the test, byte by byte
--   whole r          no bracket is open
--   grammatical bs   it says yes
use Rattle.std.specs.Prelude as code
use Rattle.std.specs.Prelude.{Some, None, Bool, true, false, List, [], ◌∷◌, ℕ, zero, suc, eqb}
use Rattle.patternscan.specs.declared.Sign.{Sign}
use Rattle.patternscan.specs.declared.Sign.TheVariants.{Letter, Bar, Opens, Closes, Star, Foreign}
use Rattle.patternscan.specs.Signs.{sign_of}

pub data Scan : Type 0 where
  lost : Scan
  within : ℕ → Bool → Scan

abbrev pub scan_means : code.Option (ℕ × Bool) → Scan
scan_means None = lost
scan_means (Some r) = within r.0 r.1

abbrev pub step : Sign → Scan → Scan
step s lost = lost
step (Letter a) (within d f) = within d true
step Bar (within d f) = within d false
step Opens (within d f) = within (suc d) false
step Closes (within zero f) = lost
step Closes (within (suc d) f) = within d true
step Star (within d true) = within d true
step Star (within d false) = lost
step Foreign (within d f) = lost

abbrev pub scan : Scan → List ℕ → Scan
scan r [] = r
scan r (b ∷ bs) = scan (step (sign_of b) r) bs

abbrev pub whole : Scan → Bool
whole lost = false
whole (within d f) = eqb d 0

abbrev pub grammatical : List ℕ → Bool
grammatical bs = whole (scan (within 0 false) bs)
