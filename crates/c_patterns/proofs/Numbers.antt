-- A result in numbers, from what reading a pattern answers. Assumes nothing.
use Rattle.std.proofs.Common.{Ok}
use mathlib.Core.Path.{◌≡◌, refl, ap}
use mathlib.Core.List.{List}
use mathlib.Core.Option.{Option, none, some}
use Prim.Native.Nat.{ℕ, ◌≤◌}
use Rattle.rulewriter.specs.Written.{Writing}
use Rattle.patternfile.specs.declared.PatternFile.{PatternFile}
use Rattle.patternfile.specs.Answers.{pattern_of, pattern_outcome}
use Rattle.patternfile.proofs.Claims.{claims}
use Rattle.c_patterns.specs.Numbers.{pattern_shown, pattern_read_back}

pub small : (b : List ℕ) (f : PatternFile) → pattern_outcome (Ok f) ≡ pattern_of b → f.length ≤ 2122
small b f told = rw (ap (λ (o : Writing). o.length) told) (claims.fits b)

back : (o : Option ℕ) (length : ℕ) (bytes : List ℕ)
    → pattern_read_back (pattern_shown (record { number = o; length = length; bytes = bytes })) ≡ record { number = o; length = length; bytes = bytes }
back none length bytes = refl
back (some x) length bytes = refl

pub read_back : (o : Writing) → pattern_read_back (pattern_shown o) ≡ o
read_back o = back o.number o.length o.bytes
