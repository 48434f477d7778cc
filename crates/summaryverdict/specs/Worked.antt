-- The digest of rule A of document 01, "Two rules by hand", as it is built from its file: worked by
-- another program. proofs/Examples.antt proves it.
use Rattle.std.specs.Prelude.{◌≡◌}
use Rattle.ruleformat.specs.Reader.{rule_of}
use Rattle.ruleformat.specs.Worked.{file_A}
use Rattle.build.specs.mirror.Building.{built_of}
use Rattle.digests.specs.Digests.{digest_of}

abbrev pub DigestA : Type 0
DigestA = digest_of (built_of (rule_of file_A)) ≡ 9118098542896959263
