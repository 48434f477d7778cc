-- `build_small` meets its contract: the table of the mappings is the profile, or there are more than
-- 512. Assumes nothing.
use mathlib.Core.Path.{ap, ◌∙◌}
use native.Mathlib.Nat.{lt_of_lt_of_le}
use native.Mathlib.Omega.{arith}
use lib.Pow.{pow_mono}
use Rattle.mappings.specs.Packing.{pack}
use Rattle.keys.specs.declared.Kind.TheVariants.{Mappings}
use Rattle.keys.specs.Tables.{table_of}
use Rattle.keys.proofs.Tables.{most_keys}
use Rattle.profile.proofs.Ways.{build_34, build-whole}
use Rattle.profile.proofs.build_small.Goals as goal

pub overflow_cast-result : goal.overflow_cast-result
overflow_cast-result c = record { fits = lt_of_lt_of_le c.requires.good.initials_below (pow_mono c.requires.states) }

pub overflow_cast-result-2 : goal.overflow_cast-result-2
overflow_cast-result-2 c = record { fits = lt_of_lt_of_le c.requires.good.finals_below (pow_mono c.requires.states) }

pub overflow_cast-result-3 : goal.overflow_cast-result-3
overflow_cast-result-3 c =
    let y = c.number_keys-table in
    omega (arith, most_keys Mappings c.args.rule.targets c.args.rule.targets c.args.rule.k _ y.result y.ensures _ c.in-Some.is)

pub returns-in_default : goal.returns-in_default
returns-in_default c =
    let y = c.number_keys-table in
    build_34 c.args.rule c.requires y.result (y.ensures ∙ ap (table_of Mappings c.args.rule.targets c.args.rule.k) (c.pack-start.ensures ∙ ap pack c.identity.ensures)) (cc)

pub returns : goal.returns
returns c =
    let y = c.number_keys-table in
    build-whole c.args.rule c.requires y.result (y.ensures ∙ ap (table_of Mappings c.args.rule.targets c.args.rule.k) (c.pack-start.ensures ∙ ap pack c.identity.ensures)) _ c.in-Some.is
