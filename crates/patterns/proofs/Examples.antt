-- Worked examples: the trees of a|b*, a*b, ab*c and of nothing, and what their rules are. Each is
-- computed. Assumes nothing.
use mathlib.Core.Path.{◌≡◌, refl}
use mathlib.Core.List.{[], ◌∷◌}
use lib.Dec.{lit<}
use Rattle.automaton.specs.Rules.{target_mask}
use Rattle.base.specs.Lists.{list_from}
use Rattle.patterns.specs.Patterns.{Pattern, empty, letter, then, or, star}
use Rattle.patterns.specs.Grammar.{Parses, alternatives, a_letter, brackets, a_star, nothing, next, first, other}
use Rattle.patterns.specs.Positions.{position_rule}

-- a|b*: the bar binds loosest, the star tightest
one_or_many : Pattern
one_or_many = or (then empty (letter 0)) (then empty (star (letter 1)))

parsed : Parses alternatives (97 ∷ 124 ∷ 98 ∷ 42 ∷ []) one_or_many
unfolding one_or_many
parsed = other (first (next nothing (a_letter {s = 0} (lit< tt)))) (next nothing (a_star (a_letter {s = 1} (lit< tt))))

-- states 0, 1 and 2 are final; b leads from 0 and from 2 to 2, and a from 0 to 1
finals : (position_rule one_or_many).finals ≡ 7
unfolding one_or_many
finals = refl

again : target_mask (position_rule one_or_many).targets 2 1 ≡ 4
unfolding one_or_many list_from
again = refl

no_more : target_mask (position_rule one_or_many).targets 1 1 ≡ 0
unfolding one_or_many list_from
no_more = refl

-- a*b: b can come first, and after each a
skipped : Pattern
skipped = then (then empty (star (letter 0))) (letter 1)

skips : target_mask (position_rule skipped).targets 0 1 ≡ 4
unfolding skipped list_from
skips = refl

-- ab*c: c can come after each b, and right after a
passed : Pattern
passed = then (then (then empty (letter 0)) (star (letter 1))) (letter 2)

after_a : target_mask (position_rule passed).targets 1 2 ≡ 8
unfolding passed list_from
after_a = refl

after_b : target_mask (position_rule passed).targets 2 2 ≡ 8
unfolding passed list_from
after_b = refl

-- nothing at all, and an empty bracket, are the empty text
nothing_at_all : Parses alternatives [] empty
nothing_at_all = first nothing

empty_bracket : Parses alternatives (40 ∷ 41 ∷ []) (then empty empty)
empty_bracket = first (next nothing (brackets (first nothing)))
