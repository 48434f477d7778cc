-- A mapping as one number of 64 bits, so that mappings can be the keys of numbering: the mask of
-- state q stands in the bits 8q to 8q + 7.
--
--   mask_bits           the bits of a mask
--   pack f, unpack x    the number of a mapping, and the mapping of a number
--   mapping_walk ts k   mappings as the keys of numbering: 000's f • δ^σ for a symbol σ; none is
--                       left out
--   mapping_keys ts n k  the mappings of a rule with the targets ts, n states and k symbols, from
--                       the identity, in number order
use Rattle.std.specs.Prelude.{false, List, [], ◌∷◌, ℕ, ◌+◌, ◌*◌, ◌/◌, ◌%◌, ◌^◌}
use Rattle.base.specs.Lists.{list_from}
use Rattle.numbering.specs.Numbering.{Walk, keys_up_to}
use Rattle.mappings.specs.Mappings.{mapped_states, compose, identity, letter}

abbrev pub mask_bits : ℕ
mask_bits = mapped_states

unfoldable pub pack : List ℕ → ℕ
pack [] = 0
pack (m ∷ f) = pack f * 2 ^ mask_bits + m

abbrev pub unpack : ℕ → List ℕ
unpack x = list_from 0 mapped_states (λ q. x / 2 ^ (mask_bits * q) % 2 ^ mask_bits)

abbrev pub mapping_walk : List ℕ → ℕ → Walk
mapping_walk ts k = record { step = λ x s. pack (compose (unpack x) (letter ts s)); skips = λ _. false; k = k }

abbrev pub mapping_keys : List ℕ → ℕ → ℕ → List ℕ
mapping_keys ts n k = keys_up_to (mapping_walk ts k) (λ _. pack (identity n)) 1
