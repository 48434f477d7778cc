-- Every rule as a value has its bytes, and they state it; proofs/Packing.antt proves it.
--
--   FitsRule r    the numbers of r are those that the type holds: n and k are bytes, the masks have
--                 32 bits, and there are 512 target masks
use Rattle.std.specs.Prelude.{◌≡◌, List, ℕ, ◌+◌, ◌*◌, ◌^◌, ◌<◌, length, get_or}
use Rattle.limits.specs.Limits.{most_states, most_symbols, target_cells}
use Rattle.automaton.specs.declared.Rule.{Rule}
use Rattle.automaton.specs.Rules.{target_mask}
use Rattle.ruleformat.specs.Format.{byte_at, word_at}
use Rattle.ruleformat.specs.Writing.{Bytes}
use Rattle.packed.specs.Packed.{packed_size, rule_at, packed_of}

pub record FitsRule (r : Rule) : Type 0 where
  pub states : r.n < 256
  pub symbols : r.k < 256
  pub initials : r.initials < 2 ^ 32
  pub finals : r.finals < 2 ^ 32
  pub cells : length r.targets ≡ target_cells
  pub masks : (cell : ℕ) → get_or r.targets cell 0 < 2 ^ 32

pub record Claims : Type 0 where
  pub packed_round_trip : (r : Rule) → FitsRule r → rule_at (packed_of r) ≡ r
  pub packed_size_lem : (r : Rule) → length (packed_of r) ≡ packed_size
  pub packed_bytes : (r : Rule) → FitsRule r → Bytes (packed_of r)
  -- n is byte 0, k byte 1; the mask of initial states begins at byte 2, that of final ones at 6
  pub packed_head : (r : Rule) → FitsRule r
      → (byte_at (packed_of r) 0 ≡ r.n) × (byte_at (packed_of r) 1 ≡ r.k) × (word_at (packed_of r) 2 ≡ r.initials) × (word_at (packed_of r) 6 ≡ r.finals)
  -- the mask of state q and symbol s stands at index q × 16 + s
  pub packed_mask : (r : Rule) → FitsRule r → (q s : ℕ) → q < most_states → s < most_symbols
      → word_at (packed_of r) (10 + 4 * (q * 16 + s)) ≡ target_mask r.targets q s
  -- any bytes state the numbers that stand there, and the masks
  pub stated_head : (b : List ℕ)
      → ((rule_at b).n ≡ byte_at b 0) × ((rule_at b).k ≡ byte_at b 1) × ((rule_at b).initials ≡ word_at b 2) × ((rule_at b).finals ≡ word_at b 6)
  pub stated_mask : (b : List ℕ) (q s : ℕ) → q < most_states → s < most_symbols
      → target_mask (rule_at b).targets q s ≡ word_at b (10 + 4 * (q * 16 + s))
  -- bytes state a rule whose numbers the type holds
  pub stated_fits : (b : List ℕ) → Bytes b → FitsRule (rule_at b)
