-- What `spell` and the functions below it ask for and promise. Nothing here needs to be believed:
-- the functions that call it ask for nothing.
--
--   Tabled cells k j     the cells are the table of the keys of a walk over k symbols from one key,
--                        of which none is left out, and j is the number of one of the first 512
--   FirstIn cells i k j s   s is the first of the k symbols by which key i leads to key j; k where
--                        none does
--   Spells r w           the value r is the text w with its length, and zeros after it
use Rattle.std.specs.Prelude.{◌≡◌, false, List, ℕ, ◌+◌, ◌*◌, ◌≤◌, ◌<◌, length, get_or}
use Rattle.limits.specs.Limits.{most_symbols, most_sets}
use Rattle.numbering.specs.Numbering.{Walk, keys_up_to}
use Rattle.keys.specs.Tables.{cells_to}
use Rattle.searches.specs.Texts.{text_cells}
use Rattle.searches.specs.declared.Spelled.{Spelled}

pub record Tabled (cells : List ℕ) (k j : ℕ) : Type 0 where
  pub walk : Walk
  pub start : ℕ
  pub kept : (x : ℕ) → walk.skips x ≡ false
  pub columns : walk.k ≤ most_symbols
  pub symbols : k ≡ walk.k
  pub are : cells ≡ cells_to walk (keys_up_to walk (λ _. start) 1)
  pub below : j < length (keys_up_to walk (λ _. start) 1)
  pub small : j < most_sets

pub record Spells (r : Spelled) (w : List ℕ) : Type 0 where
  pub long : r.length ≡ length w
  pub are : r.text ≡ text_cells w

pub record FirstIn (cells : List ℕ) (i k j s : ℕ) : Type 0 where
  pub most : s ≤ k
  pub leads : s < k → get_or cells (i * most_symbols + s) 0 ≡ j
  pub before : (t : ℕ) → t < s → get_or cells (i * most_symbols + t) 0 ≡ j → ⊥
