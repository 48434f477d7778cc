-- What is claimed of the printed text, for any file whatever, and for any built rule;
-- proofs/Claims.antt proves it.
--
--   Printable b       the numbers of the built rule b are those of a rule: 1 to 512 sets, at most
--                     16 symbols and 32 states, and where they are in use masks of 32 bits and
--                     cells up to 512
--   SamePrinted b c   b and c have the same n, k, numbers of sets and of starts, and the same sets,
--                     cells of the table and delegates, as far as they are in use
use Rattle.std.specs.Prelude.{◌≡◌, ◌↔◌, List, [], ◌∷◌, ℕ, ◌+◌, ◌*◌, ◌≤◌, ◌<◌, length, get_or}
use Rattle.std.proofs.Math.Option.{none}
use Rattle.limits.specs.Limits.{most_states, most_symbols, most_sets, empty_set, largest_number}
use Rattle.delegates.specs.Alike.{delegate_in}
use Rattle.build.specs.declared.Built.{Built}
use Rattle.ruletext.specs.RuleText.{delegate_text, rule_text}
use Rattle.ruletext.specs.Printing.{text_for, most_bytes}

abbrev pub cell : Built → ℕ → ℕ → ℕ
cell b i s = get_or b.next (i * most_symbols + s) 0

pub record Printable (b : Built) : Type 0 where
  pub some_set : 1 ≤ b.setcount
  pub sets : b.setcount ≤ most_sets
  pub symbols : b.k ≤ most_symbols
  pub states : b.n ≤ most_states
  pub starts : b.startcount ≤ largest_number
  pub masks : (i : ℕ) → i < b.setcount → get_or b.sets i 0 < 4294967296
  pub cells : (i s : ℕ) → i < b.setcount → s < b.k → cell b i s ≤ empty_set

pub record SamePrinted (b c : Built) : Type 0 where
  pub n : b.n ≡ c.n
  pub k : b.k ≡ c.k
  pub setcount : b.setcount ≡ c.setcount
  pub startcount : b.startcount ≡ c.startcount
  pub sets : (i : ℕ) → i < b.setcount → get_or b.sets i 0 ≡ get_or c.sets i 0
  pub cells : (i s : ℕ) → i < b.setcount → s < b.k → cell b i s ≡ cell c i s
  pub delegates : (q : ℕ) → q < b.n → delegate_in b.delegates q ≡ delegate_in c.delegates q

pub record Claims : Type 0 where
  -- rules with the same text have the same in all that is printed
  pub determines : (b c : Built) → Printable b → Printable c → rule_text b ≡ rule_text c → SamePrinted b c
  -- ` -`, 32 and 45, exactly where a state has no delegate
  pub dash_exactly : (d : List ℕ) (q : ℕ) → (delegate_text (delegate_in d q) ≡ 32 ∷ 45 ∷ []) ↔ (delegate_in d q ≡ none)
  -- the text for a file, also for one that is refused, has at most so many bytes
  pub fits : (f : List ℕ) → length (text_for f) ≤ most_bytes
