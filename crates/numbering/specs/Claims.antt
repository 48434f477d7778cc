-- What makes a numbering believable, for every walk; proofs/Claims.antt proves it.
--
--   Reach a seed n m        the key m is not left out, and a text leads to it from one of n seeds
--   Distinct l              no member of the list l stands in it twice
--   Sinks a                 what is left out leads only to what is left out
--   Leads a seed q w m      the text w, of symbols below k, leads from seed q to the key m
use Rattle.std.specs.Prelude.{◌≡◌, ◌↔◌, true, false, List, ℕ, ◌+◌, ◌≤◌, ◌<◌, length, get_or}
use Rattle.limits.specs.Limits.{most_sets, empty_set}
use Rattle.numbering.specs.Numbering.{Walk, keys_up_to, next_of}
use Rattle.numbering.specs.Texts.{follow, Symbols}
use Rattle.numbering.specs.Order.{InOrder}

pub record Reach (a : Walk) (seed : ℕ → ℕ) (n m : ℕ) : Type 0 where
  pub counts : a.skips m ≡ false
  pub from : ℕ
  pub below : from < n
  pub text : List ℕ
  pub symbols : Symbols a.k text
  pub leads : follow a (seed from) text ≡ m

abbrev pub Distinct : List ℕ → Type 0
Distinct l = (i j : ℕ) → i < length l → j < length l → get_or l i 0 ≡ get_or l j 0 → i ≡ j

abbrev pub Sinks : Walk → Type 0
Sinks a = (m s : ℕ) → s < a.k → a.skips m ≡ true → a.skips (a.step m s) ≡ true

abbrev pub Leads : Walk → (ℕ → ℕ) → ℕ → List ℕ → ℕ → Type 0
Leads a seed q w m = Symbols a.k w × (follow a (seed q) w ≡ m)

-- of the keys from the first n seeds
module _ (a : Walk) (seed : ℕ → ℕ) (n : ℕ) where
  abbrev pub keys : List ℕ
  keys = keys_up_to a seed n

  -- the key that key i leads to by the symbol s, and the cell that holds its number
  abbrev pub target : ℕ → ℕ → ℕ
  target i s = a.step (get_or keys i 0) s

  abbrev pub next : ℕ → ℕ → ℕ
  next i s = next_of a keys i s

  abbrev pub fits : Type 0
  fits = length keys ≤ most_sets

pub record Claims : Type 0 where
  -- each numbered key is reached from a seed over a text, and no key has two numbers
  pub sound : (a : Walk) (seed : ℕ → ℕ) (n i : ℕ) → i < length (keys a seed n) → Reach a seed n (get_or (keys a seed n) i 0)
  pub once : (a : Walk) (seed : ℕ → ℕ) (n : ℕ) → Distinct (keys a seed n)
  -- with at most 512 keys, each key so reached has a number
  pub complete : (a : Walk) (seed : ℕ → ℕ) (n : ℕ) → Sinks a → fits a seed n → (m : ℕ) → Reach a seed n m
      → (i : ℕ) × (i < length (keys a seed n)) × (get_or (keys a seed n) i 0 ≡ m)
  -- a cell is the number of the key that the step leads to, or 512 exactly where that is left out
  pub cell : (a : Walk) (seed : ℕ → ℕ) (n : ℕ) → fits a seed n → (i s : ℕ) → i < length (keys a seed n) → s < a.k
      → (a.skips (target a seed n i s) ≡ true → next a seed n i s ≡ empty_set)
      × (a.skips (target a seed n i s) ≡ false
      → (next a seed n i s < length (keys a seed n)) × (get_or (keys a seed n) (next a seed n i s) 0 ≡ target a seed n i s))
  -- there are more than 512 keys exactly when more than 512 distinct ones are reached
  pub over : (a : Walk) (seed : ℕ → ℕ) (n : ℕ) → Sinks a
      → (most_sets < length (keys a seed n)) ↔ (l : List ℕ) × (length l ≡ most_sets + 1) × Distinct l × ((i : ℕ) → i < most_sets + 1 → Reach a seed n (get_or l i 0))
  -- with at most 512 keys, these stand in the order of their first seeds, and then of their first
  -- texts from these
  pub in_order : (a : Walk) (seed : ℕ → ℕ) (n : ℕ) → Sinks a → fits a seed n
      → InOrder n (Leads a seed) (λ i. get_or (keys a seed n) i 0) (length (keys a seed n))
