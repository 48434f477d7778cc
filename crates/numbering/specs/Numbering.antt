-- First found, numbered first: the procedure of document 01, "Sets and their order", over any step.
-- A key is what is numbered, written as a number: there a set of states. The seeds are the keys
-- that it starts from: there the sets {q}. A key's number is its place in a list. Some keys are
-- left out, there the empty set: they have no number, and 512 stands for them.
--
--   Walk                    where a key leads by a symbol, which keys are left out, and k symbols
--   index_of keys m         the number of the key m; the list's length where it has none
--   numbered skips keys m   a key not left out keeps the number it has, else it takes the next
--   expand_from, close_from, keys_up_to  the procedure: by symbols, in number order, for each seed
--   number_or_none          the number of a key, or 512 where it is left out
--   next_of a keys i s       the table: the number of what key i leads to by the symbol s, or 512
use Rattle.std.specs.Prelude.{Bool, cond, ◌&&◌, ◌||◌, List, [], ◌∷◌, ◌++◌, ℕ, zero, suc, eqb, ltb, length, get_or}
use Rattle.limits.specs.Limits.{most_sets, empty_set}

pub record Walk : Type 0 where
  pub step : ℕ → ℕ → ℕ
  pub skips : ℕ → Bool
  pub k : ℕ

unfoldable pub index_of : List ℕ → ℕ → ℕ
index_of [] m = 0
index_of (x ∷ keys) m = cond (eqb x m) 0 (suc (index_of keys m))

unfoldable pub numbered : (ℕ → Bool) → List ℕ → ℕ → List ℕ
numbered skips keys m = cond (skips m || ltb (index_of keys m) (length keys)) keys (keys ++ (m ∷ []))

-- the key m is expanded by `left` symbols, from s on
unfoldable pub expand_from : Walk → ℕ → ℕ → ℕ → List ℕ → List ℕ
expand_from a m s zero keys = keys
expand_from a m s (suc left) keys = expand_from a m (suc s) left (numbered a.skips keys (a.step m s))

-- in number order, each key from number i on is expanded by the k symbols: at most `left` keys,
-- which is enough for 512
unfoldable pub close_from : Walk → ℕ → ℕ → List ℕ → List ℕ
close_from a zero i keys = keys
close_from a (suc left) i keys =
    cond (ltb i (length keys)) (close_from a left (suc i) (expand_from a (get_or keys i 0) 0 a.k keys)) keys

-- for each seed in order: it is numbered, and the keys not yet expanded are expanded, which are
-- those from there on
unfoldable pub keys_up_to : Walk → (ℕ → ℕ) → ℕ → List ℕ
keys_up_to a seed zero = []
keys_up_to a seed (suc q) =
    let before = keys_up_to a seed q in
    close_from a most_sets (length before) (numbered a.skips before (seed q))

abbrev pub number_or_none : (ℕ → Bool) → List ℕ → ℕ → ℕ
number_or_none skips keys m = cond (skips m) empty_set (index_of keys m)

abbrev pub next_of : Walk → List ℕ → ℕ → ℕ → ℕ
next_of a keys i s = cond (ltb i (length keys) && ltb s a.k) (number_or_none a.skips keys (a.step (get_or keys i 0) s)) empty_set
