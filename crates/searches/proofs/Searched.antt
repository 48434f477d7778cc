-- What a table of keys tells of the search: which keys there are, and that a way back can be spelt.
-- Assumes the table of any kind of keys, over at most 16 symbols.
use Rattle.std.proofs.Common as code
use Rattle.std.proofs.Common.{Some, None}
use Rattle.std.specs.Option.{unwrap_or}
use mathlib.Core.Path.{◌≡◌, refl, sym, ap, ◌∙◌}
use mathlib.Core.List.{List}
use Prim.Native.Nat.{ℕ, ◌≤◌, ◌<◌, min}
use native.Mathlib.Omega.{arith}
use lib.ListN.{length, get_or, take, length-take}
use lib.Seq.{ext_get_or, get_or-take}
use Rattle.base.specs.Options.{option_of}
use Rattle.numbering.specs.Numbering.{Walk, keys_up_to}
use Rattle.numbering.specs.mirror.Arrays.{limited, key_cells}
use Rattle.numbering.proofs.Arrays.{cells_at, cells_long, whole_of, over_of, read_back}
use Rattle.keys.specs.declared.Kind.{Kind}
use Rattle.keys.specs.declared.KeyTable.{KeyTable}
use Rattle.keys.specs.Kinds.{walk_by}
use Rattle.keys.specs.Tables.{Table, table_outcome, cells_to, table_for, table_by}
use Rattle.searches.specs.mirror.Tables.{Tabled}

module _ (kind : Kind) (ts us : List ℕ) (k m : ℕ) (columns : k ≤ 16) (t : KeyTable) (are : table_outcome t ≡ table_by kind ts us k m) where
  abbrev walk : Walk
  walk = walk_by kind ts us k

  abbrev keys : List ℕ
  keys = keys_up_to walk (λ _. m) 1

  table_is : table_outcome t ≡ table_for walk keys
  unfolding table_by
  table_is = are ∙ let e : min k 16 ≡ k = omega arith in rw e

  count_told : option_of t.count ≡ limited keys
  count_told = ap (λ (x : Table). x.count) table_is

  pub next-is : t.next ≡ cells_to walk keys
  next-is = ap (λ (x : Table). x.next) table_is

  cells_are : t.keys ≡ key_cells keys
  cells_are = ap (λ (x : Table). x.keys) table_is

  pub tabled : (j : ℕ) → j < length keys → j < 512 → Tabled t.next k j
  tabled j b small = record {
    walk = walk;
    start = m;
    kept = λ _. refl;
    columns = columns;
    symbols = refl;
    are = next-is;
    below = b;
    small = small;
  }

  pub over_many : t.count ≡ None → 512 < length keys
  over_many e = over_of keys (sym (ap option_of e) ∙ count_told)

  module _ (c : ℕ) (e : t.count ≡ Some c) where
    whole : (length keys ≤ 512) × (c ≡ length keys)
    whole = whole_of keys c (sym (ap option_of e) ∙ count_told)

    pub few : length keys ≤ 512
    few = whole.0

    pub count-is : c ≡ length keys
    count-is = whole.1

    pub most : c ≤ 512
    most = omega (arith, whole.0, whole.1)

    pub keys_are : take c t.keys ≡ keys
    keys_are = read_back keys t.keys c few count-is cells_are

  -- the first 512 keys, which the table holds
  held_is : (r : code.Option ℕ) → t.count ≡ r → unwrap_or r 512 ≡ min 512 (length keys)
  held_is (Some c) e = omega (arith, count-is c e, few c e)
  held_is None e = omega (arith, over_many e)

  module _ (c : ℕ) (held : c ≡ unwrap_or t.count 512) where
    pub held_count : c ≡ length (take 512 keys)
    held_count = held ∙ held_is t.count refl ∙ sym (length-take 512 keys)

    pub held_most : c ≤ 512
    held_most = omega (arith, held_count, length-take 512 keys)

    pub held_keys : take c t.keys ≡ take 512 keys
    held_keys =
        let n : length (take c t.keys) ≡ c = length-take c t.keys ∙ omega (arith, ap length cells_are, cells_long keys, held_most) in
        ext_get_or 0 (take c t.keys) (take 512 keys) (n ∙ held_count)
        (λ i b.
        get_or-take c t.keys i 0 (omega arith)
        ∙ ap (λ (l : List ℕ). get_or l i 0) cells_are
        ∙ cells_at keys i (omega (arith, held_most))
        ∙ sym (get_or-take 512 keys i 0 (omega (arith, held_most))))
