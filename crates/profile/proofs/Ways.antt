-- One lemma over plain variables for each way out of `build` and `run`, and the walk's turns.
-- Assumes nothing.
--
--   build-..     the rule is refused by its check, with 33, with 34, or it is built
--   run-..       the chunk is refused with 12, with 13, or it is run; lent-.. the same where what a
--                run reads of the profile is lent
--   walk-..      a byte more, and none left
use Rattle.std.proofs.Common.{Ok, Some, None}
use mathlib.Core.Path.{◌≡◌, refl, sym, ap, ◌∙◌}
use mathlib.Core.Bool.{Bool, true, false, cond}
use mathlib.Core.List.{List}
use mathlib.Core.Option.{none, some}
use Prim.Native.Nat.{ℕ, ◌+◌, ◌*◌, ◌%◌, ◌≤◌, ◌<◌, min}
use native.Mathlib.Numerals.{add-one}
use native.Mathlib.Omega.{arith}
use lib.ListN.{length, get_or, drop, drop_of_length-le}
use lib.Seq.{drop-cons}
use borrow.Author.Tests.{lt-ltb, le-ltb}
use Rattle.base.specs.Options.{option_of}
use Rattle.automaton.specs.declared.Rule.{Rule}
use Rattle.rulecheck.specs.Checking.{rule_number}
use Rattle.rulecheck.proofs.First.{checked_first, checked_then}
use Rattle.rulecheck.proofs.Claims as check
use Rattle.marks.specs.Marks.{text_of}
use Rattle.chunks.specs.Chunks.{foreign}
use Rattle.chunks.specs.Taking.{chunk_number}
use Rattle.chunks.proofs.Claims as chunks
use Rattle.mappings.specs.declared.Mapping.{Mapping}
use Rattle.mappings.specs.Mappings.{identity}
use Rattle.numbering.specs.mirror.Arrays.{limited}
use Rattle.numbering.proofs.Arrays.{whole_of, over_of}
use Rattle.mappings.specs.Packing.{pack, unpack, mapping_walk}
use Rattle.mappings.specs.Claims.{Small, keys_of}
use Rattle.keys.specs.declared.KeyTable.{KeyTable}
use Rattle.keys.specs.declared.Kind.TheVariants.{Mappings}
use Rattle.keys.specs.Tables.{Table, table_outcome, table_for, table_by, table_of}
use Rattle.keys.proofs.Tables.{one_whole}
use Rattle.profile.specs.declared.Profile.{Profile}
use Rattle.profile.specs.Profiles.{many_mappings, own_conditions, build_number, profile_of, build_outcome, refused_build, build_by, build_of}
use Rattle.profile.specs.Runs.{walk_to, mapping_in, run_outcome, refused_run, run_by, run_of, Lends}

-- ---- building
module _ (r : Rule) where
  by_number : (x : ℕ) → build_number r ≡ some x → refused_build x ≡ build_of r
  by_number x e = sym (ap (λ n. build_by n r) e)

  pub build_unchecked : (x : ℕ) → rule_number r ≡ some x → refused_build x ≡ build_of r
  unfolding build_number
  build_unchecked x e = by_number x (checked_first r (own_conditions r) x e)

  pub build_33 : rule_number r ≡ none → 8 < r.n → refused_build 33 ≡ build_of r
  unfolding build_number
  build_33 e b = by_number 33 (checked_then r (own_conditions r) e ∙ rw (lt-ltb 8 r.n b))

  module _ (small : Small r) where
    number_is : build_number r ≡ cond (many_mappings r) (some 34) none
    unfolding build_number
    number_is = checked_then r (own_conditions r) (((check.claims).passes r).1 small.good) ∙ rw (le-ltb 8 r.n small.states)

    abbrev table : Table
    table = table_of Mappings r.targets r.k (pack (identity r.n))

    table_is : table ≡ table_for (mapping_walk r.targets r.k) (keys_of r)
    unfolding table_by
    table_is = let e : min r.k 16 ≡ r.k = omega (arith, small.good.symbols) in rw e

    module _ (t : KeyTable) (are : table_outcome t ≡ table) where
      counted : option_of t.count ≡ limited (keys_of r)
      counted = ap (λ (x : Table). x.count) (are ∙ table_is)

      pub build_34 : t.count ≡ None → refused_build 34 ≡ build_of r
      build_34 e =
          let many = over_of (keys_of r) (sym (ap option_of e) ∙ counted) in
          by_number 34 (number_is ∙ rw (lt-ltb 512 (length (keys_of r)) many))

      pub build-whole : (c : ℕ) → t.count ≡ Some c
          → build_outcome (Ok (record {
            n = r.n;
            k = r.k;
            initials = r.initials;
            finals = r.finals;
            count = c;
            mappings = t.keys;
            next = t.next;
          }))
          ≡ build_of r
      build-whole c e =
          let x = whole_of (keys_of r) c (sym (ap option_of e) ∙ counted) in
          let keys : t.keys ≡ (profile_of r).mappings = ap (λ (y : Table). y.keys) (are ∙ table_is) in
          let next : t.next ≡ (profile_of r).next =
          ap (λ (y : Table). y.next) (are ∙ table_is)
          ∙ one_whole Mappings r.targets r.targets r.k (pack (identity r.n)) x.0 in
          rw (number_is, le-ltb 512 (length (keys_of r)) x.0, x.1, keys, next)

-- ---- running
module _ (p : Profile) (w : List ℕ) where
  pub run_12 : 65536 < length w → refused_run 12 ≡ run_of p w
  unfolding run_of
  run_12 b = let e : chunk_number p.k w ≡ some 12 = ((chunks.claims).taking p.k w).number_12.1 b in rw e

  module _ (short : length w ≤ 65536) (text : List ℕ) (is-text : text_of w ≡ text) where
    same_text : (b : Bool) → foreign text p.k ≡ b → foreign (text_of w) p.k ≡ b
    same_text b e = ap (λ (v : List ℕ). foreign v p.k) is-text ∙ e

    pub run_13 : foreign text p.k ≡ true → refused_run 13 ≡ run_of p w
    unfolding run_of
    run_13 e =
        let n : chunk_number p.k w ≡ some 13 = ((chunks.claims).taking p.k w).number_13.1 (short, same_text true e) in rw n

    pub run_whole : foreign text p.k ≡ false → (number : ℕ) → number ≡ walk_to p.next 0 text
        → run_by none (mapping_in p number) ≡ run_of p w
    unfolding run_of
    run_whole e number n =
        let taken : chunk_number p.k w ≡ none = ((chunks.claims).taking p.k w).taken.1 (short, same_text false e) in
        rw (taken, is-text, n)

-- the same, where what a run reads of the profile is lent
module _ (k : ℕ) (next packed text : List ℕ) (p : Profile) (w : List ℕ) (lends : Lends p k next packed)
    (short : length w ≤ 65536) (is-text : text_of w ≡ text) where
  pub lent_13 : foreign text k ≡ true → refused_run 13 ≡ run_of p w
  lent_13 e = run_13 p w short text is-text (ap (foreign text) lends.symbols ∙ e)

  pub lent_whole : foreign text k ≡ false → (number : ℕ) → number ≡ walk_to next 0 text
      → (m : Mapping) → m.masks ≡ unpack (get_or packed (number % 512) 0)
      → run_outcome (Ok m) ≡ run_of p w
  lent_whole e number n m is =
      ap (run_by none) (is ∙ ap (λ (t : List ℕ). unpack (get_or t (number % 512) 0)) (sym lends.numbered))
      ∙ run_whole p w short text is-text (ap (foreign text) lends.symbols ∙ e) number (n ∙ ap (λ (t : List ℕ). walk_to t 0 text) (sym lends.table))

pub lent_all : (p : Profile) → Lends p p.k p.next p.mappings
lent_all p = record { symbols = refl; table = refl; numbered = refl }

-- ---- the walk
module _ (next text : List ℕ) (i number : ℕ) where
  pub walk_more : i < length text
      → walk_to next number (drop i text) ≡ walk_to next (get_or next (number % 512 * 16 + get_or text i 0 % 16) 0) (drop (i + 1) text)
  unfolding walk_to
  walk_more b = rw (drop-cons text i 0 b, add-one)

  pub walk_done : length text ≤ i → walk_to next number (drop i text) ≡ number
  unfolding walk_to
  walk_done b = rw (drop_of_length-le text b)
