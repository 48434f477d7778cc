-- The profile of a rule is its simultaneous automaton: the claims of mappings, for the arrays of the
-- profile; and a walk over the table leads to the mapping of the text. Assumes that building accepts
-- the rule, and nothing else.
use mathlib.Core.Path.{◌≡◌, refl, sym, ap, ◌∙◌, subst}
use mathlib.Core.Logic.{◌⊎◌, ⊎_elim}
use mathlib.Core.List.{List, [], ◌∷◌, ◌++◌, append-nil, append_assoc}
use Prim.Native.Nat.{ℕ, ◌+◌, ◌*◌, ◌/◌, ◌%◌, ◌≤◌, ◌<◌}
use native.Mathlib.Nat.{mod-eq_of_lt}
use native.Mathlib.Omega.{arith}
use lib.Dec.{ltb}
use lib.ListN.{length, get_or, get_or-eq_default}
use borrow.Author.Tests.{lt-ltb, le-ltb, ltb-true, ltb-false}
use Rattle.base.proofs.Lists.{length_list_from, cell_of_lem}
use Rattle.base.proofs.Tests.{by_test}
use Rattle.automaton.specs.declared.Rule.{Rule}
use Rattle.automaton.specs.Automaton.{Text}
use Rattle.numbering.specs.Numbering.{next_of}
use Rattle.numbering.proofs.Arrays.{cells_long, cells_at}
use Rattle.numbering.proofs.OneSeed.{some_key}
use Rattle.mappings.specs.Mappings.{compose, identity, letter}
use Rattle.mappings.specs.Packing.{pack, unpack, mapping_walk}
use Rattle.mappings.specs.Claims.{Small, mapping_after, keys_of, mapping_at, First, InOrder}
use Rattle.mappings.proofs.Claims as mappings
use Rattle.keys.specs.Tables.{cell_of}
use Rattle.profile.specs.declared.Profile.{Profile}
use Rattle.profile.specs.Profiles.{profile_of}
use Rattle.profile.specs.Runs.{walk_to, mapping_in}
use Rattle.profile.specs.Claims.{next_in, Machine}

module _ (r : Rule) (small : Small r) (few : length (keys_of r) ≤ 512) where
  abbrev p : Profile
  p = profile_of r

  abbrev count : ℕ
  count = length (keys_of r)

  in_profile : (i : ℕ) → i < count → mapping_in p i ≡ mapping_at r i
  in_profile i b =
      let e : i % 512 ≡ i = mod-eq_of_lt (omega arith) in
      ap unpack (ap (λ (x : ℕ). get_or p.mappings x 0) e ∙ cells_at (keys_of r) i (omega arith))

  next-is : (i s : ℕ) → i < count → s < r.k → next_in p i s ≡ next_of (mapping_walk r.targets r.k) (keys_of r) i s
  next-is i s b c =
      let d : (i * 16 + s) / 16 ≡ i = omega (arith, small.good.symbols) in
      let m : (i * 16 + s) % 16 ≡ s = omega (arith, small.good.symbols) in
      cell_of_lem 8192 (λ x. cell_of (mapping_walk r.targets r.k) (keys_of r) (x / 16) (x % 16)) (i * 16 + s) 0 (omega (arith, small.good.symbols))
      ∙ rw (d, m, lt-ltb i count b, lt-ltb s r.k c)

  table : (i s : ℕ) → i < count → s < r.k → (next_in p i s < count) × (mapping_in p (next_in p i s) ≡ compose (mapping_in p i) (letter r.targets s))
  table i s b c =
      let x = (mappings.claims).cell r small few i s b c in
      let below : next_in p i s < count = rw (next-is i s b c) x.0 in
      (below, in_profile (next_in p i s) below ∙ ap (mapping_at r) (next-is i s b c) ∙ x.1 ∙ ap (λ (f : List ℕ). compose f (letter r.targets s)) (sym (in_profile i b)))

  in_order : InOrder r (mapping_in p) p.count
  in_order =
      let o = (mappings.claims).in_order r small few in
      record {
        text = o.text;
        first = λ i b. subst (λ (f : List ℕ). First r f (o.text i)) (sym (in_profile i b)) (o.first i b);
        rises = o.rises;
      }

  begins : 0 < count
  begins = some_key (mapping_walk r.targets r.k) (pack (identity r.n)) refl

  -- ---- zeros elsewhere
  no_mapping_lem : (i : ℕ) → count ≤ i → get_or p.mappings i 0 ≡ 0
  no_mapping_lem i b =
      by_test (ltb i 512)
      (λ t. cells_at (keys_of r) i (ltb-true i 512 t) ∙ get_or-eq_default (keys_of r) 0 b)
      (λ t. get_or-eq_default p.mappings 0 (omega (arith, cells_long (keys_of r), ltb-false i 512 t)))

  -- the table's cell for the key i and the symbol s
  abbrev cell : ℕ → ℕ → ℕ
  cell i s = cell_of (mapping_walk r.targets r.k) (keys_of r) i s

  no_key : (i s : ℕ) → (count ≤ i) ⊎ (r.k ≤ s) → cell i s ≡ 0
  no_key i s = ⊎_elim (λ b. rw (le-ltb i count b)) (λ b. by_test (ltb i count) (λ t. rw (t, le-ltb s r.k b)) (λ t. rw t))

  no_cell : (i s : ℕ) → s < 16 → (count ≤ i) ⊎ (r.k ≤ s) → next_in p i s ≡ 0
  no_cell i s c out =
      let d : (i * 16 + s) / 16 ≡ i = omega arith in
      let m : (i * 16 + s) % 16 ≡ s = omega arith in
      by_test (ltb (i * 16 + s) 8192)
      (λ t. cell_of_lem 8192 (λ x. cell (x / 16) (x % 16)) (i * 16 + s) 0 (ltb-true (i * 16 + s) 8192 t) ∙ rw (d, m) (no_key i s out))
      (λ t.
      get_or-eq_default p.next 0
      (omega (arith, length_list_from 0 8192 (λ x. cell (x / 16) (x % 16)), ltb-false (i * 16 + s) 8192 t)))

  pub machine : Machine r p
  machine = record {
    head = (refl, refl, refl, refl);
    most = few;
    start = (begins, in_profile 0 begins ∙ (mappings.claims).start r small);
    sound = λ i b. let w = (mappings.claims).sound r small i b in (w.0, w.1, in_profile i b ∙ w.2);
    complete = λ w t. let i = (mappings.claims).complete r small few w t in (i.0, i.1, in_profile i.0 i.1 ∙ i.2);
    once = λ i j b c e. (mappings.claims).once r small i j b c (sym (in_profile i b) ∙ e ∙ in_profile j c);
    order = in_order;
    table = table;
    no_mapping_lem = no_mapping_lem;
    no_cell = no_cell;
  }

  -- ---- the walk, from the mapping of the text v
  walk_from : (v w : List ℕ) (i : ℕ) → i < count → mapping_in p i ≡ mapping_after r v → Text r.k w
      → mapping_in p (walk_to p.next i w) ≡ mapping_after r (v ++ w)
  unfolding walk_to
  walk_from v [] i b e t = e ∙ ap (mapping_after r) (sym (append-nil v))
  walk_from v (s ∷ w) i b e t =
      let row : i % 512 ≡ i = mod-eq_of_lt (omega arith) in
      let column : s % 16 ≡ s = mod-eq_of_lt (omega (arith, t.0, small.good.symbols)) in
      let x = table i s b t.0 in
      let to : mapping_in p (next_in p i s) ≡ mapping_after r (v ++ (s ∷ [])) =
      x.1 ∙ ap (λ (f : List ℕ). compose f (letter r.targets s)) e ∙ sym ((mappings.claims).of_one_more r small v s) in
      rw (row, column) (walk_from (v ++ (s ∷ [])) w (next_in p i s) x.0 to t.1)
      ∙ ap (mapping_after r) (append_assoc v (s ∷ []) w)

  pub walks : (w : List ℕ) → Text r.k w → mapping_in p (walk_to p.next 0 w) ≡ mapping_after r w
  walks w t = walk_from [] w 0 begins (in_profile 0 begins ∙ (mappings.claims).start r small) t
