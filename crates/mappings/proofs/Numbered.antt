-- The numbered mappings of a rule are those of texts: the claims of numbering, where a key is a
-- mapping's number. Assumes a rule with at most eight states, and nothing else.
use mathlib.Core.Path.{◌≡◌, refl, sym, ap, ◌∙◌, subst}
use mathlib.Core.Logic.{◌↔◌, ⊎_elim}
use mathlib.Core.List.{List, [], ◌∷◌, ◌++◌, append-nil, append_assoc}
use Prim.Native.Nat.{ℕ, ◌<◌}
use native.Mathlib.Omega.{arith}
use lib.Dec.{ltb}
use lib.ListN.{length, get_or}
use borrow.Author.Tests.{ltb-true, ltb-false}
use Rattle.base.specs.Lists.{list_from}
use Rattle.base.proofs.Lists.{length_list_from, cell_of_lem}
use Rattle.base.proofs.Tests.{by_test}
use Rattle.automaton.specs.declared.Rule.{Rule}
use Rattle.automaton.specs.Automaton.{Text}
use Rattle.numbering.specs.Numbering.{Walk, next_of}
use Rattle.numbering.specs.Texts.{follow, Symbols, none, more}
use Rattle.numbering.specs.Claims as keys
use Rattle.numbering.proofs.OneSeed.{first_key}
use Rattle.numbering.proofs.Claims as numbering
use Rattle.mappings.specs.Mappings.{compose, identity, letter}
use Rattle.mappings.specs.Packing.{pack, unpack, mapping_walk}
use Rattle.mappings.specs.Claims.{Small, mapping_after, keys_of, mapping_at, few, many, InOrder}
use Rattle.mappings.proofs.Composing.{identity_value}
use Rattle.mappings.proofs.Packing.{unpacked}
use Rattle.mappings.proofs.Rules.{is_value, of_one_more}

-- ---- a text of symbols below k
pub text-of : {k : ℕ} {w : List ℕ} → Symbols k w → Text k w
text-of none = tt
text-of (more b p) = (b, text-of p)

pub symbols_of_lem : (k : ℕ) (w : List ℕ) → Text k w → Symbols k w
symbols_of_lem k [] t = none
symbols_of_lem k (s ∷ w) t = more t.0 (symbols_of_lem k w t.1)

module _ (r : Rule) (small : Small r) where
  abbrev walk : Walk
  walk = mapping_walk r.targets r.k

  abbrev first : ℕ → ℕ
  first = λ _. pack (identity r.n)

  -- ---- a text leads from the identity to its mapping
  walk_from : (v w : List ℕ) → follow walk (pack (mapping_after r v)) w ≡ pack (mapping_after r (v ++ w))
  walk_from v [] = rw append-nil
  walk_from v (s ∷ w) =
      ap (λ (f : List ℕ). follow walk (pack (compose f (letter r.targets s))) w) (unpacked (mapping_after r v) (is_value r small v))
      ∙ ap (λ (f : List ℕ). follow walk (pack f) w) (sym (of_one_more r small v s))
      ∙ walk_from (v ++ (s ∷ [])) w
      ∙ rw append_assoc

  pub walks : (w : List ℕ) → follow walk (pack (identity r.n)) w ≡ pack (mapping_after r w)
  walks w = walk_from [] w

  leads_to : {x : ℕ} (w : List ℕ) → follow walk (pack (identity r.n)) w ≡ x → unpack x ≡ mapping_after r w
  leads_to w e = ap unpack (sym e ∙ walks w) ∙ unpacked (mapping_after r w) (is_value r small w)

  leads_from : {x : ℕ} (w : List ℕ) → follow walk (pack (identity r.n)) w ≡ x → (v : List ℕ) → mapping_after r v ≡ unpack x
      → follow walk (pack (identity r.n)) v ≡ x
  leads_from w e v f = walks v ∙ ap pack (f ∙ leads_to w e) ∙ sym (walks w) ∙ e

  -- ---- the claims
  reached : (i : ℕ) → i < length (keys_of r) → keys.Reach walk first 1 (get_or (keys_of r) i 0)
  reached i b = (numbering.claims).sound walk first 1 i b

  pub start : mapping_at r 0 ≡ identity r.n
  start = ap unpack (first_key walk (pack (identity r.n)) refl) ∙ unpacked (identity r.n) (identity_value r.n)

  pub sound : (i : ℕ) → i < length (keys_of r) → (w : List ℕ) × Text r.k w × (mapping_at r i ≡ mapping_after r w)
  sound i b = let h = reached i b in (h.text, text-of h.symbols, leads_to h.text h.leads)

  -- a key is the number of its mapping
  key-is : (i : ℕ) → i < length (keys_of r) → get_or (keys_of r) i 0 ≡ pack (mapping_at r i)
  key-is i b =
      let h = reached i b in
      sym h.leads ∙ walks h.text ∙ ap pack (sym (leads_to h.text h.leads))

  pub once : (i j : ℕ) → i < length (keys_of r) → j < length (keys_of r) → mapping_at r i ≡ mapping_at r j → i ≡ j
  once i j b c e = (numbering.claims).once walk first 1 i j b c (key-is i b ∙ ap pack e ∙ sym (key-is j c))

  there : (w : List ℕ) → Text r.k w → keys.Reach walk first 1 (pack (mapping_after r w))
  there w t = record { counts = refl; from = 0; below = omega arith; text = w; symbols = symbols_of_lem r.k w t; leads = walks w }

  pub complete : few r → (w : List ℕ) → Text r.k w → (i : ℕ) × (i < length (keys_of r)) × (mapping_at r i ≡ mapping_after r w)
  complete fits w t =
      let h = (numbering.claims).complete walk first 1 (λ m s _ e. e) fits (pack (mapping_after r w)) (there w t) in
      (h.0, h.1, ap unpack h.2 ∙ unpacked (mapping_after r w) (is_value r small w))

  pub cell : few r → (i s : ℕ) → i < length (keys_of r) → s < r.k
      → (next_of walk (keys_of r) i s < length (keys_of r)) × (mapping_at r (next_of walk (keys_of r) i s) ≡ compose (mapping_at r i) (letter r.targets s))
  cell fits i s b c =
      let h = ((numbering.claims).cell walk first 1 fits i s b c).1 refl in
      let t = sound i b in
      let e : compose (mapping_at r i) (letter r.targets s) ≡ mapping_after r (t.0 ++ (s ∷ [])) =
      ap (λ (f : List ℕ). compose f (letter r.targets s)) t.2 ∙ sym (of_one_more r small t.0 s) in
      (h.0, ap unpack (h.1 ∙ ap pack e) ∙ unpacked (mapping_after r (t.0 ++ (s ∷ []))) (is_value r small (t.0 ++ (s ∷ []))) ∙ sym e)

  pub in_order : few r → InOrder r (mapping_at r) (length (keys_of r))
  in_order fits =
      let o = (numbering.claims).in_order walk first 1 (λ m s _ e. e) fits in
      record {
        text = o.text;
        first = λ i b.
            let h = o.origin i b in
            record {
              symbols = text-of h.leads.0;
              is = sym (leads_to (o.text i) h.leads.1);
              no_sooner = λ v t e. h.first_text v (symbols_of_lem r.k v t, leads_from (o.text i) h.leads.1 v e);
            };
        rises = λ i j b c. ⊎_elim (λ z. absurd (omega (arith, (o.origin j c).below, z))) (λ z. z.1) (o.rises i j b c);
      }

  -- ---- more than 512
  -- a text for each number
  record Chosen (i : ℕ) : Type 0 where
    text : List ℕ
    known : i < length (keys_of r) → Text r.k text × (mapping_at r i ≡ mapping_after r text)

  chosen : (i : ℕ) → Chosen i
  chosen i =
      by_test (ltb i (length (keys_of r)))
      (λ t. let w = sound i (ltb-true i (length (keys_of r)) t) in record { text = w.0; known = λ _. (w.1, w.2) })
      (λ t. record { text = []; known = λ b. absurd (omega (arith, ltb-false i (length (keys_of r)) t)) })

  pub over : many r ↔ (text : ℕ → List ℕ) × ((i : ℕ) → i < 513 → Text r.k (text i))
      × ((i j : ℕ) → i < 513 → j < 513 → mapping_after r (text i) ≡ mapping_after r (text j) → i ≡ j)
  over = (
    (λ h. (
      (λ i. (chosen i).text),
      (λ i b. ((chosen i).known (omega arith)).0),
      λ i j b c e.
          once i j (omega arith) (omega arith) (((chosen i).known (omega arith)).1 ∙ e ∙ sym ((chosen j).known (omega arith)).1),
    )),
    λ t.
        let f : ℕ → ℕ = λ i. pack (mapping_after r (t.0 i)) in
        let n : length (list_from 0 513 f) ≡ 513 = length_list_from 0 513 f in
        ((numbering.claims).over walk first 1 (λ m s _ e. e)).1 (
          list_from 0 513 f,
          n,
          (λ i j b c e.
              t.2 i j (omega (arith, n)) (omega (arith, n))
              (pack_same (t.0 i) (t.0 j) (sym (cell_of_lem 513 f i 0 (omega (arith, n))) ∙ e ∙ cell_of_lem 513 f j 0 (omega (arith, n))))),
          λ i b. subst (keys.Reach walk first 1) (sym (cell_of_lem 513 f i 0 b)) (there (t.0 i) (t.1 i b)),
        ),
  )
    where
      pack_same : (v w : List ℕ) → pack (mapping_after r v) ≡ pack (mapping_after r w) → mapping_after r v ≡ mapping_after r w
      pack_same v w e = sym (unpacked (mapping_after r v) (is_value r small v)) ∙ ap unpack e ∙ unpacked (mapping_after r w) (is_value r small w)
