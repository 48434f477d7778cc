-- A search for a text over any walk from one key that leaves no key out: the text on the way back
-- from the first key that meets a test is the first whose key meets it; where no key does, there is
-- no such text. Of more than 512 keys the first 512 are searched: a text that leads to another key
-- is later than those over which they were found. Assumes at most 16 symbols where it is said.
--
--   Hit, FirstHit   a text that leads to a key with the test; the first of all such
--   ManyKeys, many  513 texts lead to keys of which no two are the same, and none of them is later
--                   than a hit: there are more than 512 keys, and none of the first 512 has the test
--   first_hit, no_hit, short_hit   what the search finds, that it misses nothing, and its length
use mathlib.Core.Path.{◌≡◌, sym, ap, ◌∙◌}
use mathlib.Core.Logic.{◌↔◌, ⊎_elim}
use mathlib.Core.Bool.{Bool, true, false}
use mathlib.Core.List.{List, []}
use Prim.Native.Nat.{ℕ, ◌≤◌, ◌<◌}
use native.Mathlib.Omega.{arith}
use lib.Dec.{ltb}
use lib.ListN.{length, get_or}
use borrow.Author.Tests.{ltb-true, ltb-false}
use Rattle.base.proofs.Tests.{by_test, not_both}
use Rattle.numbering.specs.Numbering.{Walk, index_of, keys_up_to}
use Rattle.numbering.specs.Texts.{follow, Symbols, NoLater}
use Rattle.numbering.proofs.Texts.{no_later_trans}
use Rattle.numbering.proofs.Numbers.{first-at, number_at}
use Rattle.numbering.proofs.Pigeonhole.{pigeonhole}
use Rattle.numbering.proofs.Reached.{once}
use Rattle.numbering.proofs.OneSeed.{settled_one}
use Rattle.numbering.proofs.Found.{up_to_found}
use Rattle.numbering.proofs.Order as order
use Rattle.keys.specs.Tables.{cells_to}
use Rattle.searches.specs.Search.{word_to}
use Rattle.searches.proofs.Order.{not_after_all}
use Rattle.searches.proofs.WayBack.{Word, word_of}

module _ (a : Walk) (m : ℕ) where
  abbrev pub keys : List ℕ
  keys = keys_up_to a (λ _. m) 1

  abbrev key : ℕ → ℕ
  key j = get_or keys j 0

  abbrev Came : ℕ → ℕ → List ℕ → Type 0
  Came j q w = order.Came a (λ _. m) 1 j q w

  pub record Hit (t : ℕ → Bool) (w : List ℕ) : Type 0 where
    pub symbols : Symbols a.k w
    pub meets : t (follow a m w) ≡ true

  pub record FirstHit (t : ℕ → Bool) (w : List ℕ) : Type 0 where
    pub hit : Hit t w
    pub no_sooner : (v : List ℕ) → Hit t v → NoLater w v

  pub record ManyKeys (t : ℕ → Bool) : Type 0 where
    pub text : ℕ → List ℕ
    pub symbols : (i : ℕ) → i < 513 → Symbols a.k (text i)
    pub distinct : (i j : ℕ) → i < 513 → j < 513 → follow a m (text i) ≡ follow a m (text j) → i ≡ j
    pub sooner : (i : ℕ) → i < 513 → (v : List ℕ) → Hit t v → NoLater (text i) v

  module _ (kept : (x : ℕ) → a.skips x ≡ false) where
    sinks : (x s : ℕ) → s < a.k → a.skips x ≡ true → a.skips (a.step x s) ≡ true
    sinks x s b e = not_both e (kept x)

    -- a key that was found no later than over the text: the one to which this leads, or one past
    -- the first 512
    ends : (v : List ℕ) → Symbols a.k v → order.Ends a (λ _. m) 1 (follow a m v) 0 v
    ends v t = order.ends a (λ _. m) 1 sinks (settled_one a m) 0 v (omega arith) t (kept (follow a m v))

    -- there is one seed
    from_one : {q : ℕ} {w v : List ℕ} → order.NotAfter q w 0 v → NoLater w v
    from_one h = ⊎_elim (λ z. absurd (omega arith)) (λ z. z.1) h

    -- ---- no hit is before the keys that are passed
    module _ (t : ℕ → Bool) where
      not_passed : (j : ℕ) → j ≤ 512 → ((i : ℕ) → i < j → t (key i) ≡ false) → (v : List ℕ) (h : Hit t v) → j ≤ (ends v h.symbols).number
      not_passed j top before v h =
          let o = ends v h.symbols in
          by_test (ltb o.number j)
          (λ x.
          let low = ltb-true o.number j x in
          ⊎_elim (λ e. not_both (ap t e ∙ h.meets) (before o.number low)) (λ z. absurd (omega arith)) o.is)
          (ltb-false o.number j)

      no_later : {j q : ℕ} {w : List ℕ} → j ≤ 512 → Came j q w → ((i : ℕ) → i < j → t (key i) ≡ false) → (v : List ℕ) → Hit t v → NoLater w v
      no_later {j} {q} {w} top came before v h =
          let o = ends v h.symbols in
          from_one
          (order.not_after_trans q o.from 0 w o.text v
          (order.no_lower a (λ _. m) 1 (not_passed j top before v h) o.below came o.came)
          o.not_after)

      -- ---- more than 512 keys
      -- a text for each number
      record Chosen (i : ℕ) : Type 0 where
        word : List ℕ
        from : ℕ
        came : i < length keys → Came i from word

      chosen : (i : ℕ) → Chosen i
      chosen i =
          by_test (ltb i (length keys))
          (λ x.
          let o = up_to_found a (λ _. m) 1 (settled_one a m) i (ltb-true i (length keys) x) in
          record { word = o.1; from = o.0; came = λ _. o.3 })
          (λ x. record { word = []; from = 0; came = λ b. absurd (omega (arith, ltb-false i (length keys) x)) })

      -- 513 texts do not all lead to the first 512 keys
      crowded : (h : ManyKeys t) → ((i : ℕ) (b : i < 513) → (ends (h.text i) (h.symbols i b)).number < 512) → ⊥
      crowded h low =
          let led : ℕ → ℕ = λ i. follow a m (h.text i) in
          let numbered : (i : ℕ) → i < 513 → (index_of keys (led i) < 512) × (index_of keys (led i) < length keys) =
          λ i b.
          let o = ends (h.text i) (h.symbols i b) in
          let e : key o.number ≡ led i = ⊎_elim (λ z. z) (λ z. absurd (omega (arith, low i b))) o.is in
          let f = first-at keys (led i) o.number o.below e in
          (omega (arith, low i b), omega (arith, o.below)) in
          omega (
            arith,
            pigeonhole 512 513 (λ i. index_of keys (led i)) (λ i b. (numbered i b).0)
                (λ i j b c e.
                h.distinct i j b c
                (sym (number_at keys (led i) (numbered i b).1) ∙ ap key e ∙ number_at keys (led j) (numbered j c).1)),
          )

      pub many : ((512 < length keys) × ((i : ℕ) → i < 512 → t (key i) ≡ false)) ↔ ManyKeys t
      many = (
        (λ h.
            let came : (i : ℕ) → i < 513 → Came i (chosen i).from (chosen i).word = λ i b. (chosen i).came (omega (arith, h.0)) in
            record {
              text = λ i. (chosen i).word;
              symbols = λ i b. order.came_symbols a (λ _. m) 1 (came i b);
              distinct = λ i j b c e.
                  once a (λ _. m) 1 i j (omega (arith, h.0)) (omega (arith, h.0))
                  (sym (order.came_leads a (λ _. m) 1 (came i b)) ∙ e ∙ order.came_leads a (λ _. m) 1 (came j c));
              sooner = λ i b v hit. no_later (omega arith) (came i b) (λ x low. h.1 x (omega arith)) v hit;
            }),
        λ h. (
          by_test (ltb 512 (length keys)) (ltb-true 512 (length keys))
              (λ x.
              absurd
              (crowded h
              (λ i b. omega (arith, (ends (h.text i) (h.symbols i b)).below, ltb-false 512 (length keys) x)))),
          λ x low.
              by_test (t (key x))
              (λ meets.
              absurd
              (crowded h
              (λ i b.
              let o = ends (h.text i) (h.symbols i b) in
              by_test (ltb x o.number)
              (λ y.
              let late = ltb-true x o.number y in
              let c = (chosen x).came (omega (arith, o.below)) in
              let hit : Hit t (chosen x).word = record {
                symbols = order.came_symbols a (λ _. m) 1 c;
                meets = ap t (order.came_leads a (λ _. m) 1 c) ∙ meets;
              } in
              absurd
              (⊎_elim
              (λ z. ⊎_elim (λ u. omega arith) (λ u. omega (arith, u.0)) o.not_after)
              (λ z. not_after_all z.1 (no_later_trans (from_one o.not_after) (h.sooner i b (chosen x).word hit)))
              (order.rises a (λ _. m) 1 late o.below c o.came)))
              (λ y. omega (arith, ltb-false x o.number y)))))
              (λ f. f),
        ),
      )

      pub no_hit : length keys ≤ 512 → ((i : ℕ) → i < length keys → t (key i) ≡ false) → (v : List ℕ) → Hit t v → ⊥
      no_hit most none v h =
          let o = ends v h.symbols in
          omega (arith, o.below, not_passed (length keys) most none v h)

    -- ---- the texts on the ways back
    module _ (columns : a.k ≤ 16) where
      abbrev pub text_to : ℕ → List ℕ
      text_to j = word_to (cells_to a keys) j

      module _ (j : ℕ) (b : j < length keys) (small : j < 512) where
        word : Word a m columns kept j
        word = word_of a m columns kept j b small

        pub leads_to : follow a m (text_to j) ≡ key j
        leads_to = order.came_leads a (λ _. m) 1 word.came

        pub short_hit : length (text_to j) ≤ 511
        short_hit = omega (arith, word.short)

        pub first_hit : (t : ℕ → Bool) → t (key j) ≡ true → ((i : ℕ) → i < j → t (key i) ≡ false) → FirstHit t (text_to j)
        first_hit t meets-it before = record {
          hit = record { symbols = order.came_symbols a (λ _. m) 1 word.came; meets = ap t leads_to ∙ meets-it };
          no_sooner = no_later t (omega arith) word.came before;
        }
