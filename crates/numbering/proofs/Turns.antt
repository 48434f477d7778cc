-- The loops that number keys, turn by turn and way out by way out, over plain lists: what is left
-- to do comes to the same list after each turn, and the arrays hold the keys so far. Assumes that a
-- step of a key that is not left out goes to a cell of the key's own row (`column`), and nothing
-- else.
--
--   turn_whole                key i is expanded by the next symbol
--   row_done, row_over        all its symbols are passed, or the 513th key turns up
--   row_more                  the whole goes on from each turn
--   grown_whole, grown_over   the ways out of the expansion
--   grown_read                the keys are read off the array again
--   begin                     nothing is numbered yet
--   seed-..                   a key is numbered, and the keys from there on are expanded
use mathlib.Core.Path.{◌≡◌, sym, ap, ◌∙◌, subst}
use mathlib.Core.Bool.{false}
use mathlib.Core.List.{List, []}
use mathlib.Core.Option.{Option, none, some}
use Prim.Native.Nat.{ℕ, ◌+◌, ◌-◌, ◌*◌, ◌≤◌, ◌<◌, min}
use native.Mathlib.Omega.{arith}
use lib.ListN.{length, get_or, take}
use borrow.Author.Tests.{le-ltb}
use Rattle.base.proofs.Lists.{length_list_from, cell_of_lem}
use Rattle.numbering.specs.Numbering.{Walk, index_of, numbered, expand_from, close_from}
use Rattle.numbering.specs.mirror.Begins.{Begins}
use Rattle.numbering.specs.mirror.Arrays.{target, after_step, Entered, Stepped, Cleared, ArraysHold, Grown, Expanded, grown_by, Added}
use Rattle.numbering.proofs.Numbers.{begins_trans, begins_length, begins_at, numbered_begins}
use Rattle.numbering.proofs.Closure.{expand_begins, close_begins, symbols_more, symbols_end, keys_more}
use Rattle.numbering.proofs.Arrays.{count-is, read_back, limited_whole, limited_over, whole_of, over_of, entered_any, entered_as, entered_over}
use Rattle.numbering.proofs.Table.{step_holds, holds_more}

-- the keys l after key i is expanded from symbol s on
abbrev pub expanded : Walk → ℕ → ℕ → List ℕ → List ℕ
expanded a i s l = expand_from a (get_or l i 0) s (a.k - s) l

module _ (a : Walk) (free : ℕ) where
  -- ---- a step within key i, at symbol s
  module _ (l : List ℕ) (i s : ℕ) (below : i < length l) (symbol : s < a.k) where
    abbrev after : List ℕ
    after = after_step a.step a.skips l i s

    grows : Begins l after
    grows = numbered_begins a.skips l (target a.step a.skips l i s)

    step_expanded : expanded a i s l ≡ expanded a i (s + 1) after
    step_expanded =
        symbols_more a (get_or l i 0) s l symbol ∙ ap (λ (x : ℕ). expand_from a x (s + 1) (a.k - (s + 1)) after) (sym (begins_at grows i below))

    step_begins : Begins after (expanded a i s l)
    step_begins = subst (Begins after) (sym step_expanded) (expand_begins a (get_or after i 0) (s + 1) (a.k - (s + 1)) after)

    module _ {r : Option ℕ} {keys' next next' : List ℕ} (st : Stepped a.step a.skips l i s r keys' next next') where
      module _ (column : a.skips (target a.step a.skips l i s) ≡ false → s < 16) {keys : List ℕ}
          (h : ArraysHold a free l (i * 16 + min s 16) keys next) (c : ℕ) (whole : r ≡ some c) where
        fits : (length after ≤ 512) × (c ≡ length after)
        fits = whole_of after c (sym whole ∙ st.count)

        read : take c keys' ≡ after
        read = read_back after keys' c fits.0 fits.1 st.keys_are

        pub turn_whole : (c ≤ 512) × (i < c) × ArraysHold a free (take c keys') (i * 16 + min (s + 1) 16) keys' next'
            × (expanded a i s l ≡ expanded a i (s + 1) (take c keys'))
        turn_whole = (
          omega (arith, fits),
          omega (arith, fits, begins_length grows),
          rw read (step_holds a free l i s below symbol column h st fits.0),
          step_expanded ∙ ap (expanded a i (s + 1)) (sym read),
        )

  -- ---- the turns of key i, which began with the keys l₀ and come to l at symbol s
  module _ (top i s : ℕ) (l₀ l : List ℕ) (first : i < length l₀) (left : i < top) (so_far : expanded a i 0 l₀ ≡ expanded a i s l) where
    row_rest : close_from a (top - i) i l₀ ≡ close_from a (top - (i + 1)) (i + 1) (expanded a i s l)
    row_rest = keys_more a top i l₀ first left ∙ ap (close_from a (top - (i + 1)) (i + 1)) so_far

    -- all symbols are passed
    pub row_done : a.k ≤ s → close_from a (top - i) i l₀ ≡ close_from a (top - (i + 1)) (i + 1) l
    row_done h = row_rest ∙ ap (close_from a (top - (i + 1)) (i + 1)) (symbols_end a (get_or l i 0) s l h)

    -- the whole goes on from each turn
    pub row_more : i < length l → s < a.k → Begins (after_step a.step a.skips l i s) (close_from a (top - i) i l₀)
    row_more below symbol =
        rw row_rest (begins_trans (step_begins l i s below symbol) (close_begins a (top - (i + 1)) (i + 1) (expanded a i s l)))

    -- the 513th key turns up
    pub row_over : i < length l → s < a.k → {r : Option ℕ} {keys' next next' : List ℕ} → Stepped a.step a.skips l i s r keys' next next' → r ≡ none
        → 512 < length (close_from a (top - i) i l₀)
    row_over below symbol st over =
        omega (arith, over_of (after_step a.step a.skips l i s) (sym over ∙ st.count), begins_length (row_more below symbol))

  -- ---- the ways out
  pub grown_whole : (f keys next : List ℕ) (count : ℕ) → count ≤ 512 → f ≡ take count keys → ArraysHold a free (take count keys) (count * 16) keys next
      → Grown a free f (some count) keys next
  grown_whole f keys next count most e h =
      let n : length f ≡ count = ap length e ∙ count-is keys count most h.keys_are in
      record {
        count = ap some (sym n) ∙ limited_whole f (omega arith);
        held = λ _. rw (n, e) h;
      }

  pub grown_over : (f keys next : List ℕ) → 512 < length f → Grown a free f none keys next
  grown_over f keys next b = record { count = limited_over f b; held = λ h. absurd (omega arith) }

  pub grown_read : {f keys next : List ℕ} (c : ℕ) → Grown a free f (some c) keys next
      → (c ≤ 512) × (take c keys ≡ f) × ArraysHold a free (take c keys) (c * 16) keys next
  grown_read {f} {keys} {next} c g =
      let x = whole_of f c g.count in
      let read : take c keys ≡ f = read_back f keys c x.0 x.1 (g.held x.0).keys_are in
      (omega arith, read, rw (read, x.1) (g.held x.0))

  -- ---- nothing is numbered yet
  pub begin : (keys next : List ℕ) → Cleared free keys next → ArraysHold a free [] 0 keys next
  begin keys next h = record {
    keys_are = h.keys_are;
    next_long = ap length h.next_are ∙ length_list_from 0 8192 (λ _. free);
    cells = λ f g c b.
        ap (λ (x : List ℕ). get_or x c 0) h.next_are
        ∙ cell_of_lem 8192 (λ _. free) c 0 b
        ∙ rw (le-ltb c 0 (omega arith));
  }

  -- ---- the turn of a key m that is not left out, with the keys l
  module _ (keys next : List ℕ) (count m : ℕ) (most : count ≤ 512) (h : ArraysHold a free (take count keys) (count * 16) keys next) (kept : a.skips m ≡ false)
      (r : Option (ℕ × ℕ)) (keys' : List ℕ) (entered : Entered (λ _. false) (take count keys) m r keys') where
    abbrev l : List ℕ
    l = take count keys

    l_is : length l ≡ count
    l_is = count-is keys count most h.keys_are

    turn : Entered a.skips l m r keys'
    turn = entered_any (λ _. false) a.skips l m (sym kept) entered

    more : Begins l (numbered a.skips l m)
    more = numbered_begins a.skips l m

    module _ (j c : ℕ) (known : r ≡ some (j, c)) where
      told : (length (numbered a.skips l m) ≤ 512) × (j ≡ index_of (numbered a.skips l m) m) × (c ≡ length (numbered a.skips l m))
      told = entered_as a.skips l m j c (sym known ∙ turn.number)

      seed_read : take c keys' ≡ numbered a.skips l m
      seed_read = read_back (numbered a.skips l m) keys' c told.0 told.2 turn.keys_are

      pub seed_asked : (c ≤ 512) × (count ≤ c) × ArraysHold a free (take c keys') (count * 16) keys' next
      seed_asked = (
        omega (arith, told),
        omega (arith, told, l_is, begins_length more),
        rw seed_read (holds_more a free h (numbered a.skips l m) keys' more turn.keys_are),
      )

      pub seed_added : {r₂ : Option ℕ} {keys₂ next₂ : List ℕ} → Expanded a free (close_from a 512 count (take c keys')) r₂ keys₂ next₂ → Added a free l m r₂ keys₂ next₂
      seed_added {r₂} {keys₂} {next₂} x =
          let e : close_from a 512 count (take c keys') ≡ grown_by a free l m =
          ap (close_from a 512 count) seed_read ∙ ap (λ (y : ℕ). close_from a 512 y (numbered a.skips l m)) (sym l_is) in
          let y : Expanded a free (grown_by a free l m) r₂ keys₂ next₂ = subst (λ (f : List ℕ). Expanded a free f r₂ keys₂ next₂) e x in
          record { grown = y.grown; stopped = λ _. y.stopped }

    pub seed_over : (next₂ : List ℕ) → r ≡ none → Added a free l m none keys' next₂
    seed_over next₂ e =
        let o = entered_over a.skips l m (sym e ∙ turn.number) in
        record {
          grown = grown_over (grown_by a free l m) keys' next₂ (omega (arith, begins_length (close_begins a 512 (length l) (numbered a.skips l m))));
          stopped = λ few _. absurd (omega (arith, o));
        }
