-- A field and what follows it, by the index of the space behind it. Assumes nothing.
--
--   alone      no space follows
--   unsaid     the field says nothing
--   goes_on    it says something: what is made of the rest
--   no_cells   the last field says no cells: the line is malformed
--   many_sets_lem, many_symbols  it says some, and the first number is too great, or the second
--   all_held   neither is: the form
use mathlib.Core.Path.{◌≡◌, refl, sym, ap, ◌∙◌}
use mathlib.Core.Logic.{◌⊎◌, inl, inr}
use mathlib.Core.Bool.{cond, ◌&&◌}
use mathlib.Core.List.{List}
use mathlib.Core.Option.{Option, none, some}
use Prim.Native.Nat.{ℕ, suc, ◌+◌, ◌-◌, ◌≤◌, ◌<◌}
use native.Mathlib.Omega.{arith}
use lib.Dec.{ltb}
use lib.ListN.{length, take, drop, length-drop}
use lib.Seq.{take_all}
use borrow.Author.Tests.{lt-ltb, le-ltb}
use Rattle.base.proofs.Tests.{by_test}
use Rattle.lines.specs.Splitting.{up_to, past}
use Rattle.lines.proofs.Splits.{up_take, past_there, past_none}
use Rattle.forms.specs.declared.Form.{Form}
use Rattle.formmaker.specs.Making.{no_form}
use Rattle.formline.specs.Lines.{field_then, cells_by, Held, says, too_great, malformed, held_of}

nothing_behind : {A : Type 0} (o : Option A) (next : A → List ℕ → Option Form) → field_then o none next ≡ none
nothing_behind none next = refl
nothing_behind (some a) next = refl

module _ {A : Type 0} (parse : List ℕ → Option A) (next : A → List ℕ → Option Form) (w : List ℕ) (space : ℕ)
    (found : space ≡ 0 + length (up_to 32 (drop 0 w))) where
  abbrev all : Held
  all = held_of (field_then (parse (up_to 32 w)) (past 32 w) next)

  pub alone : length w ≤ space → malformed no_form ≡ all
  alone l =
      let z : past 32 w ≡ none = past_none 32 w (omega arith) in
      sym (ap held_of (ap (λ (o : Option (List ℕ)). field_then (parse (up_to 32 w)) o next) z ∙ nothing_behind (parse (up_to 32 w)) next))

  module _ (here : space < length w) where
    part : take space w ≡ up_to 32 w
    part = let e : space ≡ length (up_to 32 w) = omega arith in ap (λ (x : ℕ). take x w) e ∙ sym (up_take 32 w)

    rest : past 32 w ≡ some (drop (space + 1) w)
    rest =
        let e : suc (length (up_to 32 w)) ≡ space + 1 = omega arith in
        past_there 32 w (omega arith) ∙ ap (λ (x : ℕ). some (drop x w)) e

    pub unsaid : none ≡ parse (take space w) → malformed no_form ≡ all
    unsaid is = ap (λ (o : Option A). held_of (field_then o (past 32 w) next)) (is ∙ ap parse part)

    pub goes_on : (a : A) → some a ≡ parse (take space w) → (m : Held) → m ≡ held_of (next a (drop (space + 1) w)) → m ≡ all
    goes_on a is m is-next =
        is-next ∙ sym (ap (λ (o : Option (List ℕ)). held_of (field_then (some a) o next)) rest)
        ∙ ap (λ (o : Option A). held_of (field_then o (past 32 w) next)) (is ∙ ap parse part)

-- ---- the last field, which says o, and the two numbers
module _ (n k : ℕ) (a b : List ℕ) (o : Option (List ℕ)) where
  pub no_cells : none ≡ o → malformed no_form ≡ held_of (cells_by n k a b o)
  no_cells e = ap (λ (o : Option (List ℕ)). held_of (cells_by n k a b o)) e

  module _ (l : List ℕ) (e : some l ≡ o) where
    abbrev both : Held
    both = cond (ltb n 65536 && ltb k 256) (says (record { sets = n; symbols = k; failure = a; kept = b; cells = l })) (too_great no_form)

    held : both ≡ held_of (cells_by n k a b o)
    held = ap (λ (o : Option (List ℕ)). held_of (cells_by n k a b o)) e

    pub many_sets_lem : 65535 < n → too_great no_form ≡ held_of (cells_by n k a b o)
    many_sets_lem h = let z : both ≡ too_great no_form = rw (le-ltb n 65536 (omega arith)) in sym z ∙ held

    pub many_symbols : n ≤ 65535 → 255 < k → too_great no_form ≡ held_of (cells_by n k a b o)
    many_symbols h m =
        let z : both ≡ too_great no_form = rw (lt-ltb n 65536 (omega arith), le-ltb k 256 (omega arith)) in
        sym z ∙ held

    pub all_held : n ≤ 65535 → k ≤ 255
        → says (record { sets = n; symbols = k; failure = a; kept = b; cells = l }) ≡ held_of (cells_by n k a b o)
    all_held h m =
        let z : both ≡ says (record { sets = n; symbols = k; failure = a; kept = b; cells = l }) =
        rw (lt-ltb n 65536 (omega arith), lt-ltb k 256 (omega arith)) in
        sym z ∙ held

pub too_great_lem : (f : Form) → (65535 < f.sets) ⊎ (255 < f.symbols) → held_of (some f) ≡ too_great no_form
too_great_lem f (inl h) = rw (le-ltb f.sets 65536 (omega arith))
too_great_lem f (inr h) =
    by_test (ltb f.sets 65536) (λ t. rw (t, le-ltb f.symbols 256 (omega arith))) (λ t. rw t)

-- a part of a line up to its end
pub to_the_end : (w : List ℕ) (space : ℕ) → take (length w - (space + 1)) (drop (space + 1) w) ≡ drop (space + 1) w
to_the_end w space = take_all (length w - (space + 1)) (drop (space + 1) w) (omega (arith, length-drop (space + 1) w))
