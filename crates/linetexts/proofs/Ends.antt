-- For functions that answer lines, and for a program that reads and writes. Assumes nothing.
--
--   came                          what came of a line, from the state that it left
--   none_finished, last_finished  the end of the text
--   none_written, last_written    the same where the beginning of a line is held
--   room_prefix                   a part of a block has its length
use mathlib.Core.Path.{◌≡◌, refl, sym, ap, ◌∙◌}
use mathlib.Core.Bool.{Bool, true, false}
use mathlib.Core.List.{List}
use Prim.Native.Nat.{ℕ, ◌≤◌}
use borrow.Author.Tests.{eq-eqb, ne_eqb}
use lib.ListN.{length, take}
use lib.Seq.{length-take-le}
use Rattle.text.specs.Writing.{Wrote}
use Rattle.text.proofs.Pieces.{wrote_none}
use Rattle.longlines.specs.declared.Held.{Held}
use Rattle.linetexts.specs.Feeding.{LineMachine, keeping, answer_kept, finish_of}
use Rattle.linetexts.specs.Beginnings.{Beginning, beginning, Teller, state_of, by_beginning, held_step}

-- b is what a function answered that tests whether nothing of a line is kept
module _ {K J : Type 0} (m : LineMachine K J) (j : J) (k : K) (b : Bool) (is : b ≡ m.empty k) where
  pub none_finished : b ≡ true → (out : List ℕ) → Wrote out 0 (finish_of m (keeping j k)).text out 0
  none_finished e out = rw (sym is ∙ e) (wrote_none out 0)

  pub last_finished : b ≡ false → (before after : List ℕ) (end : ℕ) → Wrote before 0 (m.kept j k).text after end
      → Wrote before 0 (finish_of m (keeping j k)).text after end
  unfolding answer_kept
  last_finished e before after end wrote = rw (sym is ∙ e) wrote

module _ {J : Type 0} where
  pub came : (m : LineMachine Beginning J) (j j' : J) (line : List ℕ) (held : Held) → j' ≡ (held_step m j line held).state
      → held_step m j line held ≡ record { text = (held_step m j line held).text; state = j' }
  came m j j' line held is = ap (λ (x : J). record { text = (held_step m j line held).text; state = x }) (sym is)

  module _ (t : Teller J) (j : J) (held : Held) (line : List ℕ) where
    pub none_written : held.length ≡ 0 → (out : List ℕ) → Wrote out 0 (finish_of (by_beginning t) (state_of j held line)).text out 0
    none_written e out = none_finished (by_beginning t) j (beginning held line) true (sym (eq-eqb held.length 0 e)) refl out

    pub last_written : (held.length ≡ 0 → ⊥) → (b a : List ℕ) (end : ℕ) → Wrote b 0 (held_step (by_beginning t) j line held).text a end
        → Wrote b 0 (finish_of (by_beginning t) (state_of j held line)).text a end
    last_written e = last_finished (by_beginning t) j (beginning held line) false (sym (ne_eqb held.length 0 e)) refl

pub room_prefix : (n : ℕ) (out : List ℕ) → n ≤ length out → n ≡ length (take n out)
room_prefix n out h = sym (length-take-le n out h)
