-- A buffer with the beginning of a line, and what must be known of the rest, keep the line, where
-- lines are told apart so. Assumes nothing.
--
--   begun            at first the empty line is kept, whatever a buffer that is large enough has in it
--   keeps_lines      what is kept of a line
--   told_longest     lines of which every one that is too long has the same outcome are told apart so
use mathlib.Core.Path.{◌≡◌, sym, ◌∙◌}
use mathlib.Core.List.{List, [], ◌++◌}
use Prim.Native.Nat.{ℕ, ◌+◌, ◌≤◌, ◌<◌}
use native.Mathlib.Omega.{arith}
use borrow.Author.Tests.{eq-eqb, ne_eqb}
use lib.ListN.{length, length-append}
use Rattle.longlines.specs.Holding.{line_begin}
use Rattle.longlines.specs.Claims.{TellsWithin}
use Rattle.longlines.proofs.Claimed as longlines
use Rattle.linetexts.specs.Beginnings.{Teller, beginning, by_beginning, Told, KeepsLine}
use Rattle.linetexts.specs.Claims.{KeepsLines}

pub begun : {room : ℕ} (line : List ℕ) → room + 1 ≤ length line → KeepsLine room (beginning line_begin line) []
begun line large = record { large = large; keeps = (longlines.claims).begins line }

pub keeps_lines : {J : Type 0} (t : Teller J) → Told t → KeepsLines (by_beginning t) (KeepsLine t.room)
keeps_lines t told = record {
  begins = λ {k} h. begun k.line h.large;
  goes_on = λ {k} {w} h p. record {
    large = omega (arith, h.large, (longlines.claims).same_size k.line k.held p);
    keeps = (longlines.claims).goes_on k.line k.held w p h.keeps;
  };
  nothing = λ {k} h. eq-eqb k.held.length 0 (omega (arith, h.keeps.size));
  something = λ {k} h. ne_eqb k.held.length 0 (λ e. omega (arith, h.keeps.size, h.large));
  means = λ {k} {w} h j. (longlines.claims).means t.room (t.step j) (t.stray j) (told j) k.line k.held w h.large h.keeps;
}

pub told_longest : {A : Type 0} (longest : ℕ) (f : List ℕ → A) (bad : A) → ((w : List ℕ) → longest < length w → f w ≡ bad)
    → TellsWithin (longest + 1) f bad
told_longest longest f bad same = record {
  stray = λ v t long stray. same (v ++ t) (omega (arith, length-append v t));
  hex = λ v t long hex even. same v (omega arith) ∙ sym (same (v ++ t) (omega (arith, length-append v t)));
}
