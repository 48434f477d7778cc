-- The three ways to make one rule of two (document 02, R-10), on automata: the automaton of each
-- way, and the texts that it is to accept.
--
--   merged_by way a b  the automaton: pairs that move together, the states of both, or pairs of
--                      which one member moves alone
--   Merges way a b w   the text w is one that both accept, one that either accepts, or an
--                      interleaving of one from each
--   MadeBy way a b c   c is made of a and b so, in the request's words (products/specs/Words.antt)
--   Same a b           two automata with the same states, symbols, arcs, initial and final states
use Rattle.std.specs.Prelude.{◌≡◌, ◌↔◌, ◌⊎◌, List, ℕ}
use Rattle.automaton.specs.Automaton.{Automaton, Arc, Accepts}
use Rattle.products.specs.Products.{together, alone, product, sum}
use Rattle.products.specs.Words.{InPairs, SideBySide}
use Rattle.products.specs.Claims.{Interleaved}
use Rattle.merging.specs.declared.Way.{Way}
use Rattle.merging.specs.declared.Way.TheVariants.{Both, Either, Interleaving}

abbrev pub merged_by : Way → Automaton → Automaton → Automaton
merged_by Both a b = product together a b
merged_by Either a b = sum a b
merged_by Interleaving a b = product alone a b

abbrev pub Merges : Way → Automaton → Automaton → List ℕ → Type 0
Merges Both a b w = Accepts a w × Accepts b w
Merges Either a b w = Accepts a w ⊎ Accepts b w
Merges Interleaving a b w = Interleaved a b w

abbrev pub MadeBy : Way → Automaton → Automaton → Automaton → Type 0
MadeBy Both a b c = InPairs together a b c
MadeBy Either a b c = SideBySide a b c
MadeBy Interleaving a b c = InPairs alone a b c

pub record Same (a b : Automaton) : Type 0 where
  pub states : a.n ≡ b.n
  pub symbols : a.k ≡ b.k
  pub arcs : (q s p : ℕ) → Arc a q s p ↔ Arc b q s p
  pub initials : (q : ℕ) → a.Initial q ↔ b.Initial q
  pub finals : (q : ℕ) → a.Final q ↔ b.Final q
