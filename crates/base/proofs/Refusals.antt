-- Every number of a byte is that of a refusal: of the one with a name that has it, else of the one
-- without a name; looked at for each of the 256. And every refusal with a name has a number that is
-- said to have one; looked at for each of the 34. Assumes nothing.
--
--   names        the refusals with a name
--   with_number  the first of a list with the number, or the one without a name
--   missed       that has another number
use mathlib.Core.Path.{◌≡◌, refl, sym, subst}
use Rattle.std.specs.Prelude.{◌≢◌}
use mathlib.Core.Logic.{◌⊎◌, inl, inr}
use mathlib.Core.Bool.{Bool, true, false, cond, not}
use mathlib.Core.List.{List, [], ◌∷◌}
use Prim.Native.Nat.{ℕ, ◌<◌}
use lib.Dec.{eqb}
use borrow.Author.Tests.{eqb-true}
use Rattle.base.specs.declared.Refusal.{Refusal}
use Rattle.base.specs.declared.Refusal.TheVariants.{TooShort, TooLong, StateCount, SymbolCount, CutPairs, StrayState, BadPairs, BadArcs, TooManySets, PlaceCount, NoPlace, LongChunk, ForeignByte, NoRule, NoBoard, NotDue, EmptyPlace, LongPattern, NoPattern, TooManyLetters, TooManyStates, TooManyMappings, TooManyReached, OtherSymbols, TooManyMerged, Width, NotRows, NoForm, NoSeed, BrokenSummary, OtherRule, MissingEnd, TooManyPairs, NotSaved, Other}
use Rattle.base.specs.Answers.{is_named, refusal_number}
use Rattle.base.specs.Conditions.{any_below}
use Rattle.base.proofs.Tests.{not_both}
use Rattle.base.proofs.Conditions.{none_at}

names : List Refusal
names =
    TooShort ∷ TooLong ∷ StateCount ∷ SymbolCount ∷ CutPairs ∷ StrayState ∷ BadPairs ∷ BadArcs ∷ TooManySets ∷ PlaceCount ∷ NoPlace
    ∷ LongChunk ∷ ForeignByte ∷ NoRule ∷ NoBoard ∷ NotDue ∷ EmptyPlace ∷ LongPattern ∷ NoPattern ∷ TooManyLetters ∷ TooManyStates
    ∷ TooManyMappings ∷ TooManyReached ∷ OtherSymbols ∷ TooManyMerged ∷ Width ∷ NotRows ∷ NoForm ∷ NoSeed ∷ BrokenSummary ∷ OtherRule
    ∷ MissingEnd ∷ TooManyPairs ∷ NotSaved ∷ []

with_number : List Refusal → ℕ → Refusal
with_number [] n = Other n
with_number (r ∷ rs) n = cond (eqb (refusal_number r) n) r (with_number rs n)

abbrev missed : ℕ → Bool
missed n = not (eqb (refusal_number (with_number names n)) n)

none_missed : any_below missed 256 ≡ false
unfolding any_below with_number names
none_missed = refl

hit : (b : Bool) → not b ≡ false → b ≡ true
hit true e = refl
hit false e = sym e

pub any_number : (n : ℕ) → n < 256 → (r : Refusal) × (refusal_number r ≡ n)
any_number n l = (with_number names n, eqb-true (refusal_number (with_number names n)) n (hit (eqb (refusal_number (with_number names n)) n) (none_at missed 256 n none_missed l)))

pub named_or_other : (r : Refusal) → (is_named (refusal_number r) ≡ true) ⊎ ((n : ℕ) × (r ≡ Other n))
named_or_other TooShort = inl refl
named_or_other TooLong = inl refl
named_or_other StateCount = inl refl
named_or_other SymbolCount = inl refl
named_or_other CutPairs = inl refl
named_or_other StrayState = inl refl
named_or_other BadPairs = inl refl
named_or_other BadArcs = inl refl
named_or_other TooManySets = inl refl
named_or_other PlaceCount = inl refl
named_or_other NoPlace = inl refl
named_or_other LongChunk = inl refl
named_or_other ForeignByte = inl refl
named_or_other NoRule = inl refl
named_or_other NoBoard = inl refl
named_or_other NotDue = inl refl
named_or_other EmptyPlace = inl refl
named_or_other LongPattern = inl refl
named_or_other NoPattern = inl refl
named_or_other TooManyLetters = inl refl
named_or_other TooManyStates = inl refl
named_or_other TooManyMappings = inl refl
named_or_other TooManyReached = inl refl
named_or_other OtherSymbols = inl refl
named_or_other TooManyMerged = inl refl
named_or_other Width = inl refl
named_or_other NotRows = inl refl
named_or_other NoForm = inl refl
named_or_other NoSeed = inl refl
named_or_other BrokenSummary = inl refl
named_or_other OtherRule = inl refl
named_or_other MissingEnd = inl refl
named_or_other TooManyPairs = inl refl
named_or_other NotSaved = inl refl
named_or_other (Other n) = inr (n, refl)

unnamed : (b : Bool) (n m : ℕ) → is_named n ≡ b → is_named m ≡ true → cond b 0 n ≢ m
unnamed true n m e named = λ z. not_both (subst (λ (x : ℕ). is_named x ≡ true) (sym z) named) refl
unnamed false n m e named = λ z. not_both named (subst (λ (x : ℕ). is_named x ≡ false) z e)

pub name_alone : (n m : ℕ) → is_named m ≡ true → refusal_number (Other n) ≢ m
name_alone n m named = unnamed (is_named n) n m refl named
