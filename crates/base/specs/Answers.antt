-- The answer of a call that may be refused, and the number of each refusal (docs/REFUSALS.md).
--
--   is_named n        a refusal with a name has the number n
--   refusal_number r  the number of a refusal, as the papers give it; of one without a name its own
--   result_number a   the number of the refusal, or none where the call is accepted
use Rattle.std.proofs.Math.Option.{Option, none, some}
use Rattle.std.specs.Prelude.{Bool, cond, Result, Ok, Err, ℕ, ltb, leb, ◌&&◌}
use Rattle.base.specs.declared.Refusal.{Refusal}
use Rattle.base.specs.declared.Refusal.TheVariants.{TooShort, TooLong, StateCount, SymbolCount, CutPairs, StrayState, BadPairs, BadArcs, TooManySets, PlaceCount, NoPlace, LongChunk, ForeignByte, NoRule, NoBoard, NotDue, EmptyPlace, LongPattern, NoPattern, TooManyLetters, TooManyStates, TooManyMappings, TooManyReached, OtherSymbols, TooManyMerged, Width, NotRows, NoForm, NoSeed, BrokenSummary, OtherRule, MissingEnd, TooManyPairs, NotSaved, Other}

abbrev pub is_named : ℕ → Bool
is_named n = cond (ltb n 20) (leb 1 n && leb n 13) (cond (ltb n 30) (leb n 23) (leb n 46))

abbrev pub refusal_number : Refusal → ℕ
refusal_number TooShort = 1
refusal_number TooLong = 2
refusal_number StateCount = 3
refusal_number SymbolCount = 4
refusal_number CutPairs = 5
refusal_number StrayState = 6
refusal_number BadPairs = 7
refusal_number BadArcs = 8
refusal_number TooManySets = 9
refusal_number PlaceCount = 10
refusal_number NoPlace = 11
refusal_number LongChunk = 12
refusal_number ForeignByte = 13
refusal_number NoRule = 20
refusal_number NoBoard = 21
refusal_number NotDue = 22
refusal_number EmptyPlace = 23
refusal_number LongPattern = 30
refusal_number NoPattern = 31
refusal_number TooManyLetters = 32
refusal_number TooManyStates = 33
refusal_number TooManyMappings = 34
refusal_number TooManyReached = 35
refusal_number OtherSymbols = 36
refusal_number TooManyMerged = 37
refusal_number Width = 38
refusal_number NotRows = 39
refusal_number NoForm = 40
refusal_number NoSeed = 41
refusal_number BrokenSummary = 42
refusal_number OtherRule = 43
refusal_number MissingEnd = 44
refusal_number TooManyPairs = 45
refusal_number NotSaved = 46
refusal_number (Other n) = cond (is_named n) 0 n

abbrev pub result_number : {T : Type 0} → Result T Refusal → Option ℕ
result_number (Ok value) = none
result_number (Err refusal) = some (refusal_number refusal)
