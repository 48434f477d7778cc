-- A line of `rulemerge`, read byte by byte.
--
--   Seen             what of a line has been read: nothing; a part of a word, with the
--                    byte that is to come and those behind it; the word and a part of the first field; the bytes
--                    that this field says and a part of the second; or no line begins so
--   seen_with s c    what has been read with the byte c more
--   seen_by s w      with the bytes w more
--   means_now s      what the line means if it ends here
use Rattle.std.specs.Prelude.{cond, List, [], ◌∷◌, ℕ, eqb, drop}
use Rattle.std.proofs.Math.Option.{Option, none, some}
use Rattle.hexfields.specs.Fields.{Begun, nothing, goes_on, says_now}
use Rattle.merging.specs.declared.Way.TheVariants.{Both, Either, Interleaving}
use Rattle.mergetext.specs.declared.Verb.{Verb}
use Rattle.mergetext.specs.declared.Verb.TheVariants.{Merge, Compare, Reduce}
use Rattle.mergetext.specs.Lines.{verb_word, Meaning, malformed, second_by, first_by}

pub data Seen : Type 0 where
  start : Seen
  in_word : Verb → ℕ → List ℕ → Seen
  in_first : Verb → Begun → Seen
  in_second : Verb → List ℕ → Begun → Seen
  stray : Seen

-- the first byte tells the word: b, e, i, c or r
abbrev pub first_byte : ℕ → Seen
first_byte c =
    cond (eqb c 98) (in_word (Merge Both) 111 (drop 2 (verb_word (Merge Both))))
    (cond (eqb c 101) (in_word (Merge Either) 105 (drop 2 (verb_word (Merge Either))))
    (cond (eqb c 105) (in_word (Merge Interleaving) 110 (drop 2 (verb_word (Merge Interleaving))))
    (cond (eqb c 99) (in_word Compare 111 (drop 2 (verb_word Compare)))
    (cond (eqb c 114) (in_word Reduce 101 (drop 2 (verb_word Reduce))) stray))))

-- behind the word's last byte, its space, the first field begins
abbrev pub word_goes_on : Verb → List ℕ → Seen
word_goes_on verb [] = in_first verb nothing
word_goes_on verb (x ∷ rest) = in_word verb x rest

-- a space ends the first field
abbrev pub after_first : Verb → Option (List ℕ) → Seen
after_first verb none = stray
after_first verb (some f) = in_second verb f nothing

abbrev pub seen_with : Seen → ℕ → Seen
seen_with start c = first_byte c
seen_with (in_word verb x rest) c = cond (eqb c x) (word_goes_on verb rest) stray
seen_with (in_first verb b) c = cond (eqb c 32) (after_first verb (says_now b)) (in_first verb (goes_on b c))
seen_with (in_second verb f b) c = in_second verb f (goes_on b c)
seen_with stray c = stray

abbrev pub seen_by : Seen → List ℕ → Seen
seen_by s [] = s
seen_by s (c ∷ w) = seen_by (seen_with s c) w

abbrev pub means_now : Seen → Meaning
means_now start = malformed
means_now (in_word verb x rest) = malformed
means_now (in_first verb b) = first_by verb (says_now b) none
means_now (in_second verb f b) = second_by verb f (says_now b)
means_now stray = malformed
