-- Every text of lines of `rulemerge` is answered right, however it is cut into blocks and however far
-- each round goes. Assumes nothing.
--
--   begun       at first the empty line is kept, whatever buffers that are large enough have in them
--   answers     all that is written are the answers to the lines
use mathlib.Core.Path.{◌≡◌, refl, ap, ◌∙◌}
use mathlib.Core.Bool.{Bool, true, false, cond}
use mathlib.Core.List.{List, [], ◌∷◌}
use mathlib.Core.Option.{Option, none, some}
use Prim.Native.Nat.{ℕ, ◌<◌}
use native.Mathlib.Omega.{arith}
use lib.Dec.{eqb}
use lib.ListN.{length}
use Rattle.limits.specs.Limits.{longest_file}
use Rattle.linetexts.specs.Claims.{KeepsLines}
use Rattle.linetexts.specs.Alone.{Answers}
use Rattle.linetexts.proofs.Alone.{answered}
use Rattle.hexfields.specs.Fields.{says_now}
use Rattle.mergetext.specs.declared.Verb.{Verb}
use Rattle.mergetext.specs.Answers.{Response, response_text}
use Rattle.mergescan.specs.declared.Scan.{Scan}
use Rattle.mergescan.specs.declared.Scan.TheVariants as scan
use Rattle.mergescan.specs.Lines.{Seen, start, in_word, in_first, in_second, stray, word_goes_on, after_first, seen_with, seen_by}
use Rattle.mergescan.specs.Scanning.{Scanned, scanned, scan_of, scan_all, is_start, KeepsLine, keeps_start, keeps_word, keeps_first, keeps_second, keeps_stray}
use Rattle.mergescan.proofs.Lines.{pieces}
use Rattle.mergescan.proofs.Clipped.{answered as line_answered}
use Rattle.mergescan.proofs.Kept.{scans_on}
use Rattle.mergestream.specs.Texts.{answer_to, merge_lines, KeepsFiles}

-- some byte was read
abbrev Running : Seen → Type 0
Running start = ⊥
Running (in_word verb x rest) = Unit {0}
Running (in_first verb b) = Unit {0}
Running (in_second verb f b) = Unit {0}
Running stray = Unit {0}

either_way : (t : Bool) (a b : Seen) → Running a → Running b → Running (cond t a b)
either_way true a b h k = h
either_way false a b h k = k

in_word_lem : (verb : Verb) (rest : List ℕ) → Running (word_goes_on verb rest)
in_word_lem verb [] = tt
in_word_lem verb (x ∷ rest) = tt

behind_first : (verb : Verb) (o : Option (List ℕ)) → Running (after_first verb o)
behind_first verb none = tt
behind_first verb (some f) = tt

runs : (s : Seen) (c : ℕ) → Running (seen_with s c)
runs start c =
    either_way (eqb c 98) _ _ tt
    (either_way (eqb c 101) _ _ tt
    (either_way (eqb c 105) _ _ tt (either_way (eqb c 99) _ _ tt (either_way (eqb c 114) _ _ tt tt))))
runs (in_word verb x rest) c = either_way (eqb c x) (word_goes_on verb rest) stray (in_word_lem verb rest) tt
runs (in_first verb b) c = either_way (eqb c 32) (after_first verb (says_now b)) _ (behind_first verb (says_now b)) tt
runs (in_second verb f b) c = tt
runs stray c = tt

runs_on : (s : Seen) (w : List ℕ) → Running s → Running (seen_by s w)
runs_on s [] h = h
runs_on s (c ∷ w) h = runs_on (seen_with s c) w (runs s c)

some_byte : {seen : Seen} {s : Scan} {one two : List ℕ} → Running seen → KeepsLine seen s one two → is_start s ≡ false
some_byte h keeps_start = absurd h
some_byte h (keeps_word e) = refl
some_byte h (keeps_first k) = refl
some_byte h (keeps_second f k) = refl
some_byte h keeps_stray = refl

no_byte : {s : Scan} {one two : List ℕ} → KeepsLine start s one two → is_start s ≡ true
no_byte keeps_start = refl

-- ---- a piece more
record Onward (seen : Seen) (s : Scanned) (p : List ℕ) : Type 0 where
  size_one : length (scan_all s p).one ≡ length s.one
  size_two : length (scan_all s p).two ≡ length s.two
  keeps : KeepsLine (seen_by seen p) (scan_all s p).scan (scan_all s p).one (scan_all s p).two

goes_on : (seen : Seen) (s : Scanned) (p : List ℕ) → KeepsLine seen s.scan s.one s.two → Onward seen s p
unfolding scan_all
goes_on seen s [] k = record { size_one = refl; size_two = refl; keeps = k }
goes_on seen s (c ∷ p) k =
    let here = scans_on s c in
    let rest = goes_on (seen_with seen c) (scan_of s c) p (here.goes_on seen k) in
    record { size_one = rest.size_one ∙ here.size_one; size_two = rest.size_two ∙ here.size_two; keeps = rest.keeps }

pub begun : (one two : List ℕ) → longest_file < length one → longest_file < length two → KeepsFiles (scanned scan.Start one two) []
begun one two h1 h2 = record { one = h1; two = h2; keeps = keeps_start }

keeps_lines : KeepsLines merge_lines KeepsFiles
keeps_lines = record {
  begins = λ {k} h. begun k.one k.two h.one h.two;
  goes_on = λ {k} {w} h p.
      let on = goes_on (seen_by start w) k p h.keeps in
      record {
        one = omega (arith, h.one, on.size_one);
        two = omega (arith, h.two, on.size_two);
        keeps = rw (pieces start w p) on.keeps;
      };
  nothing = λ {k} h. no_byte h.keeps;
  something = λ {k} {x} {w} h. some_byte (runs_on (seen_with start x) w (runs start x)) h.keeps;
  means = λ {k} {w} h j.
      ap (λ (r : Response). record { text = response_text r; state = j }) (line_answered w k.scan k.one k.two h.keeps h.one h.two);
}

pub answers : Answers merge_lines answer_to KeepsFiles
answers = answered merge_lines answer_to refl keeps_lines
