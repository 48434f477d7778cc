-- What the code keeps of a line, in a value and two buffers: of each file, as many bytes as its
-- buffer has room for, at its start.
--
--   begin_of, word_after, second_after  what the code makes of the first byte of a line, of a byte
--                            more of the word, and of the space behind the first field
--   Scanned, scan_of s c     a byte more, of any value and any buffers: what of the line has been
--                            read then, and the buffers
--   scan_all s w             the bytes w more
--   is_start scan            nothing of a line has been read
--   KeepsLine s scan one two the value and the buffers keep what was read
--   ScansOn one two ..       whatever they kept, with the byte c more they keep it; the buffers
--                            keep their lengths
--   held_meaning scan one two what a line means that ends here: of any value and any buffers, whether
--                            they fit each other or not
use Rattle.std.specs.Prelude.{◌≡◌, Bool, true, false, cond, List, [], ◌∷◌, ℕ, ◌+◌, eqb, ltb, length, get_or, take, drop}
use Rattle.std.proofs.Math.Option.{Option, none, some}
use Rattle.hexfields.specs.declared.Part.{Part}
use Rattle.hexfields.specs.declared.Part.TheVariants as part
use Rattle.hexfields.specs.Fields.{Begun}
use Rattle.hexfields.specs.Reading.{read_of, Kept, Keeps, end_of}
use Rattle.merging.specs.declared.Way.TheVariants.{Both, Either, Interleaving}
use Rattle.mergetext.specs.declared.Verb.{Verb}
use Rattle.mergetext.specs.declared.Verb.TheVariants.{Merge, Compare, Reduce}
use Rattle.mergetext.specs.Lines.{verb_word, Meaning, malformed, pair_by, alone_by}
use Rattle.mergescan.specs.declared.Scan.{Scan}
use Rattle.mergescan.specs.declared.Scan.TheVariants as scan
use Rattle.mergescan.specs.Lines.{Seen, start, in_word, in_first, in_second, stray, seen_with}

-- ---- the code's steps
abbrev pub begin_of : ℕ → Scan
begin_of c =
    cond (eqb c 98) (scan.Word (Merge Both) 1)
    (cond (eqb c 101) (scan.Word (Merge Either) 1)
    (cond (eqb c 105) (scan.Word (Merge Interleaving) 1)
    (cond (eqb c 99) (scan.Word Compare 1) (cond (eqb c 114) (scan.Word Reduce 1) scan.Stray))))

abbrev pub word_after : Verb → ℕ → ℕ → Scan
word_after verb at c =
    cond (eqb c (get_or (verb_word verb) at 0))
    (cond (ltb (at + 1) (length (verb_word verb))) (scan.Word verb (at + 1)) (scan.First verb part.Nothing))
    scan.Stray

abbrev pub second_after : Verb → Option ℕ → Scan
second_after verb none = scan.Stray
second_after verb (some n) = scan.Second verb n part.Nothing

pub record Scanned : Type 0 where
  pub scan : Scan
  pub one : List ℕ
  pub two : List ℕ

abbrev pub scanned : Scan → List ℕ → List ℕ → Scanned
scanned s one two = record { scan = s; one = one; two = two }

-- of the value alone, with the buffers
abbrev pub scan_by : Scan → List ℕ → List ℕ → ℕ → Scanned
scan_by scan.Start one two c = scanned (begin_of c) one two
scan_by (scan.Word verb at) one two c = scanned (word_after verb at c) one two
scan_by (scan.First verb p) one two c =
    let field = read_of one p c in
    cond (eqb c 32) (scanned (second_after verb (end_of p)) one two) (scanned (scan.First verb field.part) field.buffer two)
scan_by (scan.Second verb n p) one two c = let field = read_of two p c in scanned (scan.Second verb n field.part) one field.buffer
scan_by scan.Stray one two c = scanned scan.Stray one two

abbrev pub scan_of : Scanned → ℕ → Scanned
scan_of s c = scan_by s.scan s.one s.two c

unfoldable pub scan_all : Scanned → List ℕ → Scanned
scan_all s [] = s
scan_all s (c ∷ w) = scan_all (scan_of s c) w

abbrev pub is_start : Scan → Bool
is_start scan.Start = true
is_start (scan.Word verb at) = false
is_start (scan.First verb p) = false
is_start (scan.Second verb n p) = false
is_start scan.Stray = false

-- ---- what they keep
pub data KeepsLine : Seen → Scan → List ℕ → List ℕ → Type 0 where
  keeps_start : {one two : List ℕ} → KeepsLine start scan.Start one two
  keeps_word : {verb : Verb} {at x : ℕ} {rest one two : List ℕ} → drop at (verb_word verb) ≡ x ∷ rest
      → KeepsLine (in_word verb x rest) (scan.Word verb at) one two
  keeps_first : {verb : Verb} {b : Begun} {p : Part} {one two : List ℕ} → Keeps b p one
      → KeepsLine (in_first verb b) (scan.First verb p) one two
  keeps_second : {verb : Verb} {f : List ℕ} {n : ℕ} {b : Begun} {p : Part} {one two : List ℕ} → Kept f n one → Keeps b p two
      → KeepsLine (in_second verb f b) (scan.Second verb n p) one two
  keeps_stray : {one two : List ℕ} → KeepsLine stray scan.Stray one two

pub record ScansOn (one two : List ℕ) (s : Scan) (c : ℕ) (one-after two-after : List ℕ) (r : Scan) : Type 0 where
  pub size_one : length one-after ≡ length one
  pub size_two : length two-after ≡ length two
  pub goes_on : (seen : Seen) → KeepsLine seen s one two → KeepsLine (seen_with seen c) r one-after two-after

-- ---- the line has ended
abbrev pub second_held : Verb → List ℕ → Option ℕ → List ℕ → Meaning
second_held verb f none two = malformed
second_held verb f (some m) two = pair_by verb f (take m two)

abbrev pub first_held : Verb → Option ℕ → List ℕ → Meaning
first_held verb none one = malformed
first_held verb (some n) one = alone_by verb (take n one)

abbrev pub held_meaning : Scan → List ℕ → List ℕ → Meaning
held_meaning scan.Start one two = malformed
held_meaning (scan.Word verb at) one two = malformed
held_meaning (scan.First verb p) one two = first_held verb (end_of p) one
held_meaning (scan.Second verb n p) one two = second_held verb (take n one) (end_of p) two
held_meaning scan.Stray one two = malformed
