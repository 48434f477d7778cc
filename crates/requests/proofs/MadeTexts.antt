-- R-14, A MADE LOAD, sentence by sentence: the part of the request about test texts. Under each stands
-- the theorem that meets it; its proof only cites the file that has it. To believe them, read the
-- definitions that they name:
--
--   next_value x, made_text k x n  the values, and the text                madetexts/specs/Values
--   made_number, buffer_after      what is answered, and the lent buffer   madetexts/specs/Making
--   Text k w                       each symbol of w is below k             automaton/specs/Automaton
--   text_of; foreign w k            a chunk without idle marks; 13          marks/specs/Marks, chunks/specs/Chunks
--   AsksText, MayMake, made_shown  the function for C, and its numbers     requests/specs/TextFunction, c_texts/specs/Numbers
--   line_in w, answer_to w         a line of `maketext`, and its answer    maketextlines/specs/Lines, Answers
--   SaysText; six_line, six_answer  three numbers; a line by hand           maketextlines/specs/Claims, Worked
--   text_lines                     the machine that answers lines          maketextstream/specs/Texts
--   Blocks; finish_of              what is written for blocks, and at the end   linetexts/specs/Claims, Feeding
--   answers_to; line_state         the answers to lines; where a text begins   linetexts/specs/Alone
--   lines_of w                      the lines of a text                     lines/specs/Splitting
--
-- k, the seed and the buffer are any numbers and any bytes. A proved function ends and stays within its
-- bounds. Assumes nothing.
-- All that they rest on stands in these files of specs/ (tests/believed):
--   base Conditions; limits Limits; flags Flags; text Numerals, Writing; answers Answers;
--   automaton Automaton; marks Marks; chunks Chunks; madetexts Making, Values; fields Bytes,
--   Claims, Numbers; lines Splitting; maketextlines Answers, Claims, Lines, Worked;
--   maketextstream Texts; longlines Holding; linetexts Alone, Beginnings, Claims, Feeding, Parts;
--   c_texts Claims, Numbers; requests TextFunction.
use mathlib.Core.Path.{◌≡◌, refl, sym, ap, ◌∙◌}
use mathlib.Core.Logic.{◌↔◌, ◌⊎◌}
use mathlib.Core.Bool.{false}
use mathlib.Core.List.{List, [], ◌∷◌, ◌++◌, flatten}
use mathlib.Core.Option.{none, some}
use Prim.Native.Nat.{ℕ, ◌*◌, ◌/◌, ◌%◌, ◌^◌, suc, ◌≤◌, ◌<◌, ◌+◌}
use lib.Bits.{bit_xor}
use lib.ListN.{length}
use Rattle.limits.specs.Limits.{most_symbols, largest_number, longest_chunk}
use Rattle.automaton.specs.Automaton.{Text}
use Rattle.marks.specs.Marks.{text_of}
use Rattle.chunks.specs.Chunks.{foreign}
use Rattle.demands.proofs.TextFunctions.{lent_mut}
use Rattle.lines.specs.Splitting.{lines_of}
use Rattle.madetexts.specs.Values.{next_value, made_text}
use Rattle.madetexts.specs.Making.{made_number, buffer_after}
use Rattle.madetexts.proofs.Filling.{made_more}
use Rattle.madetexts.proofs.Claims as madetexts
use Rattle.c_texts.specs.declared.MadeNumbers.{MadeNumbers}
use Rattle.c_texts.specs.Numbers.{made_shown, made_read_back}
use Rattle.c_texts.specs.Claims as c_claims
use Rattle.c_texts.proofs.ReadBack as c_texts
use Rattle.longlines.specs.Holding.{line_begin}
use Rattle.linetexts.specs.Feeding.{State, finish_of}
use Rattle.linetexts.specs.Beginnings.{Beginning}
use Rattle.linetexts.specs.Claims.{Blocks}
use Rattle.linetexts.specs.Alone.{line_state, answers_to}
use Rattle.linetexts.proofs.Beginnings.{begun}
use Rattle.maketextlines.specs.Lines.{longest_line, makes, malformed, line_in}
use Rattle.maketextlines.specs.Answers.{answer_to}
use Rattle.maketextlines.specs.Worked.{six_line, six_answer}
use Rattle.maketextlines.specs.Claims.{line_of, SaysText}
use Rattle.maketextlines.proofs.Claims as maketextlines
use Rattle.maketextstream.specs.Texts.{text_lines}
use Rattle.maketextstream.proofs.Claimed as maketextstream
use Rattle.requests.specs.TextFunction.{AsksText, MayMake}

-- The limits that are named below:
pub limits : (most_symbols ≡ 16) × (longest_chunk ≡ 65536) × (largest_number ≡ 18446744073709551615)
limits = (refl, refl, refl)

-- "Also make test texts of a given length: Marsaglia's 64-bit xorshift with shifts 13 left, 7 right, 17
-- left, each new value modulo k being a symbol."
-- The three steps, each a value and its shift, bit by bit where they differ:
pub next : (x : ℕ) → next_value x ≡ (
    let a = bit_xor x ((x * 2 ^ 13) % 2 ^ 64) in
    let b = bit_xor a (a / 2 ^ 7) in
    bit_xor b ((b * 2 ^ 17) % 2 ^ 64))
unfolding next_value
next x = refl

-- The first symbol is of the first new value, the seed is no symbol's; the values after it make the rest:
pub symbols : (k seed n : ℕ) → made_text k seed (suc n) ≡ (next_value seed % k) ∷ made_text k (next_value seed) n
symbols = made_more

pub given_length : (k seed n : ℕ) → length (made_text k seed n) ≡ n
given_length = (madetexts.claims).long

-- With a seed that is not zero no value is zero, and each has 64 bits:
pub values : (x : ℕ) → 0 < x → x < 2 ^ 64 → (0 < next_value x) × (next_value x < 2 ^ 64)
values x h l = ((madetexts.claims).not-zero x h l, (madetexts.claims).fits x l)

-- A made text is a test text of every rule with as many symbols or more: its symbols are below k, it has
-- no idle marks, and 13 does not hold of it.
pub below : (k seed n : ℕ) → 1 ≤ k → Text k (made_text k seed n)
below = (madetexts.claims).text

pub own_text : (k seed n : ℕ) → 1 ≤ k → k ≤ most_symbols → text_of (made_text k seed n) ≡ made_text k seed n
own_text = (madetexts.claims).own_text

pub never_13 : (k seed n : ℕ) → 1 ≤ k → k ≤ most_symbols → (k' : ℕ) → k ≤ k' → foreign (text_of (made_text k seed n)) k' ≡ false
never_13 = (madetexts.claims).not_foreign

-- "The text fills the lent buffer; k outside 1 to 16 gives 4", "making texts refuses, after 4, with 41 a
-- zero seed." With no other number:
pub refused_4 : (k seed : ℕ) → (made_number k seed ≡ some 4) ↔ ((k < 1) ⊎ (most_symbols < k))
refused_4 = (madetexts.claims).number_4

pub refused_41 : (k seed : ℕ) → (made_number k seed ≡ some 41) ↔ ((1 ≤ k) × (k ≤ most_symbols) × (seed ≡ 0))
refused_41 = (madetexts.claims).number_41

pub accepted : (k seed : ℕ) → (made_number k seed ≡ none) ↔ ((1 ≤ k) × (k ≤ most_symbols) × (0 < seed))
accepted = (madetexts.claims).accepted

-- The whole buffer is the text where none holds, and as it was where one does (01: "state and buffers
-- stay unchanged"):
pub filled : (k seed : ℕ) (buffer : List ℕ) → made_number k seed ≡ none → buffer_after k seed buffer ≡ made_text k seed (length buffer)
filled k seed buffer e = rw e

pub unchanged : (k seed x : ℕ) (buffer : List ℕ) → made_number k seed ≡ some x → buffer_after k seed buffer ≡ buffer
unchanged k seed x buffer e = rw e

-- ---- FROM C
-- The function asks nothing, and may return the numbers of that answer and leave that buffer, and nothing
-- else; nothing of the answer is lost in the numbers.
pub asks_nothing : (k seed : ℕ) (before : List ℕ) → AsksText k seed before
asks_nothing k seed before κs c e = tt

pub from_C : (k seed : ℕ) (before : List ℕ) (r : MadeNumbers) (after : List ℕ)
    → MayMake k seed before r after ↔ ((r ≡ made_shown (made_number k seed)) × (after ≡ buffer_after k seed before))
from_C k seed before r after = (
  (λ m. (m.5.answer, sym m.4 ∙ m.5.buffer ∙ ap (buffer_after k seed) m.3)),
  λ e. (([], tt), lent_mut before, (k, (seed, (lent_mut after, tt))), refl, refl, record { answer = e.0; buffer = e.1 }),
)

pub read_back : (k seed : ℕ) (before : List ℕ) (r : MadeNumbers) (after : List ℕ) → MayMake k seed before r after
    → made_read_back r ≡ made_number k seed
read_back k seed before r after m = ap made_read_back ((from_C k seed before r after).0 m).0 ∙ (c_texts.claims).made_read_back_lem (made_number k seed)

-- Each of C's numbers in other words than the definition's: accepted and refused.
pub each_number : c_claims.Claims
each_number = c_texts.claims

-- ---- FROM A PROGRAM
-- Every k and seed of 64 bits and length up to a chunk's have a line of `maketext`; an empty line and one
-- that is longer than any of these are malformed.
pub lines : (k seed n : ℕ) → k ≤ largest_number → seed ≤ largest_number → n ≤ longest_chunk → line_in (line_of k seed n) ≡ makes k seed n
lines = (maketextlines.claims).line_round_trip

pub malformed_lines : (line_in [] ≡ malformed) × ((w : List ℕ) → longest_line < length w → line_in w ≡ malformed)
malformed_lines = ((maketextlines.claims).empty, (maketextlines.claims).too_long)

-- A line makes a text exactly when it is three numbers, with one space between each two and a length
-- up to a chunk's; any other is malformed.
pub lines_exactly : (l : List ℕ) (k seed n : ℕ) → (line_in l ≡ makes k seed n) ↔ SaysText l k seed n
lines_exactly = (maketextlines.claims).line_exactly

pub malformed_exactly : (l : List ℕ) → (line_in l ≡ malformed) ↔ ((k seed n : ℕ) → SaysText l k seed n → ⊥)
malformed_exactly = (maketextlines.claims).malformed_exactly

-- By hand, in bytes:
pub line_by_hand : answer_to six_line ≡ six_answer
line_by_hand = (maketextlines.claims).worked

-- A text of lines, cut into blocks anywhere, with any buffer for a line that can tell one that is too
-- long: what is to be written, round by round, block by block and at the end, are the answers to its
-- lines.
pub written : {s : State Beginning (Unit {0})} {blocks : List (List ℕ)} {line text : List ℕ} → longest_line + 2 ≤ length line
    → Blocks text_lines (line_state line_begin line) blocks s text → text ++ (finish_of text_lines s).text ≡ answers_to answer_to (lines_of (flatten blocks))
written {line = line} large b = (maketextstream.answers).written (begun line large) b
