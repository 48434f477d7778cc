-- R-6, PATTERNS FOR SHOP OWNERS, sentence by sentence. Under each stands the theorem that meets it;
-- its proof only cites the file that has it. To believe them, read the definitions that they name:
--
--   Pattern, Matches p w        patterns as trees, and their texts      patterns/specs/Patterns
--   StandsFor p b               the bytes b are the pattern p           patterns/specs/Grammar
--   position_rule p             the rule of the positions               patterns/specs/Positions
--   Begins, Ends, Comes         positions by the marked pattern         patterns/specs/Marked
--   Letter p i s                the i-th letter from the left is s      patterns/specs/Claims
--   AllZero o                   length 0, and every byte 0              patternfile/specs/Claims
--   pattern_number, pattern_of b  what reading the bytes b answers        patternfile/specs/Answers
--   RefusedExactly b            which number, in words                  patternfile/specs/Claims
--   AcceptedFor p b, States     what is answered, for the pattern p     patternfile/specs/Claims
--   Answered patterns           patterns worked by hand                 patternfile/specs/Worked
--   file_of r; padded           the file of a rule; zeros after it      ruleformat/specs/Writing, rulewriter/specs/Written
--   read_of f, automaton_in f    reading a file; its automaton           ruleformat/specs/Reader, Language
--   MayPattern, pattern_shown   the function for C, and its numbers     requests/specs/PatternFunction, c_patterns/specs/Numbers
--   answer_text, pattern_lines  the answer to a line, and the machine   patterntext/specs/Answers, Texts
--   Blocks; finish_of           what is written, and at the end         linetexts/specs/Claims, Feeding
--   answers_to; line_state      the answers; where a text begins        linetexts/specs/Alone
--   two_lines, two_answers      lines by hand                           patterntext/specs/Worked
--   verdict_in h, text_in h     what 01 says of a list of calls         histories/specs/History
--
-- b is any list of bytes, p any pattern. A proved function ends and stays within its bounds. Assumes
-- nothing.
-- All that they rest on stands in these files of specs/ (tests/believed):
--   base Conditions, Lists, Options, Totals; limits Limits; flags Flags; text Numerals, Writing;
--   masks Masks; automaton Automaton, Rules, Successor; rulecheck Checking; ruleformat Format,
--   Language, Reader, Refusals, Writing; rulewriter Written; numbering Numbering; subsets Sets,
--   mirror/Singles; delegates Alike, Claims, mirror/Classes; marks Marks; chunks Chunks; joins
--   Joining; calls Calls, Replies; histories History; patterns Claims, Grammar, Limits, Marked,
--   Patterns, Positions; patternscan Scanning, Signs; patternreader Reader, Rules; patternfile
--   Answers, Claims, Worked; fields Bytes, Claims; lines Splitting; patterntext Answers, Texts,
--   Worked; longlines Holding; linetexts Alone, Beginnings, Claims, Feeding, Parts; c_patterns
--   Claims, Numbers; requests PatternFunction.
use mathlib.Core.Path.{◌≡◌, refl, sym, ap, ◌∙◌, subst}
use mathlib.Core.Logic.{◌↔◌, ◌⊎◌}
use mathlib.Core.Bool.{true, cond}
use mathlib.Core.List.{List, [], ◌++◌, flatten}
use mathlib.Core.Option.{none, some}
use Prim.Native.Nat.{ℕ, ◌≤◌, ◌+◌}
use lib.ListN.{length, take}
use lib.Dec.{eqb}
use Rattle.base.specs.Conditions.{NoneHolds}
use Rattle.limits.specs.Limits.{target_cells, most_symbols}
use Rattle.masks.specs.Masks.{◌∈◌}
use Rattle.automaton.specs.declared.Rule.{Rule}
use Rattle.automaton.specs.Automaton.{Accepts, Arc}
use Rattle.automaton.specs.Rules.{automaton_of, WellFormed}
use Rattle.rulecheck.proofs.Claims as check
use Rattle.ruleformat.specs.Refusals.{file_conditions}
use Rattle.ruleformat.specs.Reader.{Reading, read_of, rule_of}
use Rattle.ruleformat.specs.Language.{automaton_in}
use Rattle.ruleformat.specs.Writing.{file_of}
use Rattle.ruleformat.proofs.Claims as format
use Rattle.rulewriter.specs.Written.{padded, Writing}
use Rattle.rulewriter.proofs.Claims as writer
use Rattle.calls.specs.Replies.{yes_with, no_with}
use Rattle.calls.specs.Calls.{Call}
use Rattle.histories.specs.History.{rule_in, board_in, empties_in, summed_in, text_in, verdict_in}
use Rattle.histories.proofs.Refinement.{lent}
use Rattle.lines.specs.Splitting.{lines_of}
use Rattle.longlines.specs.Holding.{line_begin}
use Rattle.linetexts.specs.Feeding.{State, finish_of}
use Rattle.linetexts.specs.Beginnings.{Beginning}
use Rattle.linetexts.specs.Claims.{Blocks}
use Rattle.linetexts.specs.Alone.{line_state, answers_to}
use Rattle.linetexts.proofs.Beginnings.{begun}
use Rattle.patterns.specs.Limits.{longest_pattern, longest_pattern_file, most_letters}
use Rattle.patterns.specs.Patterns.{Pattern, Matches}
use Rattle.patterns.specs.Grammar.{StandsFor}
use Rattle.patterns.specs.Positions.{first, last, follow, position_rule}
use Rattle.patterns.specs.Marked.{Begins, Ends, Comes}
use Rattle.patterns.specs.Claims.{Few, Letter}
use Rattle.patterns.proofs.Claims as patterns
use Rattle.patternscan.proofs.Claims as scan
use Rattle.patternfile.specs.Answers.{pattern_number, pattern_of, refused_with, file_in}
use Rattle.patternfile.specs.Worked.{Answered}
use Rattle.patternfile.specs.Worked as worked
use Rattle.patternfile.specs.Claims.{automaton_for, States, RefusedExactly, AllZero}
use Rattle.patternfile.proofs.Claims as patternfile
use Rattle.patterntext.specs.Answers.{answer_text}
use Rattle.patterntext.specs.Texts.{pattern_lines}
use Rattle.patterntext.specs.Worked.{two_lines, two_answers}
use Rattle.patterntext.proofs.Claims as patterntext
use Rattle.c_patterns.specs.declared.PatternNumbers.{PatternNumbers}
use Rattle.c_patterns.specs.Numbers.{pattern_shown, pattern_read_back}
use Rattle.c_patterns.specs.Claims as c_claims
use Rattle.c_patterns.proofs.Claims as c_patterns
use Rattle.requests.specs.PatternFunction.{AsksPattern, MayPattern}
use Rattle.requests.proofs.Judged.{yes_exactly, no_exactly}

-- The limits that are named below:
pub limits : (longest_pattern ≡ 128) × (most_letters ≡ 31) × (longest_pattern_file ≡ 2122) × (most_symbols ≡ 16) × (target_cells ≡ 512)
limits = (refl, refl, refl, refl, refl)

-- "Add a reader that turns a pattern into a rule file by McNaughton and Yamada's positions."
-- The bytes that come back are those of the file of the positions' rule, for every pattern that the
-- bytes stand for:
pub file : (p : Pattern) (b : List ℕ) → StandsFor p b → pattern_number b ≡ none
    → pattern_of b ≡ record {
      number = none;
      length = length (file_of (position_rule p));
      bytes = padded longest_pattern_file (file_of (position_rule p));
    }
file p b s e = ((patternfile.claims).accepted_for p b s e).file

-- none of the numbers 1 to 8 holds of that file, and reading it gives this rule:
pub read : (p : Pattern) (b : List ℕ) → StandsFor p b → pattern_number b ≡ none
    → read_of (file_in (pattern_of b)) ≡ record { number = none; rule = position_rule p }
read p b s e = ((patternfile.claims).accepted_for p b s e).read

pub no_refusal : (p : Pattern) (b : List ℕ) → StandsFor p b → pattern_number b ≡ none → NoneHolds (file_conditions (file_in (pattern_of b)))
no_refusal p b s e = ((format.claims).reading (file_in (pattern_of b))).accepted.0 (ap (λ (r : Reading). r.number) (read p b s e))

-- and the positions are those of the texts: with its number in the place of each letter, a text begins
-- with the first positions, ends with the last, and has those that follow a position right after it.
pub positions : (p : Pattern) (i j : ℕ) → ((j ∈ first p 0) ↔ Begins p j) × ((i ∈ last p 0) ↔ Ends p i) × ((j ∈ follow p 0 i) ↔ Comes p i j)
positions p i j = ((patterns.claims).firsts p j, (patterns.claims).lasts p i, (patterns.claims).follows p i j)

-- An arc leads from q by s to i exactly where the i-th letter is s, and a text begins with i and q
-- is the start, or i comes right after q; a state is final exactly where a text ends with it, and
-- the start where the empty text is one:
pub arcs : (p : Pattern) (b : List ℕ) → StandsFor p b → Few p → (q s i : ℕ)
    → Arc (automaton_of (position_rule p)) q s i ↔ (Letter p i s × (((q ≡ 0) × Begins p i) ⊎ Comes p q i))
arcs = (patterns.claims).arc

pub finals : (p : Pattern) (q : ℕ) → (q ∈ (position_rule p).finals) ↔ (Ends p q ⊎ ((q ≡ 0) × Matches p []))
finals = (patterns.claims).final

-- "Letters a to p are symbols 0 to 15; there are juxtaposition, `|`, `*` and round brackets; an empty
-- alternative, pattern or bracket means the empty text."
-- That is StandsFor, rule by rule. It leaves no choice, since no bytes stand for two patterns:
pub one_tree : (p q : Pattern) (b : List ℕ) → StandsFor p b → StandsFor q b → p ≡ q
one_tree = (scan.claims).one_tree

-- Patterns worked by hand are answered as their list says:
pub by_hand : Answered worked.patterns
by_hand = (patternfile.claims).answered

-- "State 0 is the start, state i the i-th letter from the left, k is 16."
pub states : (p : Pattern) (b : List ℕ) → StandsFor p b → pattern_number b ≡ none → States b (automaton_for b)
states p b s e = ((patternfile.claims).accepted_for p b s e).states

-- "The rule must accept exactly the pattern's texts." Of the automaton in the bytes that come back:
pub language : (p : Pattern) (b : List ℕ) → StandsFor p b → pattern_number b ≡ none
    → (w : List ℕ) → Accepts (automaton_in (file_in (pattern_of b))) w ↔ Matches p w
language p b s e = ((patternfile.claims).accepted_for p b s e).language

-- "The file, at most 2,122 bytes, comes back by value with its length, zeros after it."
-- The bytes are `file`, above. Of all bytes, refused or not:
pub at_most : (b : List ℕ) → ((pattern_of b).length ≤ longest_pattern_file) × (length (pattern_of b).bytes ≡ longest_pattern_file)
at_most b = ((patternfile.claims).fits b, (patternfile.claims).room b)

-- "It refuses with 30 a pattern over 128 bytes, then with 31 a pattern outside this grammar, then with
-- 32 more than 31 letters." With no other number, and with zeros (R-3):
pub refused : (b : List ℕ) → RefusedExactly b
refused = (patternfile.claims).refused

pub zeros : (b : List ℕ) (x : ℕ) → pattern_number b ≡ some x → pattern_of b ≡ refused_with x
zeros = (patternfile.claims).zeros

pub each_zero : (b : List ℕ) (x : ℕ) → pattern_number b ≡ some x → AllZero (pattern_of b)
each_zero = (patternfile.claims).each_zero

-- and it accepts every other:
pub accepted : (b : List ℕ) → (pattern_number b ≡ none) ↔ ((length b ≤ longest_pattern) × ((p : Pattern) × StandsFor p b × Few p))
accepted = (patternfile.claims).accepted

-- ---- FROM A PATTERN TO A VERDICT
-- Where the rule of the judge is the one in a pattern's file, and no place is empty, the verdict is yes
-- exactly when the standing chunks, without their idle marks, are one of the pattern's texts, and else
-- no:
module _ (p : Pattern) (b : List ℕ) (s : StandsFor p b) (e : pattern_number b ≡ none) (h : List Call) (rule : rule_in h ≡ rule_of (file_in (pattern_of b))) where
  judges : Accepts (automaton_of (rule_of (file_in (pattern_of b)))) (text_in h) ↔ Matches p (text_in h)
  judges =
      let same = (format.claims).language (file_in (pattern_of b)) (ap (λ (r : Reading). r.number) (read p b s e)) (text_in h) in
      let text = language p b s e (text_in h) in
      ((λ a. text.0 (same.1 a)), λ m. same.0 (text.1 m))

  pub judged_yes : board_in h ≡ true → empties_in h ≡ 0 → (verdict_in h ≡ yes_with (summed_in h)) ↔ Matches p (text_in h)
  judged_yes = yes_exactly h (rule_of (file_in (pattern_of b))) (Matches p (text_in h)) rule judges

  pub judged_no : board_in h ≡ true → empties_in h ≡ 0 → (verdict_in h ≡ no_with (summed_in h)) ↔ (Matches p (text_in h) → ⊥)
  judged_no = no_exactly h (rule_of (file_in (pattern_of b))) (Matches p (text_in h)) rule judges

-- ---- WRITING A RULE FILE
-- The file of a well-formed rule is bytes that reading turns back into that rule; a value of the type
-- has 512 target masks:
pub written : (r : Rule) → length r.targets ≡ target_cells → WellFormed r
    → read_of (file_of r) ≡ record { number = none; rule = r }
written r cells w = (writer.claims).read_back r cells (((check.claims).passes r).1 w)

-- ---- FROM C
-- The function asks nothing, and may return the numbers of that answer and no other; nothing of the
-- answer is lost in them.
pub asks_nothing : (b : List ℕ) → AsksPattern b
asks_nothing b κs c e = tt

pub from_C : (b : List ℕ) (r : PatternNumbers) → MayPattern b r ↔ r ≡ pattern_shown (pattern_of b)
from_C b r = (
  (λ m. m.4 ∙ ap (λ (x : List ℕ). pattern_shown (pattern_of x)) m.3),
  λ e. (([], tt), lent b, (lent b, tt), refl, e),
)

pub read_back : (b : List ℕ) (r : PatternNumbers) → MayPattern b r → pattern_read_back r ≡ pattern_of b
read_back b r m = ap pattern_read_back ((from_C b r).0 m) ∙ (c_patterns.claims).read_back b

-- Each of C's numbers in other words than the definition's: accepted and refused, the
-- length and the bytes.
pub each_number : c_claims.Claims
each_number = c_patterns.claims

-- So the bytes that C is given as accepted, as many as the length says, are a rule that accepts exactly
-- the pattern's texts:
pub language_from_C : (p : Pattern) (b : List ℕ) (r : PatternNumbers) → StandsFor p b → MayPattern b r → r.accepted ≡ 1
    → (w : List ℕ) → Accepts (automaton_in (take r.length r.bytes)) w ↔ Matches p w
language_from_C p b r s m a w =
    let e = read_back b r m in
    let number : pattern_number b ≡ none =
    sym (ap (λ (o : Writing). o.number) e) ∙ ap (λ (x : ℕ). cond (eqb x 1) none (some r.refused)) a in
    subst (λ (o : Writing). Accepts (automaton_in (file_in o)) w ↔ Matches p w) (sym e) (language p b s number w)

-- ---- FROM A PROGRAM
-- A text of patterns, one a line, cut into blocks anywhere: `patternrule` is to write, round by round,
-- block by block and at the end, the answers to its lines. Its buffer can tell a pattern that is too long.
pub lines : {s : State Beginning (Unit {0})} {blocks : List (List ℕ)} {line text : List ℕ} → longest_pattern + 2 ≤ length line
    → Blocks pattern_lines (line_state line_begin line) blocks s text
    → text ++ (finish_of pattern_lines s).text ≡ answers_to answer_text (lines_of (flatten blocks))
lines {line = line} large b = (patterntext.claims).answers.written (begun line large) b

-- By hand, in bytes: the empty pattern, and a star after nothing.
pub lines_by_hand : answers_to answer_text (lines_of two_lines) ≡ two_answers
lines_by_hand = (patterntext.claims).worked
