-- R-14, COMPACT TABLES, sentence by sentence: the part of the request about the failure form. Under each
-- stands the theorem that meets it; its proof only cites the file that has it. To believe them, read the
-- definitions that they name:
--
--   Form, Table                   the form and the table as values         forms/src/lib.rt
--   cell, equal_cells             a cell; in how many symbols two sets agree   forms/specs/Form
--   failure_of, kept_mask, form_of  the failure set, the mask, the form      forms/specs/Form
--   differences, bits             where two sets differ; bits of a mask    forms/specs/Claims
--   rank, kept_count              where a kept cell stands; how many       forms/specs/Back
--   back_number, table_of, back_of  what the way back answers                forms/specs/Back
--   no_table                      zeros                                    forms/specs/Back
--   IsTable, Wrong, Alike         a table; the five reasons; what is read  forms/specs/Claims
--   made_of j, no_form             the form of a judge's table; zeros       formmaker/specs/Making
--   rule_there h, judge_after h   after a list of calls                    histories/specs/History, Claims
--   table_in j                    the judge's table with its numbers       formtrip/specs/Claims
--   built_of r, has, ◌∈◌          the built rule; a bit of a mask          build/specs/mirror/Building, masks/specs/Masks
--   MayForm .. MayTableC          what the functions' contracts allow      requests/specs/FormFunctions
--   form_shown, table_shown       C's numbers                              c_form/specs/Numbers
--   form_for f, text_for f        of a rule file, and as `ruleform` prints it   formfile/specs/Files, formtext/specs/FormText
--   line_in w, back_text b        a line of `formtable`, and the answer    formline/specs/Lines, tabletext/specs/Answers
--   held_of; Fits f, line_of f      what is read of it; the line of a form   formline/specs/Lines, Claims
--   WorkedLine, form_A            a line by hand, and its form             formline/specs/Worked
--   lines_A; table_A              texts by hand, in bytes                  formtext/specs/Worked, tabletext/specs/Worked
--   answer_to w, form_lines       its answer, and the machine              formstream/specs/Texts
--   answers_to; line_state        the answers to lines; where a text begins   linetexts/specs/Alone
--   parts_of, lines_ended, line_begun  the parts of a text, and their lines  linetexts/specs/Parts
--   stream_of; FedBlocks          blocks and the end; through functions    linetexts/specs/Claims, Functions
--
-- l is any list of cells, f and g any value of the form, in which any numbers may stand. A list of calls
-- has the last call first. A proved function ends and stays within its bounds. Assumes nothing.
-- All that they rest on stands in these files of specs/ (tests/believed):
--   base Answers, Conditions, Lists, Options, Totals; limits Limits; flags Flags; text Numerals,
--   Writing; answers Answers; masks Masks; automaton Rules, Successor; rulecheck Checking;
--   ruleformat Format, Reader, Refusals, Worked; numbering Numbering; subsets Sets,
--   mirror/Singles; delegates Alike, Claims, mirror/Classes; build mirror/Building; marks Marks;
--   walks mirror/Steps; chunks Chunks, mirror/Walks; board Boards; joins Joining; calls Calls,
--   Replies, mirror/Steps; executions Executions; histories Claims, History; fields Bytes,
--   Claims, Numbers; lines Splitting; ruletext RuleText; longlines Holding; linetexts Alone,
--   Beginnings, Claims, Feeding, Functions, Parts; forms Back, Claims, Form; formmaker Making;
--   formtrip Claims; formfile Files; formtext FormText, Worked; wordfields Claims, Words;
--   formline Claims, Lines, Worked; tabletext Answers, Worked; formstream Texts; c_form Claims,
--   Numbers; requests FormFunctions.
use Rattle.base.specs.declared.Refusal.{Refusal}
use Rattle.forms.specs.declared.Table.{Table}
use Rattle.std.proofs.Common.{Result}
use mathlib.Core.Path.{◌≡◌, ap, ◌∙◌, refl}
use mathlib.Core.Logic.{◌↔◌, ◌⊎◌, ⊎_elim}
use mathlib.Core.Bool.{cond}
use mathlib.Core.List.{List, ◌∷◌, ◌++◌, flatten}
use mathlib.Core.Option.{Option, none, some}
use Prim.Native.Nat.{ℕ, ◌+◌, ◌≤◌, ◌<◌}
use lib.ListN.{length, get_or, replicate, take}
use Rattle.limits.specs.Limits.{most_symbols, most_sets, empty_set, table_cells}
use Rattle.masks.specs.Masks.{◌∈◌, has}
use Rattle.formline.specs.Worked.{WorkedLine, form_A}
use Rattle.formline.specs.Claims.{Fits, line_of}
use Rattle.automaton.specs.declared.Rule.{Rule}
use Rattle.ruleformat.specs.Reader.{rule_of}
use Rattle.ruleformat.specs.Worked.{file_A}
use Rattle.build.specs.mirror.Building.{built_of}
use Rattle.calls.specs.declared.Judge.{Judge}
use Rattle.calls.specs.Calls.{Call, installs, install_number, load_number}
use Rattle.histories.specs.History.{rule_there}
use Rattle.histories.specs.Claims.{judge_after}
use Rattle.forms.specs.declared.Form.{Form}
use Rattle.forms.specs.Form.{cell, equal_cells, failure_of, kept_mask, form_of}
use Rattle.forms.specs.Back.{rank, kept_count, back_number, table_of, no_table, back_by, back_outcome, back_of}
use Rattle.forms.specs.Claims.{differences, bits, IsTable, Wrong, many_sets_lem, many_symbols, Alike}
use Rattle.forms.proofs.Claims as forms
use Rattle.formmaker.specs.Making.{no_form, made_outcome, made_of}
use Rattle.formtrip.specs.Claims.{table_in}
use Rattle.formtrip.proofs.Claims as formtrip
use Rattle.formfile.specs.Files.{form_for}
use Rattle.formfile.proofs.Claims as formfile
use Rattle.formtext.specs.FormText.{first_cell, text_for}
use Rattle.formtext.specs.Worked.{lines_A}
use Rattle.formtext.proofs.Claims as formtext
use Rattle.answers.specs.Answers.{refused_text, malformed_text}
use Rattle.lines.specs.Splitting.{lines_of, lines_from}
use Rattle.formline.specs.Lines.{failure_in, line_in, longest_line, malformed, too_great, held_of}
use Rattle.formline.proofs.Claims as formline
use Rattle.tabletext.specs.Answers.{back_text, answer_text}
use Rattle.tabletext.specs.Worked.{table_A}
use Rattle.tabletext.proofs.Claims as tabletext
use Rattle.longlines.specs.Holding.{line_begin}
use Rattle.linetexts.specs.Parts.{parts_of, lines_ended, line_begun}
use Rattle.linetexts.specs.Feeding.{State}
use Rattle.linetexts.specs.Beginnings.{Beginning, beginning}
use Rattle.linetexts.specs.Claims.{stream_of}
use Rattle.linetexts.specs.Functions.{Promised, Ended, FedBlocks}
use Rattle.linetexts.specs.Alone.{line_state, answers_to}
use Rattle.linetexts.proofs.Beginnings.{begun}
use Rattle.linetexts.proofs.Claimed as linetexts
use Rattle.formstream.specs.Texts.{answer_to, form_lines}
use Rattle.formstream.proofs.Claimed as formstream
use Rattle.c_form.specs.declared.FormNumbers.{FormNumbers}
use Rattle.c_form.specs.declared.TableNumbers.{TableNumbers}
use Rattle.c_form.specs.Numbers.{form_shown, form_read_back, table_shown, table_read_back}
use Rattle.c_form.specs.Claims as c_claims
use Rattle.c_form.proofs.ReadBack as c_form
use Rattle.c_form.proofs.Asks as c_asks
use Rattle.requests.specs.FormFunctions.{AsksForm, MayForm, AsksTable, MayTable, AsksFormC, MayFormC, AsksTableC, MayTableC}

-- The limits that are named below:
pub limits : (most_sets ≡ 512) × (most_symbols ≡ 16) × (empty_set ≡ 512) × (table_cells ≡ 8192)
limits = (refl, refl, refl, refl)

-- ---- THE FORM
-- "Convert the judge's next-set table (20 without a rule) to a failure form". After any list of calls
-- 20 exactly where no rule is there, and then zeros; else the form of the judge's own table, which has 1
-- to 512 sets and 1 to 16 symbols, and of which nothing is cut:
pub without_a_rule : (h : List Call) → ((made_of (judge_after h)).number ≡ some 20) ↔ (rule_there h ≡ none)
without_a_rule = (formtrip.claims).no_rule_lem

pub zeros_without : (h : List Call) → rule_there h ≡ none → (made_of (judge_after h)).form ≡ no_form
zeros_without = (formtrip.claims).zeros

-- which is, field by field,
pub no_form_lem : (no_form.sets ≡ 0) × (no_form.symbols ≡ 0) × (no_form.failure ≡ replicate 512 0) × (no_form.kept ≡ replicate 512 0) × (no_form.cells ≡ replicate 8192 0)
no_form_lem = (refl, refl, refl, refl, refl)

pub of_the_judge : (h : List Call) (r : Rule) → rule_there h ≡ some r
    → made_of (judge_after h) ≡ record { number = none; form = form_of (judge_after h).built.setcount (judge_after h).built.k (judge_after h).built.next }
of_the_judge = (formtrip.claims).form

pub a_table : (h : List Call) (r : Rule) → rule_there h ≡ some r
    → IsTable (judge_after h).built.setcount (judge_after h).built.k (judge_after h).built.next
a_table = (formtrip.claims).a_table

-- "set t > 0 gets as failure set the lower-numbered set with most equal cells, lowest on ties":
pub lower_numbered : (k t : ℕ) (l : List ℕ) → 0 < t → failure_of l k t < t
lower_numbered = (forms.claims).below

pub most_equal : (k t u : ℕ) (l : List ℕ) → u < t → equal_cells l k t u ≤ equal_cells l k t (failure_of l k t)
most_equal = (forms.claims).most

pub lowest_on_ties : (k t u : ℕ) (l : List ℕ) → u < failure_of l k t → equal_cells l k t u < equal_cells l k t (failure_of l k t)
lowest_on_ties = (forms.claims).lowest

-- In other words: no lower-numbered set differs from set t in fewer symbols than t's mask has bits,
-- and each that is below its failure set differs in more:
pub fewest : (k t u : ℕ) (l : List ℕ) → k ≤ most_symbols → u < t → bits (kept_mask l k t) ≤ differences l k t u
fewest = (forms.claims).fewest

pub lowest_fewest : (k t u : ℕ) (l : List ℕ) → k ≤ most_symbols → u < failure_of l k t → bits (kept_mask l k t) < differences l k t u
lowest_fewest = (forms.claims).lowest_fewest

pub not_different : (k t u : ℕ) (l : List ℕ) → equal_cells l k t u + differences l k t u ≡ k
not_different = (forms.claims).not_different

-- The form has this failure set for each set:
pub failure_in_form : (n k t : ℕ) (l : List ℕ) → n ≤ most_sets → t < n → get_or (form_of n k l).failure t 0 ≡ failure_of l k t
failure_in_form = (forms.claims).failure_of_lem

-- "equal cells, empty ones too, are left out and looked up there. Set 0 keeps all" .. "a 16-bit mask of
-- kept cells (bit s for symbol s)". Exactly the cells that are not equal are kept, an empty one being a
-- cell like another, and no mask has a bit for no symbol:
pub left_out : (k t s : ℕ) (l : List ℕ) → 0 < t → s < k → (s ∈ kept_mask l k t) ↔ (cell l t s ≡ cell l (failure_of l k t) s → ⊥)
left_out = (forms.claims).kept

pub set_0_keeps_all : (k s : ℕ) (l : List ℕ) → s < k → s ∈ kept_mask l k 0
set_0_keeps_all = (forms.claims).first_keeps

pub bits_for_symbols : (k t s : ℕ) (l : List ℕ) → s ∈ kept_mask l k t → s < k
bits_for_symbols = (forms.claims).only_symbols

pub mask_in_form : (n k t : ℕ) (l : List ℕ) → n ≤ most_sets → t < n → get_or (form_of n k l).kept t 0 ≡ kept_mask l k t
mask_in_form = (forms.claims).mask_of_lem

-- "Set 0 keeps all; its failure set is 0":
pub failure_of_set_0 : (k : ℕ) (l : List ℕ) → failure_of l k 0 ≡ 0
failure_of_set_0 = (forms.claims).first_failure

-- "then the kept cells as 16-bit numbers packed by set and symbol, 512 for an empty one; the rest is 0".
-- The kept cell of a set and a symbol stands behind as many as are kept before it; zeros follow the last:
pub packed : (n k t s : ℕ) (l : List ℕ) → n ≤ most_sets → k ≤ most_symbols → t < n → s < k → s ∈ kept_mask l k t
    → get_or (form_of n k l).cells (rank (form_of n k l) t s) 0 ≡ cell l t s
packed = (forms.claims).packed

pub rest_is_0 : (n k i : ℕ) (l : List ℕ) → kept_count (form_of n k l) ≤ i → get_or (form_of n k l).cells i 0 ≡ 0
rest_is_0 = (forms.claims).zeros

-- and what is no set has 0 as failure set and as mask:
pub no_set_is_0 : (n k t : ℕ) (l : List ℕ) → n ≤ t
    → (get_or (form_of n k l).failure t 0 ≡ 0) × (get_or (form_of n k l).kept t 0 ≡ 0)
no_set_is_0 = (forms.claims).no_set

-- ---- THE WAY BACK
-- "The back conversion gives the same table." Of every table; of the judge's after any list of calls; and
-- of every rule that can be installed: the cells and both numbers.
pub same_table : (n k : ℕ) (l : List ℕ) → IsTable n k l
    → back_of (form_of n k l) ≡ record { number = none; table = record { sets = n; symbols = k; next = l } }
same_table = (forms.claims).round_trip

pub after_any_calls : (h : List Call) (r : Rule) → rule_there h ≡ some r
    → back_of (made_of (judge_after h)).form ≡ record { number = none; table = table_in (judge_after h) }
after_any_calls = (formtrip.claims).round_trip

pub of_every_rule : (h : List Call) (r : Rule) → install_number r ≡ none
    → back_of (made_of (judge_after (installs r ∷ h))).form
    ≡ record { number = none; table = record { sets = (built_of r).setcount; symbols = (built_of r).k; next = (built_of r).next } }
of_every_rule = (formtrip.claims).installed

-- "The back conversion refuses with 40 a set above 0 whose failure set is not below it, a cell left out
-- of set 0, a mask bit for no symbol, a cell naming a set the table lacks, or a table without 1 to 512
-- sets and 1 to 16 symbols". Exactly then (`Wrong` has these five), and with no other number:
pub refused_40 : (f : Form) → (back_number f ≡ some 40) ↔ Wrong f
refused_40 = (forms.claims).refused_exactly

pub no_other_number : (f : Form) (x : ℕ) → back_number f ≡ some x → x ≡ 40
no_other_number = (forms.claims).no_other

-- A refusal carries zeros:
pub zeros_refused : (f : Form) (x : ℕ) → back_number f ≡ some x → (back_of f).table ≡ no_table
zeros_refused = (forms.claims).zeros_refused

pub no_table_is : (no_table.sets ≡ 0) × (no_table.symbols ≡ 0) × (no_table.next ≡ replicate 8192 0)
no_table_is = (refl, refl, refl)

-- Any other form, made by whomever, is accepted: it gives a table, in which each cell is the kept one or
-- that of the failure set.
pub gives_a_table : (f : Form) → back_number f ≡ none → IsTable f.sets f.symbols (table_of f).next
gives_a_table = (forms.claims).a_table

pub looked_up_lem : (f : Form) → back_number f ≡ none → (t s : ℕ) → t < f.sets → s < f.symbols
    → cell (table_of f).next t s
    ≡ cond (has (get_or f.kept t 0) s) (get_or f.cells (rank f t s) 0) (cell (table_of f).next (get_or f.failure t 0) s)
looked_up_lem = (forms.claims).looked_up_lem

-- "its failure set is 0 and isn't read", "the rest is 0 and isn't read". Forms that have the same in all
-- that is read have the same answer: the number, and the table too.
pub not_read : (f g : Form) → Alike f g → back_of f ≡ back_of g
not_read = (forms.claims).not_read

-- ---- THE FUNCTIONS
-- Both ask nothing, and may return those answers and no others:
pub asks_nothing : (j : Judge) (f : Form) → AsksForm j × AsksTable f
asks_nothing j f = (tt, tt)

pub allowed : (j : Judge) (r : Result Form Refusal) → MayForm j r ↔ (made_outcome r ≡ made_of j)
allowed j r = ((λ m. m.1), λ e. ((j, tt), e))

pub allowed_back : (f : Form) (r : Result Table Refusal) → MayTable f r ↔ (back_outcome r ≡ back_of f)
allowed_back f r = ((λ m. m.1), λ e. ((f, tt), e))

-- and so may the functions that C links, in numbers of which nothing is lost:
pub asks_nothing_from_C : (j : Judge) (f : Form) → AsksFormC j × AsksTableC f
asks_nothing_from_C j f = (c_asks.form_asks_nothing j, c_asks.back_asks_nothing f)

pub from_C : (j : Judge) (r : FormNumbers) → MayFormC j r ↔ (r ≡ form_shown (made_of j))
from_C j r = ((λ m. m.1), λ e. ((j, tt), e))

pub back_from_C : (f : Form) (r : TableNumbers) → MayTableC f r ↔ (r ≡ table_shown (back_of f))
back_from_C f r = ((λ m. m.1), λ e. ((f, tt), e))

pub read_back : (j : Judge) (r : FormNumbers) → MayFormC j r → form_read_back r ≡ made_of j
read_back j r m = ap form_read_back ((from_C j r).0 m) ∙ (c_form.claims).form_read_back_lem j

pub table_read_back_lem : (f : Form) (r : TableNumbers) → MayTableC f r → table_read_back r ≡ back_of f
table_read_back_lem f r m = ap table_read_back ((back_from_C f r).0 m) ∙ (c_form.claims).table_read_back_lem f

-- Each of C's numbers in other words than the definition's: accepted and refused, the
-- form, the table.
pub each_number : c_claims.Claims
each_number = c_form.claims

-- Who makes the form of a judge's table through them, and the table of this form, gets the judge's table:
pub there_and_back : (h : List Call) (r : Rule) → rule_there h ≡ some r
    → (m : FormNumbers) → MayFormC (judge_after h) m → (b : TableNumbers) → MayTableC m.form b
    → b ≡ record { accepted = 1; refused = 0; table = table_in (judge_after h) }
there_and_back h r there m made b back =
    (back_from_C m.form b).0 back
    ∙ ap (λ (n : FormNumbers). table_shown (back_of n.form)) ((from_C (judge_after h) m).0 made)
    ∙ ap table_shown (after_any_calls h r there)

-- ---- FROM A FILE AND FROM LINES, BY THE PROGRAMS
-- `ruleform` refuses a rule file as the load does, and else prints the form of the rule's table, from
-- which this table can be made again; the kept cells of a line are the set's.
pub file_refused : (f : List ℕ) → (form_for f).number ≡ load_number f
file_refused = (formfile.claims).as_load

-- The form beside a refusal is zeros:
pub file_zeros : (f : List ℕ) (x : ℕ) → load_number f ≡ some x → (form_for f).form ≡ no_form
file_zeros = (formfile.claims).zeros

pub file_form : (f : List ℕ) → load_number f ≡ none
    → (form_for f).form ≡ form_of (built_of (rule_of f)).setcount (built_of (rule_of f)).k (built_of (rule_of f)).next
file_form = (formfile.claims).form

pub file_back : (f : List ℕ) → load_number f ≡ none
    → back_of (form_for f).form
    ≡ record { number = none; table = record { sets = (built_of (rule_of f)).setcount; symbols = (built_of (rule_of f)).k; next = (built_of (rule_of f)).next } }
file_back = (formfile.claims).round_trip

pub line_cells : (f : Form) (t : ℕ) → first_cell f.kept t ≡ rank f t 0
line_cells = (formtext.claims).first-is

pub all_cells : (f : Form) → first_cell f.kept f.sets ≡ kept_count f
all_cells = (formtext.claims).count-is

-- Rule A's form as it is printed, by hand:
pub printed_A : text_for file_A ≡ lines_A
printed_A = (formtext.claims).worked

-- `formtable` answers lines, each of which says a form or nothing: with the table of the form, `refused`
-- and the number, or `malformed`. No line that says a form is longer than the program keeps of a line.
pub line_answer : (w : List ℕ) (f : Form) → line_in w ≡ some f → answer_to w ≡ back_text (back_of f)
line_answer w f e = ap answer_text e

pub malformed_line_lem : (w : List ℕ) → line_in w ≡ none → answer_to w ≡ malformed_text
malformed_line_lem w e = ap answer_text e

-- Rule A's form on a line, by hand; and every form that fits on a line has one, which says this
-- form:
pub line_by_hand : WorkedLine
line_by_hand = (formline.claims).worked_line

pub answer_by_hand : answer_text (some form_A) ≡ table_A
answer_by_hand = (tabletext.claims).worked

pub line_of_lem : (f : Form) → Fits f → line_in (line_of f) ≡ some f
line_of_lem = (formline.claims).line_round_trip

-- What `read_line` has of a line that says no form, or one with too great a number, is zeros beside
-- it:
pub beside_no_form : (held_of none ≡ malformed no_form) × ((f : Form) → (65535 < f.sets) ⊎ (255 < f.symbols) → held_of (some f) ≡ too_great no_form)
beside_no_form = (refl, (formline.claims).too_great_lem)

-- SETS and SYMBOLS may be any numbers below 2 ^ 64: those of no table are refused as in every form, and
-- they do not decide whether what follows them is malformed.
pub no_table_lem : (w : List ℕ) (f : Form) → line_in w ≡ some f → (most_sets < f.sets) ⊎ (most_symbols < f.symbols)
    → answer_to w ≡ refused_text 40
no_table_lem w f e h =
    let n : back_number f ≡ some 40 = ((forms.claims).refused_exactly f).1 (⊎_elim many_sets_lem many_symbols h) in
    line_answer w f e ∙ ap (λ (o : Option ℕ). back_text (back_by o (table_of f))) n

pub any_numbers : (n k m l : ℕ) (w : List ℕ) → failure_in n k w ≡ none → failure_in m l w ≡ none
any_numbers = (formline.claims).any_numbers

pub longest : (w : List ℕ) (f : Form) → line_in w ≡ some f → length w ≤ longest_line
longest = (formline.claims).bounded

-- A text of lines, cut into blocks anywhere: what is answered block by block, and at the end, are the
-- answers to its lines. Where it is cut in two, its lines are those that the first part ends and those of
-- the second, of which the first begins with what that part left.
pub lines : (blocks : List (List ℕ)) (line : List ℕ) → longest_line + 2 ≤ length line
    → (stream_of form_lines (line_state line_begin line) blocks).text ≡ answers_to answer_to (lines_of (flatten blocks))
lines blocks line large = (formstream.answers).whole blocks (beginning line_begin line) (begun line large)

pub in_parts : (v w u : List ℕ) → lines_from v (w ++ u) ≡ lines_ended v (parts_of w) ++ lines_from (line_begun v (parts_of w)) u
in_parts v w u = (linetexts.parts).split w v u

-- All that `formtable` writes, in whatever rounds the blocks of its input are fed, is right line by line.
-- (A round is what the contract of `gather` promises, and the end what that of `finish` does:
-- formstream/src/lib.rt.)
pub lines_written : {s : State Beginning (Unit {0})} {blocks : List (List ℕ)} {line text before after : List ℕ} {n : ℕ} → longest_line + 2 ≤ length line
    → FedBlocks (Promised form_lines) (line_state line_begin line) blocks s text → Ended form_lines s before n after
    → text ++ take n after ≡ answers_to answer_to (lines_of (flatten blocks))
lines_written {line = line} large f end = (formstream.answers).fed (begun line large) f end
