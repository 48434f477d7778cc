-- How a line of `rulemerge` is answered. The first file is read, then the second, if there is one,
-- then the rules are merged, compared or reduced.
--
--   files_conditions way f g  the conditions: the first file's, the second's, then 36 and 37
--   files_number way f g     the number of the first that holds
--   result_file way f g      the file of the two rules made one
--   Response                 what a line is answered: a refusal, a file, a rule with a text that it
--                            alone accepts, that the two accept the same, or that it is malformed
--   rule_response r          the file of a rule, or the refusal that the code has in its place
--   merged_files way f g     what merging two files is answered
--   compared_files f g       what comparing them is
--   reduced_file f           what reducing a file is
--   response_in m            what a line that means m is answered
--   apart_word which         `apart first `, `apart second `
--   response_text s          the whole line: `refused` and the number, the file in hex digits, which
--                            rule and the text as a field, `same`, or `malformed`
--   most_answer              the most bytes of an answer: two for each of a file's, and a line feed
use Rattle.std.specs.Prelude.{Result, Ok, Err, List, [], ◌∷◌, ◌++◌, ℕ, ◌+◌, ◌*◌}
use Rattle.std.proofs.Math.Option.{Option, none, some}
use Rattle.base.specs.declared.Refusal.{Refusal}
use Rattle.base.specs.Answers.{refusal_number}
use Rattle.base.specs.Conditions.{Condition, first_of}
use Rattle.limits.specs.Limits.{longest_file}
use Rattle.answers.specs.Answers.{refused_text, malformed_text}
use Rattle.fields.specs.Claims.{digits_of, field_of}
use Rattle.automaton.specs.declared.Rule.{Rule}
use Rattle.ruleformat.specs.Refusals.{file_conditions, refusal}
use Rattle.ruleformat.specs.Reader.{rule_of}
use Rattle.ruleformat.specs.Writing.{file_of}
use Rattle.merging.specs.declared.Way.{Way}
use Rattle.merging.specs.Merged.{merged_of}
use Rattle.merging.specs.Merging.{pair_conditions}
use Rattle.compare.specs.declared.Which.{Which}
use Rattle.compare.specs.declared.Which.TheVariants.{First, Second}
use Rattle.compare.specs.Compared as compared
use Rattle.compare.specs.Compared.{Comparison}
use Rattle.compare.specs.Search.{compare_of}
use Rattle.reducing.specs.Reducing.{Reducing, reduce_of}
use Rattle.mergetext.specs.Lines.{Meaning, merges, compares, reduces, malformed}

abbrev pub files_conditions : Way → List ℕ → List ℕ → List Condition
files_conditions way f g =
    file_conditions f ++ (file_conditions g ++ pair_conditions way (rule_of f) (rule_of g))

unfoldable pub files_number : Way → List ℕ → List ℕ → Option ℕ
files_number way f g = first_of (files_conditions way f g)

abbrev pub result_file : Way → List ℕ → List ℕ → List ℕ
result_file way f g = file_of (merged_of way (rule_of f) (rule_of g))

pub data Response : Type 0 where
  refused : ℕ → Response
  file : List ℕ → Response
  apart : Which → List ℕ → Response
  same : Response
  unread : Response

abbrev pub response_by : Option ℕ → List ℕ → Response
response_by none f = file f
response_by (some number) f = refused number

abbrev pub rule_response : Result Rule Refusal → Response
rule_response (Ok rule) = file (file_of rule)
rule_response (Err refusal) = refused (refusal_number refusal)

abbrev pub merged_files : Way → List ℕ → List ℕ → Response
merged_files way f g = response_by (files_number way f g) (result_file way f g)

-- read, or refused with that number
abbrev pub after_read : Option ℕ → Response → Response
after_read none s = s
after_read (some number) s = refused number

abbrev pub compared_by : Comparison → Response
compared_by (compared.apart which w) = apart which w
compared_by compared.same = same
compared_by (compared.refused number) = refused number

abbrev pub compared_files : List ℕ → List ℕ → Response
compared_files f g = after_read (refusal f) (after_read (refusal g) (compared_by (compare_of (rule_of f) (rule_of g))))

abbrev pub reduced_by : Reducing → Response
reduced_by m = response_by m.number (file_of m.rule)

abbrev pub reduced_file : List ℕ → Response
reduced_file f = after_read (refusal f) (reduced_by (reduce_of (rule_of f)))

abbrev pub response_in : Meaning → Response
response_in (merges way f g) = merged_files way f g
response_in (compares f g) = compared_files f g
response_in (reduces f) = reduced_file f
response_in malformed = unread

abbrev pub apart_word : Which → List ℕ
apart_word First = 97 ∷ 112 ∷ 97 ∷ 114 ∷ 116 ∷ 32 ∷ 102 ∷ 105 ∷ 114 ∷ 115 ∷ 116 ∷ 32 ∷ []
apart_word Second = 97 ∷ 112 ∷ 97 ∷ 114 ∷ 116 ∷ 32 ∷ 115 ∷ 101 ∷ 99 ∷ 111 ∷ 110 ∷ 100 ∷ 32 ∷ []

abbrev pub response_text : Response → List ℕ
response_text (refused number) = refused_text number
response_text (file f) = digits_of f ++ (10 ∷ [])
response_text (apart which w) = apart_word which ++ (field_of w ++ (10 ∷ []))
response_text same = 115 ∷ 97 ∷ 109 ∷ 101 ∷ 10 ∷ []
response_text unread = malformed_text

abbrev pub most_answer : ℕ
most_answer = 2 * longest_file + 1
