-- `parse` meets its contract. Assumes nothing.
use Rattle.calltext.proofs.Readings.{told}
use Rattle.questions.proofs.Readings.{long_locate, parsed_verdict, parsed_diagnose, parsed_location, parsed_other}
use borrow.Author.Rules.{rules}
use Rattle.questions.proofs.parse.Goals as goal

pub returns-then-is_word : goal.returns-then-is_word
returns-then-is_word c = search (rules, told, parsed_verdict)

pub returns-then-is_word-2 : goal.returns-then-is_word-2
returns-then-is_word-2 c = search (rules, told, parsed_diagnose)

pub location-requires : goal.location-requires
location-requires c = search (rules, told, long_locate)

pub returns-then-begins_with : goal.returns-then-begins_with
returns-then-begins_with c = search (rules, told, parsed_location)

pub returns : goal.returns
returns c = search (rules, told, parsed_other)
