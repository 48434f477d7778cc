-- What is printed for a rule file.
--
--   text_for f         the text for the rule file f: refused with the first number of 1 to 9 whose
--                      condition holds, else the built rule's
--   most_bytes         so many bytes have room for the text of any file (specs/Claims.antt)
use Rattle.std.specs.Prelude.{List, ℕ, ◌+◌, ◌*◌}
use Rattle.std.proofs.Math.Option.{Option, none, some}
use Rattle.limits.specs.Limits.{most_sets}
use Rattle.ruleformat.specs.Refusals.{refusal}
use Rattle.ruleformat.specs.Reader.{rule_of}
use Rattle.build.specs.declared.Built.{Built}
use Rattle.build.specs.mirror.Building.{BuildReply, accepted, refused, Outcome, build_of}
use Rattle.ruletext.specs.RuleText.{rule_text, refused_text}

-- a refusal with its number, or the rule
abbrev pub built_text : BuildReply → Built → List ℕ
built_text (accepted sets starts) b = rule_text b
built_text (refused number) b = refused_text number

abbrev pub text_by : Option ℕ → Outcome → List ℕ
text_by none o = built_text o.answer o.built
text_by (some number) o = refused_text number

abbrev pub text_for : List ℕ → List ℕ
text_for f = text_by (refusal f) (build_of (rule_of f))

-- 20 for the first line, 77 for each of 512 sets, 138 for the last line
abbrev pub most_bytes : ℕ
most_bytes = 20 + 77 * most_sets + 138
