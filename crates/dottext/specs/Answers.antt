-- What drawing a file into a lent buffer answers. A rule of over 512 sets is drawn too: no set is
-- numbered for it.
--
--   DrawingReply   a drawing of so many bytes, or a refusal with its number
--   drawing_means  what each case of the code's answer says
--   drawing_for f  the drawing of the rule in the file f; nothing where the reader refuses the file
--   reply_for f    the length of that drawing; or the number, 1 to 8, with which the reader refuses
--   Draws f ..     that is said, and the drawing stands at the start of the buffer; what lies past
--                  it is left as it was
use Rattle.std.specs.Prelude.{Result, Ok, Err, ◌≡◌, List, [], ◌++◌, ℕ, length, drop}
use Rattle.std.proofs.Math.Option.{Option, none, some}
use Rattle.base.specs.declared.Refusal.{Refusal}
use Rattle.base.specs.Answers.{refusal_number}
use Rattle.automaton.specs.declared.Rule.{Rule}
use Rattle.ruleformat.specs.Refusals.{refusal}
use Rattle.ruleformat.specs.Reader.{rule_of}
use Rattle.dotgraph.specs.DotText.{dot_text}

pub data DrawingReply : Type 0 where
  drawn : ℕ → DrawingReply
  refused : ℕ → DrawingReply

abbrev pub drawing_means : Result ℕ Refusal → DrawingReply
drawing_means (Ok n) = drawn n
drawing_means (Err refusal) = refused (refusal_number refusal)

abbrev pub drawing_by : Option ℕ → Rule → List ℕ
drawing_by none r = dot_text r
drawing_by (some number) r = []

abbrev pub drawing_for : List ℕ → List ℕ
drawing_for f = drawing_by (refusal f) (rule_of f)

abbrev pub reply_by : Option ℕ → Rule → DrawingReply
reply_by none r = drawn (length (dot_text r))
reply_by (some number) r = refused number

abbrev pub reply_for : List ℕ → DrawingReply
reply_for f = reply_by (refusal f) (rule_of f)

pub record Draws (f before after : List ℕ) (r : Result ℕ Refusal) : Type 0 where
  pub answer : drawing_means r ≡ reply_for f
  pub buffer : after ≡ drawing_for f ++ drop (length (drawing_for f)) before
