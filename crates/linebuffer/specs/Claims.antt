-- What is kept of a line of a text, whatever its length, has the outcome of the whole line;
-- proofs/Claimed.antt proves the claims. A line that is longer than the buffer is told by its
-- beginning, and by whether the rest is hex digits and how many: such a file or chunk is refused by
-- its length alone, and so many bytes state no rule. What it is to keep a line, and that a buffer
-- does as the line goes on, is said of any lines in `longlines`.
use Rattle.std.specs.Prelude.{◌≡◌, false, List, ℕ, ◌≤◌, length}
use Rattle.limits.specs.Limits.{line_room}
use Rattle.calls.specs.declared.Judge.{Judge}
use Rattle.questions.specs.Meaning.{Question, question, meaning_in}
use Rattle.longlines.specs.declared.Held.{Held}
use Rattle.longlines.specs.Claims.{Keeps}
use Rattle.linetexts.specs.Lists.{list_of}
use Rattle.linebuffer.specs.Meanings.{line_told, held_meaning}

pub record Claims : Type 0 where
  -- on every judge
  pub runs : (buffer : List ℕ) (h : Held) (w : List ℕ) → line_room ≤ length buffer → Keeps buffer h w
      → (j : Judge) → line_told j (held_meaning buffer h) ≡ line_told j (meaning_in w)
  -- a question changes nothing: the judge stays, and the list goes on
  pub question_keeps : (j : Judge) (l : List ℕ) (q : Question) → meaning_in l ≡ question q → (line_told j (meaning_in l)).state ≡ list_of j false
