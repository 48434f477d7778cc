-- A judge as bytes. Saved bytes have one length, 27,838: 4 bytes of mark and version (`BBJ`, 1), 4
-- bytes the whole length, then the judge without padding, each number the lowest byte first, and at
-- the end 8 bytes, the digest of all bytes before them.
--
--   saved_size, content_size  how many bytes there are, and how many come before the digest
--   Field, field w xs        the numbers xs, in w bytes each
--   one w x                  one number alone
--   bytes_in fs              the bytes of the fields fs, one after the other
--   head_fields              mark, version and length
--   number_fields b          of a built rule n, k, startcount, setcount, and the masks of initial and
--                            of final states
--   table_fields b           its 32 delegates, 32 singles, 512 sets and 8,192 cells of the table
--   board_fields b           a board: places, and for each of 64 places filled, count, length,
--                            revision; then 2,048 end sets
--   fields_of j, content_of j  all that comes before the digest, and its bytes
--   saved_of j               the judge j as bytes
--   head_right b             mark, version and length of the bytes b are right
--   is_saved b               so are the number of bytes and the digest
--   built_at b, board_at b, judge_at b  what stands in the bytes b, number by number
--   Restored, restore_outcome  the outcome of restoring: the number of a refusal, and the judge,
--                            which is the fresh one where there is none; and the outcome that the
--                            code's result stands for
--   restore_accepted j, restore_refused  accepted with the judge j; refused with 46
--   restore_of b             the outcome of restoring the bytes b
use Rattle.std.specs.Prelude.{Result, Ok, Err, ℕ, Bool, cond, ◌&&◌, List, [], ◌∷◌, ◌++◌, length, take, ◌==◌}
use Rattle.std.proofs.Math.Option.{Option, none, some}
use Rattle.base.specs.declared.Refusal.{Refusal}
use Rattle.base.specs.Answers.{refusal_number}
use Rattle.limits.specs.Limits.{most_states, most_sets, table_cells, most_places, end_cells}
use Rattle.build.specs.declared.Built.{Built}
use Rattle.board.specs.declared.Board.{Board}
use Rattle.calls.specs.declared.Judge.{Judge}
use Rattle.calls.specs.mirror.Steps.{fresh}
use Rattle.saved_judge.specs.Little.{little_of, little_at, numbers_of, numbers_at}
use Rattle.saved_judge.specs.Digest.{digest_of}

abbrev pub saved_size : ℕ
saved_size = 27838

abbrev pub content_size : ℕ
content_size = 27830

pub data Field : Type 0 where
  field : ℕ → List ℕ → Field

abbrev pub one : ℕ → ℕ → Field
one w x = field w (x ∷ [])

unfoldable pub bytes_in : List Field → List ℕ
bytes_in [] = []
bytes_in (field w xs ∷ fs) = numbers_of w xs ++ bytes_in fs

-- B, B, J and the version of the format
abbrev pub head_fields : List Field
head_fields = one 1 66 ∷ one 1 66 ∷ one 1 74 ∷ one 1 1 ∷ one 4 saved_size ∷ []

abbrev pub number_fields : Built → List Field
number_fields b =
    one 1 b.n ∷
    one 1 b.k ∷
    one 1 b.startcount ∷
    one 2 b.setcount ∷
    one 4 b.initials ∷
    one 4 b.finals ∷ []

abbrev pub table_fields : Built → List Field
table_fields b =
    field 1 b.delegates ∷
    field 2 b.singles ∷
    field 4 b.sets ∷
    field 2 b.next ∷ []

abbrev pub board_fields : Board → List Field
board_fields b =
    one 1 b.places ∷
    field 1 b.filled ∷
    field 4 b.counts ∷
    field 4 b.lengths ∷
    field 8 b.revisions ∷
    field 4 b.ends ∷ []

abbrev pub fields_of : Judge → List Field
fields_of j = head_fields ++ (number_fields j.built ++ (table_fields j.built ++ board_fields j.board))

unfoldable pub content_of : Judge → List ℕ
content_of j = bytes_in (fields_of j)

unfoldable pub saved_of : Judge → List ℕ
saved_of j = content_of j ++ little_of 8 (digest_of (content_of j))

-- ---- and back
unfoldable pub head_right : List ℕ → Bool
head_right b =
    (little_at 1 b 0 == 66)
    && (little_at 1 b 1 == 66
    && (little_at 1 b 2 == 74
    && (little_at 1 b 3 == 1
    && little_at 4 b 4 == saved_size)))

unfoldable pub is_saved : List ℕ → Bool
is_saved b =
    (length b == saved_size)
    && (head_right b
    && little_at 8 b content_size == digest_of (take content_size b))

abbrev pub built_at : List ℕ → Built
built_at b = record {
  n = little_at 1 b 8;
  k = little_at 1 b 9;
  startcount = little_at 1 b 10;
  setcount = little_at 2 b 11;
  initials = little_at 4 b 13;
  finals = little_at 4 b 17;
  delegates = numbers_at 1 most_states b 21;
  singles = numbers_at 2 most_states b 53;
  sets = numbers_at 4 most_sets b 117;
  next = numbers_at 2 table_cells b 2165;
}

abbrev pub board_at : List ℕ → Board
board_at b = record {
  places = little_at 1 b 18549;
  filled = numbers_at 1 most_places b 18550;
  counts = numbers_at 4 most_places b 18614;
  lengths = numbers_at 4 most_places b 18870;
  revisions = numbers_at 8 most_places b 19126;
  ends = numbers_at 4 end_cells b 19638;
}

abbrev pub judge_at : List ℕ → Judge
judge_at b = record { built = built_at b; board = board_at b }

-- ---- restoring
pub record Restored : Type 0 where
  pub number : Option ℕ
  pub judge : Judge

abbrev pub restore_outcome : Result Judge Refusal → Restored
restore_outcome (Ok judge) = record { number = none; judge = judge }
restore_outcome (Err refusal) = record { number = some (refusal_number refusal); judge = fresh }

abbrev pub restore_accepted : Judge → Restored
restore_accepted j = record { number = none; judge = j }

abbrev pub restore_refused : Restored
restore_refused = record { number = some 46; judge = fresh }

unfoldable pub restore_of : List ℕ → Restored
restore_of b = cond (is_saved b) (restore_accepted (judge_at b)) restore_refused
