-- What `number_sets` promises of any table of targets and any n and k: the number of sets or that
-- there are more than 512 (9), and, where there are not, both arrays whole, each cell that is not
-- in use too, and the number of each singleton. A refusal carries zeros.
--
--   NumberingReply     document 01's answer: the number of sets, or refused with a number
--   Table, table_outcome  the answer, with the arrays beside it; and the outcome that each case of
--                         the code's answer stands for
--   no_table           refused with 9: zeros
--   table_of ts n k     the table of a rule with the targets ts, n states and k symbols
use Rattle.std.specs.Prelude as code
use Rattle.std.specs.Prelude.{Some, None, cond, List, ℕ, length, replicate}
use Rattle.limits.specs.Limits.{most_states, most_sets, table_cells}
use Rattle.subsets.specs.declared.SetTable.{SetTable}
use Rattle.subsets.specs.Sets.{sets_of, too_many, set_cells, next_cells}
use Rattle.subsets.specs.mirror.Singles.{singles_of}

pub data NumberingReply : Type 0 where
  counted : ℕ → NumberingReply
  refused : ℕ → NumberingReply

pub record Table : Type 0 where
  pub reply : NumberingReply
  pub sets : List ℕ
  pub next : List ℕ
  pub singles : List ℕ

abbrev pub no_table : Table
no_table = record {
  reply = refused 9;
  sets = replicate most_sets 0;
  next = replicate table_cells 0;
  singles = replicate most_states 0;
}

abbrev pub table_outcome : code.Option SetTable → Table
table_outcome (Some t) = record { reply = counted t.count; sets = t.sets; next = t.next; singles = t.singles }
table_outcome None = no_table

unfoldable pub table_of : List ℕ → ℕ → ℕ → Table
table_of ts n k =
    cond (too_many ts n k) no_table
    (record {
      reply = counted (length (sets_of ts n k));
      sets = set_cells ts n k;
      next = next_cells ts n k;
      singles = singles_of (set_cells ts n k) (length (sets_of ts n k));
    })
