-- The limits of rules, boards and lines of calls (document 01), and the sizes of tables and buffers
-- that follow from them. src/lib.rt has them for code.
--
--   most_states      the most states of a rule: a set of states is a 32-bit mask
--   no_delegate      stands for no state where the delegate of a state is due: the first number
--                    that no state can have
--   most_symbols     the most symbols of a rule
--   most_sets        the most sets that get a number
--   empty_set        stands for the empty set, which gets no number, where a set's number is due:
--                    the first number that no set can have
--   most_classes     the numbered sets and the empty set, each of which has a class
--   target_cells     the cells of a rule's targets: a mask for each state and symbol
--   table_cells      the cells of the next-set table: a set's number for each set and symbol
--   most_places      the most places of a board
--   end_cells        the cells of a board's end sets: a mask for each place and state
--   longest_chunk    the most bytes of a chunk
--   most_transitions  the most transitions that the chunks of a board can count in all: one for each
--                    place, byte of its chunk and state that is run
--   longest_file     the most bytes of a rule file
--   largest_number   the largest number on a line of calls: the largest of 64 bits
--   most_digits      the most digits of a number on a line of calls
--   largest_revision  the largest revision of a delivery (document 02, R-11): the largest number of
--                    32 bits
--   bytes_room       room for the bytes of a chunk on a line, with one to spare: a longer chunk
--                    fills it
--   line_room        room for what is kept of a line: `deliver `, the digits of a place, a
--                    space, the digits of a revision, a space, two hex digits for each of
--                    bytes_room bytes, and one byte more
--   answer_room      room for the answer to a line: of a word and four numbers, each behind a space
use Rattle.std.specs.Prelude.{ℕ, ◌+◌, ◌*◌}

abbrev pub most_states : ℕ
most_states = 32

abbrev pub no_delegate : ℕ
no_delegate = most_states

abbrev pub most_symbols : ℕ
most_symbols = 16

abbrev pub most_sets : ℕ
most_sets = 512

abbrev pub empty_set : ℕ
empty_set = most_sets

abbrev pub most_classes : ℕ
most_classes = most_sets + 1

abbrev pub target_cells : ℕ
target_cells = most_states * most_symbols

abbrev pub table_cells : ℕ
table_cells = most_sets * most_symbols

abbrev pub most_places : ℕ
most_places = 64

abbrev pub end_cells : ℕ
end_cells = most_places * most_states

abbrev pub longest_chunk : ℕ
longest_chunk = 65536

abbrev pub most_transitions : ℕ
most_transitions = most_places * longest_chunk * most_states

abbrev pub longest_file : ℕ
longest_file = 32906

abbrev pub largest_number : ℕ
largest_number = 18446744073709551615

abbrev pub most_digits : ℕ
most_digits = 20

abbrev pub largest_revision : ℕ
largest_revision = 4294967295

abbrev pub bytes_room : ℕ
bytes_room = longest_chunk + 1

abbrev pub line_room : ℕ
line_room = 8 + most_digits + 1 + most_digits + 1 + 2 * bytes_room + 1

abbrev pub answer_room : ℕ
answer_room = 96
