-- A pattern read byte by byte, as the code does it, on any reading: numbers that a pattern within
-- the limits does not reach are taken modulo their bound. specs/Claims.antt says what it comes to.
--
--   part_of p o         what is known of the part p whose letters are numbered from o + 1 on
--   then_of, or_of      of one part and then another, and of one or the other
--   linked_of f l m    the table f in which each position of m also follows each of l
--   marked_of t a q    the table t in which q is a position of the letter a
--   no_part, empty_part  no alternative yet; a sequence of nothing
--   letter_part q      the letter at position q
--   commit_of r        the item goes to the end of the sequence
--   letter_of r a, bar_of r, opened_of r, closed_of r, starred_of r  the reading r after such a sign
--   no_frame           a frame of nothing, where the stack has none
--   after_sign r s     the reading r after one sign more
--   after_bytes r bs   the reading r after the bytes bs
--   beginning          the reading before the first byte
--   finished r         the reading after the last: the alternatives are the pattern
--   Positions r p      the reading has the sets of the positions of p
use Rattle.std.specs.Prelude.{◌≡◌, true, false, cond, ◌&&◌, ◌||◌, List, [], ◌∷◌, ℕ, ◌+◌, ◌-◌, ◌%◌, ◌<◌, get_or, set, replicate}
use Rattle.std.specs.Int.Bits.{bit_or}
use Rattle.base.specs.Lists.{list_from}
use Rattle.limits.specs.Limits.{most_states, most_symbols}
use Rattle.masks.specs.Masks.{has, single}
use Rattle.patterns.specs.Limits.{longest_pattern}
use Rattle.patternscan.specs.declared.Sign.{Sign}
use Rattle.patternscan.specs.declared.Sign.TheVariants.{Letter, Bar, Opens, Closes, Star, Foreign}
use Rattle.patternreader.specs.declared.Part.{Part}
use Rattle.patternreader.specs.declared.Frame.{Frame}
use Rattle.patternreader.specs.declared.Reading.{Reading}
use Rattle.patternscan.specs.Signs.{sign_of}
use Rattle.patterns.specs.Patterns.{Pattern, count}
use Rattle.patterns.specs.Positions.{nullable, first, last, follow, positions_of}

abbrev pub part_of : Pattern → ℕ → Part
part_of p o = record { empty = nullable p; first = first p o; last = last p o }

abbrev pub then_of : Part → Part → Part
then_of a b = record {
  empty = a.empty && b.empty;
  first = bit_or a.first (cond a.empty b.first 0);
  last = bit_or (cond b.empty a.last 0) b.last;
}

abbrev pub or_of : Part → Part → Part
or_of a b = record { empty = a.empty || b.empty; first = bit_or a.first b.first; last = bit_or a.last b.last }

abbrev pub linked_of : List ℕ → ℕ → ℕ → List ℕ
linked_of f l m = list_from 0 most_states (λ i. bit_or (get_or f i 0) (cond (has l i) m 0))

abbrev pub marked_of : List ℕ → ℕ → ℕ → List ℕ
marked_of t a q = set t (a % most_symbols) (bit_or (get_or t (a % most_symbols) 0) (single q))

abbrev pub no_part : Part
no_part = record { empty = false; first = 0; last = 0 }

abbrev pub empty_part : Part
empty_part = record { empty = true; first = 0; last = 0 }

abbrev pub letter_part : ℕ → Part
letter_part q = record { empty = false; first = single q; last = single q }

-- the item goes to the end of the sequence
abbrev pub commit_of : Reading → Reading
commit_of r = record {
  depth = r.depth;
  letters = r.letters;
  alternatives = r.alternatives;
  sequence = then_of r.sequence r.item;
  item = empty_part;
  stack = r.stack;
  follow = linked_of r.follow r.sequence.last r.item.first;
  positions = r.positions;
}

-- a letter is the next item
abbrev pub letter_of : Reading → ℕ → Reading
letter_of r a = record {
  depth = r.depth;
  letters = (r.letters % most_states + 1) % most_states;
  alternatives = r.alternatives;
  sequence = r.sequence;
  item = letter_part ((r.letters % most_states + 1) % most_states);
  stack = r.stack;
  follow = r.follow;
  positions = marked_of r.positions a ((r.letters % most_states + 1) % most_states);
}

-- the sequence is one alternative more
abbrev pub bar_of : Reading → Reading
bar_of r = record {
  depth = r.depth;
  letters = r.letters;
  alternatives = or_of r.alternatives r.sequence;
  sequence = empty_part;
  item = empty_part;
  stack = r.stack;
  follow = r.follow;
  positions = r.positions;
}

-- a bracket opens: alternatives and sequence are put on the stack
abbrev pub opened_of : Reading → Reading
opened_of r = record {
  depth = r.depth % longest_pattern + 1;
  letters = r.letters;
  alternatives = no_part;
  sequence = empty_part;
  item = empty_part;
  stack = set r.stack (r.depth % longest_pattern) (record { alternatives = r.alternatives; sequence = r.sequence });
  follow = r.follow;
  positions = r.positions;
}

abbrev pub no_frame : Frame
no_frame = record { alternatives = no_part; sequence = no_part }

-- a bracket closes: what stood in it is the next item
abbrev pub closed_of : Reading → Reading
closed_of r = record {
  depth = (r.depth + longest_pattern - 1) % longest_pattern;
  letters = r.letters;
  alternatives = (get_or r.stack ((r.depth + longest_pattern - 1) % longest_pattern) no_frame).alternatives;
  sequence = (get_or r.stack ((r.depth + longest_pattern - 1) % longest_pattern) no_frame).sequence;
  item = or_of r.alternatives r.sequence;
  stack = r.stack;
  follow = r.follow;
  positions = r.positions;
}

-- a star: the item's first positions follow its last
abbrev pub starred_of : Reading → Reading
starred_of r = record {
  depth = r.depth;
  letters = r.letters;
  alternatives = r.alternatives;
  sequence = r.sequence;
  item = record { empty = true; first = r.item.first; last = r.item.last };
  stack = r.stack;
  follow = linked_of r.follow r.item.last r.item.first;
  positions = r.positions;
}

abbrev pub after_sign : Reading → Sign → Reading
after_sign r (Letter a) = letter_of (commit_of r) a
after_sign r Bar = bar_of (commit_of r)
after_sign r Opens = opened_of (commit_of r)
after_sign r Closes = closed_of (commit_of r)
after_sign r Star = starred_of r
after_sign r Foreign = r

abbrev pub after_bytes : Reading → List ℕ → Reading
after_bytes r [] = r
after_bytes r (b ∷ bs) = after_bytes (after_sign r (sign_of b)) bs

-- before the first byte
abbrev pub beginning : Reading
beginning = record {
  depth = 0;
  letters = 0;
  alternatives = no_part;
  sequence = empty_part;
  item = empty_part;
  stack = replicate longest_pattern no_frame;
  follow = replicate most_states 0;
  positions = replicate most_symbols 0;
}

-- after the last: the sequence is the last alternative, and the alternatives are the pattern
abbrev pub finished : Reading → Reading
finished r = bar_of (commit_of r)

-- the reading has the sets of the positions of p
pub record Positions (r : Reading) (p : Pattern) : Type 0 where
  pub letters : r.letters ≡ count p
  pub part : r.alternatives ≡ part_of p 0
  pub followed : (i : ℕ) → i < most_states → get_or r.follow i 0 ≡ follow p 0 i
  pub marked : (s : ℕ) → s < most_symbols → get_or r.positions s 0 ≡ positions_of p 0 s
