-- The numbers that C is given for a text to make. Every field is fixed, and so is the buffer.
--
--   made_shown o      what making a text answers: accepted 1 and refused 0, or accepted 0 and the
--                     number of the refusal
--   made_read_back r  what such a result says, read back from its numbers
--   MakesShown        what `bellbadger_make_text` promises
use Rattle.std.specs.Prelude.{◌≡◌, List, ℕ}
use Rattle.std.proofs.Math.Option.{Option}
use Rattle.flags.specs.Flags.{flag_by, refused_by, refusal_by}
use Rattle.madetexts.specs.Making.{made_number, buffer_after}
use Rattle.c_texts.specs.declared.MadeNumbers.{MadeNumbers}

abbrev pub made_shown : Option ℕ → MadeNumbers
made_shown o = record { accepted = flag_by o; refused = refused_by o }

abbrev pub made_read_back : MadeNumbers → Option ℕ
made_read_back r = refusal_by r.accepted r.refused

pub record MakesShown (k seed : ℕ) (before : List ℕ) (r : MadeNumbers) (after : List ℕ) : Type 0 where
  pub answer : r ≡ made_shown (made_number k seed)
  pub buffer : after ≡ buffer_after k seed before
