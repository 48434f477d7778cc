-- What the calls and their replies say, beside what the calls alone say (crates/histories,
-- specs/History.antt): two ways through a list, which come to the same where the replies are
-- document 01's. proofs/Agree.antt proves it of every list.
--
--   value_of x, rule_for o  the rule as a value
--   SoundSource x, Sound o   what the rule comes from is accepted
--   Agree h s              s is what the calls h say
use Rattle.std.specs.Prelude.{◌≡◌, List, ℕ}
use Rattle.std.proofs.Math.Option.{Option, none, some}
use Rattle.automaton.specs.declared.Rule.{Rule}
use Rattle.ruleformat.specs.Reader.{rule_of}
use Rattle.calls.specs.Calls.{Call, install_number, load_number}
use Rattle.histories.specs.History.{rule_there, places_in, last_revision, standing}
use Rattle.transcripts.specs.Standing.{Source, value, file, Standing}

abbrev pub value_of : Source → Rule
value_of (value r) = r
value_of (file f) = rule_of f

abbrev pub rule_for : Option Source → Option Rule
rule_for none = none
rule_for (some x) = some (value_of x)

abbrev pub SoundSource : Source → Type 0
SoundSource (value r) = install_number r ≡ none
SoundSource (file f) = load_number f ≡ none

abbrev pub Sound : Option Source → Type 0
Sound none = Unit {0}
Sound (some x) = SoundSource x

pub record Agree (h : List Call) (s : Standing) : Type 0 where
  pub rule : rule_there h ≡ rule_for s.rule
  pub sound : Sound s.rule
  pub places : s.places ≡ places_in h
  pub chunk : (p : ℕ) → s.chunk p ≡ standing h p
  pub revision : (p : ℕ) → s.revision p ≡ last_revision h p
