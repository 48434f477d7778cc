-- THE LISTING OF A RULE, which the program `ruleprint` prints (document 01, "Two rules by hand";
-- R-7 for the delegates), sentence by sentence. Under each stands the theorem that meets it; its
-- proof only cites the file that has it. To believe them, read the definitions that they name:
--
--   text_for f       the text for the rule file f             ruletext/specs/Printing
--   rule_text b      of a built rule                          ruletext/specs/RuleText
--   delegate_text o  a state's delegate                       ruletext/specs/RuleText
--   refused_text x   `refused` and the number                 answers/specs/Answers
--   listing_A        document 01's listing of rule A          requests/proofs/Listing
--   SamePrinted b c  all that is printed is the same          ruletext/specs/Claims
--   built_of r       the built rule                           build/specs/mirror/Building
--   load_number f    the number with which a load is refused  calls/specs/Calls
--
-- f and g are any lists of bytes. Assumes nothing.
-- All that they rest on stands in these files of specs/ (tests/believed):
--   base Conditions, Lists; limits Limits; text Numerals; masks Masks; automaton Rules,
--   Successor; rulecheck Checking; ruleformat Format, Reader, Refusals, Worked; numbering
--   Numbering; subsets Sets, mirror/Singles; delegates Alike, Claims, mirror/Classes; build
--   mirror/Building; calls Calls; ruletext Claims, Printing, RuleText.
use mathlib.Core.Path.{◌≡◌}
use mathlib.Core.Logic.{◌↔◌}
use mathlib.Core.List.{List, [], ◌∷◌}
use mathlib.Core.Option.{none, some}
use Prim.Native.Nat.{ℕ, ◌≤◌}
use lib.ListN.{length}
use Rattle.limits.specs.Limits.{largest_number}
use Rattle.ruleformat.specs.Reader.{rule_of}
use Rattle.ruleformat.specs.Worked.{file_A}
use Rattle.delegates.specs.Alike.{delegate_in}
use Rattle.build.specs.mirror.Building.{built_of}
use Rattle.calls.specs.Calls.{load_number}
use Rattle.ruletext.specs.RuleText.{delegate_text, rule_text, refused_text}
use Rattle.ruletext.specs.Printing.{text_for, most_bytes}
use Rattle.ruletext.specs.Claims.{SamePrinted}
use Rattle.ruletext.proofs.Claims as ruletext
use Rattle.requests.proofs.Listing as listing
use Rattle.requests.proofs.Listing.{listing_A}

-- "The program `ruleprint` reads a rule from standard input and prints for A": the seven lines that
-- stand there.
pub rule_A_lem : text_for file_A ≡ listing_A
rule_A_lem = listing.listing_A_lem

-- Of any file that a load accepts it prints the built rule.
pub accepted : (f : List ℕ) → load_number f ≡ none → text_for f ≡ rule_text (built_of (rule_of f))
accepted = listing.accepted

-- "A refusal prints `refused` and the number": exactly where the load is refused, with the load's
-- number.
pub refused : (f : List ℕ) (x : ℕ) → x ≤ largest_number → (text_for f ≡ refused_text x) ↔ (load_number f ≡ some x)
refused = listing.refused_exactly

-- R-7: "`ruleprint` shows - as its delegate": a space and -, which are 32 and 45, exactly where a
-- state has none.
pub no_delegate_lem : (d : List ℕ) (q : ℕ) → (delegate_text (delegate_in d q) ≡ 32 ∷ 45 ∷ []) ↔ (delegate_in d q ≡ none)
no_delegate_lem = (ruletext.claims).dash_exactly

-- "The first line has the number of sets and M. A set's line is its number, mask .., then the
-- number of the successor for each symbol or - for the empty set. The last line has each state's
-- delegate." Nothing of that is lost: two files with the same listing have the same n and k, as
-- many sets and starts, and the same sets, cells and delegates.
pub determined : (f g : List ℕ) → load_number f ≡ none → load_number g ≡ none → text_for f ≡ text_for g
    → SamePrinted (built_of (rule_of f)) (built_of (rule_of g))
determined = listing.determines

-- The program's buffer has room for every text:
pub fits : (f : List ℕ) → length (text_for f) ≤ most_bytes
fits = (ruletext.claims).fits
