-- The rule file of a rule (document 01, "The rule file"), made from the rule. Claims.antt ties it
-- to reading: `written` says that this file is accepted and holds the rule, `rewritten` that no
-- other file of bytes does.
--
--   Bytes f                     each member of f is a byte, below 256 (past the end a byte reads 0)
--   half x, word x              the number x in two bytes and in four, the lowest first
--   header n k initials finals  the bytes 0 to 9
--   offset_in n sections q      where the section of state q begins
--   pairs n sections            the offset and the length of the section of each state
--   file_with .. sections       the file with this header and these sections
--   section_of n k masks        the section of a state whose target mask by symbol s is `masks s`:
--                               its arcs, by symbol and then target
--   file_of r                   the rule file of the rule r
use Rattle.std.specs.Prelude.{cond, List, [], ◌∷◌, ◌++◌, ℕ, ◌+◌, ◌*◌, ◌/◌, ◌%◌, ◌<◌, length}
use Rattle.base.specs.Lists.{joined}
use Rattle.masks.specs.Masks.{has}
use Rattle.automaton.specs.declared.Rule.{Rule}
use Rattle.automaton.specs.Rules.{target_mask}
use Rattle.ruleformat.specs.Format.{byte_at}

abbrev pub Bytes : List ℕ → Type 0
Bytes f = (i : ℕ) → byte_at f i < 256

abbrev pub half : ℕ → List ℕ
half x = x % 256 ∷ x / 256 ∷ []

abbrev pub word : ℕ → List ℕ
word x = half (x % 65536) ++ half (x / 65536)

abbrev pub header : ℕ → ℕ → ℕ → ℕ → List ℕ
header n k initials finals = n ∷ k ∷ (word initials ++ word finals)

abbrev pub offset_in : ℕ → (ℕ → List ℕ) → ℕ → ℕ
offset_in n sections q = 10 + 4 * n + length (joined sections q)

abbrev pub pairs : ℕ → (ℕ → List ℕ) → List ℕ
pairs n sections = joined (λ q. half (offset_in n sections q) ++ half (length (sections q))) n

abbrev pub file_with : ℕ → ℕ → ℕ → ℕ → (ℕ → List ℕ) → List ℕ
file_with n k initials finals sections = header n k initials finals ++ (pairs n sections ++ joined sections n)

abbrev pub section_of : ℕ → ℕ → (ℕ → ℕ) → List ℕ
section_of n k masks = joined (λ s. joined (λ t. cond (has (masks s) t) (s ∷ t ∷ []) []) n) k

abbrev pub file_of : Rule → List ℕ
file_of r = file_with r.n r.k r.initials r.finals (λ q. section_of r.n r.k (target_mask r.targets q))
