-- A JUDGE AS BYTES, AND BACK, sentence by sentence. Under each stands the theorem that meets it; its
-- proof only cites the file that has it. To believe them, read the definitions that they name:
--
--   saved_of j                  the judge j as bytes, 27,838 of them        saved_judge/specs/Saved
--   restore_of b                what restoring the bytes b answers          saved_judge/specs/Saved
--   restore_accepted j          accepted, with the judge j                  saved_judge/specs/Saved
--   restore_refused             46, with the fresh judge                    saved_judge/specs/Saved
--   digest_step h x             the digest h with the byte x behind it      saved_judge/specs/Digest
--   Fits j                      the numbers of j are those that the type    saved_judge/specs/Claims
--                               holds, as every value of the type has it
--   little_of w x; half, word   a number in bytes; in those of a rule file  saved_judge/specs/Little,
--                                                                           ruleformat/specs/Writing
--   cases, Saves                judges saved, and digests, by another       saved_judge/specs/Worked
--                               program
--   Bytes b, byte_at b i         each is below 256; one of them              ruleformat/specs/Writing
--   MaySave, MayRestore, ..     what the functions' contracts allow         requests/specs/SaveFunctions
--   restore_shown               C's numbers                                 c_saved/specs/Numbers
--   Execution c_library h rs j  the calls h through C's functions           executions/specs/Executions
--
-- j is any judge whose numbers are those of the type, also one that no list of calls leaves; b is any
-- list of bytes. A saved judge is no seal: the digest guards against mistakes, not against attackers.
-- A proved function ends and stays within its bounds. Assumes nothing.
-- All that they rest on stands in these files of specs/ (tests/believed):
--   base Answers; limits Limits; flags Flags; ruleformat Format, Writing; build mirror/Building;
--   board Boards; calls Calls, Replies, mirror/Steps; saved_judge Claims, Digest, Little, Saved,
--   Worked; executions Executions; c_saved Claims, Numbers; capi Numbers; demands Functions;
--   requests SaveFunctions.
use Rattle.base.specs.declared.Refusal.{Refusal}
use Rattle.std.proofs.Common.{Result}
use mathlib.Core.Path.{◌≡◌, refl, sym, ap, ◌∙◌, subst}
use mathlib.Core.Logic.{◌↔◌}
use mathlib.Core.List.{List, [], ◌++◌}
use mathlib.Core.Option.{some}
use Prim.Native.Nat.{ℕ, ◌/◌, ◌%◌, ◌^◌, ◌<◌}
use contract.Lifetimes.{Lfts}
use denote.Ref.{Bor}
use lib.ListN.{length, set}
use Rattle.ruleformat.specs.Format.{byte_at}
use Rattle.ruleformat.specs.Writing.{Bytes, half, word}
use Rattle.calls.specs.declared.Judge.{Judge}
use Rattle.calls.specs.Replies.{Reply}
use Rattle.calls.specs.Calls.{Call}
use Rattle.executions.specs.Executions.{Execution}
use Rattle.histories.proofs.Refinement.{lent}
use Rattle.demands.specs.Functions.{c_library}
use Rattle.saved_judge.specs.declared.Saved.{Saved}
use Rattle.saved_judge.specs.Little.{little_of}
use Rattle.saved_judge.specs.Digest.{digest_step}
use Rattle.saved_judge.specs.Saved.{saved_size, saved_of, restore_outcome, restore_accepted, restore_refused, restore_of}
use Rattle.saved_judge.specs.Claims.{Fits}
use Rattle.saved_judge.specs.Worked.{cases, Saves}
use Rattle.saved_judge.proofs.Claims as saving
use Rattle.saved_judge.proofs.Examples as examples
use Rattle.c_saved.specs.declared.RestoreNumbers.{RestoreNumbers}
use Rattle.c_saved.specs.Numbers.{restore_shown, restore_read_back}
use Rattle.c_saved.specs.Claims as c_claims
use Rattle.c_saved.proofs.ReadBack as c_saved
use Rattle.c_saved.proofs.Asks as c_asks
use Rattle.requests.specs.SaveFunctions.{AsksSave, MaySave, AsksRestore, MayRestore, AsksSaveC, MaySaveC, AsksRestoreC, MayRestoreC}

-- The number of bytes:
pub size_is : saved_size ≡ 27838
size_is = refl

-- ---- THERE AND BACK
-- "A judge can be kept as bytes and had back":
pub restored : (j : Judge) → Fits j → restore_of (saved_of j) ≡ restore_accepted j
restored = (saving.claims).restored

-- and nothing but the saved form of a judge is accepted: bytes are accepted with a judge exactly where
-- they are what is saved of it, and its numbers are those of the type.
pub exactly : (b : List ℕ) → Bytes b → (j : Judge) → (restore_of b ≡ restore_accepted j) ↔ (Fits j × (b ≡ saved_of j))
exactly = (saving.claims).exactly

pub only_saved : (b : List ℕ) → Bytes b → (j : Judge) → restore_of b ≡ restore_accepted j → b ≡ saved_of j
only_saved b bytes j e = ((exactly b bytes j).0 e).1

-- Two judges with the same saved bytes are one.
pub saved_alike : (j k : Judge) → Fits j → Fits k → saved_of j ≡ saved_of k → j ≡ k
saved_alike = (saving.claims).saved_alike

-- "Saved bytes have a fixed length, 27,838":
pub size : (j : Judge) → Fits j → length (saved_of j) ≡ 27838
size = (saving.claims).size

pub bytes : (j : Judge) → Bytes (saved_of j)
bytes = (saving.claims).bytes

-- ---- REFUSALS
-- "a refusal carries the fresh judge", and its number is 46:
pub refused : (b : List ℕ) (x : ℕ) → (restore_of b).number ≡ some x → restore_of b ≡ restore_refused
refused = (saving.claims).refused

-- "refused with 46 unless length, mark, version, stated length and digest are right": cut or longer
-- bytes, bytes with another mark or another version,
pub cut : (b : List ℕ) → (length b ≡ 27838 → ⊥) → restore_of b ≡ restore_refused
cut = (saving.claims).cut

pub other_mark : (b : List ℕ) → ((byte_at b 0 ≡ 66) × (byte_at b 1 ≡ 66) × (byte_at b 2 ≡ 74) → ⊥) → restore_of b ≡ restore_refused
other_mark = (saving.claims).other_mark

pub other_version : (b : List ℕ) → (byte_at b 3 ≡ 1 → ⊥) → restore_of b ≡ restore_refused
other_version = (saving.claims).other_version

-- and saved bytes of which one, whichever it is, became another.
pub altered : (j : Judge) → Fits j → (i x : ℕ) → i < 27838 → x < 256 → (x ≡ byte_at (saved_of j) i → ⊥)
    → restore_of (set (saved_of j) i x) ≡ restore_refused
altered = (saving.claims).altered

-- ---- THE WORDS OF THE FORMAT
-- "each number little-endian": as a rule file has it,
pub two_bytes : (x : ℕ) → x < 2 ^ 16 → little_of 2 x ≡ half x
two_bytes = (saving.claims).two_bytes

pub four_bytes : (x : ℕ) → x < 2 ^ 32 → little_of 4 x ≡ word x
four_bytes = (saving.claims).four_bytes

pub eight_bytes : (x : ℕ) → x < 2 ^ 64 → little_of 8 x ≡ word (x % 2 ^ 32) ++ word (x / 2 ^ 32)
eight_bytes = (saving.claims).eight_bytes

-- a fresh judge, and one whose arrays have other numbers in the first, second and last cell, come to
-- what another program wrote from the words alone, byte by byte, and so do digests,
pub by_program : Saves cases
by_program = examples.saves

-- and a step of the digest is one to one in the digest for each byte, and in the byte for each digest.
pub step_in_digest : (h k x : ℕ) → h < 2 ^ 64 → k < 2 ^ 64 → x < 256 → digest_step h x ≡ digest_step k x → h ≡ k
step_in_digest = (saving.claims).step_in_digest

pub step_in_byte : (h x y : ℕ) → x < 256 → y < 256 → digest_step h x ≡ digest_step h y → x ≡ y
step_in_byte = (saving.claims).step_in_byte

-- ---- THE FUNCTIONS
-- `save` and `restore` ask nothing, and may return that answer and no other:
pub save_asks_nothing : (j : Judge) → AsksSave j
save_asks_nothing j = tt

pub saves : (j : Judge) (r : Saved) → MaySave j r ↔ (Fits j × (r.bytes ≡ saved_of j))
saves j r = ((λ x. x.1), λ e. ((j, tt), e))

pub restore_asks_nothing : (κs : Lfts 1) (b : Bor (List ℕ)) → AsksRestore κs b
restore_asks_nothing κs b = tt

pub restores : (b : List ℕ) (r : Result Judge Refusal) → MayRestore b r ↔ (restore_outcome r ≡ restore_of b)
restores b r = ((λ x. x.4 ∙ ap restore_of x.3), λ e. (([], tt), lent b, (lent b, tt), refl, e))

-- and so may those that C links, in numbers of which nothing is lost.
pub save_asks_nothing_from_C : (j : Judge) → AsksSaveC j
save_asks_nothing_from_C = c_asks.save_asks_nothing

pub saves_from_C : (j : Judge) (r : Saved) → MaySaveC j r ↔ (Fits j × (r.bytes ≡ saved_of j))
saves_from_C j r = ((λ x. x.1), λ e. ((j, tt), e))

pub restore_asks_nothing_from_C : (κs : Lfts 1) (b : Bor (List ℕ)) → AsksRestoreC κs b
restore_asks_nothing_from_C = c_asks.restore_asks_nothing

pub restores_from_C : (b : List ℕ) (r : RestoreNumbers) → MayRestoreC b r ↔ (r ≡ restore_shown (restore_of b))
restores_from_C b r =
    ((λ x. x.4 ∙ ap (λ (w : List ℕ). restore_shown (restore_of w)) x.3), λ e. (([], tt), lent b, (lent b, tt), refl, e))

pub read_back : (b : List ℕ) (r : RestoreNumbers) → MayRestoreC b r → restore_read_back r ≡ restore_of b
read_back b r m = ap restore_read_back ((restores_from_C b r).0 m) ∙ (c_saved.claims).restore_read_back_lem (restore_of b)

-- Each of C's numbers in other words than the definition's: accepted and refused, the judge.
pub each_number : c_claims.Claims
each_number = c_saved.claims

-- ---- GOING ON
-- Whatever judge was saved: where the bytes are restored, it is had back. That its numbers are those of
-- the type, the function that saves it promises.
pub had_back : (j : Judge) (s : Saved) → MaySaveC j s → (r : RestoreNumbers) → MayRestoreC s.bytes r
    → r ≡ restore_shown (restore_accepted j)
had_back j s saved r back =
    let law = (saves_from_C j s).0 saved in
    (restores_from_C s.bytes r).0 back ∙ ap (λ (b : List ℕ). restore_shown (restore_of b)) law.1 ∙ ap restore_shown (restored j law.0)

-- Whatever calls left it: the judge that is had back is one that these calls leave. So all that is proved
-- of lists of calls holds of the calls that follow.
pub goes_on : (h : List Call) (rs : List Reply) (j : Judge) → Execution c_library h rs j
    → (s : Saved) → MaySaveC j s → (r : RestoreNumbers) → MayRestoreC s.bytes r
    → (r.accepted ≡ 1) × (r.judge ≡ j) × Execution c_library h rs r.judge
goes_on h rs j ran s saved r back =
    let is = had_back j s saved r back in
    let same : r.judge ≡ j = ap (λ (n : RestoreNumbers). n.judge) is in
    (ap (λ (n : RestoreNumbers). n.accepted) is, same, subst (λ (k : Judge). Execution c_library h rs k) (sym same) ran)
