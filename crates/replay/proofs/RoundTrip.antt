-- Reading the record of a list of calls gives the list again, and a malformed line is found where
-- it is the first. Assumes nothing.
use mathlib.Core.Path.{◌≡◌, refl, sym, ap, ◌∙◌}
use mathlib.Core.Logic.{◌↔◌}
use mathlib.Core.List.{List, [], ◌∷◌, ◌++◌, append_assoc, append-nil}
use Prim.Native.Nat.{ℕ, zero, suc, ◌+◌, ◌<◌}
use native.Mathlib.Numerals.{add-one}
use native.Mathlib.Omega.{arith}
use lib.ListN.{length, get_or}
use Rattle.base.proofs.Tests.{zero_one}
use Rattle.lines.specs.Splitting.{lines_from, lines_of}
use Rattle.lines.proofs.Over.{over_line}
use Rattle.calls.specs.Calls.{Call}
use Rattle.calltext.specs.Meaning.{Meaning, again, call, malformed, line_in}
use Rattle.calltext.specs.Claims.{Fits, line_of}
use Rattle.calltext.proofs.RoundTrip.{over_call}
use Rattle.calltext.proofs.Exact as calltext
use Rattle.replay.specs.Records.{Recorded, calls, malformed_at, read_on, read_line, read_lines, record_in}
use Rattle.replay.specs.Claims.{AllFit, record_of, FirstMalformed, Claims}
use Rattle.replay.proofs.Reading.{stays_malformed}

line_read : (i : ℕ) (h : List Call) (c : Call) → Fits c → read_line (calls h) i (line_of c) ≡ calls (c ∷ h)
line_read i h c a = ap (read_on i h) ((calltext.claims).line_round_trip c a)

-- the lines of the call c and of the text y behind it
read_on_lem : (i : ℕ) (c : Call) (h : List Call) (y : List ℕ) → AllFit (c ∷ h)
    → read_lines (calls h) i (lines_from [] (line_of c ++ (10 ∷ y))) ≡ read_lines (calls (c ∷ h)) (suc i) (lines_from [] y)
unfolding read_lines
read_on_lem i c h y a =
    rw (over_line (line_of c) y (over_call c)) (ap (λ (r : Recorded). read_lines r (suc i) (lines_from [] y)) (line_read i h c a.0))

-- a text y behind the record of h is read after the calls h
read_record : (h : List Call) (y : List ℕ) → AllFit h
    → read_lines (calls []) 1 (lines_from [] (record_of h ++ y)) ≡ read_lines (calls h) (suc (length h)) (lines_from [] y)
unfolding record_of
read_record [] y a = refl
read_record (c ∷ h) y a =
    rw (append_assoc (record_of h) (line_of c ++ (10 ∷ [])) y, append_assoc (line_of c) (10 ∷ []) y)
    (read_record h (line_of c ++ (10 ∷ y)) a.1 ∙ read_on_lem (suc (length h)) c h y a)

record_round_trip : (h : List Call) → AllFit h → record_in (record_of h) ≡ calls h
unfolding lines_from read_lines
record_round_trip h a = rw append-nil at (read_record h [] a)

-- ---- the first malformed line, of lines that are read from line n on after the calls h
abbrev Found : List (List ℕ) → ℕ → ℕ → Type 0
Found ls n i = (j : ℕ) × (i ≡ j + n) × FirstMalformed ls j

module _ (n : ℕ) (ls : List (List ℕ)) (i : ℕ) where
  -- the lines behind a line that is not malformed
  found_behind : (l : List ℕ) → (line_in l ≡ malformed → ⊥) → Found ls (suc n) i → Found (l ∷ ls) n i
  found_behind l good f = (suc f.0, omega (arith, f.1), (omega (arith, f.2.0), f.2.1, before))
    where
      before : (k : ℕ) → k < suc f.0 → line_in (get_or (l ∷ ls) k []) ≡ malformed → ⊥
      before zero b e = good e
      before (suc k) b e = f.2.2 k (omega (arith, b)) e

  found_by_lem : (h : List Call) (l : List ℕ) (m : Meaning) → line_in l ≡ m
      → ((g : List Call) → read_lines (calls g) (suc n) ls ≡ malformed_at i → Found ls (suc n) i)
      → read_lines (read_on n h m) (suc n) ls ≡ malformed_at i → Found (l ∷ ls) n i
  found_by_lem h l again is rest e = found_behind l (λ b. let t : again ≡ malformed = sym is ∙ b in zero_one cc) (rest [] e)
  found_by_lem h l (call c) is rest e = found_behind l (λ b. let t : call c ≡ malformed = sym is ∙ b in zero_one cc) (rest (c ∷ h) e)
  found_by_lem h l malformed is rest e =
      let t : malformed_at n ≡ malformed_at i = sym (stays_malformed n (suc n) ls) ∙ e in
      let at : n ≡ i = cc in
      (0, omega (arith, at), (omega arith, is, λ k b o. absurd (omega (arith, b))))

  read_by : (h : List Call) (m : Meaning) → (m ≡ malformed → ⊥) → ((g : List Call) → read_lines (calls g) (suc n) ls ≡ malformed_at i)
      → read_lines (read_on n h m) (suc n) ls ≡ malformed_at i
  read_by h again good rest = rest []
  read_by h (call c) good rest = rest (c ∷ h)
  read_by h malformed good rest = absurd (good refl)

found : (ls : List (List ℕ)) (h : List Call) (n i : ℕ) → read_lines (calls h) n ls ≡ malformed_at i → Found ls n i
unfolding read_lines
found [] h n i e = zero_one cc
found (l ∷ ls) h n i e = found_by_lem n ls i h l (line_in l) refl (λ g. found ls g (suc n) i) e

read_up_to : (ls : List (List ℕ)) (h : List Call) (n j : ℕ) → FirstMalformed ls j → read_lines (calls h) n ls ≡ malformed_at (j + n)
unfolding read_lines
read_up_to [] h n j f = absurd (omega (arith, f.0))
read_up_to (l ∷ ls) h n zero f =
    let is : n ≡ 0 + n = omega arith in
    ap (λ (m : Meaning). read_lines (read_on n h m) (suc n) ls) f.1 ∙ stays_malformed n (suc n) ls ∙ ap malformed_at is
read_up_to (l ∷ ls) h n (suc j) f =
    let is : j + suc n ≡ suc j + n = omega arith in
    read_by n ls (suc j + n) h (line_in l) (f.2 0 (omega arith))
    (λ g. read_up_to ls g (suc n) j (omega (arith, f.0), f.1, λ k b. f.2 (suc k) (omega (arith, b))) ∙ ap malformed_at is)

malformed_exactly : (w : List ℕ) (i : ℕ) → (record_in w ≡ malformed_at i) ↔ ((j : ℕ) × (i ≡ suc j) × FirstMalformed (lines_of w) j)
malformed_exactly w i = (
  (λ e. let f = found (lines_of w) [] 1 i e in (f.0, f.1 ∙ add-one f.0, f.2)),
  λ f. read_up_to (lines_of w) [] 1 f.0 f.2 ∙ ap malformed_at (add-one f.0 ∙ sym f.1),
)

pub claims : Claims
claims = record {
  record_round_trip = record_round_trip;
  line_read = line_read;
  fresh_line = λ i h. refl;
  malformed_exactly = malformed_exactly;
}
