-- The saved judges and the digests worked by another program are those of the definition. Assumes
-- nothing.
--
--   Lead, lead w x c    a field of the number x and c zeros, in w bytes each
--   span w xs c zs      a field of the numbers xs, c zeros and the numbers zs
--   led_bytes           the bytes of such fields, as pieces
use Rattle.std.proofs.Common.{◌≡◌, ℕ, zero, suc, ◌+◌, ◌*◌, List, [], ◌∷◌, ◌++◌, replicate, sym, refl, ap, ◌∙◌, ap₂, append_assoc, arith}
use lib.ListN.{replicate-append-replicate}
use Rattle.calls.specs.declared.Judge.{Judge}
use Rattle.calls.specs.mirror.Steps.{fresh}
use Rattle.board.specs.Boards.{empty_board}
use Rattle.saved_judge.specs.Little.{little_of, numbers_of}
use Rattle.saved_judge.specs.Digest.{mixed, digest_step, digest_from, digest_of}
use Rattle.saved_judge.specs.Saved.{Field, field, bytes_in, content_of, saved_of}
use Rattle.saved_judge.specs.Worked.{Piece, piece, spelled, marked, fresh_pieces, marked_pieces, cases, Saves}

-- ---- fields that are zeros, but for the first or the last cells
data Lead : Type 0 where
  lead : ℕ → ℕ → ℕ → Lead
  span : ℕ → List ℕ → ℕ → List ℕ → Lead

abbrev led : List Lead → List Field
led [] = []
led (lead w x c ∷ ls) = field w (x ∷ replicate c 0) ∷ led ls
led (span w xs c zs ∷ ls) = field w (xs ++ (replicate c 0 ++ zs)) ∷ led ls

abbrev pieces : List Lead → List Piece
pieces [] = []
pieces (lead w x c ∷ ls) = piece (little_of w x) (w * c) ∷ pieces ls
pieces (span w xs c zs ∷ ls) = piece (numbers_of w xs) (w * c) ∷ piece (numbers_of w zs) 0 ∷ pieces ls

zero_bytes : (w : ℕ) → little_of w 0 ≡ replicate w 0
unfolding little_of
zero_bytes zero = refl
zero_bytes (suc w) = ap (λ (l : List ℕ). 0 ∷ l) (zero_bytes w)

zero_numbers : (w c : ℕ) → numbers_of w (replicate c 0) ≡ replicate (w * c) 0
unfolding numbers_of
zero_numbers w zero = let e : 0 ≡ w * 0 = omega arith in ap (λ (n : ℕ). replicate n 0) e
zero_numbers w (suc c) =
    let e : w + w * c ≡ w * suc c = omega arith in
    ap₂ ◌++◌ (zero_bytes w) (zero_numbers w c) ∙ replicate-append-replicate w (w * c) 0 ∙ ap (λ (n : ℕ). replicate n 0) e

numbers_append : (w : ℕ) (xs ys : List ℕ) → numbers_of w (xs ++ ys) ≡ numbers_of w xs ++ numbers_of w ys
unfolding numbers_of
numbers_append w [] ys = refl
numbers_append w (x ∷ xs) ys =
    ap (λ (l : List ℕ). little_of w x ++ l) (numbers_append w xs ys) ∙ sym (append_assoc (little_of w x) (numbers_of w xs) (numbers_of w ys))

span_bytes : (w : ℕ) (xs : List ℕ) (c : ℕ) (zs r : List ℕ)
    → numbers_of w (xs ++ (replicate c 0 ++ zs)) ++ r ≡ numbers_of w xs ++ (replicate (w * c) 0 ++ (numbers_of w zs ++ r))
span_bytes w xs c zs r =
    ap (λ (l : List ℕ). l ++ r) (numbers_append w xs (replicate c 0 ++ zs))
    ∙ append_assoc (numbers_of w xs) (numbers_of w (replicate c 0 ++ zs)) r
    ∙ ap (λ (l : List ℕ). numbers_of w xs ++ (l ++ r)) (numbers_append w (replicate c 0) zs ∙ ap (λ (l : List ℕ). l ++ numbers_of w zs) (zero_numbers w c))
    ∙ ap (λ (l : List ℕ). numbers_of w xs ++ l) (append_assoc (replicate (w * c) 0) (numbers_of w zs) r)

led_bytes : (ls : List Lead) → bytes_in (led ls) ≡ spelled (pieces ls)
unfolding bytes_in numbers_of spelled
led_bytes [] = refl
led_bytes (lead w x c ∷ ls) =
    ap₂ (λ (z r : List ℕ). (little_of w x ++ z) ++ r) (zero_numbers w c) (led_bytes ls)
    ∙ append_assoc (little_of w x) (replicate (w * c) 0) (spelled (pieces ls))
led_bytes (span w xs c zs ∷ ls) =
    ap (λ (r : List ℕ). numbers_of w (xs ++ (replicate c 0 ++ zs)) ++ r) (led_bytes ls) ∙ span_bytes w xs c zs (spelled (pieces ls))

-- ---- the judges
fresh_leads : List Lead
fresh_leads = lead 1 66 0 ∷ lead 1 66 0 ∷ lead 1 74 0 ∷ lead 1 1 0 ∷ lead 4 27838 0 ∷ lead 1 0 0 ∷ lead 1 0 0 ∷ lead 1 0 0 ∷ lead 2 0 0 ∷ lead 4 0 0 ∷ lead 4 0 0 ∷ lead 1 0 31 ∷ lead 2 0 31 ∷ lead 4 0 511 ∷ lead 2 0 8191 ∷ lead 1 0 0 ∷ lead 1 0 63 ∷ lead 4 0 63 ∷ lead 4 0 63 ∷ lead 8 0 63 ∷ lead 4 0 2047 ∷ []

marked_leads : List Lead
marked_leads = lead 1 66 0 ∷ lead 1 66 0 ∷ lead 1 74 0 ∷ lead 1 1 0 ∷ lead 4 27838 0 ∷ lead 1 1 0 ∷ lead 1 2 0 ∷ lead 1 3 0 ∷ lead 2 1284 0 ∷ lead 4 151521030 0 ∷ lead 4 218893066 0 ∷ span 1 (14 ∷ 45 ∷ []) 29 (46 ∷ []) ∷ span 2 (4111 ∷ 12335 ∷ []) 29 (12849 ∷ []) ∷ span 4 (336794129 ∷ 909456435 ∷ []) 509 (976828471 ∷ []) ∷ span 2 (5653 ∷ 15419 ∷ []) 8189 (15933 ∷ []) ∷ lead 1 23 0 ∷ span 1 (24 ∷ 63 ∷ []) 61 (64 ∷ []) ∷ span 4 (471538201 ∷ 1145258561 ∷ []) 61 (1212630597 ∷ []) ∷ span 4 (538910237 ∷ 1280002633 ∷ []) 61 (1347374669 ∷ []) ∷ span 8 (2893323226570760737 ∷ 6365651522798441041 ∷ []) 61 (6944372905503054425 ∷ []) ∷ span 4 (741026345 ∷ 1684234849 ∷ []) 2045 (1751606885 ∷ []) ∷ []

worked : (j : Judge) (ps : List Piece) (d : ℕ) → content_of j ≡ spelled ps → digest_of (spelled ps) ≡ d → saved_of j ≡ spelled ps ++ little_of 8 d
unfolding saved_of
worked j ps d e f = ap₂ (λ (l : List ℕ) (k : ℕ). l ++ little_of 8 k) e (ap digest_of e ∙ f)

fresh_content : content_of fresh ≡ spelled fresh_pieces
unfolding content_of fresh empty_board fresh_leads little_of
fresh_content = led_bytes fresh_leads

marked_content : content_of marked ≡ spelled marked_pieces
unfolding content_of marked_leads little_of numbers_of
marked_content = led_bytes marked_leads

fresh_digest : digest_of (spelled fresh_pieces) ≡ 8355731128823131452
unfolding digest_from digest_step mixed spelled
fresh_digest = refl

marked_digest : digest_of (spelled marked_pieces) ≡ 10011594461540673960
unfolding digest_from digest_step mixed spelled
marked_digest = refl

pub saves : Saves cases
unfolding digest_from digest_step mixed little_of
saves = (worked fresh fresh_pieces _ fresh_content fresh_digest, (worked marked marked_pieces _ marked_content marked_digest, (refl, (refl, (refl, (refl, (refl, (refl, (refl, tt)))))))))
