-- Delegates as a function, over the arrays of numbered sets and next sets, whatever they hold.
-- `sets` has the mask of each set, `next` has 16 cells for each set, one for each symbol, and
-- `singles` has the number of {q} for each state q. A set is its number here; any number from 512
-- on stands for the empty set, in a cell too.
--
--   final sets finals s   set s holds a final state; the empty set holds none
--   follow next s a       the set to which symbol a leads from set s; the empty set leads to itself
--   accepted .. s w       the text w leads from set s to a final set
--   AlikeSets .. k s t    each text of symbols below k is accepted from both sets or from neither
--   every n t             all numbers below n pass the test t
--   first_from t lo f     the first number from lo on that passes the test t, lo + f where none
--                         below does
--   alike_to .. k f s t   each text of fewer than f symbols below k is accepted from both sets or
--                         from neither
--   single_at singles q   the set {q}
--   live_of .. q           some text of 512 symbols or fewer tells {q} from the empty set; a longer
--                         text is not needed (`Alike-at` of specs/Claims.antt)
--   lowest_of .. q        the lowest state whose set no text of 512 symbols or fewer tells from
--                         that of q
--   delegate_of .. q      the delegate of q as a list of delegates says it: none where q is not
--                         live, else the lowest such state
--   starts_of ..          the delegate of each state, zeros after them, and how many states are
--                         their own delegate; 32 states and 16 symbols are the most: a number above
--                         counts as that
use Rattle.std.specs.Prelude.{◌≡◌, Bool, true, false, cond, not, ◌&&◌, List, [], ◌∷◌, ℕ, zero, suc, ◌+◌, ◌*◌, min, ltb, get_or}
use Rattle.std.specs.Bool.{beq}
use Rattle.limits.specs.Limits.{most_states, no_delegate, most_symbols, empty_set, most_classes}
use Rattle.base.specs.Lists.{list_from}
use Rattle.masks.specs.Masks.{shares}
use Rattle.delegates.specs.declared.Starts.{Starts}
use Rattle.automaton.specs.Automaton.{Text}
use Rattle.delegates.specs.Alike.{start_count}

unfoldable pub final : List ℕ → ℕ → ℕ → Bool
final sets finals s = cond (ltb s empty_set) (shares (get_or sets s 0) finals) false

unfoldable pub follow : List ℕ → ℕ → ℕ → ℕ
follow next s a = cond (ltb s empty_set) (min (get_or next (s * most_symbols + a) 0) empty_set) empty_set

unfoldable pub every : ℕ → (ℕ → Bool) → Bool
every zero t = true
every (suc n) t = every n t && t n

unfoldable pub first_from : (ℕ → Bool) → ℕ → ℕ → ℕ
first_from t lo zero = lo
first_from t lo (suc f) = cond (t lo) lo (first_from t (suc lo) f)

abbrev pub single_at : List ℕ → ℕ → ℕ
single_at singles q = min (get_or singles q 0) empty_set

module _ (sets next : List ℕ) (finals : ℕ) where
  unfoldable pub accepted : ℕ → List ℕ → Bool
  accepted s [] = final sets finals s
  accepted s (a ∷ w) = accepted (follow next s a) w

  abbrev pub AlikeSets : ℕ → ℕ → ℕ → Type 0
  AlikeSets k s t = (w : List ℕ) → Text k w → accepted s w ≡ accepted t w

  unfoldable pub alike_to : ℕ → ℕ → ℕ → ℕ → Bool
  alike_to k zero s t = true
  alike_to k (suc f) s t =
      beq (final sets finals s) (final sets finals t) && every k (λ a. alike_to k f (follow next s a) (follow next t a))

  unfoldable pub live_of : List ℕ → ℕ → ℕ → Bool
  live_of singles k q = not (alike_to k most_classes (single_at singles q) empty_set)

  unfoldable pub lowest_of : List ℕ → ℕ → ℕ → ℕ
  lowest_of singles k q = first_from (λ p. alike_to k most_classes (single_at singles p) (single_at singles q)) 0 q

  unfoldable pub delegate_of : List ℕ → ℕ → ℕ → ℕ
  delegate_of singles k q = cond (live_of singles k q) (lowest_of singles k q) no_delegate

  unfoldable pub starts_of : List ℕ → ℕ → ℕ → Starts
  starts_of singles n k =
      let d = list_from 0 most_states (λ q. cond (ltb q (min n most_states)) (delegate_of singles (min k most_symbols) q) 0) in
      record { delegates = d; startcount = start_count d (min n most_states) }
