-- What the functions below `merge_starts` promise: the classes of alike sets, by rounds of
-- refinement (Moore). Nothing here needs to be believed: `starts_of` says what they give. A class
-- is named by its lowest set; the list c has the class of each set, and at 512 that of the empty
-- set.
--
--   class_of c s          the class of set s
--   same_in .. k c t s   sets t and s are told apart neither by their classes, nor by being final,
--                        nor by the classes of their successors
--   least_of .. k c s    the class of set s after a round: the first set from its class on that is
--                        not told from it
--   round_of .. k c      the classes after a round
--   changes .. k c       whether a round changes the class of some set
--   classes_of .. k      the classes after all rounds: for each set and the empty set the lowest
--                        set that no text of fewer than 513 symbols tells from it
--   first_in_class own q  the lowest state in the class of state q; `own` has each state's class
--   cell_in own c q      the delegate of q as a list of delegates says it, by the classes: none
--                        where the class of q is c, that of the empty set, else the lowest state in
--                        it
use Rattle.std.specs.Prelude.{Bool, cond, not, ◌&&◌, List, ℕ, ◌-◌, eqb, get_or}
use Rattle.std.specs.Bool.{beq}
use Rattle.limits.specs.Limits.{no_delegate, most_classes}
use Rattle.base.specs.Lists.{list_from}
use Rattle.delegates.specs.mirror.Classes.{final, follow, every, first_from, alike_to}

abbrev pub class_of : List ℕ → ℕ → ℕ
class_of c s = get_or c s 0

unfoldable pub first_in_class : List ℕ → ℕ → ℕ
first_in_class own q = first_from (λ p. eqb (class_of own p) (class_of own q)) 0 q

unfoldable pub cell_in : List ℕ → ℕ → ℕ → ℕ
cell_in own c q = cond (eqb (class_of own q) c) no_delegate (first_in_class own q)

module _ (sets next : List ℕ) (finals k : ℕ) where
  unfoldable pub same_in : List ℕ → ℕ → ℕ → Bool
  same_in c t s =
      eqb (class_of c t) (class_of c s)
      && (beq (final sets finals t) (final sets finals s)
      && every k (λ a. eqb (class_of c (follow next t a)) (class_of c (follow next s a))))

  unfoldable pub least_of : List ℕ → ℕ → ℕ
  least_of c s = first_from (λ t. same_in c t s) (class_of c s) (s - class_of c s)

  abbrev pub round_of : List ℕ → List ℕ
  round_of c = list_from 0 most_classes (least_of c)

  abbrev pub changes : List ℕ → Bool
  changes c = not (every most_classes (λ s. eqb (class_of c s) (least_of c s)))

  abbrev pub classes_of : List ℕ
  classes_of = list_from 0 most_classes (λ s. first_from (λ t. alike_to sets next finals k most_classes t s) 0 s)
