-- The digest of a built rule: a number of 64 bits that says by which rule a value was made. It is a
-- guard against mistakes, not against attackers: two rules may have the same digest, and whoever
-- wants to can find two. That a digest is another says that the rule is another; that it is the
-- same says nothing for certain.
--
--   stirred t          the number t of 64 bits, with its high bits added to its low ones
--   half_step h x      the digest h with the number x, below 65,536, behind it
--   digest_step h x    the digest h with the number x behind it, its low 16 bits first. What two
--                      neighbouring halves differ by cannot cancel: 131,073 is more than twice 65,535
--   digest_from h xs   the digest h with the numbers xs behind it
--   first_cells l n    the first n cells of an array
--   sets_in b          how many sets the built rule b has, at most 512
--   digested b         the numbers that its digest is made of, in order: n, k, the initial and the
--                      final states, the delegate of each of 32 states, the number of {q} for each,
--                      the number of sets, the mask of each set, and the 16 cells of each set's row
--                      in the next-set table
--   digest_of b        its digest
use Rattle.std.specs.Prelude.{ℕ, ◌+◌, ◌*◌, ◌/◌, ◌%◌, ◌^◌, min, List, [], ◌∷◌, ◌++◌, slice_index}
use Rattle.limits.specs.Limits.{most_states, most_symbols, most_sets}
use Rattle.base.specs.Lists.{list_from}
use Rattle.build.specs.declared.Built.{Built}

unfoldable pub stirred : ℕ → ℕ
stirred t = (t + t / 2 ^ 23) % 2 ^ 64

unfoldable pub half_step : ℕ → ℕ → ℕ
half_step h x = stirred ((h * 131073 + x) % 2 ^ 64)

unfoldable pub digest_step : ℕ → ℕ → ℕ
digest_step h x = half_step (half_step h (x % 65536)) (x / 65536)

unfoldable pub digest_from : ℕ → List ℕ → ℕ
digest_from h [] = h
digest_from h (x ∷ xs) = digest_from (digest_step h x) xs

abbrev pub first_cells : List ℕ → ℕ → List ℕ
first_cells l n = list_from 0 n (λ i. slice_index l i)

abbrev pub sets_in : Built → ℕ
sets_in b = min b.setcount most_sets

abbrev pub digested : Built → List ℕ
digested b =
    b.n ∷
    b.k ∷
    b.initials ∷
    b.finals ∷
    (first_cells b.delegates most_states
    ++ (first_cells b.singles most_states
    ++ (b.setcount ∷
    (first_cells b.sets (sets_in b)
    ++ first_cells b.next (sets_in b * most_symbols)))))

unfoldable pub digest_of : Built → ℕ
digest_of b = digest_from 0 (digested b)
