-- The digest of bytes: a number of 64 bits that tells bytes that were cut or altered by mistake. It
-- is a guard against mistakes, not against attackers: whoever wants to can find two lists of bytes
-- with the same digest. No change of a single byte keeps it.
--
--   mixed t           the number t of 64 bits with its halves of 32 bits mixed and exchanged: the
--                     lower half plus the square of the upper comes to stand above, the upper half
--                     below. It is one to one; by the square, what becomes of a change depends on
--                     the bytes before it
--   digest_step h x   the digest h with the byte x behind it
--   digest_from h xs  the digest h with the bytes xs behind it
--   digest_of xs      the digest of the bytes xs
use Rattle.std.specs.Prelude.{ℕ, ◌+◌, ◌*◌, ◌/◌, ◌%◌, ◌^◌, List, [], ◌∷◌}

unfoldable pub mixed : ℕ → ℕ
mixed t = (t % 2 ^ 32 + t / 2 ^ 32 * (t / 2 ^ 32)) % 2 ^ 32 * 2 ^ 32 + t / 2 ^ 32

unfoldable pub digest_step : ℕ → ℕ → ℕ
digest_step h x = mixed ((h * 131073 + x + 1) % 2 ^ 64)

unfoldable pub digest_from : ℕ → List ℕ → ℕ
digest_from h [] = h
digest_from h (x ∷ xs) = digest_from (digest_step h x) xs

abbrev pub digest_of : List ℕ → ℕ
digest_of xs = digest_from 0 xs
