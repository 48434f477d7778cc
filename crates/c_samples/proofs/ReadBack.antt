-- The numbers that C is given, read back: by cases of the answer. Assumes nothing.
use mathlib.Core.Path.{◌≡◌, refl, ap, ◌∙◌}
use Prim.Native.Nat.{ℕ, ◌≤◌}
use native.Mathlib.Omega.{arith}
use borrow.Author.Tests.{ne_eqb}
use Rattle.samples.specs.declared.Wish.TheVariants.{Rejected}
use Rattle.samples.specs.Values.{Reply, found, none_there, refused, Outcome, outcome_of, sample_in}
use Rattle.samples.specs.Search.{sample_of}
use Rattle.samples.proofs.Claims as samples
use Rattle.c_samples.specs.Numbers.{wish_of, kind_of, refused_of, reply_by, sample_shown, sample_read_back}
use Rattle.c_samples.specs.Claims.{Claims}

reply_back : (p : Reply) → reply_by (kind_of p) (refused_of p) ≡ p
reply_back found = refl
reply_back none_there = refl
reply_back (refused x) = refl

read_back : (o : Outcome) → sample_read_back (sample_shown o) ≡ o
read_back o = ap (λ (p : Reply). record { reply = p; length = o.length; text = o.text }) (reply_back o.reply)

wish_other : (x : ℕ) → 1 ≤ x → wish_of x ≡ Rejected
wish_other x b = rw (ne_eqb x 0 (λ e. omega arith))

pub claims : Claims
claims = record {
  refused = λ x n t. refl;
  a_text = λ n t. refl;
  no_text = λ n t. refl;
  read_back = read_back;
  told = λ r wish. ap sample_in (read_back (outcome_of (sample_of r wish))) ∙ (samples.claims).told r wish;
  wish_0 = refl;
  wish_other = wish_other;
}
