-- The numbers that C is given, read back: by cases of the answer. Assumes nothing.
use mathlib.Core.Path.{◌≡◌, refl, ap, ◌∙◌}
use Rattle.compare.specs.declared.Which.TheVariants.{First, Second}
use Rattle.compare.specs.Values.{Reply, apart, same, refused, Outcome, outcome_of, comparison_in}
use Rattle.compare.specs.Search.{compare_of}
use Rattle.compare.proofs.Claims as compare
use Rattle.c_compare.specs.Numbers.{kind_of, refused_of, reply_by, comparison_shown, comparison_read_back}
use Rattle.c_compare.specs.Claims.{Claims}

reply_back : (p : Reply) → reply_by (kind_of p) (refused_of p) ≡ p
reply_back (apart First) = refl
reply_back (apart Second) = refl
reply_back same = refl
reply_back (refused x) = refl

read_back : (o : Outcome) → comparison_read_back (comparison_shown o) ≡ o
read_back o = ap (λ (p : Reply). record { reply = p; length = o.length; text = o.text }) (reply_back o.reply)

pub claims : Claims
claims = record {
  refused = λ x n t. refl;
  first_alone = λ n t. refl;
  second_alone = λ n t. refl;
  the_same = λ n t. refl;
  read_back = read_back;
  told = λ one two. ap comparison_in (read_back (outcome_of (compare_of one two))) ∙ (compare.claims).told one two;
}
