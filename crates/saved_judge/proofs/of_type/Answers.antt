-- `of_type` meets its contract: what the checker knows of any value of the type. Assumes nothing.
use Rattle.std.proofs.Common.{ℕ, get_or, w8, w16, w32, Fits, rules}
use Rattle.saved_judge.proofs.of_type.Goals as goal

pub returns : goal.returns
returns c =
    let built = c.args.built in
    let delegates : (i : ℕ) → Fits w8 (get_or built.delegates i 0) = λ i. search rules in
    let singles : (i : ℕ) → Fits w16 (get_or built.singles i 0) = λ i. search rules in
    let sets : (i : ℕ) → Fits w32 (get_or built.sets i 0) = λ i. search rules in
    let next : (i : ℕ) → Fits w16 (get_or built.next i 0) = λ i. search rules in
    record {
      states = search rules;
      symbols = search rules;
      startcount = search rules;
      setcount = search rules;
      initials = search rules;
      finals = search rules;
      delegates = record { size = search rules; below = λ i. (delegates i).fits };
      singles = record { size = search rules; below = λ i. (singles i).fits };
      sets = record { size = search rules; below = λ i. (sets i).fits };
      next = record { size = search rules; below = λ i. (next i).fits };
    }
