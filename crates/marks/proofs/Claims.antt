-- The proof of all that specs/Claims.antt claims. Assumes nothing.
use Rattle.marks.specs.Claims.{Claims}
use Rattle.marks.proofs.Laws as laws

pub claims : Claims
claims = record { skipped = laws.mark_skipped; kept = laws.byte_kept; unmarked = laws.unmarked; text_unmarked = laws.text_unmarked; no_longer = laws.no_longer; text_append = laws.text_append }
