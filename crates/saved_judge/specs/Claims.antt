-- What saving and restoring promise, besides their definitions; proofs/Claims.antt proves it.
--
--   Cells w n xs   xs are n numbers, each of which has room in w bytes
--   Fits j         the numbers of j are those that the type holds, as every value of the type has it
use Rattle.std.specs.Prelude.{◌≡◌, ℕ, ◌/◌, ◌%◌, ◌^◌, ◌<◌, ◌↔◌, List, ◌++◌, length, ◌≢◌, slice_index, slice_set}
use Rattle.std.proofs.Math.Option.{some}
use Rattle.limits.specs.Limits.{most_states, most_sets, table_cells, most_places, end_cells}
use Rattle.ruleformat.specs.Format.{byte_at}
use Rattle.ruleformat.specs.Writing.{Bytes, half, word}
use Rattle.build.specs.declared.Built.{Built}
use Rattle.board.specs.declared.Board.{Board}
use Rattle.calls.specs.declared.Judge.{Judge}
use Rattle.saved_judge.specs.Little.{little_of}
use Rattle.saved_judge.specs.Digest.{digest_step}
use Rattle.saved_judge.specs.Saved.{saved_size, saved_of, restore_accepted, restore_refused, restore_of}

pub record Cells (width count : ℕ) (xs : List ℕ) : Type 0 where
  pub size : length xs ≡ count
  pub below : (i : ℕ) → slice_index xs i < 256 ^ width

pub record FitsBuilt (b : Built) : Type 0 where
  pub states : b.n < 2 ^ 8
  pub symbols : b.k < 2 ^ 8
  pub startcount : b.startcount < 2 ^ 8
  pub setcount : b.setcount < 2 ^ 16
  pub initials : b.initials < 2 ^ 32
  pub finals : b.finals < 2 ^ 32
  pub delegates : Cells 1 most_states b.delegates
  pub singles : Cells 2 most_states b.singles
  pub sets : Cells 4 most_sets b.sets
  pub next : Cells 2 table_cells b.next

pub record FitsBoard (b : Board) : Type 0 where
  pub places : b.places < 2 ^ 8
  pub filled : Cells 1 most_places b.filled
  pub counts : Cells 4 most_places b.counts
  pub lengths : Cells 4 most_places b.lengths
  pub revisions : Cells 8 most_places b.revisions
  pub ends : Cells 4 end_cells b.ends

pub record Fits (j : Judge) : Type 0 where
  pub built : FitsBuilt j.built
  pub board : FitsBoard j.board

pub record Claims : Type 0 where
  -- ---- a number in two and in four bytes is that of a rule file, and in eight it is two of four
  pub two_bytes : (x : ℕ) → x < 2 ^ 16 → little_of 2 x ≡ half x
  pub four_bytes : (x : ℕ) → x < 2 ^ 32 → little_of 4 x ≡ word x
  pub eight_bytes : (x : ℕ) → x < 2 ^ 64 → little_of 8 x ≡ word (x % 2 ^ 32) ++ word (x / 2 ^ 32)
  -- ---- a step of the digest is one to one in the digest for each byte, and in the byte for each
  -- digest
  pub step_in_digest : (h k x : ℕ) → h < 2 ^ 64 → k < 2 ^ 64 → x < 256 → digest_step h x ≡ digest_step k x → h ≡ k
  pub step_in_byte : (h x y : ℕ) → x < 256 → y < 256 → digest_step h x ≡ digest_step h y → x ≡ y
  -- ---- there and back
  -- saved bytes are bytes, and have their number
  pub bytes : (j : Judge) → Bytes (saved_of j)
  pub size : (j : Judge) → Fits j → length (saved_of j) ≡ saved_size
  -- what was saved is had back
  pub restored : (j : Judge) → Fits j → restore_of (saved_of j) ≡ restore_accepted j
  -- bytes are accepted with a judge exactly where they are what is saved of it
  pub exactly : (b : List ℕ) → Bytes b → (j : Judge) → (restore_of b ≡ restore_accepted j) ↔ (Fits j × (b ≡ saved_of j))
  -- two judges with the same saved bytes are one
  pub saved_alike : (j k : Judge) → Fits j → Fits k → saved_of j ≡ saved_of k → j ≡ k
  -- ---- refusals
  -- a refusal is 46 and carries the fresh judge
  pub refused : (b : List ℕ) (x : ℕ) → (restore_of b).number ≡ some x → restore_of b ≡ restore_refused
  -- bytes of another number, mark or version are refused
  pub cut : (b : List ℕ) → (length b ≢ saved_size) → restore_of b ≡ restore_refused
  pub other_mark : (b : List ℕ) → ((byte_at b 0 ≡ 66) × (byte_at b 1 ≡ 66) × (byte_at b 2 ≡ 74) → ⊥) → restore_of b ≡ restore_refused
  pub other_version : (b : List ℕ) → (byte_at b 3 ≢ 1) → restore_of b ≡ restore_refused
  -- and so are saved bytes of which one, whichever, is another
  pub altered : (j : Judge) → Fits j → (i x : ℕ) → i < saved_size → x < 256 → (x ≢ byte_at (saved_of j) i)
      → restore_of (slice_set (saved_of j) i x) ≡ restore_refused
