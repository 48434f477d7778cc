-- Every text is answered right, however it is cut into blocks, and in however many rounds a block
-- is fed, by any machine that keeps a line that goes on; proofs/Claimed.antt proves the claims.
--
--   lines_step m j ls  the outcome of the lines ls, one after the other, from the state j on
--   KeepsLines m Keeps   `Keeps k w` says that k keeps the beginning w of a line: so does what is
--                      kept with a piece more, and at first nothing; whether nothing is kept and
--                      what comes of the line that is kept is what it is of the line
--   Feeds m Keeps s w ps   feeding the parts ps to s: the lines that they end were run and answered,
--                      and the beginning of the next is kept
--   stream_of m s blocks  the outcome of feeding the blocks and then finishing
--   Rounds m s block s' texts   the block is fed to s in rounds, each as far as its room for answers
--                               goes: the last leaves s', and each answered its text
--   Blocks m s blocks s' text   blocks are fed so, one after the other; `text` is all that was
--                               answered
use Rattle.std.specs.Prelude.{◌≡◌, true, false, ℕ, ◌≤◌, ◌<◌, length, take, drop}
use mathlib.Core.List.{List, [], ◌∷◌, ◌++◌, flatten}
use Rattle.lines.specs.Splitting.{lines_from, lines_of}
use Rattle.linetexts.specs.Parts.{Part, parts_of, parts_in, first_of, lines_ended, line_begun, FirstPart}
use Rattle.linetexts.specs.Feeding.{Outcome, LineMachine, State, keeping, finish_of, feed_parts, parts_text, gather_parts, gather_at, Gathers}

-- a line's answer, and the outcome of the lines after it
abbrev pub after : {J : Type 0} → List ℕ → Outcome J → Outcome J
after t rest = record { text = t ++ rest.text; state = rest.state }

module _ {K J : Type 0} (m : LineMachine K J) where
  unfoldable pub lines_step : J → List (List ℕ) → Outcome J
  lines_step j [] = record { text = []; state = j }
  lines_step j (l ∷ ls) = after (m.step j l).text (lines_step (m.step j l).state ls)

  pub record KeepsLines (Keeps : K → List ℕ → Type 0) : Type 0 where
    pub begins : {k : K} {w : List ℕ} → Keeps k w → Keeps (m.begin k) []
    pub goes_on : {k : K} {w : List ℕ} → Keeps k w → (p : List ℕ) → Keeps (m.more k p) (w ++ p)
    pub nothing : {k : K} → Keeps k [] → m.empty k ≡ true
    pub something : {k : K} {x : ℕ} {w : List ℕ} → Keeps k (x ∷ w) → m.empty k ≡ false
    pub means : {k : K} {w : List ℕ} → Keeps k w → (j : J) → m.kept j k ≡ m.step j w

  pub record Feeds (Keeps : K → List ℕ → Type 0) (s : State K J) (w : List ℕ) (ps : List Part) : Type 0 where
    pub ran : record { text = parts_text m s ps; state = (feed_parts m s ps).machine } ≡ lines_step s.machine (lines_ended w ps)
    pub keeps : Keeps (feed_parts m s ps).kept (line_begun w ps)

  abbrev pub stream_of : State K J → List (List ℕ) → Outcome J
  stream_of s blocks =
      let last = finish_of m (feed_parts m s (parts_in blocks)) in
      record { text = parts_text m s (parts_in blocks) ++ last.text; state = last.state.machine }

  -- ---- rounds
  pub data Rounds : State K J → List ℕ → State K J → List (List ℕ) → Type 0 where
    over : {s : State K J} → Rounds s [] s []
    round : (room : ℕ) {s s' : State K J} {block : List ℕ} {texts : List (List ℕ)}
        → Rounds (gather_parts m room s (parts_of block)).state (drop (gather_parts m room s (parts_of block)).taken block) s' texts
        → Rounds s block s' ((gather_parts m room s (parts_of block)).text ∷ texts)

  pub data Blocks : State K J → List (List ℕ) → State K J → List ℕ → Type 0 where
    no_block : {s : State K J} → Blocks s [] s []
    one_more : {s s' s'' : State K J} {block : List ℕ} {blocks texts : List (List ℕ)} {text : List ℕ}
        → Rounds s block s' texts → Blocks s' blocks s'' text → Blocks s (block ∷ blocks) s'' (flatten texts ++ text)

  pub record Claims (Keeps : K → List ℕ → Type 0) : Type 0 where
    -- the parts of a block, or any others, and the end of the text
    pub feeds : (ps : List Part) (s : State K J) (w : List ℕ) → Keeps s.kept w → Feeds Keeps s w ps
    pub finishes : (s : State K J) (w : List ℕ) → Keeps s.kept w
        → record { text = (finish_of m s).text; state = (finish_of m s).state.machine } ≡ lines_step s.machine (lines_from w [])
    -- blocks from any state on, and then the end: the lines of the whole text were run, however it
    -- was cut
    pub whole : (blocks : List (List ℕ)) (j : J) (k : K) → Keeps k [] → stream_of (keeping j k) blocks ≡ lines_step j (lines_of (flatten blocks))
    -- a round takes some of a block, if there is room for an answer, and no more than there is; what
    -- the rounds of a block answer, joined, is what its parts are answered
    pub forward : (room : ℕ) (s : State K J) (block : List ℕ) → m.most ≤ room → 0 < length block → 0 < (gather_parts m room s (parts_of block)).taken
    pub within : (room : ℕ) (s : State K J) (block : List ℕ) → (gather_parts m room s (parts_of block)).taken ≤ length block
    pub rounds : {s s' : State K J} {block : List ℕ} {texts : List (List ℕ)} → Rounds s block s' texts
        → (flatten texts ≡ parts_text m s (parts_of block)) × (s' ≡ feed_parts m s (parts_of block))
    -- what a function that gathers promises is a round, whose text stands at the start of the buffer
    -- for answers; and every list of blocks is fed so, where there is room for an answer
    pub gathered : (room at : ℕ) (block : List ℕ) (s s' t : State K J) (next written : ℕ) (before now : List ℕ) (texts : List (List ℕ))
        → Gathers (gather_at m block at room s) at t next written before now
        → Rounds t (drop next block) s' texts
        → Rounds s (drop at block) s' (take written now ∷ texts)
    pub fed : (room : ℕ) → m.most ≤ room → (blocks : List (List ℕ)) (s : State K J) → (s' : State K J) × (text : List ℕ) × Blocks s blocks s' text
    -- ALL THAT IS WRITTEN, round by round, block by block, and at the end, is what the lines of the
    -- blocks joined are answered, one after the other
    pub written : {s' : State K J} {blocks : List (List ℕ)} {j : J} {k : K} {text : List ℕ} → Keeps k []
        → Blocks (keeping j k) blocks s' text → text ++ (finish_of m s').text ≡ (lines_step j (lines_of (flatten blocks))).text

-- a block is its parts, and the lines of a text are those that the parts of a block end, and those
-- of what follows; `more` is what later blocks bring
pub record PartClaims : Type 0 where
  pub first : (block : List ℕ) → 0 < length block → FirstPart block (first_of (parts_of block))
  pub split : (block w more : List ℕ) → lines_from w (block ++ more) ≡ lines_ended w (parts_of block) ++ lines_from (line_begun w (parts_of block)) more
