-- Lines run one after the other, in whatever blocks they came. Assumes nothing.
--
--   step-append     lines and then others
--   feeds           the parts of a block
--   finishes        the end of the text
--   whole           the whole text
--   written_is      all that is written, round by round
use mathlib.Core.Path.{◌≡◌, refl, sym, ap, ap₂, ◌∙◌}
use mathlib.Core.List.{List, [], ◌∷◌, ◌++◌, append_assoc, append-nil, flatten}
use Prim.Native.Nat.{ℕ}
use Rattle.lines.specs.Splitting.{lines_from}
use Rattle.linetexts.specs.Parts.{Part, ends, goes_on, parts_of, parts_in, lines_ended, line_begun}
use Rattle.linetexts.specs.Feeding.{Outcome, LineMachine, State, Step, keeping, go_on, answer_kept, finish_of, feed_parts, parts_text}
use Rattle.linetexts.specs.Claims.{after, lines_step, KeepsLines, Feeds, stream_of, Blocks}
use Rattle.linetexts.proofs.Parts.{lines_split}
use Rattle.linetexts.proofs.Rounds.{blocks_are}

-- ---- the lines of blocks
ended_append : (ps qs : List Part) (w : List ℕ) → lines_ended w (ps ++ qs) ≡ lines_ended w ps ++ lines_ended (line_begun w ps) qs
unfolding lines_ended line_begun
ended_append [] qs w = refl
ended_append (ends p ∷ ps) qs w = ap (λ (ls : List (List ℕ)). (w ++ p) ∷ ls) (ended_append ps qs [])
ended_append (goes_on p ∷ ps) qs w = ended_append ps qs (w ++ p)

begun_append : (ps qs : List Part) (w : List ℕ) → line_begun w (ps ++ qs) ≡ line_begun (line_begun w ps) qs
unfolding line_begun
begun_append [] qs w = refl
begun_append (ends p ∷ ps) qs w = begun_append ps qs []
begun_append (goes_on p ∷ ps) qs w = begun_append ps qs (w ++ p)

blocks_split : (blocks : List (List ℕ)) (w : List ℕ)
    → lines_from w (flatten blocks) ≡ lines_ended w (parts_in blocks) ++ lines_from (line_begun w (parts_in blocks)) []
unfolding flatten parts_in lines_ended line_begun
blocks_split [] w = refl
blocks_split (block ∷ blocks) w =
    let ps = parts_of block in
    let qs = parts_in blocks in
    lines_split block w (flatten blocks)
    ∙ ap (λ (ls : List (List ℕ)). lines_ended w ps ++ ls) (blocks_split blocks (line_begun w ps))
    ∙ sym (append_assoc (lines_ended w ps) (lines_ended (line_begun w ps) qs) (lines_from (line_begun (line_begun w ps) qs) []))
    ∙ ap₂ (λ (ls : List (List ℕ)) (v : List ℕ). ls ++ lines_from v []) (sym (ended_append ps qs w)) (sym (begun_append ps qs w))

abbrev then : {J : Type 0} → Outcome J → Outcome J → Outcome J
then a b = record { text = a.text ++ b.text; state = b.state }

abbrev came : {K J : Type 0} → Step K J → Outcome J
came t = record { text = t.text; state = t.state.machine }

-- ---- lines and then others
module _ {K J : Type 0} (m : LineMachine K J) where
  step-append : (ls ks : List (List ℕ)) (j : J) → lines_step m j (ls ++ ks) ≡ then (lines_step m j ls) (lines_step m (lines_step m j ls).state ks)
  unfolding lines_step
  step-append [] ks j = refl
  step-append (l ∷ ls) ks j =
      let o = m.step j l in
      ap (after o.text) (step-append ls ks o.state)
      ∙ ap (λ (t : List ℕ). record { text = t; state = (lines_step m (lines_step m o.state ls).state ks).state })
      (sym (append_assoc o.text (lines_step m o.state ls).text (lines_step m (lines_step m o.state ls).state ks).text))

  module _ {Keeps : K → List ℕ → Type 0} (keeps : KeepsLines m Keeps) where
    -- ---- the line w that is kept is run, and the lines ls after it
    module _ (s : State K J) (w : List ℕ) (holds : Keeps s.kept w) where
      line_then : (ls : List (List ℕ)) → then (came (answer_kept m s)) (lines_step m (answer_kept m s).state.machine ls) ≡ lines_step m s.machine (w ∷ ls)
      unfolding lines_step answer_kept
      line_then ls = ap (λ (x : Outcome J). after x.text (lines_step m x.state ls)) (keeps.means holds s.machine)

      next_holds : Keeps (answer_kept m s).state.kept []
      unfolding answer_kept
      next_holds = keeps.begins holds

    -- ---- the parts of a block
    pub feeds : (ps : List Part) (s : State K J) (w : List ℕ) → Keeps s.kept w → Feeds m Keeps s w ps
    unfolding lines_step feed_parts parts_text lines_ended line_begun
    feeds [] s w holds = record { ran = refl; keeps = holds }
    feeds (ends p ∷ ps) s w holds =
        let on = keeps.goes_on holds p in
        let r = feeds ps (answer_kept m (go_on m s p)).state [] (next_holds (go_on m s p) (w ++ p) on) in
        record {
          ran = ap (then (came (answer_kept m (go_on m s p)))) r.ran ∙ line_then (go_on m s p) (w ++ p) on (lines_ended [] ps);
          keeps = r.keeps;
        }
    feeds (goes_on p ∷ ps) s w holds =
        let r = feeds ps (go_on m s p) (w ++ p) (keeps.goes_on holds p) in record { ran = r.ran; keeps = r.keeps }

    -- ---- the end of the text
    pub finishes : (s : State K J) (w : List ℕ) → Keeps s.kept w → came (finish_of m s) ≡ lines_step m s.machine (lines_from w [])
    unfolding lines_step lines_from
    finishes s [] holds = rw (keeps.nothing holds)
    finishes s (x ∷ w) holds =
        rw (keeps.something holds)
        (ap (λ (t : List ℕ). record { text = t; state = (answer_kept m s).state.machine }) (sym (append-nil (answer_kept m s).text))
        ∙ line_then s (x ∷ w) holds [])

    -- ---- the whole text
    whole_by : (blocks : List (List ℕ)) (s : State K J) (w : List ℕ) → Keeps s.kept w → stream_of m s blocks ≡ lines_step m s.machine (lines_from w (flatten blocks))
    whole_by blocks s w holds =
        let ps = parts_in blocks in
        let f = feeds ps s w holds in
        let end = finishes (feed_parts m s ps) (line_begun w ps) f.keeps in
        ap (then (record { text = parts_text m s ps; state = (feed_parts m s ps).machine })) end
        ∙ ap (λ (t : Outcome J). then t (lines_step m t.state (lines_from (line_begun w ps) []))) f.ran
        ∙ sym (ap (lines_step m s.machine) (blocks_split blocks w) ∙ step-append (lines_ended w ps) (lines_from (line_begun w ps) []) s.machine)

    pub whole : (blocks : List (List ℕ)) (j : J) (k : K) → Keeps k [] → stream_of m (keeping j k) blocks ≡ lines_step m j (lines_from [] (flatten blocks))
    whole blocks j k begun = whole_by blocks (keeping j k) [] begun

    -- ---- all that is written
    pub written_is : {s' : State K J} {blocks : List (List ℕ)} {j : J} {k : K} {text : List ℕ} → Keeps k []
        → Blocks m (keeping j k) blocks s' text → text ++ (finish_of m s').text ≡ (lines_step m j (lines_from [] (flatten blocks))).text
    written_is {s'} {blocks} {j} {k} {text} begun b =
        let are = blocks_are m b in
        ap₂ (λ (t : List ℕ) (s : State K J). t ++ (finish_of m s).text) are.0 are.1
        ∙ ap (λ (o : Outcome J). o.text) (whole blocks j k begun)
