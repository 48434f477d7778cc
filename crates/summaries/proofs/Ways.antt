-- One lemma over plain variables for each way out of the functions. Assumes nothing.
--
--   gap-..             the two summaries do not join, for each reason, or they do
--   same_summary       a summary, field by field
--   summary_20, summary_12, summary_refused_lem, summary_made  each way out of `summarize_of`
--   report_20 .. report_made   each way out of `conclude_of`
use mathlib.Core.Path.{◌≡◌, refl, sym, ap, ◌∙◌}
use mathlib.Core.Bool.{Bool, true, false, cond}
use mathlib.Core.List.{List}
use mathlib.Core.Option.{none, some}
use Prim.Native.Nat.{ℕ, zero, suc, ◌≤◌, ◌<◌}
use lib.Dec.{eqb}
use lib.ListN.{length}
use borrow.Author.Tests.{eq-eqb, ne_eqb}
use Rattle.base.proofs.Tests.{by_test, zero_one}
use Rattle.std.proofs.Common.{Result, Ok, Err}
use Rattle.base.specs.declared.Refusal.{Refusal}
use Rattle.base.specs.Answers.{refusal_number}
use Rattle.masks.specs.Masks.{shares}
use Rattle.marks.specs.Marks.{text_of}
use Rattle.compositions.specs.Relations.{image_of}
use Rattle.digests.specs.Digests.{digest_of}
use Rattle.chunks.specs.declared.Runs.{Runs}
use Rattle.chunks.specs.Chunks.{foreign}
use Rattle.chunks.specs.Taking.{chunk_number}
use Rattle.chunks.specs.mirror.Walks.{delegate_mask, run_mask, runs_of}
use Rattle.chunks.proofs.Claims as chunks
use Rattle.deliveries.specs.mirror.Attempts as attempts
use Rattle.calls.specs.declared.Judge.{Judge}
use Rattle.calls.specs.Replies.{Judgement, Reported, refused_with, refused, delivered}
use Rattle.calls.specs.Calls.{alone, report_by}
use Rattle.summaries.specs.declared.Summary.{Summary}
use Rattle.summaries.specs.Summaries.{follows, place_of, made_from, Summarized, summary_refused, summary_number, summarize_of, said_by, conclude_number, conclude_of}

-- ---- combining
pub same_summary : {l m : List ℕ} {c d b e r s f g x y u v : ℕ} → l ≡ m → c ≡ d → b ≡ e → r ≡ s → f ≡ g → x ≡ y → u ≡ v
    → ◌≡◌ {A = Summary} (record { leads = l; count = c; bytes = b; rule = r; first = f; end = x; broken = u })
    (record { leads = m; count = d; bytes = e; rule = s; first = g; end = y; broken = v })
same_summary p q r s t u v = rw (p, q, r, s, t, u, v)

module _ (a b : Summary) where
  pub gap_earlier : (a.broken ≡ 0 → ⊥) → ◌≡◌ {A = ℕ} 1 (cond (follows a b) 0 1)
  gap_earlier n = rw (ne_eqb a.broken 0 n)

  module _ (x : a.broken ≡ 0) where
    pub gap_later : (b.broken ≡ 0 → ⊥) → ◌≡◌ {A = ℕ} 1 (cond (follows a b) 0 1)
    gap_later n = rw (eq-eqb a.broken 0 x, ne_eqb b.broken 0 n)

    module _ (y : b.broken ≡ 0) where
      pub gap_between : (a.end ≡ b.first → ⊥) → ◌≡◌ {A = ℕ} 1 (cond (follows a b) 0 1)
      gap_between n = rw (eq-eqb a.broken 0 x, eq-eqb b.broken 0 y, ne_eqb a.end b.first n)

      module _ (z : a.end ≡ b.first) where
        pub gap_rules : (a.rule ≡ b.rule → ⊥) → ◌≡◌ {A = ℕ} 1 (cond (follows a b) 0 1)
        gap_rules n = rw (eq-eqb a.broken 0 x, eq-eqb b.broken 0 y, eq-eqb a.end b.first z, ne_eqb a.rule b.rule n)

        pub no_gap : a.rule ≡ b.rule → ◌≡◌ {A = ℕ} 0 (cond (follows a b) 0 1)
        no_gap u = rw (eq-eqb a.broken 0 x, eq-eqb b.broken 0 y, eq-eqb a.end b.first z, eq-eqb a.rule b.rule u)

-- ---- summarizing
pub other_place : (number : ℕ) → (number ≡ 0 → ⊥) → 1 ≡ place_of number
other_place zero n = absurd (n refl)
other_place (suc number) n = refl

module _ (j : Judge) (number : ℕ) (w : List ℕ) (o : Summarized) where
  pub summary_20 : j.built.n ≡ 0 → o ≡ summary_refused 20 → o ≡ summarize_of j number w
  unfolding summarize_of summary_number
  summary_20 e is = is ∙ rw (eq-eqb j.built.n 0 e)

  module _ (there : j.built.n ≡ 0 → ⊥) where
    pub summary_12 : 65536 < length w → o ≡ summary_refused 12 → o ≡ summarize_of j number w
    unfolding summarize_of summary_number
    summary_12 l is =
        let x : chunk_number j.built.k w ≡ some 12 = ((chunks.claims).taking j.built.k w).number_12.1 l in
        is ∙ rw (ne_eqb j.built.n 0 there, x)

    module _ (short : length w ≤ 65536) (place : ℕ) (at : place ≡ place_of number)
        (mask : ℕ) (masked : mask ≡ run_mask j.built.delegates j.built.n j.built.initials place)
        (t : Result Runs Refusal) (came : attempts.attempt_means t ≡ attempts.attempt_of j.built.sets j.built.next j.built.singles mask j.built.k false (text_of w)) where
      foreign_there : foreign (text_of w) j.built.k ≡ true → attempts.attempt_means t ≡ attempts.refused_with 13
      unfolding attempts.attempt_of
      foreign_there f = came ∙ rw f

      ran_there : foreign (text_of w) j.built.k ≡ false → attempts.attempt_means t ≡ attempts.ran_to (runs_of j.built.sets j.built.next j.built.singles mask (text_of w))
      unfolding attempts.attempt_of
      ran_there f = came ∙ rw f

      pub summary_refused_lem : (e : Refusal) → t ≡ Err e → o ≡ summary_refused (refusal_number e) → o ≡ summarize_of j number w
      unfolding summarize_of summary_number
      summary_refused_lem e told is =
          let x : ℕ = refusal_number e in
          let so : attempts.attempt_means t ≡ attempts.refused_with x = ap attempts.attempt_means told in
          by_test (foreign (text_of w) j.built.k)
          (λ f.
          let y : refused x ≡ refused 13 = ap (λ (a : attempts.Attempted). a.reply) (sym so ∙ foreign_there f) in
          let thirteen : x ≡ 13 = cc in
          let z : chunk_number j.built.k w ≡ some 13 = ((chunks.claims).taking j.built.k w).number_13.1 (short, f) in
          is ∙ rw (ne_eqb j.built.n 0 there, z, thirteen))
          (λ f.
          let y : refused x ≡ delivered (runs_of j.built.sets j.built.next j.built.singles mask (text_of w)).looked =
          ap (λ (a : attempts.Attempted). a.reply) (sym so ∙ ran_there f) in
          zero_one cc)

      pub summary_made : (runs : Runs) → t ≡ Ok runs
          → (a : Summary) → a ≡ made_from j.built number runs
          → o ≡ record { refusal = none; summary = a }
          → o ≡ summarize_of j number w
      unfolding summarize_of summary_number
      summary_made runs told a made is =
          let so : attempts.attempt_means t ≡ attempts.ran_to runs = ap attempts.attempt_means told in
          by_test (foreign (text_of w) j.built.k)
          (λ f.
          let y : delivered runs.looked ≡ refused 13 = ap (λ (a : attempts.Attempted). a.reply) (sym so ∙ foreign_there f) in
          zero_one cc)
          (λ f.
          let z : chunk_number j.built.k w ≡ none = ((chunks.claims).taking j.built.k w).taken.1 (short, f) in
          is ∙ rw (made, ne_eqb j.built.n 0 there, z, ap (λ (a : attempts.Attempted). a.runs) (sym so ∙ ran_there f), masked, at))

-- ---- concluding
module _ (j : Judge) (a : Summary) (chunks : ℕ) (r : Reported) where
  pub report_20 : j.built.n ≡ 0 → r ≡ alone (refused_with 20) → r ≡ conclude_of j a chunks
  unfolding conclude_of conclude_number
  report_20 e is = is ∙ rw (eq-eqb j.built.n 0 e)

  module _ (there : j.built.n ≡ 0 → ⊥) where
    pub report_broken : (a.broken ≡ 0 → ⊥) → r ≡ alone (refused_with 42) → r ≡ conclude_of j a chunks
    unfolding conclude_of conclude_number
    report_broken n is = is ∙ rw (ne_eqb j.built.n 0 there, ne_eqb a.broken 0 n)

    module _ (whole : a.broken ≡ 0) where
      pub report_first : (a.first ≡ 0 → ⊥) → r ≡ alone (refused_with 42) → r ≡ conclude_of j a chunks
      unfolding conclude_of conclude_number
      report_first n is = is ∙ rw (ne_eqb j.built.n 0 there, eq-eqb a.broken 0 whole, ne_eqb a.first 0 n)

      module _ (first : a.first ≡ 0) (digest : ℕ) (same : digest ≡ digest_of j.built) where
        pub report_43 : (a.rule ≡ digest → ⊥) → r ≡ alone (refused_with 43) → r ≡ conclude_of j a chunks
        unfolding conclude_of conclude_number
        report_43 n is =
            is
            ∙ rw (
              ne_eqb j.built.n 0 there,
              eq-eqb a.broken 0 whole,
              eq-eqb a.first 0 first,
              ne_eqb a.rule (digest_of j.built) (λ e. n (e ∙ sym same)),
            )

        module _ (rule : a.rule ≡ digest) where
          ruled : eqb a.rule (digest_of j.built) ≡ true
          ruled = eq-eqb a.rule (digest_of j.built) (rule ∙ same)

          pub report_none : chunks ≡ 0 → r ≡ alone (refused_with 44) → r ≡ conclude_of j a chunks
          unfolding conclude_of conclude_number
          report_none e is = is ∙ rw (ne_eqb j.built.n 0 there, eq-eqb a.broken 0 whole, eq-eqb a.first 0 first, ruled, eq-eqb chunks 0 e)

          module _ (some_chunk : chunks ≡ 0 → ⊥) where
            pub report_44 : (a.end ≡ chunks → ⊥) → r ≡ alone (refused_with 44) → r ≡ conclude_of j a chunks
            unfolding conclude_of conclude_number
            report_44 n is =
                is
                ∙ rw (
                  ne_eqb j.built.n 0 there,
                  eq-eqb a.broken 0 whole,
                  eq-eqb a.first 0 first,
                  ruled,
                  ne_eqb chunks 0 some_chunk,
                  ne_eqb a.end chunks n,
                )

            pub report_made : a.end ≡ chunks
                → (starts : ℕ) → starts ≡ delegate_mask j.built.delegates j.built.n j.built.initials
                → (set : ℕ) → set ≡ image_of 32 a.leads starts
                → (says : Bool) → says ≡ shares set j.built.finals
                → (v : Judgement) → v ≡ said_by says a.count
                → r ≡ report_by v a.bytes → r ≡ conclude_of j a chunks
            unfolding conclude_of conclude_number
            report_made end starts x set y says z v u is =
                is
                ∙ rw (
                  u,
                  z,
                  y,
                  x,
                  ne_eqb j.built.n 0 there,
                  eq-eqb a.broken 0 whole,
                  eq-eqb a.first 0 first,
                  ruled,
                  ne_eqb chunks 0 some_chunk,
                  eq-eqb a.end chunks end,
                )
