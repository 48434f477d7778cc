-- What the parts of the text come to, over plain variables. Assumes nothing.
use Rattle.std.proofs.Common.{Ok, Err}
use mathlib.Core.Path.{◌≡◌, ap}
use mathlib.Core.List.{List}
use Prim.Native.Nat.{ℕ, ◌+◌, ◌≤◌, min}
use native.Mathlib.Omega.{arith}
use lib.ListN.{length}
use Rattle.base.specs.Lists.{joined}
use Rattle.text.specs.Writing.{Wrote}
use Rattle.text.proofs.Rooms.{most, two}
use Rattle.base.specs.Answers.{refusal_number}
use Rattle.base.specs.declared.Refusal.{Refusal}
use Rattle.ruletext.specs.RuleText.{refused_text}
use Rattle.profile.specs.declared.Profile.{Profile}
use Rattle.profile.specs.Profiles.{Building, build_outcome}
use Rattle.profilefile.specs.Files.{profile_in}
use Rattle.profiletext.specs.ProfileText.{mapping_line, head_line, profile_text, text_by, text_for}
use Rattle.profiletext.proofs.Lengths.{lines_most}

pub whole : (p : Profile) (count k : ℕ) → count ≡ min p.count 512 → k ≡ min p.k 16 → {before mid after : List ℕ} {a b : ℕ}
    → 43533 ≤ length before → Wrote before 0 (head_line count) mid a × (a ≤ 0 + 13)
    → Wrote mid a (joined (mapping_line p.mappings p.next k) count) after b
    → Wrote before 0 (profile_text p) after b
whole p count k c-is k-is room head lines =
    let text = two 13 43520 room head
    (λ _. most 43520 (omega (arith, lines_most p.mappings p.next k (omega arith) count (omega arith))) lines) in
    rw (c-is, k-is) at text.0

module _ (f : List ℕ) where
  pub built_text_lem : (p : Profile) → build_outcome (Ok p) ≡ profile_in f → profile_text p ≡ text_for f
  built_text_lem p is = ap (λ (x : Building). text_by x.reply x.profile) is

  pub refused_text_lem : (e : Refusal) → build_outcome (Err e) ≡ profile_in f → refused_text (refusal_number e) ≡ text_for f
  refused_text_lem e is = ap (λ (x : Building). text_by x.reply x.profile) is
