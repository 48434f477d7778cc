-- What stands in the order of where it is first reached from, whatever leads to what: seeds are
-- numbered from 0, and `Leads q w m` says that the text w leads from seed q to m.
--
--   Origin n Leads m q w    q is the first of n seeds from which a text leads to m, and w the first
--                           text that leads there from seed q
--   InOrder n Leads at c    at 0, at 1, .. at (c − 1) stand in the order of their first seeds, and
--                           then of their first texts from these
--
-- Of two texts the shorter is first; of two as long, the one with the lower symbol where they first
-- differ (`Sooner`).
use Rattle.std.specs.Prelude.{◌≡◌, ◌⊎◌, List, ℕ, ◌<◌, ◌≤◌}
use Rattle.numbering.specs.Texts.{Sooner, NoLater}

module _ (n : ℕ) (Leads : ℕ → List ℕ → ℕ → Type 0) where
  pub record Origin (m q : ℕ) (w : List ℕ) : Type 0 where
    pub below : q < n
    pub leads : Leads q w m
    pub first_seed : (p : ℕ) (v : List ℕ) → p < n → Leads p v m → q ≤ p
    pub first_text : (v : List ℕ) → Leads q v m → NoLater w v

  pub record InOrder (at : ℕ → ℕ) (c : ℕ) : Type 0 where
    pub from : ℕ → ℕ
    pub text : ℕ → List ℕ
    pub origin : (i : ℕ) → i < c → Origin (at i) (from i) (text i)
    pub rises : (i j : ℕ) → i < j → j < c → (from i < from j) ⊎ ((from i ≡ from j) × Sooner (text i) (text j))
