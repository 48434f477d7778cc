-- The line of rule A's form (document 01; crates/forms has the form by hand), and the form that it
-- says. proofs/Examples.antt proves the claim.
--
--   line_A        `5 2 00000000000000000300 03000200000003000200 010000000200000204000002`
--   zeros_after   the numbers l, and zeros after them up to n
--   form_A        five sets and two symbols; failure sets, masks and kept cells
--   WorkedLine    the line says the form
use Rattle.std.specs.Prelude.{◌≡◌, List, [], ◌∷◌, ◌++◌, ℕ, ◌-◌, length, replicate}
use Rattle.std.proofs.Math.Option.{some}
use Rattle.forms.specs.declared.Form.{Form}
use Rattle.formline.specs.Lines.{line_in}

abbrev pub line_A : List ℕ
line_A =
    53 ∷ 32 ∷ 50 ∷ 32 ∷ 48 ∷ 48 ∷ 48 ∷ 48 ∷ 48 ∷ 48 ∷ 48 ∷ 48 ∷ 48 ∷ 48 ∷ 48 ∷ 48 ∷ 48 ∷ 48 ∷
    48 ∷ 48 ∷ 48 ∷ 51 ∷ 48 ∷ 48 ∷ 32 ∷ 48 ∷ 51 ∷ 48 ∷ 48 ∷ 48 ∷ 50 ∷ 48 ∷ 48 ∷ 48 ∷ 48 ∷ 48 ∷
    48 ∷ 48 ∷ 51 ∷ 48 ∷ 48 ∷ 48 ∷ 50 ∷ 48 ∷ 48 ∷ 32 ∷ 48 ∷ 49 ∷ 48 ∷ 48 ∷ 48 ∷ 48 ∷ 48 ∷ 48 ∷
    48 ∷ 50 ∷ 48 ∷ 48 ∷ 48 ∷ 48 ∷ 48 ∷ 50 ∷ 48 ∷ 52 ∷ 48 ∷ 48 ∷ 48 ∷ 48 ∷ 48 ∷ 50 ∷ []

abbrev pub zeros_after : ℕ → List ℕ → List ℕ
zeros_after n l = l ++ replicate (n - length l) 0

abbrev pub form_A : Form
form_A = record {
  sets = 5;
  symbols = 2;
  failure = zeros_after 512 (0 ∷ 0 ∷ 0 ∷ 0 ∷ 3 ∷ []);
  kept = zeros_after 512 (3 ∷ 2 ∷ 0 ∷ 3 ∷ 2 ∷ []);
  cells = zeros_after 8192 (1 ∷ 0 ∷ 2 ∷ 512 ∷ 4 ∷ 512 ∷ []);
}

abbrev pub WorkedLine : Type 0
WorkedLine = line_in line_A ≡ some form_A
