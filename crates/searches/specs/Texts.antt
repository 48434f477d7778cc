-- A text by value.
--
--   longest_text   the most symbols of a text that is found
--   text_cells w   the text w as an array, with zeros after it
use Rattle.std.specs.Prelude.{List, ℕ, ◌-◌, get_or}
use Rattle.limits.specs.Limits.{most_sets}
use Rattle.base.specs.Lists.{list_from}

abbrev pub longest_text : ℕ
longest_text = most_sets - 1

abbrev pub text_cells : List ℕ → List ℕ
text_cells w = list_from 0 longest_text (λ c. get_or w c 0)
