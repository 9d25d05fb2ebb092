-- What is found, as text. Assumes nothing.
use mathlib.Core.Path.{◌≡◌, ap, ◌∙◌}
use mathlib.Core.List.{List}
use Rattle.std.proofs.Common.{Option}
use Prim.Native.Nat.{ℕ}
use Rattle.text.specs.Differ.{first_difference}
use Rattle.text.specs.Page.{Page, Wrote}
use Rattle.text.proofs.Pages.{other_words}
use Rattle.numerals.specs.Line.{found}

module _ (station head : List ℕ) {d : Option ℕ} (is : d ≡ first_difference station head) {before after : Page} where
  pub found_text : {what : List ℕ} → Wrote before what after → what ≡ found d station head → Wrote before (found (first_difference station head) station head) after
  found_text w e = other_words w (e ∙ ap (λ (x : Option ℕ). found x station head) is)
