use mathlib.Core.Path.{ap}
use mathlib.Core.List.{List, [], ◌∷◌}
use Prim.Native.Nat.{ℕ}
use Rattle.text.proofs.Pages.{◌then◌, spelt}
use Rattle.text.proofs.page.Page.put_pair.Goals as goal

pub returns : goal.returns
returns c =
    let digits : ℕ → List ℕ = λ d. d ∷ [] in
    spelt c.put_byte.ensures (ap digits c.digit.ensures) then spelt c.put_byte-2.ensures (ap digits c.digit-2.ensures)
