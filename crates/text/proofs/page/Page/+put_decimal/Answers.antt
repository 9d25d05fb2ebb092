use mathlib.Core.Path.{sym, ap, ◌∙◌}
use mathlib.Core.List.{List, [], ◌∷◌}
use Prim.Native.Nat.{ℕ}
use Rattle.text.proofs.Pages.{◌then◌, spelt}
use Rattle.text.proofs.Decimals.{few, many}
use Rattle.text.proofs.page.Page.+put_decimal.Goals as goal

abbrev digits : ℕ → List ℕ
digits d = d ∷ []

pub returns-then-n-lt10 : goal.returns-then-n-lt10
returns-then-n-lt10 t c = spelt c.put_byte.ensures (ap digits c.digit.ensures ∙ sym (few _ c.if-n-lt10.true))

pub returns-else-n-lt10 : goal.returns-else-n-lt10
returns-else-n-lt10 t c =
    spelt (c.put_decimal.ensures then spelt c.put_byte-else-n-lt10.ensures (ap digits c.digit-else-n-lt10.ensures)) (sym (many _ c.if-n-lt10.false))
