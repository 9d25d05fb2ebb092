use mathlib.Core.Path.{sym, ap}
use Rattle.text.proofs.Pages.{◌then◌, nothing, spelt}
use Rattle.listing.specs.Refusal.{index_text}
use Rattle.listing.proofs.refusal.put_index.Goals as goal

pub returns-in-Some : goal.returns-in-Some
returns-in-Some c = spelt (c.put_text.ensures then c.put_decimal.ensures) (ap index_text (sym c.in-Some.is))

pub returns-in-None : goal.returns-in-None
returns-in-None c = spelt (nothing _) (ap index_text (sym c.in-None.is))
