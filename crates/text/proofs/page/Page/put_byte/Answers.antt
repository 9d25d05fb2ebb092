use mathlib.Core.Path.{refl}
use Rattle.text.proofs.Pages.{put_there, put_full}
use Rattle.text.proofs.page.Page.put_byte.Goals as goal

pub returns-then-self : goal.returns-then-self
returns-then-self c = record { wrote = put_there _ _ _ c.if-self.true; same = refl }

pub returns-else-self : goal.returns-else-self
returns-else-self c = record { wrote = put_full _ _ _ c.if-self.false; same = refl }
