use mathlib.Core.Path.{ap}
use mathlib.Core.List.{List}
use Prim.Native.Nat.{ℕ}
use Rattle.text.proofs.Pages.{spelt}
use Rattle.readings.specs.ReadBack.{read_kept}
use Rattle.readings.proofs.answer.read_back.Goals as goal

pub returns : goal.returns
returns c =
    let said = c.read_start.ensures in
    record { agreed = said.agreed; writes = spelt said.writes (ap (λ (input : List ℕ). read_kept input c.args.total) c.part.ensures) }
