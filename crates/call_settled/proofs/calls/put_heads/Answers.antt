use mathlib.Core.Path.{◌≡◌}
use mathlib.Core.Bool.{false}
use Rattle.std.proofs.Common.{arith}
use Rattle.std.proofs.lemmas.Grind.{common_steps}
use lib.ListN.{get_or}
use Rattle.routing.specs.Four.{four}
use Rattle.text.proofs.Pages.{◌then◌, spelt}
use Rattle.call_settled.specs.Calls.{digit_for}
use Rattle.call_settled.proofs.calls.put_heads.Goals as goal

pub returns : goal.returns
returns c =
    let digits : c.map.result ≡ four (λ h. digit_for (get_or c.args.heads h false)) = grind (arith, common_steps) in
    spelt c.put_text.ensures digits then c.put_byte.ensures
