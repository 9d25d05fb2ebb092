use mathlib.Core.Path.{◌∙◌}
use Prim.Native.Nat.{ℕ, ◌<◌}
use lib.ListN.{get_or}
use mir.Syntax.{w8}
use mir.Val.{Fits}
use Rattle.engine.proofs.Choices.{acks_made, switch_made, acks_wired, switch_wired}
use borrow.Author.Rules.{rules}
use Rattle.engine.proofs.cycle.pass_on.Goals as goal

byte : (c : goal.After-switch_all) (h : ℕ) → h < 4 → Fits w8 (get_or c.args.second h 0)
byte c h l = search rules

pub returns : goal.returns
returns c =
    let a = c.args in
    let to = acks_wired a.s a.acks a.second c.select_all-lets.ensures c.acknowledge_all.ensures in
    let sw = switch_wired a.s a.acks a.second c.select_all-lets.ensures c.switch_all.ensures in record { words = (to, sw); rules = λ held. (to ∙ acks_made a.s held a.acks, sw ∙ switch_made a.s held a.second (λ h l. (byte c h l).fits)) }
