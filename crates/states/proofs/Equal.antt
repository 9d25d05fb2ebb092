-- States are equal where their parts are. Assumes nothing.
use mathlib.Core.Bool.{Bool}
use mathlib.Core.Path.{◌≡◌}
use mathlib.Core.List.{List}
use Rattle.routing.specs.declared.port.Input.{Input}
use Rattle.states.specs.declared.state.State.{State}

abbrev state : Bool → List Bool → List Input → State
state w s h = record { waiting = w; shut = s; holders = h }

pub state_of : {w w' : Bool} {s s' : List Bool} {h h' : List Input} → w ≡ w' → s ≡ s' → h ≡ h' → state w s h ≡ state w' s' h'
state_of p q r = cc
