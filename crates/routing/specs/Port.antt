-- Input numbers, as the code's own kind, and the holders of the four outputs.
use Rattle.std.specs.Prelude.{List, ℕ, get_or}
use Rattle.routing.specs.declared.port.Input.{Input}

abbrev pub input : ℕ → Input
input i = record { 0 = i }

-- output o's holder
abbrev pub holder_in : List Input → ℕ → Input
holder_in holders o = get_or holders o (input 0)
