-- Open outputs and their holders.
use Rattle.std.specs.Prelude.{◌≡◌, ℕ, suc, ◌<◌, ◌≤◌}
use Rattle.runs.specs.Run.{Run, holder, Open}
use Rattle.runs.specs.Routing.{Wins}

-- output o is open in every cycle from s to t
abbrev pub OpenFrom : Run → ℕ → ℕ → ℕ → Type 0
OpenFrom r s t o = (k : ℕ) → s ≤ k → k ≤ t → Open r k o

-- While an output stays open its holder is the same; and who won it holds it for as long as it is open after the routing.
pub record Holding (r : Run) : Type 0 where
  pub same_holder : (s t o : ℕ) → o < 4 → s ≤ t → OpenFrom r s t o → holder r t o ≡ holder r s o
  pub winner_holds : (s t w o : ℕ) → o < 4 → s < t → Wins r s w o → OpenFrom r (suc s) t o → holder r t o ≡ w

-- No input holds two open outputs.
abbrev pub Apart : Run → Type 0
Apart r = (t a b : ℕ) → a < 4 → b < 4 → Open r t a → Open r t b → holder r t a ≡ holder r t b → a ≡ b
