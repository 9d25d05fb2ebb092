-- The words for a routing: when one happens, who asks, who is in the highest class asking, who wins, and which routing of the run it is.
use Rattle.std.specs.Prelude.{Bool, true, false, ◌≡◌, ℕ, zero, suc, ◌+◌, ◌<◌}
use Rattle.routing.specs.Four.{bit, count}
use Rattle.routing.specs.Header.{asker, high_asker}
use Rattle.routing.specs.Route.{routes}
use Rattle.runs.specs.Run.{Run, holder, headers_at}

-- rule 3: a routing happens in cycle t, or none does
abbrev pub routes_at : Run → ℕ → Bool
routes_at r t = routes (r.at t).state.waiting (headers_at r t)

abbrev pub RoutingAt : Run → ℕ → Type 0
RoutingAt r t = routes_at r t ≡ true

abbrev pub NoRoutingAt : Run → ℕ → Type 0
NoRoutingAt r t = routes_at r t ≡ false

-- the header of input i asks for output o; it asks for it in the high class
abbrev pub Asks : Run → ℕ → ℕ → ℕ → Type 0
Asks r t i o = asker (headers_at r t) o i ≡ true

abbrev pub AsksHigh : Run → ℕ → ℕ → ℕ → Type 0
AsksHigh r t i o = high_asker (headers_at r t) o i ≡ true

-- output o is asked for: some input asks for it
pub record AskedFor (r : Run) (t o : ℕ) : Type 0 where
  pub by : ℕ
  pub is_input : by < 4
  pub asks : Asks r t by o

-- how many ask for it
abbrev pub askers : Run → ℕ → ℕ → ℕ
askers r t o = count (asker (headers_at r t) o)

-- input i asks for output o in the highest class asking for it: if anybody asks in the high class, so does i
pub record InHighestClass (r : Run) (t i o : ℕ) : Type 0 where
  pub asks : Asks r t i o
  pub highest : (j : ℕ) → j < 4 → AsksHigh r t j o → AsksHigh r t i o

-- to win is to be the new holder of an output that is asked for at a routing, whether or not the output then opens
pub record Wins (r : Run) (t i o : ℕ) : Type 0 where
  pub routing : RoutingAt r t
  pub asked : AskedFor r t o
  pub new_holder : holder r (suc t) o ≡ i

-- how many routings happen before cycle t; the routing in cycle t is number k of the run, the first being number 0
unfoldable pub routings_before : Run → ℕ → ℕ
routings_before r zero = 0
routings_before r (suc t) = routings_before r t + bit (routes_at r t)

pub record KthRouting (r : Run) (k t : ℕ) : Type 0 where
  pub happens : RoutingAt r t
  pub number : routings_before r t ≡ k
