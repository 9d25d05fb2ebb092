-- Who asks and who is in the highest class asking, as the words say it and as rule 4 computes it. Assumes nothing.
use mathlib.Core.Bool.{Bool, true, false, cond}
use mathlib.Core.Path.{◌≡◌, refl}
use mathlib.Core.List.{List}
use Prim.Native.Nat.{ℕ, ◌<◌}
use Rattle.routing.specs.Header.{asker, high_asker}
use Rattle.routing.specs.Route.{asked, asked_high, remains}
use Rattle.routing.specs.Turn.{in_turn}
use Rattle.routing.proofs.Fours.{not_both, no_unless, no_at, some_of}
use Rattle.routing.proofs.Turns.{turn_lt, turn_named}
use Rattle.routing.proofs.Winners.{remaining_asks}
use Rattle.runs.specs.Run.{Run, headers_at}
use Rattle.runs.specs.Routing.{AsksHigh, AskedFor, InHighestClass}

module _ (r : Run) (t o : ℕ) where
  abbrev headers : List ℕ
  headers = headers_at r t

  pub asked_for : asked headers o ≡ true → AskedFor r t o
  asked_for e = record { by = in_turn (asker headers o) 0; is_input = turn_lt (asker headers o) 0; asks = turn_named (asker headers o) 0 e }

  pub is_asked : AskedFor r t o → asked headers o ≡ true
  is_asked a = some_of (asker headers o) a.by a.is_input a.asks

  pub not_asked : (AskedFor r t o → ⊥) → asked headers o ≡ false
  not_asked n = no_unless (λ e. n (asked_for e))

  pub by_nobody : asked headers o ≡ false → AskedFor r t o → ⊥
  by_nobody e a = not_both (is_asked a) e

  module _ (i : ℕ) where
    -- who is in the highest class asking is not set aside
    pub remains_then : InHighestClass r t i o → remains headers o i ≡ true
    remains_then c = go (asked_high headers o) refl
      where
        go : (b : Bool) → asked_high headers o ≡ b → cond b (high_asker headers o i) (asker headers o i) ≡ true
        go true e = c.highest (in_turn (high_asker headers o) 0) (turn_lt (high_asker headers o) 0) (turn_named (high_asker headers o) 0 e)
        go false e = c.asks

    -- and who is not set aside is in it
    pub highest_then : remains headers o i ≡ true → InHighestClass r t i o
    highest_then e = record { asks = remaining_asks headers o i e; highest = λ j l a. go (asked_high headers o) refl e j l a }
      where
        go : (b : Bool) → asked_high headers o ≡ b → cond b (high_asker headers o i) (asker headers o i) ≡ true
            → (j : ℕ) → j < 4 → AsksHigh r t j o → AsksHigh r t i o
        go true f e j l a = e
        go false f e j l a = absurd (not_both a (no_at (high_asker headers o) f j l))
