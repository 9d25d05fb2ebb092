-- Rule 4's winner: an asker, in the high class where one of the askers is, and so the holder of no other output that is asked for.
-- Assumes nothing.
use mathlib.Core.Bool.{Bool, true, false, cond, ◌&&◌, ◌||◌, beq}
use mathlib.Core.Path.{◌≡◌, ◌∙◌}
use mathlib.Core.List.{List, []}
use Prim.Native.Nat.{ℕ, ◌<◌}
use lib.Dec.{eqb}
use borrow.Author.Tests.{eqb-true}
use Rattle.routing.specs.Four.{some}
use Rattle.routing.specs.Header.{active, priority, output_asked, header_of, asker, high_asker}
use Rattle.routing.specs.Route.{asked, asked_high, remains, winner}
use Rattle.routing.proofs.Fours.{row, and_left, and_right}
use Rattle.routing.proofs.Tests.{flags, everywhere, beq→eq}
use Rattle.routing.proofs.Turns.{turn_lt, turn_named}

-- tested at all askers and priorities: with a high asker the high ones are left, and so somebody is
abbrev some_left : Bool → Bool → Bool → Bool → Bool → Bool → Bool → Bool → Bool
some_left a b c d p q r s =
    let high = row (a && p) (b && q) (c && r) (d && s) in some (λ i. cond (some high) (high i) (row a b c d i))

left : (a b c d p q r s : Bool) → some_left a b c d p q r s ≡ (a || b || c || d)
left a b c d p q r s =
    beq→eq _ _ (everywhere (flags (flags [])) (λ a b c d p q r s. beq (some_left a b c d p q r s) (a || b || c || d)) tt a b c d p q r s)

module _ (headers : List ℕ) (o : ℕ) where
  -- who remains asks
  pub remaining_asks : (i : ℕ) → remains headers o i ≡ true → asker headers o i ≡ true
  remaining_asks i e = go (asked_high headers o) e
    where
      go : (b : Bool) → cond b (high_asker headers o i) (asker headers o i) ≡ true → asker headers o i ≡ true
      go true e = and_left (asker headers o i) (priority (header_of headers i)) e
      go false e = e

  -- somebody remains exactly where somebody asks
  pub some_remain : some (remains headers o) ≡ asked headers o
  some_remain =
      left (asker headers o 0) (asker headers o 1) (asker headers o 2) (asker headers o 3) (priority (header_of headers 0)) (priority (header_of headers 1)) (priority (header_of headers 2)) (priority (header_of headers 3))

  module _ (h : ℕ) (is_asked : asked headers o ≡ true) where
    pub winner_lt : winner headers o h < 4
    winner_lt = turn_lt (remains headers o) h

    pub winner_remains : remains headers o (winner headers o h) ≡ true
    winner_remains = turn_named (remains headers o) h (some_remain ∙ is_asked)

    pub winner_asks : asker headers o (winner headers o h) ≡ true
    winner_asks = remaining_asks (winner headers o h) winner_remains

    -- the winner's header names the output, so no input wins two
    pub winner_output : output_asked (header_of headers (winner headers o h)) ≡ o
    winner_output =
        let x = header_of headers (winner headers o h) in eqb-true (output_asked x) o (and_right (active x) (eqb (output_asked x) o) winner_asks)
