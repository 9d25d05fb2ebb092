-- The turn is reached from any place next to the holder: a test at each of the 16 masks and 5 places, carried to all. Assumes nothing.
use mathlib.Core.Path.{◌≡◌, sym, ap, ◌∙◌}
use mathlib.Core.List.{[], ◌∷◌}
use Prim.Native.Nat.{ℕ, ◌+◌, ◌*◌, ◌/◌, ◌%◌, ◌^◌, ◌<◌}
use native.Mathlib.Omega.{arith}
use lib.Count.{count_trailing_zeros}
use lib.Dec.{eqb, eqb→eq}
use Rattle.routing.specs.Four.{bit_at}
use Rattle.routing.specs.Turn.{in_turn}
use Rattle.routing.specs.Port.{input}
use Rattle.routing.proofs.Tests.{upto, everywhere}
use Rattle.routing.proofs.Turns.{turn_mod}
use Rattle.routing.proofs.turn.in_turn.Goals as goal

-- where the turn comes to from place n on, by trailing zeros
abbrev reached : ℕ → ℕ → ℕ
reached m n = (n + count_trailing_zeros 32 (m * 0x11111111 / 2 ^ n % 8 + 8)) % 4

-- n + 3 is the holder, modulo 4
reached_turn : (m n : ℕ) → m < 16 → n < 5 → reached m n ≡ in_turn (λ i. bit_at i m) (n + 3)
unfolding count_trailing_zeros in_turn
reached_turn m n below-16 below-5 =
    eqb→eq _ _ (everywhere (upto 16 ∷ upto 5 ∷ []) (λ m n. eqb (reached m n) (in_turn (λ i. bit_at i m) (n + 3))) tt m below-16 n below-5)

-- so the holder's turn is reached from the place next to it
from_next : (m h n t r : ℕ) → m < 16 → n < 5 → t ≡ m * 0x11111111 / 2 ^ n → r ≡ count_trailing_zeros 32 (t % 8 + 8) → (n + 3) % 4 ≡ h % 4
    → (n + r) % 4 ≡ in_turn (λ i. bit_at i m) h
from_next m h n t r below-16 below-5 turned passed next =
    ap (λ (k : ℕ). (n + k) % 4) (passed ∙ ap (λ (u : ℕ). count_trailing_zeros 32 (u % 8 + 8)) turned) ∙ reached_turn m n below-16 below-5
    ∙ sym (turn_mod (λ i. bit_at i m) (n + 3)) ∙ ap (in_turn (λ i. bit_at i m)) next ∙ turn_mod (λ i. bit_at i m) h

pub returns : goal.returns
returns c =
    let a = c.args in
    ap input (from_next a.mask a.holder.0 _ _ _ c.requires (omega arith) c.turned_mask.ensures c.passed.ensures.0 (omega arith))
