-- The bits that a block reads are the fields that the rules speak of. Assumes nothing.
use mathlib.Core.Bool.{Bool}
use mathlib.Core.Path.{◌≡◌}
use mathlib.Core.List.{List, [], ◌∷◌}
use Prim.Native.Nat.{ℕ, ◌/◌, ◌<◌}
use native.Mathlib.Nat.{div-one}
use native.Mathlib.Omega.{arith}
use lib.Dec.{eqb, eqb→eq}
use Rattle.routing.specs.Four.{bit_at}
use Rattle.routing.specs.Header.{active, output_asked}
use Rattle.routing.proofs.Masks.{bit_digit}
use Rattle.routing.proofs.Tests.{upto, everywhere}
use Rattle.blocks.specs.Lines.{lines}

pub active_bit : (h : ℕ) → bit_at 0 h ≡ active h
active_bit h = rw (div-one h)

pub output_bits : (h : ℕ) → lines (bit_at 2 h ∷ bit_at 3 h ∷ []) ≡ output_asked h
output_bits h = rw (bit_digit (h / 4), bit_digit (h / 8)) (omega arith)

-- a holder is its two bits, a byte its eight
pub holder_bits : (h : ℕ) → h < 4 → lines (bit_at 0 h ∷ bit_at 1 h ∷ []) ≡ h
holder_bits h l = eqb→eq _ _ (everywhere (upto 4 ∷ []) (λ h. eqb (lines (bit_at 0 h ∷ bit_at 1 h ∷ [])) h) tt h l)

abbrev pub eight_bits : ℕ → List Bool
eight_bits x = bit_at 0 x ∷ bit_at 1 x ∷ bit_at 2 x ∷ bit_at 3 x ∷ bit_at 4 x ∷ bit_at 5 x ∷ bit_at 6 x ∷ bit_at 7 x ∷ []

pub byte_bits : (x : ℕ) → x < 256 → lines (eight_bits x) ≡ x
byte_bits x l = eqb→eq _ _ (everywhere (upto 256 ∷ []) (λ x. eqb (lines (eight_bits x)) x) tt x l)
