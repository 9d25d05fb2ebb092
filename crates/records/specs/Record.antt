-- The packed records: a capture record brings a cycle's inputs, an answer record takes its answer.
use Rattle.std.specs.Prelude.{Bool, false, not, List, [], ◌∷◌, ℕ, ◌+◌, ◌*◌, ◌/◌, ◌%◌, ◌<◌, eqb, get_or}
use Rattle.fabric.specs.declared.cycle.Inputs.{Inputs}
use Rattle.records.specs.declared.record.Answer.{Answer}
use Rattle.routing.specs.Four.{four, bit, bit_at, mask}

abbrev pub byte_at : List ℕ → ℕ → ℕ
byte_at l n = get_or l n 0

-- each number of a list is a byte, as in every slice of the code
abbrev pub Bytes : List ℕ → Type 0
Bytes l = (k : ℕ) → byte_at l k < 256

abbrev pub flag_at : List Bool → ℕ → Bool
flag_at l n = get_or l n false

-- Capture record, 5 bytes: byte 0 has frame start in bit 7, zeros in 6..4, acknowledgements of outputs 3..0 in bits 3..0; then the
-- bytes of inputs 0..3.
abbrev pub inputs_from : List ℕ → Inputs
inputs_from b = record {
  frame = bit_at 7 (byte_at b 0);
  bytes = byte_at b 1 ∷ byte_at b 2 ∷ byte_at b 3 ∷ byte_at b 4 ∷ [];
  acks = four (λ o. bit_at o (byte_at b 0));
}

abbrev pub record_of : Inputs → List ℕ
record_of i = (128 * bit i.frame + mask (flag_at i.acks)) ∷ four (byte_at i.bytes)

-- refusal 3: a bit 6..4 of byte 0 is set
abbrev pub spare_set : ℕ → Bool
spare_set b = not (eqb (b / 16 % 8) 0)

-- Answer record, 5 bytes: zeros in 7..4, acknowledgements to inputs 3..0 in 3..0; then heads 0..3.
abbrev pub answer_bytes : List Bool → List ℕ → List ℕ
answer_bytes acks heads = mask (flag_at acks) ∷ four (byte_at heads)

abbrev pub answer_from : List ℕ → Answer
answer_from b = record { acks = four (λ i. bit_at i (byte_at b 0)); heads = byte_at b 1 ∷ byte_at b 2 ∷ byte_at b 3 ∷ byte_at b 4 ∷ [] }
