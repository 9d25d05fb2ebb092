-- Capture and answer records, both ways. Byte 0 is tested at all its values. Assumes nothing.
use mathlib.Core.Bool.{Bool, false, ◌||◌, beq}
use mathlib.Core.Path.{◌≡◌, ap, subst, ◌∙◌}
use mathlib.Core.List.{List, [], ◌∷◌}
use Prim.Native.Nat.{ℕ, ◌+◌, ◌*◌, ◌<◌}
use native.Mathlib.Omega.{arith}
use lib.Dec.{T, eqb, eqb→eq}
use lib.ListN.{get_or}
use Rattle.fabric.specs.declared.cycle.Inputs.{Inputs}
use Rattle.routing.specs.Four.{four, bit, bit_at}
use Rattle.routing.proofs.Equal.{two, row_of}
use Rattle.routing.proofs.Fours.{row}
use Rattle.routing.proofs.Masks.{in_mask}
use Rattle.routing.proofs.Tests.{flag, upto, flags, everywhere, beq→eq}
use Rattle.records.specs.declared.record.Answer.{Answer}
use Rattle.records.specs.Record.{flag_at, spare_set}
use Rattle.records.proofs.Places.{spelt}
use Rattle.promises.specs.Kept.{RecordRead, RecordMade, AnswerRead, AnswerMade}

-- byte 0 of a capture record, from a frame start and four acknowledgements
abbrev head : Bool → Bool → Bool → Bool → Bool → ℕ
head f a b c d = 128 * bit f + (bit a + 2 * bit b + 4 * bit c + 8 * bit d)

module _ (f a b c d : Bool) where
  frame_back : bit_at 7 (head f a b c d) ≡ f
  frame_back = beq→eq _ _ (everywhere (flag ∷ flags []) (λ f a b c d. beq (bit_at 7 (head f a b c d)) f) tt f a b c d)

  ack_back : (o : ℕ) → o < 4 → bit_at o (head f a b c d) ≡ row a b c d o
  ack_back o h =
      beq→eq _ _
      (everywhere (upto 4 ∷ flag ∷ flags []) (λ o f a b c d. beq (bit_at o (head f a b c d)) (row a b c d o)) tt o h f a b c d)

  acks_back : four (λ o. bit_at o (head f a b c d)) ≡ (a ∷ b ∷ c ∷ d ∷ [])
  acks_back = row_of (ack_back 0 (omega arith)) (ack_back 1 (omega arith)) (ack_back 2 (omega arith)) (ack_back 3 (omega arith))

-- byte 0 again, from the bits that it has
head_made : (x : ℕ) → x < 256 → spare_set x ≡ false → head (bit_at 7 x) (bit_at 0 x) (bit_at 1 x) (bit_at 2 x) (bit_at 3 x) ≡ x
head_made x h clear =
    eqb→eq _ _
    (subst (λ (s : Bool). T (s || eqb (head (bit_at 7 x) (bit_at 0 x) (bit_at 1 x) (bit_at 2 x) (bit_at 3 x)) x)) clear
    (everywhere (upto 256 ∷ []) (λ x. spare_set x || eqb (head (bit_at 7 x) (bit_at 0 x) (bit_at 1 x) (bit_at 2 x) (bit_at 3 x)) x) tt x h))

abbrev inputs : Bool → List ℕ → List Bool → Inputs
inputs f b a = record { frame = f; bytes = b; acks = a }

inputs_of_lem : {f f' : Bool} {b b' : List ℕ} {a a' : List Bool} → f ≡ f' → b ≡ b' → a ≡ a' → inputs f b a ≡ inputs f' b' a'
inputs_of_lem p q r = cc

pub record_read : RecordRead
record_read i lb la =
    let f = i.frame in
    let a = flag_at i.acks in
    inputs_of_lem (frame_back f (a 0) (a 1) (a 2) (a 3)) (spelt 0 4 i.bytes lb) (acks_back f (a 0) (a 1) (a 2) (a 3) ∙ spelt false 4 i.acks la)

pub record_made : RecordMade
record_made b bytes long clear =
    ap (λ (n : ℕ). n ∷ get_or b 1 0 ∷ get_or b 2 0 ∷ get_or b 3 0 ∷ get_or b 4 0 ∷ []) (head_made (get_or b 0 0) (bytes 0) clear) ∙ spelt 0 5 b long

abbrev answer : List Bool → List ℕ → Answer
answer a h = record { acks = a; heads = h }

pub answer_read : AnswerRead
answer_read acks heads la lh =
    let back = in_mask (flag_at acks) in
    two answer (row_of (back 0 (omega arith)) (back 1 (omega arith)) (back 2 (omega arith)) (back 3 (omega arith)) ∙ spelt false 4 acks la) (spelt 0 4 heads lh)

pub answer_made : AnswerMade
answer_made b long small =
    ap (λ (n : ℕ). n ∷ get_or b 1 0 ∷ get_or b 2 0 ∷ get_or b 3 0 ∷ get_or b 4 0 ∷ [])
    (eqb→eq _ _ (everywhere (upto 16 ∷ []) (λ x. eqb (bit (bit_at 0 x) + 2 * bit (bit_at 1 x) + 4 * bit (bit_at 2 x) + 8 * bit (bit_at 3 x)) x) tt (get_or b 0 0) small))
    ∙ spelt 0 5 b long
