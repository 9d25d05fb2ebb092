-- The evaluation of a list of gate words: nets 0.. are the block inputs, and each gate makes the next net.
use Rattle.std.specs.Prelude.{Bool, cond, not, ◌||◌, List, [], ◌∷◌, ℕ, suc, ◌+◌, ◌*◌, ◌/◌, ◌^◌, eqb, ltb, length}
use Rattle.routing.specs.Four.{bit}
use Rattle.states.specs.State.{◌when◌otherwise◌}
use Rattle.words.specs.Word.{gate, wrong, late}

-- what the evaluator answers: the refusal's number or 0, the index of a bad word or 0, and the number whose bit n is net n
pub record Evaluated : Type 0 where
  pub number : ℕ
  pub index : ℕ
  pub value : ℕ

-- what the test of the words finds: 11 or 12 with the word's index, or 0 and 0
pub record Fault : Type 0 where
  pub number : ℕ
  pub index : ℕ

-- the nets after the gates of a list, where v holds the nets below n and the list's first gate makes net n
unfoldable pub nets_after : List ℕ → ℕ → ℕ → ℕ
nets_after [] n v = v
nets_after (w ∷ ws) n v = nets_after ws (suc n) (v + bit (gate w v) * 2 ^ n)

-- 10: block inputs not 1..8, no gates, or inputs plus gates above 64
abbrev pub outside_limits : List ℕ → ℕ → Bool
outside_limits words inputs = (ltb inputs 1 || ltb 8 inputs) || (eqb (length words) 0 || ltb 64 (inputs + length words))

-- 13: the input has a bit at or above the input count
abbrev pub bit_above : ℕ → ℕ → Bool
bit_above inputs input = not (eqb (input / 2 ^ inputs) 0)

unfoldable pub early_refusal : List ℕ → ℕ → ℕ → ℕ
early_refusal words inputs input = 10 when outside_limits words inputs otherwise 13 when bit_above inputs input otherwise 0

-- 11 and 12, word by word, 11 before 12: the first word of a list that is refused, where its first word makes net m and has the index i
abbrev pub fault : ℕ → ℕ → Fault
fault number index = record { number = number; index = index }

unfoldable pub first_fault : List ℕ → ℕ → ℕ → Fault
first_fault [] m i = fault 0 0
first_fault (w ∷ ws) m i = cond (wrong w) (fault 11 i) (cond (late w m) (fault 12 i) (first_fault ws (suc m) (suc i)))

-- a refusal answers the number, the index and no nets
abbrev pub refused : ℕ → ℕ → Evaluated
refused number index = record { number = number; index = index; value = 0 }

abbrev pub done : ℕ → Evaluated
done value = record { number = 0; index = 0; value = value }

-- what the evaluator answers: 10, 13, then the words, then the number whose bit n is net n
abbrev pub tested : Fault → ℕ → Evaluated
tested f value = cond (eqb f.number 0) (done value) (refused f.number f.index)

unfoldable pub evaluated : List ℕ → ℕ → ℕ → Evaluated
evaluated words inputs input =
    cond (eqb (early_refusal words inputs input) 0)
    (tested (first_fault words inputs 0) (nets_after words inputs input))
    (refused (early_refusal words inputs input) 0)

-- the nets of a list whose words are not tested again; 0 where 10 or 13 applies
unfoldable pub value_of : List ℕ → ℕ → ℕ → ℕ
value_of words inputs input = cond (eqb (early_refusal words inputs input) 0) (nets_after words inputs input) 0
