-- E: the count of block inputs and the input, 8 bytes each, then gate words of 4 bytes; the number, the index, the nets.
use Rattle.std.specs.Prelude.{Bool, cond, ◌&&◌, List, [], ◌∷◌, ◌++◌, ℕ, zero, suc, ◌+◌, ◌-◌, ◌*◌, ◌/◌, ◌%◌, eqb, leb, length}
use Rattle.text.specs.Ascii.{ascii}
use Rattle.text.specs.Digits.{hexes}
use Rattle.gates.specs.Evaluation.{Evaluated, evaluated}
use Rattle.parts.specs.Parts.{word_at, long_at, number_text, malformed}

-- whole words, and at most 128 of them
abbrev pub fitting : List ℕ → Bool
fitting payload = leb 16 (length payload) && eqb (length payload % 4) 0 && leb (length payload) 528

-- the first n words
unfoldable pub gate_words : List ℕ → ℕ → List ℕ
gate_words payload zero = []
gate_words payload (suc n) = gate_words payload n ++ (word_at payload (16 + 4 * n) ∷ [])

abbrev pub value_bytes : ℕ → List ℕ
value_bytes v =
    (v / 72057594037927936 % 256) ∷ (v / 281474976710656 % 256) ∷ (v / 1099511627776 % 256) ∷ (v / 4294967296 % 256) ∷ (v / 16777216 % 256)
    ∷ (v / 65536 % 256) ∷ (v / 256 % 256) ∷ (v % 256) ∷ []

abbrev pub evaluated_text : Evaluated → List ℕ
evaluated_text e = number_text e.number ++ number_text e.index ++ hexes (value_bytes e.value) ++ ascii "\n"

unfoldable pub evaluate_line : List ℕ → List ℕ
evaluate_line payload =
    cond (fitting payload) (evaluated_text (evaluated (gate_words payload ((length payload - 16) / 4)) (long_at payload 0) (long_at payload 8))) malformed
