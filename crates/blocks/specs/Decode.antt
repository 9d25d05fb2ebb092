-- The block that decodes a header: what it asks for.
use Rattle.std.specs.Prelude.{Bool, List, [], ◌∷◌, ℕ}
use Rattle.gates.specs.Evaluation.{value_of}
use Rattle.blocks.specs.declared.decode.Requests.{Requests}
use Rattle.blocks.specs.Lines.{lines, four_nets}
use Rattle.blocks.specs.Kinds.{inv, and3, and4}

-- nets 0 active, 1 priority, 2 and 3 the bits of the header that name an output, bit 3 the higher one
abbrev pub decode_words : List ℕ
decode_words = inv 2 ∷ inv 3 ∷ and4 0 1 5 4 ∷ and4 0 1 5 2 ∷ and4 0 1 3 4 ∷ and4 0 1 3 2 ∷ and3 0 5 4 ∷ and3 0 5 2 ∷ and3 0 3 4 ∷ and3 0 3 2 ∷ []

abbrev pub decode_nets : Bool → Bool → Bool → Bool → ℕ
decode_nets active priority bit2 bit3 = value_of decode_words 4 (lines (active ∷ priority ∷ bit2 ∷ bit3 ∷ []))

-- nets 6 to 9 and 10 to 13: for each output, whether the header asks for it in the high class, and whether it asks for it
abbrev requests : ℕ → Requests
requests v = record { high = four_nets v 6 7 8 9; asks = four_nets v 10 11 12 13 }

unfoldable pub decoded : Bool → Bool → Bool → Bool → Requests
decoded active priority bit2 bit3 = requests (decode_nets active priority bit2 bit3)
