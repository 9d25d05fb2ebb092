-- What the place, the piece and the line say of two texts.
use Rattle.std.specs.Prelude.{true, false, ◌||◌, ◌≡◌, List, [], ◌∷◌, ◌++◌, Some, None, ℕ, suc, ◌≤◌, ◌<◌, length, get_or, take, drop}
use Rattle.text.specs.Differ.{first_difference}
use Rattle.numerals.specs.Numeral.{numeral}
use Rattle.numerals.specs.Piece.{holding, begins, ends, part, around, piece_of}
use Rattle.numerals.specs.Line.{head_line, same_line}

-- the byte at place k of a text, or nothing past its end
abbrev pub byte_there : List ℕ → ℕ → List ℕ
byte_there text k = take 1 (drop k text)

-- Nothing differs exactly if the texts are equal.
abbrev pub NothingDiffers : Type 0
NothingDiffers = (station head : List ℕ) → (first_difference station head ≡ None → station ≡ head) × (station ≡ head → first_difference station head ≡ None)

-- The texts agree before the place and differ at it, and no other place is such.
abbrev pub PlaceFound : Type 0
PlaceFound =
    (station head : List ℕ) (k : ℕ)
    → (first_difference station head ≡ Some k → (take k station ≡ take k head) × (byte_there station k ≡ byte_there head k → ⊥))
    × (take k station ≡ take k head → (byte_there station k ≡ byte_there head k → ⊥) → first_difference station head ≡ Some k)

-- The piece is a part of the text that holds the place, and the place lies in it.
abbrev pub PieceHolds : Type 0
PieceHolds =
    (station head : List ℕ) (k : ℕ) (text : List ℕ) → first_difference station head ≡ Some k → text ≡ holding station head k
    → (piece_of station head ≡ part text (begins text k) (ends text k)) × (begins text k ≤ k) × (k < ends text k) × (ends text k ≤ length text)

-- Every byte of a longer piece is a numeral byte.
abbrev pub OnlyNumerals : Type 0
OnlyNumerals = (text : List ℕ) (k j : ℕ) → suc (begins text k) < ends text k → begins text k ≤ j → j < ends text k → numeral (get_or text j 0) ≡ true

-- It cannot be made longer on either side: numeral bytes without a gap that hold the place lie within it.
abbrev pub CannotGrow : Type 0
CannotGrow =
    (text : List ℕ) (k from to : ℕ) → from ≤ k → k < to → to ≤ length text → ((j : ℕ) → from ≤ j → j < to → numeral (get_or text j 0) ≡ true)
    → (begins text k ≤ from) × (to ≤ ends text k)

-- At a byte that is no numeral byte the piece is that byte.
abbrev pub ByteAlone : Type 0
ByteAlone = (text : List ℕ) (k : ℕ) → k < length text → numeral (get_or text k 0) ≡ false → around text k ≡ (get_or text k 0 ∷ [])

-- A line says `same` exactly if the texts are equal, whatever stands behind it.
abbrev pub SaysSame : Type 0
SaysSame =
    (h : ℕ) (station head rest other : List ℕ)
    → (head_line h station head ++ rest ≡ same_line h ++ other → (station ≡ head) × (rest ≡ other)) × (station ≡ head → head_line h station head ≡ same_line h)

-- If a numeral byte of one text differs from the byte that the other has at its place, or the other has none there, the head's line does not say `same`.
abbrev pub NumeralsSeen : Type 0
NumeralsSeen =
    (h : ℕ) (station head : List ℕ) (k : ℕ) → numeral (get_or station k 0) || numeral (get_or head k 0) ≡ true → (get_or station k 0 ≡ get_or head k 0 → ⊥)
    → head_line h station head ≡ same_line h → ⊥
