-- The texts and the capture of an input, and that one which does not end inside its texts has nothing else.
use Rattle.std.specs.Prelude.{false, ◌≡◌, List, [], ◌∷◌, ◌++◌, ℕ, length}
use Rattle.routing.specs.Four.{four}
use Rattle.due.specs.Texts.{text_due, capture_in, ends_inside}

-- texts and a capture, as an input has them
unfoldable pub input_of : List (List ℕ) → List ℕ → List ℕ
input_of [] capture = capture
input_of (text ∷ texts) capture = (length text ∷ text) ++ input_of texts capture

-- Four texts and a capture are found again, and not refused with 25.
abbrev pub TextsFound : Type 0
TextsFound =
    (input t0 t1 t2 t3 capture : List ℕ) → input ≡ input_of (t0 ∷ t1 ∷ t2 ∷ t3 ∷ []) capture
    → (ends_inside input ≡ false) × (four (text_due input) ≡ (t0 ∷ t1 ∷ t2 ∷ t3 ∷ [])) × (capture_in input ≡ capture)

-- An input that is not refused with 25 is four texts and a capture.
abbrev pub NothingElse : Type 0
NothingElse = (input : List ℕ) → ends_inside input ≡ false → input ≡ input_of (four (text_due input)) (capture_in input)
