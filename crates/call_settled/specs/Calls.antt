-- O: a state, in 25 bytes; a digit for each of heads 0..3, 1 if something is on its way there and 0 if nothing is.
use Rattle.std.specs.Prelude.{Bool, false, cond, List, ◌++◌, ℕ, eqb, length, get_or}
use Prim.Native.Char.{code}
use Rattle.text.specs.Ascii.{ascii}
use Rattle.routing.specs.Four.{four}
use Rattle.settled.specs.Ahead.{on_its_way}
use Rattle.image.specs.Image.{machine_from}
use Rattle.parts.specs.Parts.{malformed}

abbrev pub digit_for : Bool → ℕ
digit_for on = cond on (code "1") (code "0")

abbrev pub heads_text : List Bool → List ℕ
heads_text heads = four (λ h. digit_for (get_or heads h false)) ++ ascii "\n"

unfoldable pub ahead_line : List ℕ → List ℕ
ahead_line payload = cond (eqb (length payload) 25) (heads_text (four (on_its_way (machine_from payload)))) malformed
