-- The bytes of a numeral: digits (0x30..0x39), the point (0x2E) and the comma (0x2C); and the run of them around a place.
use Rattle.std.specs.Prelude.{Bool, cond, ◌&&◌, ◌||◌, List, [], ◌∷◌, ℕ, zero, suc, ◌+◌, eqb, leb, get_or, drop}
use Prim.Native.Char.{code}

unfoldable pub numeral : ℕ → Bool
numeral b = leb (code "0") b && leb b (code "9") || eqb b (code ".") || eqb b (code ",")

-- where the numeral bytes begin that stand before place k without a gap
unfoldable pub run_begins : List ℕ → ℕ → ℕ
run_begins text zero = zero
run_begins text (suc k) = cond (numeral (get_or text k 0)) (run_begins text k) (suc k)

-- with how many numeral bytes a text begins
unfoldable pub leading : List ℕ → ℕ
leading [] = 0
leading (b ∷ text) = cond (numeral b) (suc (leading text)) 0

-- the place behind the numeral bytes that stand from place k on without a gap
abbrev pub run_ends : List ℕ → ℕ → ℕ
run_ends text k = k + leading (drop k text)
