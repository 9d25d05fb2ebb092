-- A quoted text in bytes.
use Rattle.std.specs.Prelude.{ℕ, List, [], ◌∷◌}
use Prim.Native.Char.{code}
use Prim.Native.String.{String, [] as end, ◌∷◌ as ◌before◌}

abbrev pub ascii : String → List ℕ
ascii end = []
ascii (c before text) = code c ∷ ascii text
