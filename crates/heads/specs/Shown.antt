-- A head's bytes: those that it shows in the answers from cycle 0 on, zeros dropped.
use Rattle.std.specs.Prelude.{cond, List, [], ◌∷◌, ℕ, zero, suc, ◌+◌, eqb}
use Rattle.records.specs.Record.{byte_at}
use Rattle.places.specs.Capture.{records, record_at}

-- what head h shows in cycle k: the acknowledgements stand before the heads
abbrev pub shown_at : List ℕ → ℕ → ℕ → ℕ
shown_at answers h k = byte_at (record_at answers k) (h + 1)

-- the same in n cycles from cycle k on
unfoldable pub shown_from : List ℕ → ℕ → ℕ → ℕ → List ℕ
shown_from answers h k zero = []
shown_from answers h k (suc n) = shown_at answers h k ∷ shown_from answers h (suc k) n

unfoldable pub without_zeros : List ℕ → List ℕ
without_zeros [] = []
without_zeros (b ∷ bytes) = cond (eqb b 0) (without_zeros bytes) (b ∷ without_zeros bytes)

abbrev pub head_text : List ℕ → ℕ → List ℕ
head_text answers h = without_zeros (shown_from answers h 0 (records answers))
