-- A capture is a sequence of records, 5 bytes each, and a lent buffer takes an answer record for each of them.
use Rattle.std.specs.Prelude.{cond, List, [], ◌∷◌, ℕ, ◌+◌, ◌*◌, ◌/◌, ltb, length}
use Rattle.std.proofs.lemmas.List.Edits.{sets}
use Rattle.fabric.specs.declared.cycle.Inputs.{Inputs}
use Rattle.records.specs.Record.{byte_at, inputs_from}

-- how many whole records bytes hold
abbrev pub records : List ℕ → ℕ
records bytes = length bytes / 5

abbrev pub five_at : List ℕ → ℕ → List ℕ
five_at bytes at = byte_at bytes at ∷ byte_at bytes (at + 1) ∷ byte_at bytes (at + 2) ∷ byte_at bytes (at + 3) ∷ byte_at bytes (at + 4) ∷ []

-- record k; past the last whole record, zeros
unfoldable pub record_at : List ℕ → ℕ → List ℕ
record_at capture k = cond (ltb k (records capture)) (five_at capture (5 * k)) (0 ∷ 0 ∷ 0 ∷ 0 ∷ 0 ∷ [])

-- the inputs of cycle k
abbrev pub inputs_in : List ℕ → ℕ → Inputs
inputs_in capture k = inputs_from (record_at capture k)

-- an answer record in its place in a buffer; where the buffer has no such place, nothing changes
unfoldable pub with_answer : List ℕ → ℕ → List ℕ → List ℕ
with_answer buffer k answer = cond (ltb k (records buffer)) (sets buffer (5 * k) answer) buffer
