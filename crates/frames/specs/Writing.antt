-- What is written: a capture record for each cycle of the frame, from ts to te-1.
use Rattle.std.specs.Prelude.{cond, List, [], ◌++◌, ℕ, zero, suc, ◌*◌, eqb, length, drop}
use Rattle.records.specs.Record.{record_of}
use Rattle.plans.specs.Plan.{Plan, te, inputs_of}
use Rattle.plans.specs.Refusal.{write_refusal}

-- the records of the first n cycles, one after the other
unfoldable pub records_of : Plan → ℕ → List ℕ
records_of p zero = []
records_of p (suc n) = records_of p n ++ record_of (inputs_of p n)

abbrev pub frame_records : Plan → List ℕ
frame_records p = records_of p (te p)

-- the buffer: a refusal leaves it; otherwise the records stand at its start, and the bytes beyond them stay
abbrev pub frame_writes : Plan → List ℕ → List ℕ
frame_writes p buffer =
    cond (eqb (write_refusal p (length buffer)) 0) (frame_records p ++ drop (5 * te p) buffer) buffer
