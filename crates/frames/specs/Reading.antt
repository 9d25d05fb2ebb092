-- What is read back from the records of a frame, whoever wrote them: for each input its cell, or none. What byte 0 of a record says is not
-- looked at, and bytes behind the last whole record do not count.
use Rattle.std.specs.Prelude.{cond, List, [], ◌∷◌, ◌++◌, map, ℕ, ◌-◌, leb, length, drop}
use Rattle.routing.specs.Header.{active, some_active}
use Rattle.records.specs.Record.{byte_at}
use Rattle.places.specs.Capture.{records, inputs_in}
use Rattle.frames.specs.Listed.{listed, trimmed}

-- what input i sends in record k, and in n records from record k on; an input that is not one of 0..3 sends zeros
abbrev pub sent_by : List ℕ → ℕ → ℕ → ℕ
sent_by frame i k = byte_at (inputs_in frame k).bytes i

abbrev pub sent_from : List ℕ → ℕ → ℕ → ℕ → List ℕ
sent_from frame i k n = listed (sent_by frame i) k n

-- the bytes that the four inputs send, a row for each record from record k on
abbrev pub rows_sent : List ℕ → ℕ → List (List ℕ)
rows_sent frame k = listed (λ j. (inputs_in frame j).bytes) k (records frame - k)

-- the rows from th on, which is the first with an active bit on some input; none where there is none
unfoldable pub from_header : List (List ℕ) → List (List ℕ)
from_header [] = []
from_header (row ∷ rows) = cond (some_active row) (row ∷ rows) (from_header rows)

-- what input i sends in them
abbrev pub column_of : ℕ → List (List ℕ) → List ℕ
column_of i rows = map (λ row. byte_at row i) rows

-- an active header, and the body behind it up to its last byte that is not zero; with another byte at th there is no cell
abbrev pub as_cell : List ℕ → List ℕ
as_cell [] = []
as_cell (header ∷ body) = cond (active header) (header ∷ trimmed body) []

abbrev pub cell_in : List ℕ → ℕ → List ℕ
cell_in frame i = as_cell (column_of i (from_header (rows_sent frame 0)))

-- the buffer: the cell at its start and the bytes beyond it stay; a buffer without room for all of the cell stays
abbrev pub cell_writes : List ℕ → ℕ → List ℕ → List ℕ
cell_writes frame i buffer = cond (leb (length (cell_in frame i)) (length buffer)) (cell_in frame i ++ drop (length (cell_in frame i)) buffer) buffer
