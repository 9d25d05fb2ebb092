-- An order asks for one frame: its gap in a byte, its length in two, high byte first, its acknowledgements in bits 3..0 of a byte, whose other bits
-- are not looked at; then for inputs 0..3 the length of a body in a byte, 0 for no cell, and where it is not 0 the header and the body.
use Rattle.std.specs.Prelude.{Bool, cond, List, ℕ, zero, suc, ◌+◌, ◌*◌, eqb, take, drop}
use Rattle.routing.specs.Four.{four, bit_at}
use Rattle.records.specs.Record.{byte_at}
use Rattle.plans.specs.Plan.{Plan, planned}

abbrev pub order_cycles : List ℕ → ℕ
order_cycles order = 256 * byte_at order 1 + byte_at order 2

abbrev pub order_acks : List ℕ → List Bool
order_acks order = four (λ o. bit_at o (byte_at order 3))

-- how many bytes the cell has whose body's length stands in byte `at`: a body has a header before it
abbrev pub cell_size : List ℕ → ℕ → ℕ
cell_size order at = cond (eqb (byte_at order at) 0) 0 (byte_at order at + 1)

-- the byte in which the length of input i's body stands; for 4, the byte behind the order
unfoldable pub place_of : List ℕ → ℕ → ℕ
place_of order zero = 4
place_of order (suc i) = place_of order i + 1 + cell_size order (place_of order i)

-- How many bytes an order has, from its first bytes: bytes that are missing count as 0, so that it has no fewer.
abbrev pub order_size : List ℕ → ℕ
order_size order = place_of order 4

-- input i's cell; of bytes that are missing there are none in it
abbrev pub order_cell : List ℕ → ℕ → List ℕ
order_cell order i = take (cell_size order (place_of order i)) (drop (place_of order i + 1) order)

abbrev pub plan_of : List ℕ → Plan
plan_of order = planned (byte_at order 0) (order_cycles order) (order_acks order) (four (order_cell order))
