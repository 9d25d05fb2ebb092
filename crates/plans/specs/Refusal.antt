-- What is refused before a byte is written: 20, 21, 22, 23, 24, the first that applies. Each is looked for in all inputs before the next.
use Rattle.std.specs.Prelude.{Bool, not, ◌&&◌, ◌||◌, List, [], ℕ, ◌+◌, ◌-◌, ◌*◌, eqb, leb, ltb, length, get_or}
use Rattle.routing.specs.Four.{some}
use Rattle.routing.specs.Header.{active}
use Rattle.states.specs.State.{◌when◌otherwise◌}
use Rattle.records.specs.Record.{byte_at}
use Rattle.plans.specs.Plan.{Plan, is_cell, header_in, body_in, th, te}

-- n is not one of low..high
abbrev pub outside : ℕ → ℕ → ℕ → Bool
outside low high n = ltb n low || ltb high n

-- 20: a gap not from 1 to 16, or a frame not from gap+2 to 4,096 cycles long
abbrev pub off_limits : ℕ → ℕ → Bool
off_limits gap cycles = outside 1 16 gap || outside (gap + 2) 4096 cycles

-- 21: a header that is not active
abbrev pub header_inactive : List ℕ → Bool
header_inactive cell = is_cell cell && not (active (header_in cell))

-- 22: a body not of 1 to 64 bytes, or ending in zero
abbrev pub ends_in_zero : List ℕ → Bool
ends_in_zero body = eqb (byte_at body (length body - 1)) 0

abbrev pub body_wrong : List ℕ → Bool
body_wrong cell = is_cell cell && (outside 1 64 (length (body_in cell)) || ends_in_zero (body_in cell))

-- 23: the last body byte, which is sent in cycle th + the body's length, is sent in te-1 or later
abbrev pub too_late : ℕ → ℕ → List ℕ → Bool
too_late first next cell = is_cell cell && leb (next - 1) (first + length (body_in cell))

-- one of the four cells has it
abbrev pub in_some : (List ℕ → Bool) → List (List ℕ) → Bool
in_some wrong cells = some (λ i. wrong (get_or cells i []))

-- 24: the buffer has no room for the frame's records
abbrev pub no_room : ℕ → ℕ → Bool
no_room cycles room = ltb room (5 * cycles)

unfoldable pub write_refusal : Plan → ℕ → ℕ
write_refusal p room =
    20 when off_limits p.gap p.cycles otherwise
    21 when in_some header_inactive p.cells otherwise
    22 when in_some body_wrong p.cells otherwise
    23 when in_some (too_late (th p) (te p)) p.cells otherwise
    24 when no_room p.cycles room otherwise
    0
