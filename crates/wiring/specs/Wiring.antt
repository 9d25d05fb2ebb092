-- The wiring of the gate engine: which bit of the state, which bit of the cycle's inputs and which net of an earlier block is each block input.
-- The same in every cycle.
use Rattle.std.specs.Prelude.{Bool, false, List, [], ◌∷◌, ℕ, get_or}
use Rattle.routing.specs.Four.{four, bit_at}
use Rattle.routing.specs.Port.{input}
use Rattle.routing.specs.Header.{header_of}
use Rattle.states.specs.declared.state.State.{State}
use Rattle.states.specs.State.{shut_at, holder_at}
use Rattle.blocks.specs.declared.decode.Requests.{Requests}
use Rattle.blocks.specs.declared.phase.Timing.{Timing}
use Rattle.ways.specs.declared.turn.Holder.{Holder}
use Rattle.blocks.specs.Lines.{lines}
use Rattle.blocks.specs.Decode.{decoded}
use Rattle.blocks.specs.Filter.{filtered}
use Rattle.blocks.specs.Phase.{phased}
use Rattle.ways.specs.Turn.{number_of, turned}
use Rattle.ways.specs.Shut.{shut_next}
use Rattle.ways.specs.Select.{selected}
use Rattle.ways.specs.Choose.{chosen}

-- bit k of each of four bytes
abbrev pub bits_of : List ℕ → ℕ → List Bool
bits_of row k = four (λ i. bit_at k (header_of row i))

-- decode: bits 0 to 3 of a header
abbrev pub decoding : ℕ → Requests
decoding h = decoded (bit_at 0 h) (bit_at 1 h) (bit_at 2 h) (bit_at 3 h)

-- phase: the phase, the frame start, bit 0 of each header
abbrev pub phasing : Bool → Bool → List ℕ → Timing
phasing waiting start headers = phased waiting start (bits_of headers 0)

-- of four decodings, input i's
abbrev pub requests_of : List Requests → ℕ → Requests
requests_of d i = get_or d i (record { high = []; asks = [] })

-- filter, of output o: what the four decodings say of it
abbrev pub filtering : (ℕ → Requests) → ℕ → List Bool
filtering requests o = filtered (four (λ i. get_or (requests i).high o false)) (four (λ i. get_or (requests i).asks o false))

-- turn: who remains, the holder's two bits, whether a routing happens
abbrev pub turning : List Bool → ℕ → Bool → Holder
turning remain h routing = turned remain (bit_at 0 h) (bit_at 1 h) routing

-- select: the holder's two bits, the shut flag
abbrev pub selecting : ℕ → Bool → List Bool
selecting h shut = selected (bit_at 0 h) (bit_at 1 h) shut

-- choose, for bit k of a switch byte: bit k of each second latch, and which of them the output lets through; the eight choices make the byte
abbrev pub choosing : List ℕ → List Bool → ℕ → Bool
choosing second lets k = chosen (bits_of second k) lets

unfoldable pub switching : List ℕ → List Bool → ℕ
switching second lets =
    let bit = choosing second lets in lines (bit 0 ∷ bit 1 ∷ bit 2 ∷ bit 3 ∷ bit 4 ∷ bit 5 ∷ bit 6 ∷ bit 7 ∷ [])

-- choose, for the acknowledgement to input i: the outputs' acknowledgements, and which outputs let input i through
abbrev pub acking : List Bool → (ℕ → List Bool) → ℕ → Bool
acking acks lets i = chosen (four (λ o. get_or acks o false)) (four (λ o. get_or (lets o) i false))

-- A cycle of the gate engine: every new bit is a gate's net.
-- who remains of output o's askers
abbrev pub remaining : List ℕ → ℕ → List Bool
remaining headers o = filtering (λ i. decoding (header_of headers i)) o

-- whom output o lets through
abbrev pub letting : State → ℕ → List Bool
letting s o = selecting (holder_at s o) (shut_at s o)

-- the next phase, shut flags and holders
unfoldable pub gate_state : State → List ℕ → Bool → State
gate_state s headers start =
    let now = phasing s.waiting start headers in record {
      waiting = now.waiting;
      shut = four (λ o. shut_next (shut_at s o) start now.routing (remaining headers o));
      holders = four (λ o. input (number_of (turning (remaining headers o) (holder_at s o) now.routing)));
    }

-- the acknowledgements and the next switch bytes
abbrev pub gate_acks : State → List Bool → List Bool
gate_acks s acks = four (acking acks (letting s))

abbrev pub gate_switch : State → List ℕ → List ℕ
gate_switch s second = four (λ o. switching second (letting s o))
