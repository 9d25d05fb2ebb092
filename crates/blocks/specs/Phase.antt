-- The block of the phase: whether a routing happens, and the next phase.
use Rattle.std.specs.Prelude.{Bool, false, List, [], ◌∷◌, ℕ, get_or}
use Rattle.routing.specs.Four.{four, bit_at}
use Rattle.gates.specs.Evaluation.{value_of}
use Rattle.blocks.specs.declared.phase.Timing.{Timing}
use Rattle.blocks.specs.Lines.{lines}
use Rattle.blocks.specs.Kinds.{inv, and2, or2, or4}

-- nets 0 waiting, 1 frame start, 2 to 5 the headers' active bits
abbrev pub phase_words : List ℕ
phase_words = or4 2 3 4 5 ∷ and2 0 6 ∷ inv 7 ∷ and2 0 8 ∷ or2 9 1 ∷ []

abbrev pub phase_nets : Bool → Bool → List Bool → ℕ
phase_nets waiting start active = value_of phase_words 6 (lines (waiting ∷ start ∷ four (λ i. get_or active i false)))

-- net 7: a routing happens; net 10: the next phase is waiting
abbrev phase : ℕ → Timing
phase v = record { routing = bit_at 7 v; waiting = bit_at 10 v }

unfoldable pub phased : Bool → Bool → List Bool → Timing
phased waiting start active = phase (phase_nets waiting start active)
