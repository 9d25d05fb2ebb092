-- Rules 3 to 6 by gates: decoding, filter, phase, turn and shut flag, one after the other, make the next state of the rules. Assumes nothing.
use mathlib.Core.Bool.{Bool, true, false, cond, ◌&&◌}
use mathlib.Core.Path.{◌≡◌, refl, ap, ◌∙◌}
use mathlib.Core.List.{List, [], ◌∷◌}
use Prim.Native.Nat.{ℕ, ◌<◌}
use lib.Dec.{eqb, lit<}
use lib.ListN.{get_or}
use Rattle.routing.specs.declared.port.Input.{Input}
use Rattle.routing.specs.Four.{four, some, bit_at}
use Rattle.routing.specs.Port.{input}
use Rattle.routing.specs.Header.{header_of, asks, asks_high, asker, high_asker, some_active}
use Rattle.routing.specs.Turn.{in_turn}
use Rattle.routing.specs.Route.{asked, remains, winner, routes}
use Rattle.routing.proofs.Equal.{two, row_of}
use Rattle.routing.proofs.Fours.{at_four}
use Rattle.routing.proofs.Winners.{some_remain}
use Rattle.states.specs.declared.state.State.{State}
use Rattle.states.specs.State.{shut_at, holder_of, holder_at, Held}
use Rattle.fabric.specs.Cycle.{holder_after, waiting_after, shut_after, state_after}
use Rattle.states.proofs.Equal.{state_of}
use Rattle.blocks.specs.declared.decode.Requests.{Requests}
use Rattle.blocks.specs.declared.phase.Timing.{Timing}
use Rattle.blocks.specs.Lines.{lines}
use Rattle.blocks.specs.Filter.{filtered}
use Rattle.ways.specs.Turn.{number_of}
use Rattle.ways.specs.Shut.{shut_next}
use Rattle.blocks.proofs.Truths.{decode_high, decode_asks, filter_law, phase_routing, phase_waiting}
use Rattle.ways.proofs.Truths.{turn_law, shut_law}
use Rattle.wiring.specs.Wiring.{decoding, phasing, requests_of, filtering, turning, remaining, gate_state}
use Rattle.engine.proofs.Headers.{active_bit, output_bits, holder_bits}

-- the nets of a decoding say what the header asks for
module _ (h o : ℕ) (below : o < 4) where
  asks_net : get_or (decoding h).asks o false ≡ asks o h
  asks_net =
      ap (λ (l : List Bool). get_or l o false) (decode_asks (bit_at 0 h) (bit_at 1 h) (bit_at 2 h) (bit_at 3 h))
      ∙ at_four (λ o. bit_at 0 h && eqb (lines (bit_at 2 h ∷ bit_at 3 h ∷ [])) o) false o below
      ∙ rw (active_bit h, output_bits h)

  high_net : get_or (decoding h).high o false ≡ asks_high o h
  high_net =
      ap (λ (l : List Bool). get_or l o false) (decode_high (bit_at 0 h) (bit_at 1 h) (bit_at 2 h) (bit_at 3 h))
      ∙ at_four (λ o. (bit_at 0 h && eqb (lines (bit_at 2 h ∷ bit_at 3 h ∷ [])) o) && bit_at 1 h) false o below
      ∙ rw (active_bit h, output_bits h)

module _ (headers : List ℕ) where
  -- rule 4's askers who are not set aside
  who_remains : (o : ℕ) → o < 4 → remaining headers o ≡ four (remains headers o)
  who_remains o below =
      two filtered
      (row_of (high_net (header_of headers 0) o below) (high_net (header_of headers 1) o below) (high_net (header_of headers 2) o below) (high_net (header_of headers 3) o below))
      (row_of (asks_net (header_of headers 0) o below) (asks_net (header_of headers 1) o below) (asks_net (header_of headers 2) o below) (asks_net (header_of headers 3) o below))
      ∙ filter_law (high_asker headers o) (asker headers o)

  -- rules 3 and 5
  actives : some (λ i. bit_at 0 (header_of headers i)) ≡ some_active headers
  actives = rw (active_bit (header_of headers 0), active_bit (header_of headers 1), active_bit (header_of headers 2), active_bit (header_of headers 3))

  module _ (waiting start : Bool) where
    pub routing_net : (phasing waiting start headers).routing ≡ routes waiting headers
    routing_net = phase_routing waiting start (λ i. bit_at 0 (header_of headers i)) ∙ ap (λ b. waiting && b) actives

    pub waiting_net : (phasing waiting start headers).waiting ≡ waiting_after start (routes waiting headers) waiting
    waiting_net =
        phase_waiting waiting start (λ i. bit_at 0 (header_of headers i)) ∙ ap (λ b. waiting_after start (waiting && b) waiting) actives

  module _ (routing : Bool) (o : ℕ) (below : o < 4) where
    -- rule 6
    pub shut_net : (shut start : Bool) → shut_next shut start routing (remaining headers o) ≡ shut_after start (routing && asked headers o) shut
    shut_net shut start =
        ap (shut_next shut start routing) (who_remains o below)
        ∙ shut_law shut start routing (remains headers o)
        ∙ ap (λ b. shut_after start (routing && b) shut) (some_remain headers o)

    -- rule 4
    pub holder_net : (h : Input) → h.0 < 4 → input (number_of (turning (remaining headers o) h.0 routing)) ≡ holder_after routing headers o h
    holder_net h held =
        ap (λ (l : List Bool). input (number_of (turning l h.0 routing))) (who_remains o below)
        ∙ ap input (turn_law (remains headers o) (bit_at 0 h.0) (bit_at 1 h.0) routing)
        ∙ ap (λ (n : ℕ). input (cond (routing && some (remains headers o)) (in_turn (remains headers o) n) n)) (holder_bits h.0 held)
        ∙ ap (λ b. input (cond (routing && b) (winner headers o h.0) h.0)) (some_remain headers o)
        ∙ either (routing && asked headers o)
      where
        either : (b : Bool) → input (cond b (winner headers o h.0) h.0) ≡ cond b (input (winner headers o h.0)) h
        either true = refl
        either false = refl

-- the whole next state
pub next_state : (s : State) (headers : List ℕ) (start : Bool) → Held s → gate_state s headers start ≡ state_after s headers start
unfolding gate_state state_after
next_state s headers start held =
    let r = routing_net headers s.waiting start in
    state_of (waiting_net headers s.waiting start)
    (ap (λ b. four (λ o. shut_next (shut_at s o) start b (remaining headers o))) r
    ∙ row_of (shut 0 (lit< tt)) (shut 1 (lit< tt)) (shut 2 (lit< tt)) (shut 3 (lit< tt)))
    (ap (λ b. four (λ o. input (number_of (turning (remaining headers o) (holder_at s o) b)))) r
    ∙ row_of (holder 0 (lit< tt) held.held0) (holder 1 (lit< tt) held.held1) (holder 2 (lit< tt) held.held2) (holder 3 (lit< tt) held.held3))
  where
    shut : (o : ℕ) → o < 4 → shut_next (shut_at s o) start (routes s.waiting headers) (remaining headers o) ≡ shut_after start (routes s.waiting headers && asked headers o) (shut_at s o)
    shut o below = shut_net headers (routes s.waiting headers) o below (shut_at s o) start

    holder : (o : ℕ) → o < 4 → holder_at s o < 4 → input (number_of (turning (remaining headers o) (holder_at s o) (routes s.waiting headers))) ≡ holder_after (routes s.waiting headers) headers o (holder_of s o)
    holder o below l = holder_net headers (routes s.waiting headers) o below (holder_of s o) l

-- the next state, as the engine puts it together
module _ (s : State) (headers : List ℕ) (start : Bool) where
  pub state_wired : {d : List Requests} {now : Timing} {remain : List (List Bool)} {shut : List Bool} {holders : List Input}
      → d ≡ four (λ i. decoding (header_of headers i)) → now ≡ phasing s.waiting start headers → remain ≡ four (filtering (requests_of d))
      → shut ≡ four (λ o. shut_next (shut_at s o) start now.routing (get_or remain o []))
      → holders ≡ four (λ o. input (number_of (turning (get_or remain o []) (holder_at s o) now.routing)))
      → record { waiting = now.waiting; shut = shut; holders = holders } ≡ gate_state s headers start
  unfolding gate_state
  state_wired ed en er es eh = rw (es, eh, er, en, ed)
