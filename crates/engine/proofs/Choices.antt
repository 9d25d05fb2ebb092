-- Rules 2 and 7 by gates: an acknowledgement and a data bit are choices of one block, and a data bit is right at every bit place. Assumes nothing.
use mathlib.Core.Bool.{Bool, true, false, cond, not, ◌&&◌, beq}
use mathlib.Core.Path.{◌≡◌, refl, ap, ◌∙◌}
use mathlib.Core.List.{List, [], ◌∷◌}
use Prim.Native.Nat.{ℕ, ◌^◌, ◌<◌}
use native.Mathlib.Nat.{zero-div}
use lib.Dec.{eqb, lit<}
use lib.ListN.{get_or}
use Rattle.routing.specs.Four.{four, some, bit_at}
use Rattle.routing.specs.Header.{header_of}
use Rattle.routing.proofs.Equal.{row_of}
use Rattle.routing.proofs.Fours.{row, at_four}
use Rattle.routing.proofs.Tests.{flag, upto, flags, everywhere, beq→eq}
use Rattle.states.specs.declared.state.State.{State}
use Rattle.states.specs.State.{shut_at, holder_at, Held}
use Rattle.fabric.specs.Cycle.{acked, switch_byte, switch_after}
use Rattle.ways.specs.Choose.{chosen}
use Rattle.ways.proofs.Truths.{select_law, choose_law}
use Rattle.wiring.specs.Wiring.{bits_of, selecting, choosing, switching, acking, letting, gate_acks, gate_switch}
use Rattle.wiring.proofs.Equal.{lines_of}
use Rattle.engine.proofs.Headers.{holder_bits, byte_bits}

-- an output lets its holder through where it is open
module _ (h : ℕ) (shut : Bool) (held : h < 4) where
  lets : selecting h shut ≡ four (λ i. not shut && eqb h i)
  lets = select_law (bit_at 0 h) (bit_at 1 h) shut ∙ ap (λ (n : ℕ). four (λ i. not shut && eqb n i)) (holder_bits h held)

  lets_net : (i : ℕ) → i < 4 → get_or (selecting h shut) i false ≡ (not shut && eqb h i)
  lets_net i below = ap (λ (l : List Bool). get_or l i false) lets ∙ at_four (λ i. not shut && eqb h i) false i below

-- of four answers, the one that is let through
let_through : (shut : Bool) (h : ℕ) → h < 4 → (f : ℕ → Bool) → some (λ i. (not shut && eqb h i) && f i) ≡ (not shut && f h)
let_through shut h held f =
    beq→eq _ _
    (everywhere (flag ∷ upto 4 ∷ flags [])
    (λ t n a b c d. beq (some (λ i. (not t && eqb n i) && row a b c d i)) (not t && row a b c d n))
    tt shut h held (f 0) (f 1) (f 2) (f 3))
    ∙ ap (λ b. not shut && b) (at_four f false h held)

-- rule 7: at every bit place the choice is that bit of the next switch byte
pub choice : (second : List ℕ) (shut : Bool) (h : ℕ) → h < 4 → (k : ℕ) → choosing second (selecting h shut) k ≡ bit_at k (switch_byte shut h second)
choice second shut h held k =
    ap (chosen (bits_of second k)) (lets h shut held)
    ∙ choose_law (λ i. bit_at k (header_of second i)) (λ i. not shut && eqb h i)
    ∙ let_through shut h held (λ i. bit_at k (header_of second i))
    ∙ or_zero shut
  where
    or_zero : (b : Bool) → (not b && bit_at k (header_of second h)) ≡ bit_at k (cond b 0 (get_or second h 0))
    or_zero true = rw (zero-div (2 ^ k))
    or_zero false = refl

-- and the eight choices make the byte
pub switch_byte_lem : (second : List ℕ) (shut : Bool) (h : ℕ) → h < 4 → get_or second h 0 < 256 → switching second (selecting h shut) ≡ switch_byte shut h second
unfolding switching
switch_byte_lem second shut h held small =
    let c = choice second shut h held in
    lines_of (c 0) (c 1) (c 2) (c 3) (c 4) (c 5) (c 6) (c 7) ∙ byte_bits (switch_byte shut h second) (or_zero shut)
  where
    or_zero : (b : Bool) → cond b 0 (get_or second h 0) < 256
    or_zero true = lit< tt
    or_zero false = small

module _ (s : State) (held : Held s) where
  -- rule 2
  pub ack_net : (acks : List Bool) (i : ℕ) → i < 4 → acking acks (letting s) i ≡ acked s acks i
  ack_net acks i below =
      ap (chosen (four (λ o. get_or acks o false)))
      (row_of (lets_net (holder_at s 0) (shut_at s 0) held.held0 i below) (lets_net (holder_at s 1) (shut_at s 1) held.held1 i below)
      (lets_net (holder_at s 2) (shut_at s 2) held.held2 i below) (lets_net (holder_at s 3) (shut_at s 3) held.held3 i below))
      ∙ choose_law (λ o. get_or acks o false) (λ o. not (shut_at s o) && eqb (holder_at s o) i)

  pub acks_made : (acks : List Bool) → gate_acks s acks ≡ four (acked s acks)
  acks_made acks = row_of (ack_net acks 0 (lit< tt)) (ack_net acks 1 (lit< tt)) (ack_net acks 2 (lit< tt)) (ack_net acks 3 (lit< tt))

  pub switch_made : (second : List ℕ) → ((h : ℕ) → h < 4 → get_or second h 0 < 256) → gate_switch s second ≡ four (switch_after s second)
  switch_made second small =
      row_of (at 0 held.held0) (at 1 held.held1) (at 2 held.held2) (at 3 held.held3)
    where
      at : (o : ℕ) → holder_at s o < 4 → switching second (letting s o) ≡ switch_after s second o
      at o l = switch_byte_lem second (shut_at s o) (holder_at s o) l (small (holder_at s o) l)

-- the data part, as the engine puts it together
module _ (s : State) (acks : List Bool) (second : List ℕ) {lets : List (List Bool)} (selects : lets ≡ four (letting s)) where
  pub acks_wired : {to : List Bool} → to ≡ four (acking acks (λ o. get_or lets o [])) → to ≡ gate_acks s acks
  acks_wired e = e ∙ ap (λ (x : List (List Bool)). four (acking acks (λ o. get_or x o []))) selects

  pub switch_wired : {switched : List ℕ} → switched ≡ four (λ o. switching second (get_or lets o [])) → switched ≡ gate_switch s second
  switch_wired e = e ∙ ap (λ (x : List (List Bool)). four (λ o. switching second (get_or x o []))) selects
