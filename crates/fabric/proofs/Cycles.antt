-- The next state and a cycle's answer, from their parts. Assumes nothing.
use mathlib.Core.Bool.{Bool, true, false, ◌&&◌}
use mathlib.Core.Path.{◌≡◌, sym, ap, ◌∙◌}
use mathlib.Core.List.{List, [], ◌∷◌}
use Prim.Native.Nat.{ℕ}
use Rattle.routing.specs.declared.port.Input.{Input}
use Rattle.states.specs.declared.state.State.{State}
use Rattle.routing.specs.declared.route.Report.{Report}
use Rattle.fabric.specs.declared.cycle.Inputs.{Inputs}
use Rattle.routing.specs.Four.{four}
use Rattle.states.specs.State.{shut_at, holder_of, first_row, second_row, switch_row}
use Rattle.routing.specs.Port.{input}
use Rattle.routing.specs.Route.{asked, winner, routes}
use Rattle.fabric.specs.Cycle.{Machine, machine, shown, acked, report, holder_after, waiting_after, shut_after, state_after, switch_after, rows_after, step_of}
use Rattle.states.proofs.Equal.{state_of}

-- rule 4, for one output: without a routing, with one and an asker, with one and none
module _ (routing : Bool) (headers : List ℕ) (o : ℕ) (h : Input) where
  pub stays : routing ≡ false → h ≡ holder_after routing headers o h
  stays none = rw none

  module _ {a : Bool} (happens : routing ≡ true) (is : a ≡ asked headers o) where
    pub moves : {w : Input} → a ≡ true → w ≡ input (winner headers o h.0) → w ≡ holder_after routing headers o h
    moves some won = rw (happens, sym is ∙ some) won

    pub keeps : a ≡ false → h ≡ holder_after routing headers o h
    keeps nobody = rw (happens, sym is ∙ nobody)

-- rule 6's flags
module _ (s : State) (headers : List ℕ) (frame routing : Bool) where
  pub flags_made : {a b c d : Bool} {shut : List Bool} → a ≡ (routing && asked headers 0) → b ≡ (routing && asked headers 1) → c ≡ (routing && asked headers 2) → d ≡ (routing && asked headers 3)
      → shut ≡ (shut_after frame a (shut_at s 0) ∷ shut_after frame b (shut_at s 1) ∷ shut_after frame c (shut_at s 2) ∷ shut_after frame d (shut_at s 3) ∷ [])
      → shut ≡ four (λ o. shut_after frame (routing && asked headers o) (shut_at s o))
  flags_made p q r t e = rw (e, p, q, r, t)

-- rules 4, 5 and 6
module _ (s : State) (headers : List ℕ) (frame : Bool) where
  abbrev after : Bool → State
  after routing = record {
    waiting = waiting_after frame routing s.waiting;
    shut = four (λ o. shut_after frame (routing && asked headers o) (shut_at s o));
    holders = four (λ o. holder_after routing headers o (holder_of s o));
  }

  pub state_made : {routing w : Bool} {shut : List Bool} {holders : List Input} → routing ≡ routes s.waiting headers
      → w ≡ (after routing).waiting → shut ≡ (after routing).shut → holders ≡ (after routing).holders
      → record { waiting = w; shut = shut; holders = holders } ≡ state_after s headers frame
  unfolding state_after
  state_made is p q r = state_of p q r ∙ ap after is

-- a cycle's answer
pub step_made : (m : Machine) (i : Inputs) {r : Report} {acks : List Bool} {s : State} {switched : List ℕ}
    → r ≡ report m → acks ≡ four (acked m.state i.acks) → s ≡ state_after m.state (second_row m.rows) i.frame
    → switched ≡ four (switch_after m.state (second_row m.rows))
    → record {
      report = r;
      moved = record { acks = acks; shown = shown m; machine = machine s (i.bytes ∷ first_row m.rows ∷ switched ∷ switch_row m.rows ∷ []) };
    } ≡ step_of m i
unfolding rows_after
step_made m i p q t u = cc
