-- When outputs open and shut. Assumes nothing.
use mathlib.Core.Path.{◌∙◌}
use Prim.Native.Nat.{ℕ, suc, ◌<◌}
use Rattle.routing.proofs.Fours.{not_both, yes_unless, no_unless}
use Rattle.runs.specs.Run.{Run, FromAccepted, NoFrameStartAt, Shut, Open}
use Rattle.runs.specs.Routing.{RoutingAt, NoRoutingAt, AskedFor}
use Rattle.runs.specs.Opening.{Opening, Shutting}
use Rattle.runs.proofs.Cycles.{shut_started, shut_kept, shut_unasked, open_asked}
use Rattle.runs.proofs.Askers.{asked_for, is_asked}
use Rattle.runs.proofs.Accepting.{routing_shut, run_accepted}

-- what opened: no frame start, a routing, and the output asked for
module _ (r : Run) (t o : ℕ) (l : o < 4) where
  no_start : Open r (suc t) o → NoFrameStartAt r t
  no_start e = no_unless (λ f. not_both (shut_started r t o l f) e)

  routed : Shut r t o → Open r (suc t) o → RoutingAt r t
  routed s e = yes_unless (λ n. not_both (shut_kept r t o l (no_start e) n ∙ s) e)

  asked_then : RoutingAt r t → Shut r t o → Open r (suc t) o → AskedFor r t o
  asked_then n s e = asked_for r t o (yes_unless (λ a. not_both (shut_unasked r t o l (no_start e) n a ∙ s) e))

  opens_then : RoutingAt r t → AskedFor r t o → NoFrameStartAt r t → Open r (suc t) o
  opens_then n a f = open_asked r t o l f n (is_asked r t o a)

module _ (r : Run) (ok : FromAccepted r) where
  shut_at_routing : (t o : ℕ) → o < 4 → RoutingAt r t → Shut r t o
  shut_at_routing t o l n = routing_shut r t (run_accepted r ok t) n o l

  -- no routing happens while an output is open
  pub open_no_routing : (t o : ℕ) → o < 4 → Open r t o → NoRoutingAt r t
  open_no_routing t o l e = no_unless (λ n. not_both (shut_at_routing t o l n) e)

  pub opening : Opening r
  opening = record {
    opens = λ t o l s. (λ e. let n = routed r t o l s e in (n, asked_then r t o l n s e, no_start r t o l e), λ p. opens_then r t o l p.0 p.1 p.2);
    after_routing = λ t o l n. (λ e. (asked_then r t o l n (shut_at_routing t o l n) e, no_start r t o l e), λ p. opens_then r t o l n p.0 p.1);
  }

  pub shutting : Shutting r
  shutting = record {
    at_routing = shut_at_routing;
    on_frame_start = λ t o l e. (λ s. yes_unless (λ f. not_both s (shut_kept r t o l f (open_no_routing t o l e) ∙ e)), shut_started r t o l);
  }
