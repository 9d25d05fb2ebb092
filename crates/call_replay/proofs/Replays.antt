-- A replay asked for by a payload, by either engine. Assumes nothing.
use mathlib.Core.Path.{◌≡◌, ◌∙◌}
use mathlib.Core.List.{List}
use Prim.Native.Nat.{ℕ, ◌-◌}
use lib.ListN.{length, take, drop}
use Rattle.text.specs.declared.page.Page.{Page}
use Rattle.text.specs.Page.{Put, Wrote, Page as AnyPage}
use Rattle.text.proofs.Lists.{part_all}
use Rattle.text.proofs.Pages.{spelt, other_words}
use Rattle.routing.proofs.Equal.{two}
use Rattle.states.specs.declared.state.State.{State}
use Rattle.fabric.specs.Cycle.{Machine, machine}
use Rattle.capture.specs.Replay.{Replayed, replay_of, replay_writes}
use Rattle.image.specs.Image.{state_from, rows_from}
use Rattle.call_replay.specs.Replay.{replayed_text, replay_text}

-- the capture is lent as the part of the payload behind the state and the length
replayed_is : (payload buffer : List ℕ) {after : List ℕ} {s : State} {rows : List (List ℕ)} {t : Replayed} → s ≡ state_from payload → rows ≡ rows_from payload
    → (t ≡ replay_of (machine s rows) (take (length payload - 29) (drop 29 payload)) (length buffer)) × (after ≡ replay_writes (machine s rows) (take (length payload - 29) (drop 29 payload)) buffer)
    → replayed_text t after ≡ replay_text payload buffer
replayed_is payload buffer es er e =
    let m = two machine es er in
    let c = part_all 29 payload in
    two replayed_text (e.0 ∙ two (λ (x : Machine) (l : List ℕ). replay_of x l (length buffer)) m c) (e.1 ∙ two (λ (x : Machine) (l : List ℕ). replay_writes x l buffer) m c)

pub replayed_by : (payload buffer : List ℕ) {after : List ℕ} {s : State} {rows : List (List ℕ)} {t : Replayed} {before next : Page} → s ≡ state_from payload → rows ≡ rows_from payload
    → (t ≡ replay_of (machine s rows) (take (length payload - 29) (drop 29 payload)) (length buffer)) × (after ≡ replay_writes (machine s rows) (take (length payload - 29) (drop 29 payload)) buffer)
    → Put before (replayed_text t after) next → Put before (replay_text payload buffer) next
replayed_by payload buffer es er e w = spelt w (replayed_is payload buffer es er e)

-- the same of any page, the code's or not
pub replayed_by_any_page : (payload buffer : List ℕ) {after : List ℕ} {s : State} {rows : List (List ℕ)} {t : Replayed} {before next : AnyPage} → s ≡ state_from payload → rows ≡ rows_from payload
    → (t ≡ replay_of (machine s rows) (take (length payload - 29) (drop 29 payload)) (length buffer)) × (after ≡ replay_writes (machine s rows) (take (length payload - 29) (drop 29 payload)) buffer)
    → Wrote before (replayed_text t after) next → Wrote before (replay_text payload buffer) next
replayed_by_any_page payload buffer es er e w = other_words w (replayed_is payload buffer es er e)
