-- Well-formed frames, and what a run shows of them, whatever happened before.
use Rattle.std.specs.Prelude.{true, false, ◌≡◌, ◌↔◌, ℕ, zero, suc, ◌+◌, ◌-◌, ◌<◌, ◌≤◌}
use Rattle.routing.specs.Header.{header_of}
use Rattle.runs.specs.Run.{Run, FromReset, sent, SomeActiveAt, NoneActiveAt, NoneActiveBeforeRun, FrameStartAt, NoFrameStartAt, AcknowledgedBy, head, ack, holder, headers_at}
use Rattle.runs.specs.Routing.{RoutingAt, NoRoutingAt, AskedFor, Wins}

-- A frame start at ts, the next one at te.
pub record Frame (r : Run) (ts te : ℕ) : Type 0 where
  pub starts : FrameStartAt r ts
  pub later : ts < te
  pub none_between : (t : ℕ) → ts < t → t < te → NoFrameStartAt r t
  pub next : FrameStartAt r te

-- no active bit in the cycle before t
abbrev pub NoneActiveBefore : Run → ℕ → Type 0
NoneActiveBefore r zero = NoneActiveBeforeRun r
NoneActiveBefore r (suc t) = NoneActiveAt r t

-- From reset the cycle before the run counts as zeros.
abbrev pub ZerosBeforeReset : Type 0
ZerosBeforeReset = (r : Run) → FromReset r → NoneActiveBefore r 0

-- no active bit on any input from cycle ts-1 to cycle e-1
pub record NoneActiveFrom (r : Run) (ts e : ℕ) : Type 0 where
  pub before : NoneActiveBefore r ts
  pub until : (t : ℕ) → ts ≤ t → t < e → NoneActiveAt r t

-- Active: no active bit on any input from ts-1 to th-1; at least one at th; th at least ts+1; te at least th+3; none at te-1.
pub record ActiveFrame (r : Run) (ts th te : ℕ) : Type 0 where
  pub frame : Frame r ts te
  pub none_before : NoneActiveFrom r ts th
  pub header : SomeActiveAt r th
  pub late : ts + 1 ≤ th
  pub long : th + 3 ≤ te
  pub none_at_end : NoneActiveAt r (te - 1)

-- Inactive: none from ts-1 to te-1.
pub record InactiveFrame (r : Run) (ts te : ℕ) : Type 0 where
  pub frame : Frame r ts te
  pub none_active : NoneActiveFrom r ts te

-- The routing of an active frame is in cycle th+2, its headers are the bytes of th, and there is no other in ts+1..te+1.
pub record FrameRouting (r : Run) (ts th te : ℕ) : Type 0 where
  pub happens : RoutingAt r (th + 2)
  pub headers : (i : ℕ) → header_of (headers_at r (th + 2)) i ≡ sent r th i
  pub no_other : (t : ℕ) → ts + 1 ≤ t → t ≤ te + 1 → RoutingAt r t → t ≡ th + 2

-- The heads: zero in ts+3..th+4; in th+5..te+2 an output that was asked for shows its winner's byte of four cycles earlier, another shows
-- zero; zero again at te+3.
pub record FrameHeads (r : Run) (ts th te : ℕ) : Type 0 where
  pub zero_first : (t o : ℕ) → o < 4 → ts + 3 ≤ t → t ≤ th + 4 → head r t o ≡ 0
  pub winner's : (t o w : ℕ) → o < 4 → th + 5 ≤ t → t ≤ te + 2 → Wins r (th + 2) w o → head r t o ≡ sent r (t - 4) w
  pub unasked : (t o : ℕ) → o < 4 → th + 5 ≤ t → t ≤ te + 2 → (AskedFor r (th + 2) o → ⊥) → head r t o ≡ 0
  pub zero_last : (o : ℕ) → o < 4 → head r (te + 3) o ≡ 0

-- an output that input i won at th+2, and that is acknowledged in cycle t
pub record FromWon (r : Run) (th t i : ℕ) : Type 0 where
  pub output : ℕ
  pub is_output : output < 4
  pub won : Wins r (th + 2) i output
  pub acknowledged : AcknowledgedBy r t output

-- The acknowledgements: zero in ts+1..th+2; in th+3..te an input is acknowledged exactly if an output that it won is.
pub record FrameAcks (r : Run) (ts th te : ℕ) : Type 0 where
  pub zero_first : (t i : ℕ) → ts + 1 ≤ t → t ≤ th + 2 → ack r t i ≡ false
  pub from_won : (t i : ℕ) → th + 3 ≤ t → t ≤ te → (ack r t i ≡ true) ↔ FromWon r th t i

-- The holders: unchanged in ts+1..th+2; in th+3..te+1 the winner, or unchanged where the output was not asked for.
pub record FrameHolders (r : Run) (ts th te : ℕ) : Type 0 where
  pub unchanged : (t o : ℕ) → o < 4 → ts + 1 ≤ t → t ≤ th + 2 → holder r t o ≡ holder r (ts + 1) o
  pub winner : (t o w : ℕ) → o < 4 → th + 3 ≤ t → t ≤ te + 1 → Wins r (th + 2) w o → holder r t o ≡ w
  pub unasked : (t o : ℕ) → o < 4 → th + 3 ≤ t → t ≤ te + 1 → (AskedFor r (th + 2) o → ⊥) → holder r t o ≡ holder r (ts + 1) o

-- An active frame, of any run and at any place in it.
pub record ActiveShows (r : Run) (ts th te : ℕ) : Type 0 where
  pub routing : FrameRouting r ts th te
  pub heads : FrameHeads r ts th te
  pub acks : FrameAcks r ts th te
  pub holders : FrameHolders r ts th te

abbrev pub ActiveFrames : Type 0
ActiveFrames = (r : Run) (ts th te : ℕ) → ActiveFrame r ts th te → ActiveShows r ts th te

-- An inactive frame: no routing in ts+1..te+1, heads zero in ts+3..te+3, acknowledgements zero in ts+1..te, holders unchanged in ts+1..te+1.
pub record InactiveShows (r : Run) (ts te : ℕ) : Type 0 where
  pub no_routing : (t : ℕ) → ts + 1 ≤ t → t ≤ te + 1 → NoRoutingAt r t
  pub heads : (t o : ℕ) → o < 4 → ts + 3 ≤ t → t ≤ te + 3 → head r t o ≡ 0
  pub acks : (t i : ℕ) → ts + 1 ≤ t → t ≤ te → ack r t i ≡ false
  pub holders : (t o : ℕ) → o < 4 → ts + 1 ≤ t → t ≤ te + 1 → holder r t o ≡ holder r (ts + 1) o

abbrev pub InactiveFrames : Type 0
InactiveFrames = (r : Run) (ts te : ℕ) → InactiveFrame r ts te → InactiveShows r ts te
