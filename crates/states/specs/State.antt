-- The state at a cycle's start, reset, and the refusals of a state that is handed in.
use Rattle.std.specs.Prelude.{Bool, true, false, cond, not, ◌&&◌, ◌||◌, List, [], ℕ, ◌<◌, eqb, ltb, get_or}
use Rattle.routing.specs.declared.port.Input.{Input}
use Rattle.states.specs.declared.state.State.{State}
pub use Rattle.states.specs.declared.state.Machine.{Machine}
use Rattle.routing.specs.Four.{four, some}
use Rattle.routing.specs.Port.{input, holder_in}

-- output o is shut; output o's holder, as an input and as its number
abbrev pub shut_at : State → ℕ → Bool
shut_at s o = get_or s.shut o false

abbrev pub holder_of : State → ℕ → Input
holder_of s o = holder_in s.holders o

abbrev pub holder_at : State → ℕ → ℕ
holder_at s o = (holder_of s o).0

-- each holder is an input's number
pub record Held (s : State) : Type 0 where
  pub held0 : holder_at s 0 < 4
  pub held1 : holder_at s 1 < 4
  pub held2 : holder_at s 2 < 4
  pub held3 : holder_at s 3 < 4

-- The bytes of all ports are kept as rows of four beside the state: first latches, second latches, switch bytes, head bytes.
abbrev pub first_row : List (List ℕ) → List ℕ
first_row rows = get_or rows 0 []

abbrev pub second_row : List (List ℕ) → List ℕ
second_row rows = get_or rows 1 []

abbrev pub switch_row : List (List ℕ) → List ℕ
switch_row rows = get_or rows 2 []

abbrev pub head_row : List (List ℕ) → List ℕ
head_row rows = get_or rows 3 []

-- the state and the rows beside it
abbrev pub machine : State → List (List ℕ) → Machine
machine s rows = record { state = s; rows = rows }

-- Reset: running, all outputs shut, all holders 0, all bytes 0.
abbrev pub reset_state : State
reset_state = record { waiting = false; shut = four (λ o. true); holders = four (λ o. input 0) }

abbrev pub zero_row : List ℕ
zero_row = four (λ i. 0)

abbrev pub reset_rows : List (List ℕ)
reset_rows = four (λ r. zero_row)

-- Orders of refusals: a number where its condition holds, otherwise what comes later; a call's number, or else what comes later where it is 0.
infixr 5 ◌when◌otherwise◌
abbrev pub ◌when◌otherwise◌ : ℕ → Bool → ℕ → ℕ
n when b otherwise m = cond b n m

infixr 5 ◌or_else◌
abbrev pub ◌or_else◌ : ℕ → ℕ → ℕ
n or_else m = n when not (eqb n 0) otherwise m

-- 14: a holder above 3
abbrev pub holder_above : State → Bool
holder_above s = some (λ o. ltb 3 (holder_at s o))

-- 7: waiting, and some output not shut
abbrev pub open_while_waiting : State → Bool
open_while_waiting s = s.waiting && some (λ o. not (shut_at s o))

-- 8: two outputs not shut have one holder
abbrev pub share_holder : State → ℕ → ℕ → Bool
share_holder s a b = not (shut_at s a) && not (shut_at s b) && eqb (holder_at s a) (holder_at s b)

abbrev pub held_twice : State → Bool
held_twice s =
    share_holder s 0 1 || share_holder s 0 2 || share_holder s 0 3 || share_holder s 1 2 || share_holder s 1 3 || share_holder s 2 3

-- the number with which a state that is handed in is refused; 0 where it is accepted
unfoldable pub state_refusal : State → ℕ
state_refusal s = 14 when holder_above s otherwise 7 when open_while_waiting s otherwise 8 when held_twice s otherwise 0
