-- A capture of any size through both engines from reset.
use Rattle.std.specs.Prelude.{◌≡◌, cond, List, Option, Some, None, ℕ, ◌+◌, ◌%◌, ltb, length, take, replicate, Result, Ok, Err}
use Rattle.states.specs.declared.refusal.Refusal.{Refusal}
use Rattle.states.specs.Refusal.{number_in, place_of, indexed}
use Rattle.fabric.specs.Run.{reset_machine}
use Rattle.capture.specs.Replay.{replay_of, replay_writes}
use Rattle.comparison.specs.declared.both.Both.{Both as Compared}
use Rattle.comparison.specs.Agreement.{disagreement_of}

-- both engines into a buffer each: where they differ
abbrev pub both_differ : List ℕ → List ℕ → List ℕ → Option ℕ
both_differ capture plain gates =
    disagreement_of (replay_of reset_machine capture (length plain)) (replay_of reset_machine capture (length gates)) (replay_writes reset_machine capture plain) (replay_writes reset_machine capture gates)

-- what the cycle rules hand back as number and index, and where the gates differ
pub record Both : Type 0 where
  pub number : ℕ
  pub index : ℕ
  pub difference : Option ℕ

abbrev pub both_of : List ℕ → List ℕ → List ℕ → Both
both_of capture plain gates = record {
  number = (replay_of reset_machine capture (length plain)).number;
  index = (replay_of reset_machine capture (length plain)).index;
  difference = both_differ capture plain gates;
}

-- the code's answer in these words
abbrev pub place_in : Result Unit Refusal → ℕ
place_in (Ok a) = 0
place_in (Err r) = place_of r

abbrev pub told : Compared → Both
told b = record { number = number_in b.outcome; index = place_in b.outcome; difference = b.difference }

-- the index that is printed with a number
abbrev pub index_given : ℕ → ℕ → Option ℕ
index_given number index = cond (indexed number) (Some index) None

-- They tell it: two answers that are told alike are the same.
abbrev pub ToldApart : Type 0
ToldApart = (b c : Compared) → told b ≡ told c → b ≡ c

abbrev pub zeros : ℕ → List ℕ
zeros n = replicate n 0

-- how many bytes stand for a capture of n bytes: all of them; for one that is over the limit of refusal 4 in any case, 12,289 records, and behind
-- them as many bytes as it leaves over after its last whole record
abbrev pub kept_length : ℕ → ℕ
kept_length n = cond (ltb 61449 n) (61445 + n % 5) n

abbrev pub kept : List ℕ → ℕ → List ℕ
kept bytes n = take (kept_length n) bytes
