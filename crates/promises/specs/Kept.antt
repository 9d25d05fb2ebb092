-- Records and saved states give back what was there, both ways.
use Rattle.std.specs.Prelude.{Bool, false, ◌≡◌, List, [], ◌∷◌, ℕ, ◌<◌, ◌≤◌, length, get_or, take}
use Rattle.fabric.specs.declared.cycle.Inputs.{Inputs}
use Rattle.states.specs.State.{first_row, second_row, switch_row, head_row}
use Rattle.fabric.specs.Cycle.{Machine, machine}
use Rattle.saved.specs.Saved.{TakenUp}
use Rattle.records.specs.Record.{Bytes, inputs_from, record_of, spare_set, answer_bytes, answer_from}
use Rattle.saved.specs.Saved.{save_refusal, save_writes, take_up_refusal, take_up_of}

-- Four flags, four holders and four rows of four, as every state and every array of rows of the code has them: the logic's lists
-- alone could be of any length.
pub record FourOfEach (m : Machine) : Type 0 where
  pub flags : length m.state.shut ≡ 4
  pub holders : length m.state.holders ≡ 4
  pub first : length (first_row m.rows) ≡ 4
  pub second : length (second_row m.rows) ≡ 4
  pub switched : length (switch_row m.rows) ≡ 4
  pub heads : length (head_row m.rows) ≡ 4

-- what taking up a machine's bytes should answer, and the machine that an answer of taking up holds
abbrev pub taken_up_as : Machine → TakenUp
taken_up_as m = record {
  number = 0;
  machine = machine m.state (first_row m.rows ∷ second_row m.rows ∷ switch_row m.rows ∷ head_row m.rows ∷ []);
}

abbrev pub machine_in : TakenUp → Machine
machine_in t = t.machine

-- What saving wrote is taken up as the same state and the same rows, for every state that saving does not refuse.
abbrev pub SavedTakenUp : Type 0
SavedTakenUp =
    (m : Machine) (buffer : List ℕ) → FourOfEach m → save_refusal m.state (length buffer) ≡ 0
    → take_up_of (take 18 (save_writes m buffer)) ≡ taken_up_as m

-- What was taken up is saved as the same 18 bytes, for all bytes that taking up does not refuse.
abbrev pub TakenUpSaved : Type 0
TakenUpSaved =
    (saved buffer : List ℕ) → Bytes saved → take_up_refusal saved ≡ 0 → 18 ≤ length buffer
    → take 18 (save_writes (machine_in (take_up_of saved)) buffer) ≡ saved

-- A capture record brings back the inputs that it was made of, and inputs make the record that they came from, if that record has no
-- bit 6..4 set.
abbrev pub RecordRead : Type 0
RecordRead = (i : Inputs) → length i.bytes ≡ 4 → length i.acks ≡ 4 → inputs_from (record_of i) ≡ i

abbrev pub RecordMade : Type 0
RecordMade = (b : List ℕ) → Bytes b → length b ≡ 5 → spare_set (get_or b 0 0) ≡ false → record_of (inputs_from b) ≡ b

-- An answer record brings back its acknowledgements and heads, and those make the record that they came from, if that record has no
-- bit 7..4 set.
abbrev pub AnswerRead : Type 0
AnswerRead =
    (acks : List Bool) (heads : List ℕ) → length acks ≡ 4 → length heads ≡ 4
    → answer_from (answer_bytes acks heads) ≡ record { acks = acks; heads = heads }

abbrev pub AnswerMade : Type 0
AnswerMade = (b : List ℕ) → length b ≡ 5 → get_or b 0 0 < 16 → answer_bytes (answer_from b).acks (answer_from b).heads ≡ b
