-- The three tables are well-formed: the evaluator's own test computes to no refusal. And so the evaluator that anybody can call answers, for every
-- pattern of block inputs, the nets that the block's function reads. Assumes nothing.
use mathlib.Core.Bool.{Bool, false}
use mathlib.Core.Path.{◌≡◌, refl, sym}
use mathlib.Core.List.{List}
use Prim.Native.Nat.{ℕ}
use native.Mathlib.Nat.{div-eq_of_lt}
use lib.ListN.{length}
use Rattle.words.specs.Word.{right_count, wrong, late}
use Rattle.gates.specs.Evaluation.{outside_limits, fault, first_fault, done, value_of, evaluated}
use Rattle.gates.proofs.Limits.{neither, passed}
use Rattle.gates.proofs.Values.{evaluated_value}
use Rattle.blocks.specs.Lines.{lines}
use Rattle.blocks.proofs.Numbers.{lines_lt}
use Rattle.blocks.specs.Decode.{decode_words}
use Rattle.blocks.specs.Filter.{filter_words}
use Rattle.blocks.specs.Phase.{phase_words}

-- a table and its count of block inputs: within the limits of refusal 10, and with no word that 11 or 12 refuses
abbrev pub Formed : List ℕ → ℕ → Type 0
Formed words inputs = (outside_limits words inputs ≡ false) × (first_fault words inputs 0 ≡ fault 0 0)

pub well_formed : Formed decode_words 4 × Formed filter_words 8 × Formed phase_words 6
unfolding first_fault right_count wrong late
well_formed = ((refl, refl), (refl, refl), (refl, refl))

pub evaluates : (words : List ℕ) (l : List Bool) → Formed words (length l) → evaluated words (length l) (lines l) ≡ done (value_of words (length l) (lines l))
evaluates words l formed =
    let limits = neither _ _ formed.0 in
    evaluated_value words (length l) (lines l) (sym (passed words (length l) (lines l) limits.0 limits.1 (div-eq_of_lt (lines_lt l)))) formed.1
