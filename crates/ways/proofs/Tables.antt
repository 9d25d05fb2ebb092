-- The four tables are well-formed: the evaluator's own test computes to no refusal. Assumes nothing.
use mathlib.Core.Path.{refl}
use Rattle.words.specs.Word.{right_count, wrong, late}
use Rattle.gates.specs.Evaluation.{first_fault}
use Rattle.blocks.proofs.Tables.{Formed}
use Rattle.ways.specs.Turn.{turn_words}
use Rattle.ways.specs.Shut.{shut_words}
use Rattle.ways.specs.Select.{select_words}
use Rattle.ways.specs.Choose.{choose_words}

pub ways_well_formed : Formed turn_words 7 × Formed shut_words 7 × Formed select_words 3 × Formed choose_words 8
unfolding first_fault right_count wrong late
ways_well_formed = ((refl, refl), (refl, refl), (refl, refl), (refl, refl))
