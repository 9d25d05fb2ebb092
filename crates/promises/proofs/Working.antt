-- The worked table, computed. Assumes nothing.
use Rattle.routing.specs.Turn.{in_turn}
use Rattle.words.specs.Word.{right_count, wrong}
use Rattle.promises.specs.Worked.{WorkedTable}

pub worked_table : WorkedTable
unfolding in_turn right_count wrong
worked_table = tt
