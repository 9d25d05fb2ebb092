use mathlib.Core.Bool.{true, ◌&&◌}
use mathlib.Core.Path.{◌∙◌}
use borrow.Author.Rules.{rules}
use borrow.Author.Tests.{tests}
use Rattle.std.proofs.lemmas.Iterator.{YieldsList-from_slice}
use Rattle.std.proofs.lemmas.Iterator.Consumers.{fold_from_yields_List}
use Rattle.words.proofs.Counts.{every_folded}
use Rattle.words.proofs.word.every.Goals as goal

pub returns : goal.returns
returns c =
    let read = c.args.read.now in
    fold_from_yields_List _ ◌&&◌ true _ c.fold.ensures.ran (YieldsList-from_slice read cc) (λ a x b q k. search (rules, tests)) ∙ every_folded true read
