use mathlib.Core.Path.{◌∙◌}
use lib.Dec.{leb}
use borrow.Author.Rules.{rules}
use borrow.Author.Tests.{tests}
use Rattle.std.proofs.lemmas.Iterator.{YieldsList-from_slice, YieldsList-from_take}
use Rattle.std.proofs.lemmas.Iterator.Search.{any_from_yields_List}
use Rattle.words.specs.Word.{count_of, fields, late}
use Rattle.words.proofs.Counts.{any_taken}
use Rattle.words.proofs.word.late.Goals as goal

pub returns : goal.returns
unfolding late
returns c =
    let w = c.args.w in
    let each = YieldsList-from_take (count_of w) (YieldsList-from_slice (fields (λ n. n) w) cc) cc in
    any_from_yields_List (leb c.args.m) _ _ _ c.any.ensures.ran each (λ x b q k. search (rules, tests)) ∙ any_taken (leb c.args.m) (count_of w) (fields (λ n. n) w)
