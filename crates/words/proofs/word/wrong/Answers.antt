use mathlib.Core.Bool.{not, ◌||◌}
use mathlib.Core.Path.{ap, ◌∙◌}
use Prim.Native.Nat.{ℕ}
use lib.Dec.{eqb}
use borrow.Author.Rules.{rules}
use borrow.Author.Tests.{tests}
use Rattle.std.proofs.lemmas.Iterator.{YieldsList-from_slice}
use Rattle.std.proofs.lemmas.Iterator.Adapters.{YieldsList-from_skip}
use Rattle.std.proofs.lemmas.Iterator.Search.{any_from_yields_List}
use Rattle.routing.proofs.Equal.{two}
use Rattle.words.specs.Word.{kind_of, count_of, fields, right_count, wrong}
use Rattle.words.proofs.Counts.{any_dropped}
use Rattle.words.proofs.word.wrong.Goals as goal

pub returns : goal.returns
unfolding wrong
returns c =
    let w = c.args.w in
    let set = λ (n : ℕ). not (eqb n 0) in
    let each = YieldsList-from_skip (count_of w) (YieldsList-from_slice (fields (λ n. n) w) cc) cc in
    let some = any_from_yields_List set _ _ c.any-unused.result c.any-unused.ensures.ran each (λ x b q k. search (rules, tests)) ∙ any_dropped set (count_of w) (fields (λ n. n) w) in
    two ◌||◌ (ap not (c.right_count.ensures ∙ ap (right_count (kind_of w)) c.count-n.ensures)) some
