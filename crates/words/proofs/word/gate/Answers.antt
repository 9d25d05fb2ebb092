use mathlib.Core.Path.{refl, ap, ◌∙◌}
use Prim.Native.Nat.{ℕ, min}
use lib.ListN.{take}
use borrow.Author.Rules.{rules}
use Rattle.std.proofs.lemmas.List.{take_min}
use Rattle.routing.specs.Four.{bit_at}
use Rattle.routing.proofs.Equal.{two}
use Rattle.words.specs.Word.{kind_of, count_of, fields, made, gate}
use Rattle.words.proofs.Rows.{map_of}
use Rattle.words.proofs.word.gate.Goals as goal

pub returns : goal.returns
unfolding gate
returns c =
    let w = c.args.w in
    let net = λ (n : ℕ). bit_at n c.args.v in
    let read = map_of _ net _ (λ x y q k. search rules) c.map-read.ensures.items c.fields.ensures refl in
    c.made.ensures
    ∙ ap (made (kind_of w))
    (two take (c.min.ensures ∙ ap (λ (n : ℕ). min n 4) c.count.ensures) read ∙ take_min (count_of w) (fields net w))
