use Rattle.std.proofs.Common.{◌++◌, take, drop, sym, ap, ◌∙◌, subst, rules}
use Rattle.std.specs.Io.KnownBytes.{Consumes}
use Rattle.std.proofs.KnownBytes.{Consumes-trans}
use lib.Seq.{take-add}
use Rattle.input.proofs.standard.fill.Goals as goal

pub loop-at-preserved : goal.loop-at-preserved
loop-at-preserved g c =
    let at = c.loop-at.at in
    let n = c.in-Ok.n in
    let read = c.in-Ok.ensures in
    let after = c.read_from.new.buf in
    let joined = ap (λ l. l ++ take n (drop at after)) (sym read.front) ∙ sym (take-add at n after) in
    record {
      within = search rules;
      same = search rules;
      bytes = subst (Consumes _ _) joined (Consumes-trans _ _ _ _ _ c.loop-at.invariant.bytes read.bytes);
    }
