use Rattle.std.proofs.Common.{◌++◌, take, drop, sym, ap, ◌∙◌, subst, rules}
use Rattle.std.specs.Io.KnownBytes.{Consumes}
use Rattle.std.proofs.KnownBytes.{Consumes-trans}
use lib.Seq.{take-add}
use Rattle.write_frame.proofs.read_order.Goals as goal

pub loop-have-preserved : goal.loop-have-preserved
loop-have-preserved g c =
    let have = c.loop-have.have in
    let n = c.in_ok-n.n in
    let read = c.in_ok-n.ensures in
    let after = c.fill_between.new.order in
    let joined = ap (λ l. l ++ take n (drop have after)) (sym read.front) ∙ sym (take-add have n after) in
    record {
      same = search rules;
      within = search rules;
      room = search rules;
      bytes = subst (Consumes _ _) joined (Consumes-trans _ _ _ _ _ c.loop-have.invariant.bytes read.bytes);
      size = search rules;
    }
