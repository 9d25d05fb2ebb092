use Rattle.std.proofs.Common.{◌++◌, take, arith, length-append, rules}
use Rattle.std.proofs.KnownBytes.{Consumes-trans}
use Rattle.input.proofs.standard.count_rest.Goals as goal

pub loop-preserved : goal.loop-preserved
loop-preserved g c =
    let read = c.in-Ok.ensures in
    let (rest, long, before) = c.loop.invariant.bytes in
    let more = take c.in-Ok.n c.read.new.buf in
    record {
      few = omega arith;
      same = search rules;
      bytes = (rest ++ more, omega (arith, length-append rest more, read.bound.1), Consumes-trans _ _ _ _ _ before read.bytes.0);
    }
