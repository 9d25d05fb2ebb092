use Rattle.std.proofs.Common.{◌++◌, take, arith, length-append}
use Rattle.std.proofs.KnownBytes.{Consumes-trans}
use Rattle.input.proofs.standard.take_in.Goals as goal

pub returns-in-Err-clause-err : goal.returns-in-Err-clause-err
returns-in-Err-clause-err g c =
    let kept = take c.in_ok-kept.kept c.fill.new.buf in
    let start = c.in_ok-kept.ensures in
    let (few, told) = c.in-Err.ensures.err in
    let (come, long, rest) = told in
    (omega (arith, few, start.bound.0), (kept ++ come, omega (arith, length-append kept come, long, start.bound.1), Consumes-trans _ _ _ _ _ start.bytes rest))
