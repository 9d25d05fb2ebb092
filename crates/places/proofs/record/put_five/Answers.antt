use Rattle.std.proofs.Common.{◌≡◌, ◌+◌, ◌-◌, ◌∙◌, ap, length, arith, rules}
use borrow.Rule.Slice.PartMut.{put_mid}
use Rattle.records.proofs.Places.{part_put}
use Rattle.places.proofs.record.put_five.Goals as goal

pub returns : goal.returns
returns c =
    let a = c.args in
    let five : length a.answer ≡ 5 = search rules in
    let room = c.requires in
    ap (put_mid a.at (a.at + 5 - a.at) a.buffer.now) c.copy_from_slice.ensures.after
    ∙ rw five at (part_put a.buffer.now a.answer a.at (omega (arith, five, room)))
