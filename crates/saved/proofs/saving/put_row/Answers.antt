use Rattle.std.proofs.Common.{◌≡◌, ◌+◌, ◌-◌, ◌∙◌, ap, sym, length, arith, rules}
use borrow.Rule.Slice.PartMut.{put_mid}
use lib.Seq.{sets}
use Rattle.records.proofs.Places.{part_put, spelt}
use Rattle.saved.proofs.saving.put_row.Goals as goal

pub returns : goal.returns
returns c =
    let a = c.args in
    let four : length a.row ≡ 4 = search rules in
    let room = c.requires in
    ap (put_mid a.at (a.at + 4 - a.at) a.out.now) c.copy_from_slice.ensures.after
    ∙ rw four at (part_put a.out.now a.row a.at (omega (arith, four, room)))
    ∙ ap (sets a.out.now a.at) (sym (spelt 0 4 a.row four))
