use Rattle.std.proofs.Common.{rules}
use Rattle.frames.proofs.Buffers.{cell_bytes, cell_copied, cell_left, from_start}
use Rattle.frames.proofs.reading.read_cell.Goals as goal

pub overflow_sub-n : goal.overflow_sub-n
overflow_sub-n c = c.cell_end-end.ensures.0

pub returns-then-n-out : goal.returns-then-n-out
returns-then-n-out c =
    let a = c.args in
    let h = c.header_record-at in
    let e = c.cell_end-end in
    record { bytes = cell_bytes a.frame.now a.input h.result e.result h.ensures e.ensures.1; writes = cell_copied a.frame.now a.input h.result e.result h.ensures e.ensures.1 c.if-n-out.true (from_start c.new.ensures.blank c.put_sent.ensures (search rules)) }

pub returns-else-n-out : goal.returns-else-n-out
returns-else-n-out c =
    let e = c.cell_end-end in
    let h = c.header_record-at in
    let a = c.args in record { bytes = cell_bytes a.frame.now a.input h.result e.result h.ensures e.ensures.1; writes = cell_left a.frame.now a.input h.result e.result h.ensures e.ensures.1 c.if-n-out.false }
