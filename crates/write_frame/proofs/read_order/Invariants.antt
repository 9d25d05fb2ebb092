-- The measure is what is left of the longest order: a turn that neither fails nor ends the input reads at least one byte.
use Rattle.std.proofs.Common.{◌≡◌, ◌-◌, ◌≤◌, length, take}
use Rattle.std.specs.Io.KnownBytes.{Consumes}
use Rattle.orders.specs.Order.{order_size}
use Rattle.write_frame.proofs.read_order.Given as goal

abbrev pub invariant-loop-have : goal.invariant-loop-have
invariant-loop-have g l = record {
  same : length l.order ≡ length l.initial.order;
  within : l.have ≤ length l.order;
  room : l.want ≤ length l.order;
  bytes : Consumes (g.R.Read.remaining l.initial.from) (g.R.Read.remaining l.from) (take l.have l.order);
  size : l.want ≡ order_size (take l.have l.order);
}

abbrev pub decreases-loop-have : goal.decreases-loop-have
decreases-loop-have g l = length l.order - l.have
