use Rattle.std.proofs.Common.{arith}
use Rattle.routing.proofs.Equal.{row_of}
use Rattle.orders.proofs.Places.{first_place, next_place}
use Rattle.orders.proofs.order.places.Goals as goal

pub returns : goal.returns
returns c =
    let o = c.args.order.now in
    let p0 = first_place o in
    let p1 = next_place o 0 p0 c.next_place-second.ensures.0 in
    let p2 = next_place o 1 p1 c.next_place-third.ensures.0 in
    let p3 = next_place o 2 p2 c.next_place.ensures.0 in
    record { places = row_of p0 p1 p2 p3; early = omega (arith, p3, c.next_place-second.ensures.1, c.next_place-third.ensures.1, c.next_place.ensures.1) }
