use Rattle.std.proofs.Common.{ap, List, ℕ, slice_index_or, ◌≡◌, arith}
use Rattle.orders.specs.Order.{place_of}
use Rattle.orders.proofs.Places.{next_place}
use Rattle.orders.proofs.order.order_size.Goals as goal

pub next_place-requires : goal.next_place-requires
next_place-requires c =
    let e = c.places-places.ensures in
    let last : slice_index_or c.places-places.result 3 0 ≡ place_of c.args.order.now 3 = ap (λ (l : List ℕ). slice_index_or l 3 0) e.places in
    omega (arith, last, e.early)

pub returns : goal.returns
returns c =
    let e = c.places-places.ensures in
    let last : slice_index_or c.places-places.result 3 0 ≡ place_of c.args.order.now 3 = ap (λ (l : List ℕ). slice_index_or l 3 0) e.places in
    let n = c.next_place.ensures in (next_place c.args.order.now 3 last n.0, omega (arith, last, e.early, n.1))
