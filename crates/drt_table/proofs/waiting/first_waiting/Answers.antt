use Rattle.std.proofs.Common.{◌≡◌, false, Some, length, refl, sym, arith}
use Rattle.std.specs.Prelude.{slice_get, nat_lt}
use Rattle.std.specs.BinaryHeap.{heap_items}
use Rattle.std.proofs.lemmas.Bool.Decides.{nat_tests}
use Rattle.std.proofs.lemmas.Option.{slice_get_read}
use Rattle.drt_table.specs.Waiting.{Ticket}
use Rattle.drt_table.proofs.Tickets.{first_is_next, none_is_next}
use Rattle.drt_table.proofs.waiting.first_waiting.Goals as goal

pub returns-in-Some : goal.returns-in-Some
returns-in-Some g c =
    let a = g.L.Label.algebra in
    let tickets = heap_items c.args.queue.now in
    let t : Ticket = c.in-Some.field-0.now in
    let at : slice_get tickets 0 ≡ Some t = slice_get_read tickets (length tickets) 0 t refl c.in-Some.ensures.item.3.0 c.in-Some.ensures.item.1 in
    first_is_next a c.args.nodes.now tickets c.requires.waiting c.requires.fresh t at (c.in-Some.ensures.greatest c.requires.order)

pub returns-in-None : goal.returns-in-None
returns-in-None g c =
    let a = g.L.Label.algebra in
    let tickets = heap_items c.args.queue.now in
    none_is_next a c.args.nodes.now tickets c.requires.waiting (let none : nat_lt 0 (length tickets) ≡ false = sym c.in-None.ensures.item.0 in grind (arith, nat_tests))
