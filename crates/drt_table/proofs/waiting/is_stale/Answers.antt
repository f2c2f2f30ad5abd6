use Rattle.std.proofs.Common.{◌≡◌, ℕ, ◌<◌, ◌≤◌, false, Some, length, refl, sym, ap, ◌∙◌, arith}
use Rattle.std.specs.Prelude.{slice_get, nat_lt}
use Rattle.std.specs.BinaryHeap.{heap_items}
use Rattle.std.proofs.lemmas.Bool.Decides.{nat_tests}
use Rattle.std.proofs.lemmas.Option.{slice_get_read, slice_get_within, same_Some}
use Rattle.drt_table.specs.Waiting.{Ticket}
use Rattle.drt_table.proofs.Adding.{true_not_false}
use Rattle.drt_table.proofs.Tickets.{contains_at, not_true, not_false}
use Rattle.drt_table.proofs.waiting.is_stale.Goals as goal

pub bounds-nodes-id : goal.bounds-nodes-id
bounds-nodes-id g c =
    let nodes = c.args.nodes.now in
    let tickets = heap_items c.args.queue.now in
    let t : Ticket = c.in-Some.field-0.now in
    let at : slice_get tickets 0 ≡ Some t = slice_get_read tickets (length tickets) 0 t refl c.in-Some.ensures.item.3.0 c.in-Some.ensures.item.1 in
    let own = c.requires.sound t (contains_at tickets 0 t at) in
    let lt : t.0.1 < length nodes = slice_get_within nodes t.0.1 own.0 own.1 in
    lt

pub offset_bounds-nodes-id : goal.offset_bounds-nodes-id
offset_bounds-nodes-id g c =
    let nodes = c.args.nodes.now in
    let tickets = heap_items c.args.queue.now in
    let t : Ticket = c.in-Some.field-0.now in
    let at : slice_get tickets 0 ≡ Some t = slice_get_read tickets (length tickets) 0 t refl c.in-Some.ensures.item.3.0 c.in-Some.ensures.item.1 in
    let own = c.requires.sound t (contains_at tickets 0 t at) in
    let lt : t.0.1 < length nodes = slice_get_within nodes t.0.1 own.0 own.1 in
    omega (arith, lt)

pub returns-in-Some-clause-stale : goal.returns-in-Some-clause-stale
returns-in-Some-clause-stale g c e =
    let nodes = c.args.nodes.now in
    let tickets = heap_items c.args.queue.now in
    let t : Ticket = c.in-Some.field-0.now in
    let at : slice_get tickets 0 ≡ Some t = slice_get_read tickets (length tickets) 0 t refl c.in-Some.ensures.item.3.0 c.in-Some.ensures.item.1 in
    let own = c.requires.sound t (contains_at tickets 0 t at) in
    let lt : t.0.1 < length nodes = slice_get_within nodes t.0.1 own.0 own.1 in
    let at_node : slice_get nodes t.0.1 ≡ Some c.index-nodes-id.result = slice_get_read _ _ _ _ refl lt c.index-nodes-id.is in
    (t, at, c.index-nodes-id.result, at_node, sym c.is_pending.ensures ∙ not_true c.is_pending.result e)

pub returns-in-Some-clause-fresh : goal.returns-in-Some-clause-fresh
returns-in-Some-clause-fresh g c e u at_u =
    let nodes = c.args.nodes.now in
    let tickets = heap_items c.args.queue.now in
    let t : Ticket = c.in-Some.field-0.now in
    let at : slice_get tickets 0 ≡ Some t = slice_get_read tickets (length tickets) 0 t refl c.in-Some.ensures.item.3.0 c.in-Some.ensures.item.1 in
    let own = c.requires.sound t (contains_at tickets 0 t at) in
    let lt : t.0.1 < length nodes = slice_get_within nodes t.0.1 own.0 own.1 in
    let at_node : slice_get nodes t.0.1 ≡ Some c.index-nodes-id.result = slice_get_read _ _ _ _ refl lt c.index-nodes-id.is in
    let same : t ≡ u = same_Some t u (sym at ∙ at_u) in
    (c.index-nodes-id.result, ap (λ (v : Ticket). slice_get nodes v.0.1) (sym same) ∙ at_node, sym c.is_pending.ensures ∙ not_false c.is_pending.result e)

none_first : (n : ℕ) → nat_lt 0 n ≡ false → 0 < n → ⊥
none_first n none some = let le : n ≤ 0 = grind (arith, nat_tests) in omega arith

pub returns-in-None-clause-stale : goal.returns-in-None-clause-stale
returns-in-None-clause-stale g c e = absurd (true_not_false e refl)

pub returns-in-None-clause-fresh : goal.returns-in-None-clause-fresh
returns-in-None-clause-fresh g c e t at =
    let tickets = heap_items c.args.queue.now in
    absurd (none_first (length tickets) (sym c.in-None.ensures.item.0) (slice_get_within tickets 0 t at))
