use Rattle.std.proofs.Common.{◌≡◌, None, [], length, sym, ap, ◌∙◌, subst, arith, rules}
use Rattle.std.specs.Prelude.{replicate}
use Rattle.std.proofs.lemmas.List.{length-replicate}
use Rattle.std.specs.BinaryHeap.{IsHeap, heap_items}
use Rattle.drt_table.specs.Arena.{AreArranged}
use Rattle.drt_table.specs.Links.{AreLinked}
use Rattle.drt_table.specs.Waiting.{ticket_cmp}
use Rattle.drt_table.proofs.Arranged.{none_arranged, none_linked}
use Rattle.drt_table.proofs.Columns.{new_shelf}
use Rattle.drt_table.proofs.arena.Arena.new.Goals as goal

pub invariant_of-result : goal.invariant_of-result
invariant_of-result g c =
    let a = g.L.Label.algebra in
    let heads : c.in_ok-heads.heads.items ≡ replicate c.args.vertices None = search rules in
    let linked : AreLinked a [] [] c.in_ok-heads.heads.items = subst (λ os. AreLinked a [] [] os) (sym heads) (none_linked a c.args.vertices) in
    let order : IsHeap ticket_cmp [] = subst (λ ts. IsHeap ticket_cmp ts) c.in_ok-queue.ensures.items c.in_ok-queue.ensures.heap_order in
    let none : length c.in_ok-nodes.nodes.items ≡ 0 = ap length c.in_ok-nodes.ensures.items in (
      subst (λ ns. AreArranged a ns c.in_ok-links.links.items c.in_ok-heads.heads.items (heap_items c.in_ok-queue.queue) c.in_ok-taken.taken.items) (sym c.in_ok-nodes.ensures.items)
          (subst (λ os. AreArranged a [] os c.in_ok-heads.heads.items (heap_items c.in_ok-queue.queue) c.in_ok-taken.taken.items) (sym c.in_ok-links.ensures.items)
          (subst (λ ts. AreArranged a [] [] c.in_ok-heads.heads.items ts c.in_ok-taken.taken.items) (sym c.in_ok-queue.ensures.items)
          (subst (λ ks. AreArranged a [] [] c.in_ok-heads.heads.items [] ks) (sym c.in_ok-taken.ensures.items) (none_arranged a c.in_ok-heads.heads.items linked order)))),
      omega (arith, none),
      omega (arith, none, c.in_ok-queue.ensures.len, c.in_ok-taken.ensures.len),
      c.in_ok-nodes.ensures.capacity,
      c.in_ok-links.ensures.capacity,
      c.in_ok-queue.ensures.capacity,
      c.in_ok-taken.ensures.capacity,
      new_shelf g.L.Label.algebra c.args.vertices c.args.room c.in_ok-columns.columns _ _ c.in_ok-nodes.ensures.items (ap length heads ∙ length-replicate c.args.vertices None) c.in_ok-columns.ensures,
    )
