use Rattle.std.proofs.Common.{◌≡◌, ℕ, length, subst, arith}
use Rattle.std.specs.Prelude.{slice_index_or}
use Rattle.std.proofs.lemmas.Option.{slice_get-get_or}
use Rattle.drt_refine.proofs.Below.{nodes_at}
use Rattle.drt_refine.proofs.Widest.{AreAtMost, IsBest, place_of}
use Rattle.drt_refine.proofs.place.choose_place.Goals as goal

pub leaves_under-leaves-requires : goal.leaves_under-leaves-requires
leaves_under-leaves-requires c = nodes_at c.args.forest.now c.args.nodes.now c.loop-i.i (slice_index_or c.args.nodes.now c.loop-i.i 0)
    (slice_get-get_or c.args.nodes.now c.loop-i.i 0 c.loop-i-test.true) c.requires.nodes

pub returns : goal.returns
returns c =
    let e : c.loop-i.i ≡ length c.args.nodes.now = omega (arith, c.loop-i-test.false, c.loop-i.auto.i-end) in
    place_of c.args.forest.now c.show_sound.ensures (λ n l r h. c.every_forest.ensures.pairs c.args.forest.now n l r c.show_sound.ensures h) c.args.nodes.now c.loop-i.most c.loop-i.widest
    (subst (λ (i : ℕ). AreAtMost c.args.forest.now c.args.nodes.now i c.loop-i.most) e c.loop-i.invariant.1)
    (subst (λ (i : ℕ). IsBest c.args.forest.now c.args.nodes.now i c.loop-i.most c.loop-i.widest) e c.loop-i.invariant.2)
