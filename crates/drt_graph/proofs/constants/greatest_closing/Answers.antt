use Rattle.std.proofs.Common.{◌≡◌, ℕ, pos, ◌*◌, arith, rules, SFits, w64, to_z, ◌∙◌}
use Rattle.std.specs.Prelude.{◌-ℤ◌}
use Rattle.std.specs.Int.{int_max}
use Rattle.std.proofs.lemmas.Int.{to_z-of_z}
use Rattle.drt_graph.specs.Potential.{potential_of}
use Rattle.drt_model.specs.Walk.{deadline}
use Rattle.drt_graph.proofs.Bounds.{most_start, most_more, max_low, max_high}
use Rattle.drt_graph.proofs.constants.greatest_closing.Goals as goal

pub vertices-init : goal.vertices-init
vertices-init c =
    let f : SFits w64 c.closing-most.result = search rules in
    let e = to_z-of_z w64 c.closing-most.result f in
    let value = most_start (λ u. potential_of c.args.potentials.now u -ℤ pos (c.args.num * deadline c.args.graph.now u)) _ c.closing-most.ensures.value in
    rw e (record { value = value; low = c.closing-most.ensures.low; high = c.closing-most.ensures.high })

pub vertices-preserved : goal.vertices-preserved
vertices-preserved c =
    let f : SFits w64 c.larger-most.result = search rules in
    let e = to_z-of_z w64 c.larger-most.result f in
    let k : SFits w64 c.closing.result = search rules in
    let is : c.larger-most.result ≡ int_max (to_z w64 c.vertices.most-bits) c.closing.result = rw (to_z-of_z w64 c.closing.result k) at c.larger-most.ensures in
    let share = (λ (u : ℕ). potential_of c.args.potentials.now u -ℤ pos (c.args.num * deadline c.args.graph.now u)) in
    let more = most_more share c.vertices.v (to_z w64 c.vertices.most-bits) c.closing.result (omega arith) c.vertices.invariant.value c.closing.ensures.value in
    rw e (record {
      value = is ∙ more;
      low = max_low _ _ _ is c.vertices.invariant.low c.closing.ensures.low;
      high = max_high _ _ _ is c.vertices.invariant.high c.closing.ensures.high;
    })
