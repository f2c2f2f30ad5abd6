use Rattle.std.proofs.Common.{◌≡◌, Some, refl, sym, ap, ◌∙◌, subst, arith}
use Rattle.std.specs.Prelude.{slice_get, IsTrue, IfSome}
use Rattle.drt_table.specs.Node.{Held, is_taken}
use Rattle.drt_table.specs.Held.{hand_out}
use Rattle.drt_worklist.specs.Places.{changed}
use Rattle.drt_table.specs.View.{View}
use Rattle.drt_table.proofs.Tables.{table_same_nodes}
use Rattle.drt_table.proofs.table.Table.hand_out.Goals as goal

pub hand_out-requires-after_bounds : goal.hand_out-requires-after_bounds
hand_out-requires-after_bounds g c κs within =
    subst (λ (x : View _). (h : Held _) × (slice_get x.nodes c.args.id ≡ Some h) × IsTrue h.spare × IsTrue (is_taken h.node)) (sym c.self.view_is) c.requires

pub invariant_of-self : goal.invariant_of-self
invariant_of-self g c =
    let v : View _ = record { graph = c.self.inside.graph; bound = c.self.inside.bound; budget = c.self.inside.budget; nodes = c.self.inside.arena.nodes; log = c.self.inside.log.items } in
    let handed = c.hand_out.ensures.nodes in
    let new : View _ = record v { nodes = c.hand_out.new.self.nodes } in (
      table_same_nodes g.L.Label.algebra v new c.args.id c.self.invariant.0 refl handed.nodes_are refl,
      handed.vertices ∙ c.self.invariant.1,
      omega (arith, c.self.invariant.2, handed.room),
      c.self.invariant.3,
      c.self.invariant.4,
    )

pub returns-clause-nodes : goal.returns-clause-nodes
returns-clause-nodes g c =
    c.hand_out.ensures.nodes.nodes_are ∙ ap (λ (x : View _). changed c.args.id hand_out x.nodes) c.self.view_is

pub returns-clause-label : goal.returns-clause-label
returns-clause-label g c =
    subst (λ (x : View _). IfSome (slice_get x.nodes c.args.id) (λ h. c.hand_out.result ≡ h.node.label)) c.self.view_is c.hand_out.ensures.label
