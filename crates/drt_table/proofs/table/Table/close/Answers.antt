use Rattle.std.proofs.Common.{◌<◌, length, refl, sym, ◌∙◌, subst, arith}
use Rattle.drt_table.specs.View.{View, CanApply, IsTableStep, IsTable}
use Rattle.drt_table.specs.declared.step.TableStep.TheVariants.{Close}
use Rattle.drt_table.specs.declared.step.TableReply.TheVariants.{Closed}
use Rattle.drt_table.proofs.Tables.{close_closed, table_more, held_at}
use Rattle.drt_table.proofs.table.Table.close.Goals as goal

pub close-requires-after_bounds : goal.close-requires-after_bounds
close-requires-after_bounds g c κs within =
    let a = g.L.Label.algebra in
    let laws = (g.met.L.Label g.world.𝓛 g.world.𝓜 g.world.𝓡 ((λ s x. x), (λ x. x), (λ x. x), λ x. x)).laws in
    let v : View _ = record { graph = c.self.inside.graph; bound = c.self.inside.bound; budget = c.self.inside.budget; nodes = c.self.inside.arena.nodes; log = c.self.inside.log.items } in
    let is : IsTable a v = c.self.invariant.0 in
    let can : CanApply a v c.args.worker (Close c.args.node) = subst (λ (x : View _). CanApply a x c.args.worker (Close c.args.node)) (sym c.self.view_is) c.requires in
    held_at a laws v is c.args.worker c.args.node can.0 can.1

pub invariant_of-self : goal.invariant_of-self
invariant_of-self g c =
    let a = g.L.Label.algebra in
    let laws = (g.met.L.Label g.world.𝓛 g.world.𝓜 g.world.𝓡 ((λ s x. x), (λ x. x), (λ x. x), λ x. x)).laws in
    let v : View _ = record { graph = c.self.inside.graph; bound = c.self.inside.bound; budget = c.self.inside.budget; nodes = c.self.inside.arena.nodes; log = c.self.inside.log.items } in
    let is : IsTable a v = c.self.invariant.0 in
    let can : CanApply a v c.args.worker (Close c.args.node) = subst (λ (x : View _). CanApply a x c.args.worker (Close c.args.node)) (sym c.self.view_is) c.requires in
    let new : View _ = record { graph = v.graph; bound = v.bound; budget = v.budget; nodes = c.close.new.self.nodes; log = c.push_within.new.items.items } in
    let room : length v.log < v.budget = omega (arith, c.self.inside.log.ok.0) in
    let step : IsTableStep a v new c.args.worker (Close c.args.node) Closed = close_closed a v new c.args.worker c.args.node refl c.close.ensures.nodes_are c.push_within.ensures.items room in (
      table_more a v new c.args.worker (Close c.args.node) Closed is can step c.push_within.ensures.items,
      c.close.ensures.vertices ∙ c.self.invariant.1,
      omega (arith, c.self.invariant.2, c.close.ensures.room),
      omega (arith, c.self.invariant.3, c.push_within.ensures.capacity),
      c.self.invariant.4,
    )

pub returns : goal.returns
returns g c =
    let a = g.L.Label.algebra in
    let laws = (g.met.L.Label g.world.𝓛 g.world.𝓜 g.world.𝓡 ((λ s x. x), (λ x. x), (λ x. x), λ x. x)).laws in
    let v : View _ = record { graph = c.self.inside.graph; bound = c.self.inside.bound; budget = c.self.inside.budget; nodes = c.self.inside.arena.nodes; log = c.self.inside.log.items } in
    let is : IsTable a v = c.self.invariant.0 in
    let can : CanApply a v c.args.worker (Close c.args.node) = subst (λ (x : View _). CanApply a x c.args.worker (Close c.args.node)) (sym c.self.view_is) c.requires in
    let new : View _ = record { graph = v.graph; bound = v.bound; budget = v.budget; nodes = c.close.new.self.nodes; log = c.push_within.new.items.items } in
    let room : length v.log < v.budget = omega (arith, c.self.inside.log.ok.0) in
    let step : IsTableStep a v new c.args.worker (Close c.args.node) Closed = close_closed a v new c.args.worker c.args.node refl c.close.ensures.nodes_are c.push_within.ensures.items room in
    subst (λ (x : View _). IsTableStep a x new c.args.worker (Close c.args.node) Closed) c.self.view_is step
