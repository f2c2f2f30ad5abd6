use Rattle.std.proofs.Common.{ℕ, ◌<◌, sym, ◌∙◌, subst, length}
use Rattle.std.proofs.lemmas.Option.{same_Some}
use Rattle.drt_refine.proofs.Splits.{Splitting, splitting}
use Rattle.drt_refine.proofs.frontier.Frontier.split.Goals as goal

pub node_at-node-requires : goal.node_at-node-requires
node_at-node-requires c =
    let z : Splitting c.args.forest.now c.args.self.now c.args.worker c.args.id c.args.place = splitting c.args.forest.now c.args.self.now c.args.worker c.args.id
    c.args.place c.requires.frontier c.requires.can in
    (z.combination, z.node, z.at, z.wide, z.node_at)

pub children-requires : goal.children-requires
children-requires c =
    let z : Splitting c.args.forest.now c.args.self.now c.args.worker c.args.id c.args.place = splitting c.args.forest.now c.args.self.now c.args.worker c.args.id
    c.args.place c.requires.frontier c.requires.can in
    subst (λ (n : ℕ). n < length c.args.forest.now.nodes) (same_Some z.node c.node_at-node.result (sym z.node_at ∙ c.node_at-node.ensures z.combination z.at)) z.within

pub halve-requires-clause-held : goal.halve-requires-clause-held
halve-requires-clause-held c =
    let z : Splitting c.args.forest.now c.args.self.now c.args.worker c.args.id c.args.place = splitting c.args.forest.now c.args.self.now c.args.worker c.args.id
    c.args.place c.requires.frontier c.requires.can in
    (z.combination, z.at, z.taken, z.wide)
