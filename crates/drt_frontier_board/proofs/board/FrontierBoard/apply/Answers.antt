use Rattle.std.proofs.Common.{ap, sym, ◌∙◌, subst}
use Rattle.drt_refine.specs.Eager.{IsEagerStep}
use Rattle.drt_refine.specs.Machine.{CanStep}
use Rattle.drt_refine.specs.View.{setting_of, state_of, IsFrontier, IsFrontierStep}
use Rattle.drt_frontier_board.specs.FrontierBoard.{BoardOf, terms_of}
use Rattle.drt_frontier_board.proofs.Calls.{can_go, eager_kept, made}
use Rattle.drt_frontier_board.proofs.board.FrontierBoard.apply.Goals as goal

pub apply-requires-clause-can : goal.apply-requires-clause-can
apply-requires-clause-can c =
    let x = c.requires.expected in
    let go = can_go (terms_of c.args.self.now) (state_of c.args.self.now.frontier) c.args.worker c.args.nodes.now x.0 c.args.held c.args.step x.1 x.2 c.requires.can in
    let one = ap (λ (b : BoardOf). b.forest) c.self.view_is ∙ sym c.requires.forest in
    subst (λ f. CanStep (setting_of f c.self.inside.frontier) (state_of c.self.inside.frontier) c.args.worker c.args.step) one
    (subst (λ (b : BoardOf). CanStep (terms_of b) (state_of b.frontier) c.args.worker c.args.step) (sym c.self.view_is) go.can)

pub invariant_of-self : goal.invariant_of-self
invariant_of-self c =
    let x = c.requires.expected in
    let go = can_go (terms_of c.args.self.now) (state_of c.args.self.now.frontier) c.args.worker c.args.nodes.now x.0 c.args.held c.args.step x.1 x.2 c.requires.can in
    let one = c.requires.forest ∙ sym (ap (λ (b : BoardOf). b.forest) c.self.view_is) in
    let f = c.self.inside.forest.value in
    let eager = subst (λ (b : BoardOf). IsEagerStep (terms_of b) (state_of b.frontier) (record { worker = c.args.worker; step = c.args.step })) (sym c.self.view_is) go.eager in
    let made_step = subst (λ g. IsFrontierStep g c.self.inside.frontier c.apply.new.self c.args.worker c.args.step c.apply.result) one c.apply.ensures.step in (
      subst (λ g. IsFrontier g c.apply.new.self) one c.apply.ensures.frontier,
      eager_kept f c.self.inside.frontier c.args.worker c.args.step c.self.invariant.0 eager c.self.invariant.1 c.apply.new.self c.apply.result made_step,
    )

pub returns : goal.returns
returns c =
    let x = c.requires.expected in
    let go = can_go (terms_of c.args.self.now) (state_of c.args.self.now.frontier) c.args.worker c.args.nodes.now x.0 c.args.held c.args.step x.1 x.2 c.requires.can in
    let same = ap (λ (b : BoardOf). b.forest) c.self.view_is in
    let made_step = subst (λ g. IsFrontierStep g c.self.inside.frontier c.apply.new.self c.args.worker c.args.step c.apply.result) (c.requires.forest ∙ sym same) c.apply.ensures.step in
    made c.args.self.now (record { forest = c.self.inside.forest.value; frontier = c.apply.new.self }) c.args.worker c.args.held c.args.step c.apply.result same go
    (subst (λ (b : BoardOf). IsFrontierStep b.forest b.frontier c.apply.new.self c.args.worker c.args.step c.apply.result) c.self.view_is made_step)
