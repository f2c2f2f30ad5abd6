use Rattle.std.proofs.Common.{◌≤◌, rules, length, subst}
use Rattle.drt_effort.specs.Efforts.{most_budget}
use Rattle.drt_shared.proofs.Boards.{few_logged}
use Rattle.drt_shared.proofs.Calls.{strange_call, halted_call}
use Rattle.drt_shared.proofs.board.TableBoard.call.Goals as goal

pub returns-then-not-expects-clause-call : goal.returns-then-not-expects-clause-call
returns-then-not-expects-clause-call g c =
    let laws = (g.met.L.Label g.world.𝓛 g.world.𝓜 g.world.𝓡 ((λ s x. x), (λ x. x), (λ x. x), λ x. x)).laws in
    let few = subst (λ v. length v.log ≤ most_budget) c.self.view_is (few_logged g.L.Label.algebra laws c.self.inside.table c.keep_run.ensures) in
    strange_call g.L.Label.algebra c.args.self.now c.args.holding.now c.args.wanted c.find-found.result few (search rules)

pub returns-then-is_halted-clause-call : goal.returns-then-is_halted-clause-call
returns-then-is_halted-clause-call g c =
    let laws = (g.met.L.Label g.world.𝓛 g.world.𝓜 g.world.𝓡 ((λ s x. x), (λ x. x), (λ x. x), λ x. x)).laws in
    let few = subst (λ v. length v.log ≤ most_budget) c.self.view_is (few_logged g.L.Label.algebra laws c.self.inside.table c.keep_run.ensures) in
    halted_call g.L.Label.algebra c.args.self.now c.args.holding.now c.args.wanted few
