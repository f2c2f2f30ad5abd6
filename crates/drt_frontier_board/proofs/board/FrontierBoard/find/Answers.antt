use Rattle.std.proofs.Common.{Some, sym, ◌∙◌, subst}
use Rattle.drt_frontier_board.specs.FrontierBoard.{BoardOf}
use Rattle.drt_frontier_board.specs.Finds.{IsFoundCombination}
use Rattle.drt_frontier_board.proofs.Calls.{combination_within, found_one}
use Rattle.drt_frontier_board.proofs.board.FrontierBoard.find.Goals as goal

pub combination-requires : goal.combination-requires
combination-requires c = combination_within c.self.inside.frontier.combinations c.args.worker c.in-Some.id (sym c.held_by.ensures ∙ c.in-Some.is)

pub returns-in-Some : goal.returns-in-Some
returns-in-Some c =
    let one = found_one c.self.inside.frontier.combinations c.args.worker c.in-Some.id c.args.held c.args.nodes.now c.combination.result.now c.is_copy.result
    (sym c.held_by.ensures ∙ c.in-Some.is) c.combination.ensures c.is_copy.ensures in
    subst (λ (b : BoardOf). IsFoundCombination b.frontier.combinations c.args.worker c.args.held c.args.nodes.now (record { held = Some c.in-Some.id; same = c.is_copy.result })) c.self.view_is one
