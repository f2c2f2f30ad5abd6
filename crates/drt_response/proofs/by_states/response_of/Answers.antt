-- The releases that are made are those that reach the response.
use Rattle.std.proofs.Common.{ℕ, refl, arith}
use Rattle.std.proofs.lemmas.Grind.{common_steps}
use Rattle.drt_model.specs.Contents.{Contents}
use Rattle.drt_response.proofs.Worst.{are_walks, response_is, ticks_most}
use Rattle.drt_response.proofs.by_states.response_of.Goals as goal

pub overflow_cast-job : goal.overflow_cast-job
overflow_cast-job c =
    let set : Contents = c.args.given.set.now in
    let limits = c.keep_limits.ensures.limits in
    let most = ticks_most set.version set.tasks limits c.args.given.tails.now c.requires.given.tails c.args.at.task c.args.at.vertex c.requires.task c.requires.vertex
    c.args.ticks c.args.walks.now c.requires.worst in
    grind (arith, common_steps, most)

pub reaching_releases-requires-clause-walks : goal.reaching_releases-requires-clause-walks
reaching_releases-requires-clause-walks c =
    let set : Contents = c.args.given.set.now in
    let limits = c.keep_limits.ensures.limits in
    are_walks set.version set.tasks limits c.args.given.tails.now c.requires.given.tails c.args.at.task c.args.at.vertex c.requires.task c.requires.vertex c.args.ticks
    c.args.walks.now c.requires.worst

pub reaching_releases-requires-clause-finish : goal.reaching_releases-requires-clause-finish
reaching_releases-requires-clause-finish c =
    let set : Contents = c.args.given.set.now in
    let limits = c.keep_limits.ensures.limits in
    ticks_most set.version set.tasks limits c.args.given.tails.now c.requires.given.tails c.args.at.task c.args.at.vertex c.requires.task c.requires.vertex c.args.ticks
    c.args.walks.now c.requires.worst

pub returns : goal.returns
returns c =
    let set : Contents = c.args.given.set.now in
    let limits = c.keep_limits.ensures.limits in (
      refl,
      refl,
      response_is set.version set.tasks limits c.args.given.tails.now c.requires.given.tails c.args.at.task c.args.at.vertex c.requires.task c.requires.vertex
          c.args.ticks c.args.walks.now c.requires.worst
          c.states_pass.ensures c.response_decides.ensures c.releases_reach.ensures c.keep_limits.ensures.constrained c.requires.given.schedulable
          set c.args.ticks c.in_ok-releases.releases refl refl c.in_ok-releases.ensures,
    )
