use Rattle.std.proofs.Common.{inl, subst}
use Rattle.drt_claims.specs.Claims.{graphs_of}
use Rattle.drt_edf.specs.Searches.{AreSearches}
use Rattle.drt_edf.specs.declared.searching.Searched.TheVariants.{Spent}
use Rattle.drt_edf.proofs.Decided.{plan_near, spent_table}
use Rattle.drt_edf.proofs.EvidenceKinds.{planned_other}
use Rattle.drt_edf.proofs.Planned.{planned_below}
use Rattle.drt_edf.proofs.below.below_one.Goals as goal

pub returns-in_ok-evidence-in-Finished : goal.returns-in_ok-evidence-in-Finished
returns-in_ok-evidence-in-Finished g c =
    let near = plan_near (graphs_of c.args.set.now.tasks) c.args.proofs c.args.bound c.requires.plan in
    let done = c.in_ok-evidence-in-Finished.ensures.done in (
      done,
      planned_other c.args.set.now.tasks c.in_ok-evidence-in-Finished.evidence
          (inl (c.args.bound, planned_below c.args.set.now.tasks c.args.proofs c.requires.given c.args.bound c.requires.plan, near)) done,
      c.in_ok-evidence-in-Finished.ensures.range,
    )

pub returns-in-Spent : goal.returns-in-Spent
returns-in-Spent g c =
    let spent = subst (λ s. AreSearches c.graphs.result.now c.args.bound c.args.crew.now.effort.budget s) c.in-Spent.is c.in_ok-fronts.ensures in
    let at = subst (λ gs. AreSearches gs c.args.bound c.args.crew.now.effort.budget (Spent c.in-Spent.task c.in-Spent.log)) c.graphs.ensures.graphs spent in
    spent_table c.args.set.now.tasks c.args.proofs c.requires.given c.args.bound c.requires.plan c.args.crew.now.effort.budget c.in-Spent.task c.in-Spent.log at
