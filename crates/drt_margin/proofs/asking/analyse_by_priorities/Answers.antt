use Rattle.std.proofs.Common.{subst, Option, None}
use Rattle.drt_fixed.specs.Answers.{IsSaid}
use Rattle.drt_model.specs.declared.jobs.Policy.TheVariants.{Fixed}
use Rattle.drt_trails.specs.declared.FixedTrail.{FixedTrail}
use Rattle.drt_margin.proofs.Verdicts.{said_decided}
use Rattle.drt_margin.proofs.asking.analyse_by_priorities.Goals as goal

pub returns-in-None : goal.returns-in-None
returns-in-None g c =
    let set = c.args.set.now in
    let budget = c.args.crew.now.effort.budget in
    let evidence = c.in_ok-evidence.field-0.evidence in
    let analysed = c.in_ok-evidence.ensures in
    let says : IsSaid set budget evidence None = subst (λ (t : Option FixedTrail). IsSaid set budget evidence t) c.in-None.is analysed.says in
    c.decided.ensures Fixed set budget (said_decided set budget evidence says) analysed.in_range
