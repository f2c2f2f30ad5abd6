use Rattle.std.proofs.Common.{ℕ, List, subst}
use Rattle.drt_steps.specs.Jumps.{AreMarks}
use Rattle.drt_steps.proofs.Kept.{long}
use Rattle.drt_steps.proofs.Samples.{samples_are}
use Rattle.drt_steps.proofs.steps.Steps.samples.Goals as goal

pub returns : goal.returns
returns c =
    let own = c.self.inside in
    samples_are own.bound c.args.self.now own.marks c.samples.result (long own.bound own.base own.rises.value.jumps.items c.args.self.now c.self.view_is)
    (subst (λ (xs : List ℕ). AreMarks own.bound xs own.marks) c.self.view_is c.self.invariant.1) c.samples.ensures.long c.samples.ensures.are
