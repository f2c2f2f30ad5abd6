use Rattle.std.proofs.Common.{List, sym, subst}
use Rattle.drt_states.specs.declared.claims.TailClaim.{TailClaim}
use Rattle.drt_response.specs.Tails.{HaveTails}
use Rattle.drt_response.proofs.Decided.{no_given, yes_given}
use Rattle.drt_response.proofs.by_states.respond_decided.Goals as goal

pub respond_over-requires-clause-schedulable : goal.respond_over-requires-clause-schedulable
respond_over-requires-clause-schedulable g c κs within =
    (yes_given c.args.set.now c.args.evidence c.requires.decision c.in-FixedStates.tails c.in-FixedStates.searches c.in-FixedStates.is).0

pub respond_over-requires-clause-tails : goal.respond_over-requires-clause-tails
respond_over-requires-clause-tails g c κs within =
    subst (λ (ts : List TailClaim). HaveTails c.args.set.now.tasks ts) (sym c.as_slice.ensures)
    (yes_given c.args.set.now c.args.evidence c.requires.decision c.in-FixedStates.tails c.in-FixedStates.searches c.in-FixedStates.is).1

pub returns-in-FixedNo : goal.returns-in-FixedNo
returns-in-FixedNo g c = no_given c.args.set.now c.args.evidence c.requires.decision c.in-FixedNo.releases c.in-FixedNo.miss c.in-FixedNo.is
