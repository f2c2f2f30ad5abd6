use Rattle.std.proofs.Common.{List, sym, subst}
use Rattle.std.proofs.lemmas.Bool.{false≢true}
use Rattle.drt_model.specs.declared.tasks.Task.{Task}
use Rattle.drt_claims.specs.declared.evidence.ProofClaim.{ProofClaim}
use Rattle.drt_claims.specs.Proofs.{HasShape}
use Rattle.drt_check_proofs.proofs.shapes.have_shapes.Goals as goal

pub returns-then-not-branch : goal.returns-then-not-branch
returns-then-not-branch c = (
  λ e. absurd (false≢true e),
  λ all. (let has : HasShape c.args.set.now.tasks c.args.trees.now c.proof-item.result =
      subst (λ (p : ProofClaim). HasShape c.args.set.now.tasks c.args.trees.now p) (sym c.proof-item.is) (all c.proofs.proof-index c.proof-item.result c.proofs-test.true) in
      let yes = c.in_ok-has_shape.ensures.1 (subst (λ (tasks : List Task). HasShape tasks c.args.trees.now c.proof-item.result) (sym c.tasks-tasks.ensures.tasks) has) in absurd (cc)),
)
