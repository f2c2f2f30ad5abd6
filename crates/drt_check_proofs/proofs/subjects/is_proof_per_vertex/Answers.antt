use Rattle.std.proofs.Common.{◌≡◌, length, map, sym, ap, ◌∙◌, arith}
use Rattle.std.proofs.lemmas.Bool.{false≢true, eqb-true, eq-eqb}
use Rattle.drt_claims.specs.Proofs.{subjects_from}
use Rattle.drt_model.specs.declared.tasks.Task.{Task}
use Rattle.drt_check_proofs.specs.Subjects.{subject_of_proof}
use Rattle.drt_check_proofs.proofs.TaskProofs.{all_left, next_task, none_left, not_next, too_few_left}
use Rattle.drt_check_proofs.proofs.subjects.is_proof_per_vertex.Goals as goal
use Rattle.drt_check_proofs.proofs.subjects.is_proof_per_vertex.Goals.{then-proofs-first-via-then-proofs-first, then-proofs-first-via-else-proofs-first+then-not-are_of_task}

pub returns-then-proofs-first : goal.returns-then-proofs-first
returns-then-proofs-first c =
    let tasks = c.tasks-tasks.result.now in
    let proofs = c.args.proofs.now in
    let t = c.index-tasks-k.result in
    let n = length c.as_slice-count.result.now in
    let n_is : length t.vertices ≡ n = ap (λ (x : Task). length x.vertices) c.index-tasks-k.is ∙ sym (ap length c.as_slice-count.ensures) in
    let A = map subject_of_proof proofs ≡ subjects_from 0 tasks in (
      λ e. absurd (false≢true e),
      λ all. (let here = rw (sym c.tasks-tasks.ensures.tasks) at all in
          elim c.then-proofs-first.branch [
            | then-proofs-first-via-then-proofs-first w ↦ absurd
                (too_few_left A proofs c.tasks.first c.tasks.k n t tasks c.tasks-test.true c.index-tasks-k.is n_is w.if-proofs-first.true c.tasks.invariant.1 here)
            | then-proofs-first-via-else-proofs-first+then-not-are_of_task w ↦ absurd
                (not_next A proofs c.tasks.first c.tasks.k n t tasks c.tasks-test.true c.index-tasks-k.is n_is c.tasks.invariant.0 w.if-proofs-first.false
                (λ own. (let yes = w.are_of_task.ensures.1 own in cc)) c.tasks.invariant.1 here)
          ]),
    )

pub tasks-preserved : goal.tasks-preserved
tasks-preserved c =
    let n = length c.as_slice-count.result.now in
    let n_is : length c.index-tasks-k.result.vertices ≡ n = ap (λ (x : Task). length x.vertices) c.index-tasks-k.is ∙ sym (ap length c.as_slice-count.ensures) in
    let own = c.are_of_task.ensures.0 (cc) in (
      omega (arith, c.if-proofs-first.false, c.tasks.invariant.0),
      next_task (map subject_of_proof c.args.proofs.now ≡ subjects_from 0 c.tasks-tasks.result.now) c.args.proofs.now c.tasks.first c.tasks.k n c.index-tasks-k.result c.tasks-tasks.result.now
          c.tasks-test.true c.index-tasks-k.is n_is c.tasks.invariant.0 c.if-proofs-first.false own c.tasks.invariant.1,
    )

pub returns : goal.returns
returns c = (
  λ e. (let f : c.tasks.first ≡ length c.args.proofs.now = eqb-true c.tasks.first (length c.args.proofs.now) e in
      rw (sym c.tasks-tasks.ensures.tasks) (c.tasks.invariant.1.1 (all_left c.args.proofs.now c.tasks.first c.tasks.k c.tasks-tasks.result.now c.tasks-test.false (omega arith)))),
  λ all. (let l = none_left c.args.proofs.now c.tasks.first c.tasks.k c.tasks-tasks.result.now c.tasks-test.false (c.tasks.invariant.1.0 (rw (sym c.tasks-tasks.ensures.tasks) at all)) in
      eq-eqb c.tasks.first (length c.args.proofs.now) (omega (arith, l, c.tasks.invariant.0))),
)
