use Rattle.std.proofs.Common.{◌≡◌, IfOk, List, ◌∷◌, [], map, refl, ap, ◌∙◌, subst}
use Rattle.drt_model.specs.declared.tasks.Task.{Task}
use Rattle.drt_model.specs.declared.jobs.Release.{Release}
use Rattle.drt_model.specs.Schedulable.{jobs_of}
use Rattle.drt_replay.specs.Board.{needs_of}
use Rattle.drt_replay.proofs.jobs.Jobs.needs.Goals as goal

needs_are : (tasks : List Task) (rs : List Release) → map (λ r. r.need) rs ≡ needs_of (jobs_of tasks rs)
needs_are tasks [] = refl
needs_are tasks (r ∷ rs) = ap (λ ns. r.need ∷ ns) (needs_are tasks rs)

pub returns : goal.returns
returns c =
    let e = needs_are c.self.inside.tasks.now c.self.inside.releases.now ∙ ap needs_of c.self.view_is in
    subst (λ ns. IfOk c.needs_of.result (λ needs. needs.items ≡ ns)) e c.needs_of.ensures
