use Rattle.std.proofs.Common.{◌≡◌, sym, ap, subst}
use Rattle.drt_model.specs.declared.jobs.Miss.{Miss}
use Rattle.drt_model.specs.Misses.{IsLeastMiss}
use Rattle.drt_replay.specs.Board.{Shown, IsFirstMiss, IsFirstLate}
use Rattle.drt_replay.proofs.LateLemmas.{first_miss_if, least_if, miss_parts}
use Rattle.drt_replay.proofs.board.Board.first_miss.Goals as goal

pub returns-in-Some-clause-first : goal.returns-in-Some-clause-first
returns-in-Some-clause-first c =
    let b = c.self.inside in
    let shown : Shown = record { policy = b.policy; jobs = b.jobs; ticks = b.ticks } in
    let is : shown ≡ c.args.self.now = c.self.view_is in
    let j = c.in-Some.j in
    let f = subst (λ s. IsFirstLate s j) (sym is) c.in-Some.ensures in
    let m : Miss = record { task = c.task.result; index = c.index_of.result; deadline = c.job.result.deadline } in
    let parts = miss_parts b.jobs j c.task.result c.index_of.result c.job.result.deadline
    c.task.ensures
    c.index_of.ensures.value
    (ap (λ job. job.deadline) c.job.ensures) in
    subst (λ s. IsFirstMiss s m) is (first_miss_if shown j m f parts)

pub returns-in-Some-clause-least : goal.returns-in-Some-clause-least
returns-in-Some-clause-least c =
    let b = c.self.inside in
    let shown : Shown = record { policy = b.policy; jobs = b.jobs; ticks = b.ticks } in
    let is : shown ≡ c.args.self.now = c.self.view_is in
    let j = c.in-Some.j in
    let f = subst (λ s. IsFirstLate s j) (sym is) c.in-Some.ensures in
    let m : Miss = record { task = c.task.result; index = c.index_of.result; deadline = c.job.result.deadline } in
    let parts = miss_parts b.jobs j c.task.result c.index_of.result c.job.result.deadline
    c.task.ensures
    c.index_of.ensures.value
    (ap (λ job. job.deadline) c.job.ensures) in
    subst (λ s. IsLeastMiss s.policy s.jobs m) is (least_if shown m (first_miss_if shown j m f parts))
