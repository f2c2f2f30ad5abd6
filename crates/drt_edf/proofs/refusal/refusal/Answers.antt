use Rattle.std.proofs.Common.{◌≡◌, ℕ, ◌≤◌, List, All, length, ap, arith, subst, sym, ◌∙◌}
use Rattle.std.proofs.lemmas.List.Elements.{All-weaker}
use Rattle.drt_model.specs.Contents.{Contents}
use Rattle.drt_model.specs.Legal.{IsLegal}
use Rattle.drt_model.specs.declared.tasks.Task.{Task}
use Rattle.drt_model.specs.declared.jobs.Policy.TheVariants.{Edf}
use Rattle.drt_model.specs.declared.jobs.Release.{Release}
use Rattle.drt_model.specs.Schedulable.{jobs_of}
use Rattle.drt_busy.specs.WalkReleases.{all_releases}
use Rattle.drt_replay.specs.Board.{Shown}
use Rattle.drt_claims.specs.Ranges.{IsInRangeRelease}
use Rattle.drt_releases.specs.Walks.{walk_at}
use Rattle.drt_releases.proofs.Walks.{due_walks}
use Rattle.drt_edf.proofs.Nos.{miss_in_range, missed, some_late}
use Rattle.drt_edf.proofs.refusal.refusal.Goals as goal

-- What a board shows that ran with the releases of a set to time t.
ran : (set : Contents) (tasks : List Task) (row releases : List Release) (t : ℕ) (board end : Shown) → set.tasks ≡ tasks → row ≡ releases
    → board ≡ record { policy = Edf; jobs = jobs_of set.tasks row; ticks = 0 } → end ≡ record { policy = board.policy; jobs = board.jobs; ticks = t }
    → end ≡ record { policy = Edf; jobs = jobs_of tasks releases; ticks = t }
ran set tasks row releases t board end same given begins ends =
    ends ∙ (ap (λ (b : Shown). let s : Shown = record { policy = b.policy; jobs = b.jobs; ticks = t } in s) begins
    ∙ (ap (λ (ts : List Task). let s : Shown = record { policy = Edf; jobs = jobs_of ts row; ticks = t } in s) same
    ∙ ap (λ (rs : List Release). let s : Shown = record { policy = Edf; jobs = jobs_of tasks rs; ticks = t } in s) given))

pub all_releases-requires-clause-walks : goal.all_releases-requires-clause-walks
all_releases-requires-clause-walks c =
    due_walks c.args.set.now.tasks c.graphs-graphs.result.now (walk_at c.args.walks.now) c.args.t c.graphs-graphs.ensures.graphs c.requires.walks c.requires.due

pub start-requires-clause-legal : goal.start-requires-clause-legal
start-requires-clause-legal c =
    let tasks = c.args.set.now.tasks in
    let d = c.demand_misses.ensures c.args.set.now.version tasks c.keep_limits.ensures.limits c.keep_limits.ensures.constrained c.args.t
    (walk_at c.args.walks.now) c.requires.walks c.requires.due c.requires.excess in
    let same : c.as_slice.result.now ≡ all_releases tasks (walk_at c.args.walks.now) (length tasks) = c.as_slice.ensures.value ∙ c.in_ok-releases.ensures tasks c.graphs-graphs.ensures.graphs in
    let given : c.set.result.now.tasks ≡ tasks = ap (λ (s : Contents). s.tasks) c.set.ensures.set in
    subst (λ ts. IsLegal ts c.as_slice.result.now) (sym given) (rw same d.0)

pub start-requires-clause-times : goal.start-requires-clause-times
start-requires-clause-times c =
    let tasks = c.args.set.now.tasks in
    let same : c.as_slice.result.now ≡ all_releases tasks (walk_at c.args.walks.now) (length tasks) = c.as_slice.ensures.value ∙ c.in_ok-releases.ensures tasks c.graphs-graphs.ensures.graphs in
    let kept = rw c.graphs-graphs.ensures.graphs at c.keep_limits-2.ensures in
    let each = c.releases_are_in_range.ensures tasks (walk_at c.args.walks.now) c.args.t kept c.requires.walks c.requires.due c.requires.time in
    rw same (All-weaker IsInRangeRelease (λ r. r.time ≤ 1000000000000000000) (λ r is. is.time) (all_releases tasks (walk_at c.args.walks.now) (length tasks)) each)

pub unreachable-requires : goal.unreachable-requires
unreachable-requires c =
    let tasks = c.args.set.now.tasks in
    let releases = c.in_ok-releases.releases.items in
    let given = ap (λ (s : Contents). s.tasks) c.set.ensures.set in
    let is : c.run_until.new.self ≡ record { policy = Edf; jobs = jobs_of tasks releases; ticks = c.args.t } =
    ran c.set.result.now tasks c.as_slice.result.now releases c.args.t c.in_ok-board.board c.run_until.new.self given c.as_slice.ensures.value c.in_ok-board.ensures c.run_until.ensures in
    let late = some_late c.args.set.now.version tasks c.keep_limits.ensures.limits c.keep_limits.ensures.constrained c.demand_misses.ensures c.args.t
    (walk_at c.args.walks.now) c.requires.walks c.requires.due c.requires.excess releases (c.in_ok-releases.ensures tasks c.graphs-graphs.ensures.graphs)
    c.run_until.new.self is in
    (rw c.in-None.is at c.first_miss-missed.ensures.first) late.0 late.1

pub returns-clause-done : goal.returns-clause-done
returns-clause-done c =
    let tasks = c.args.set.now.tasks in
    let releases = c.in_ok-releases.releases.items in
    let given = ap (λ (s : Contents). s.tasks) c.set.ensures.set in
    let is : c.run_until.new.self ≡ record { policy = Edf; jobs = jobs_of tasks releases; ticks = c.args.t } =
    ran c.set.result.now tasks c.as_slice.result.now releases c.args.t c.in_ok-board.board c.run_until.new.self given c.as_slice.ensures.value c.in_ok-board.ensures c.run_until.ensures in
    rw c.from_vec.ensures
    (missed c.args.set.now.version tasks c.keep_limits.ensures.limits c.keep_limits.ensures.constrained c.demand_misses.ensures c.no_assignment_meets.ensures c.args.t
    (walk_at c.args.walks.now) c.requires.walks c.requires.due c.requires.excess releases (c.in_ok-releases.ensures tasks c.graphs-graphs.ensures.graphs)
    c.run_until.new.self is c.in-Some.miss (rw c.in-Some.is at c.first_miss-missed.ensures.least))

pub returns-clause-range : goal.returns-clause-range
returns-clause-range c =
    let tasks = c.args.set.now.tasks in
    let releases = c.in_ok-releases.releases.items in
    let given = ap (λ (s : Contents). s.tasks) c.set.ensures.set in
    let is : c.run_until.new.self ≡ record { policy = Edf; jobs = jobs_of tasks releases; ticks = c.args.t } =
    ran c.set.result.now tasks c.as_slice.result.now releases c.args.t c.in_ok-board.board c.run_until.new.self given c.as_slice.ensures.value c.in_ok-board.ensures c.run_until.ensures in
    let same = c.in_ok-releases.ensures tasks c.graphs-graphs.ensures.graphs in
    let kept = rw c.graphs-graphs.ensures.graphs at c.keep_limits-2.ensures in
    let all = c.releases_are_in_range.ensures tasks (walk_at c.args.walks.now) c.args.t kept c.requires.walks c.requires.due c.requires.time in
    let each : All IsInRangeRelease releases = rw same all in
    let counted : length releases ≤ 4294967295 = omega (arith, c.if-len-gt4294967295.false, c.len.ensures) in
    let first = rw c.in-Some.is at c.first_miss-missed.ensures.first in
    let named = miss_in_range tasks releases c.args.t c.run_until.new.self c.in-Some.miss is each counted c.requires.time first in
    rw c.from_vec.ensures (record { each = each; counted = counted; named = named })
