-- The greatest response and the greatest of the least times.
use Rattle.std.proofs.Common.{inl, inr, ◌≡◌, ℕ, suc, ◌+◌, ◌-◌, ◌<◌, ◌≤◌, List, length, get_or, Some, slice_get, refl, ap, ◌∙◌, subst, arith}
use Rattle.std.proofs.lemmas.Bool.{cases_lt, cases_eq}
use Rattle.std.proofs.lemmas.Option.{slice_get-get_or, slice_get_within, get_or_from_slice_get}
use Rattle.drt_model.specs.declared.jobs.Job.{Job}
use Rattle.drt_model.specs.declared.jobs.Policy.TheVariants.{Fixed}
use Rattle.drt_model.specs.declared.jobs.Release.{Release}
use Rattle.drt_model.specs.declared.tasks.Task.{Task}
use Rattle.drt_model.specs.Constrained.{AreConstrained}
use Rattle.drt_model.specs.Digraph.{vertex_count, no_vertex}
use Rattle.drt_model.specs.Legal.{IsLegal}
use Rattle.drt_model.specs.Limits.{IsTaskSet, IsVertex}
use Rattle.drt_model.specs.Schedulable.{job_of, jobs_of}
use Rattle.drt_model.specs.Trace.{job_at, done, IsFinish}
use Rattle.drt_model.specs.Walk.{wcet}
use Rattle.drt_model.proofs.JobLemmas.{no_release, known, job_at-jobs_of}
use Rattle.drt_model.proofs.LegalLemmas.{allowed_if_legal}
use Rattle.drt_model.proofs.MachineLemmas.{done-le-need, done_unreleased}
use Rattle.drt_busy.specs.Choice.{AreWalks, graph_at, no_task, requests, task_at}
use Rattle.drt_busy.specs.Needs.{needs, is_above}
use Rattle.drt_busy.specs.WalkReleases.{all_releases, release_at, with_job}
use Rattle.drt_busy.proofs.Busy.{demand}
use Rattle.drt_busy.proofs.Fixed.{AreEarlierDone, is_higher, late_overload}
use Rattle.drt_busy.proofs.FirstMiss.{earlier_done}
use Rattle.drt_busy.proofs.FixedWalks.{walk_from, are_walks, needs_request, priority_here}
use Rattle.drt_busy.proofs.Laws.{above_work, last_tick, higher_work}
use Rattle.drt_busy.proofs.Overload.{finish_fits}
use Rattle.drt_busy.proofs.Decide.{with_walks, with_requests, with_member}
use Rattle.drt_busy.proofs.WalkReleases.{releases_above, releases_legal}
use Rattle.drt_busy.specs.Response.{MeetsDeadlines, IsJobOf, FinishesWithin, IsResponse, IsGreatestResponse, load, IsLeastFit, FitsWithin, IsGreatestFit, ResponseDecides, reaching, ReleasesReach, CutsAreReleases}
use Rattle.drt_busy.proofs.Cuts.{cut_walks, are_cut, cut_sums, cut_releases}

module _ (version : ℕ) (tasks : List Task) (ok : IsTaskSet version tasks) (constrained : AreConstrained tasks) (k v : ℕ) (h : k < length tasks)
    (here : v < vertex_count (graph_at tasks k)) (meets : MeetsDeadlines tasks k) where
  -- a job that lacks ticks m ticks after its release: the walks of what is released in the busy time leave no room up to m
  module _ (rs : List Release) (legal : IsLegal tasks rs) (j : ℕ) (r : Release) (of : IsJobOf rs k v j r) where
    pub within : j < length rs
    within = slice_get_within rs j r of.at

    pub release_is : get_or rs j no_release ≡ r
    release_is = get_or_from_slice_get rs j r no_release of.at

    pub job_is : job_at (jobs_of tasks rs) j ≡ job_of tasks r
    job_is = job_at-jobs_of tasks rs j within ∙ ap (job_of tasks) release_is

    priority_is : (job_at (jobs_of tasks rs) j).priority ≡ (task_at tasks k).priority
    priority_is = ap (λ (x : Job). x.priority) job_is ∙ priority_here tasks k h 0 0 0 r of.task

    earlier : AreEarlierDone (jobs_of tasks rs) j
    earlier = earlier_done version tasks ok constrained rs legal j within (λ i lt same miss.
        (let e : (job_at (jobs_of tasks rs) i).task ≡ k = ap (λ (x : Job). x.task) (job_at-jobs_of tasks rs i (omega (arith, within))) ∙ (same ∙ (ap (λ (x : Release). x.task) release_is ∙ of.task)) in
        meets rs legal i (omega (arith, within)) e miss))

    -- what is known of the release
    need_le : (1 ≤ r.need) × (r.need ≤ wcet (graph_at tasks k) v)
    need_le =
        let known_r = known tasks (get_or rs j no_release) (allowed_if_legal tasks rs legal j no_release within) in
        let kr = subst (λ (x : Release). slice_get tasks x.task ≡ Some known_r.task) release_is known_r.is_task in
        let found : slice_get tasks k ≡ Some known_r.task = subst (λ n. slice_get tasks n ≡ Some known_r.task) of.task kr in
        let task : task_at tasks k ≡ known_r.task = get_or_from_slice_get tasks k known_r.task no_task found in
        let vr = subst (λ (x : Release). slice_get known_r.task.vertices x.vertex ≡ Some known_r.vertex) release_is known_r.is_vertex in
        let vertex_at : slice_get known_r.task.vertices v ≡ Some known_r.vertex = subst (λ n. slice_get known_r.task.vertices n ≡ Some known_r.vertex) of.vertex vr in
        let vertex = ap (λ (t : Task). get_or t.vertices v no_vertex) task ∙ get_or_from_slice_get known_r.task.vertices v known_r.vertex no_vertex vertex_at in
        let need = ap (λ (x : Release). x.need) release_is in
        (omega (arith, known_r.some_need, need), omega (arith, known_r.need, need, ap (λ x. x.wcet) vertex))

    pub late_walks : (m : ℕ) → done Fixed (jobs_of tasks rs) j (r.time + m) < r.need → (walks : ℕ → List ℕ) × AreWalks tasks walks × ((t : ℕ) → 1 ≤ t → t ≤ m → t < load tasks walks k v t)
    late_walks m lacks =
        let jobs = jobs_of tasks rs in
        let time : (job_at jobs j).time ≡ r.time = ap (λ (x : Job). x.time) job_is in
        let need : (job_at jobs j).need ≡ r.need = ap (λ (x : Job). x.need) job_is in
        let lacks' : done Fixed jobs j (r.time + m) < (job_at jobs j).need = omega arith in
        let (s, low, f) = late_overload jobs j (r.time + m) earlier lacks' in (
          walk_from version tasks ok constrained rs legal s,
          are_walks version tasks ok constrained rs legal s,
          (λ t one le.
              (let over = above_work jobs j s t (f t one (omega arith)) in
              let asks = needs_request version tasks ok constrained rs legal (job_at jobs j).priority s (s + t) in
              let back : (s + t) - s ≡ t = omega arith in
              let asks' = rw (back, priority_is) at asks in
              let over' = rw priority_is at over in
              omega (arith, over', asks', need, need_le.1))),
        )

  -- where some time up to n has room for all walks, each job of the vertex is done n ticks after its release
  pub finishes : (n : ℕ) → ((walks : ℕ → List ℕ) → AreWalks tasks walks → FitsWithin tasks walks k v n) → FinishesWithin tasks k v n
  finishes n most rs legal j r of = elim (cases_lt (done Fixed (jobs_of tasks rs) j (r.time + n)) r.need) [
    | inr had ↦ had
    | inl lacks ↦ absurd (
        let (walks, are, none) = late_walks rs legal j r of n lacks in
        let (t, one, le, fits) = most walks are in
        let over = none t one le in
        omega arith
        )
  ]

  -- the releases of walks, and the job at 0
  module _ (walks : ℕ → List ℕ) (are : AreWalks tasks walks) where
    abbrev all_of : List Release
    all_of = all_releases tasks (with_job tasks walks k v) (length tasks)

    pub reach_legal : IsLegal tasks all_of
    reach_legal = releases_legal version tasks ok (with_job tasks walks k v) (with_walks tasks walks k v are here)

    pub reach_job : (j : ℕ) × (slice_get all_of j ≡ Some (release_at (graph_at tasks k) k 0 v))
    reach_job =
        let (j, l, at) = with_member tasks walks k v (length tasks) h in
        let r = release_at (graph_at tasks k) k 0 v in
        (j, slice_get-get_or all_of j r l ∙ ap (λ (x : Release). Some x) at)

    some_wcet : 1 ≤ wcet (graph_at tasks k) v
    some_wcet = let vertex : IsVertex (get_or (task_at tasks k).vertices v no_vertex) = (ok.each k no_task h).vertices v no_vertex here in vertex.wcet.0

    -- what the higher jobs of these releases need
    higher_needs : (j t : ℕ) → slice_get all_of j ≡ Some (release_at (graph_at tasks k) k 0 v)
        → needs (is_above (job_at (jobs_of tasks all_of) j).priority 0 t) (jobs_of tasks all_of) ≡ requests tasks walks (task_at tasks k).priority (length tasks) t
    higher_needs j t at =
        let of : IsJobOf all_of k v j (release_at (graph_at tasks k) k 0 v) = record { at = at; task = refl; vertex = refl } in
        let e : (job_at (jobs_of tasks all_of) j).priority ≡ (task_at tasks k).priority = ap (λ (x : Job). x.priority)
        (job_is all_of reach_legal j (release_at (graph_at tasks k) k 0 v) of) ∙ priority_here tasks k h 0 0 0 (release_at (graph_at tasks k) k 0 v) refl in
        ap (λ p. needs (is_above p 0 t) (jobs_of tasks all_of)) e
        ∙ (releases_above version tasks ok (with_job tasks walks k v) (with_walks tasks walks k v are here) (task_at tasks k).priority t ∙ with_requests tasks walks k v (length tasks) t)

    -- a job that has had its need after m ticks shows a time up to m that has room
    pub finish_shows : (j m : ℕ) → slice_get all_of j ≡ Some (release_at (graph_at tasks k) k 0 v) → wcet (graph_at tasks k) v ≤ done Fixed (jobs_of tasks all_of) j m → FitsWithin tasks walks k v m
    finish_shows j m at had =
        let jobs = jobs_of tasks all_of in
        let of : IsJobOf all_of k v j (release_at (graph_at tasks k) k 0 v) = record { at = at; task = refl; vertex = refl } in
        let need : (job_at jobs j).need ≡ wcet (graph_at tasks k) v = ap (λ (x : Job). x.need) (job_is all_of reach_legal j (release_at (graph_at tasks k) k 0 v) of) in
        let (n, lt, e, last) = last_tick Fixed jobs j m (omega (arith, some_wcet)) (omega arith) in
        let fits = finish_fits jobs j n e last in
        let demands : demand Fixed jobs (is_higher jobs j) (length jobs) 0 (suc n) ≡ needs (is_above (job_at jobs j).priority 0 (suc n)) jobs = higher_work jobs j (suc n) in
        let asks = higher_needs j (suc n) at in
        (suc n, omega arith, omega arith, omega (arith, fits, demands, asks, need))

    -- where n has room, the job has had its need after n ticks
    pub room_finishes : (j n : ℕ) → slice_get all_of j ≡ Some (release_at (graph_at tasks k) k 0 v) → 1 ≤ n → load tasks walks k v n ≤ n
        → wcet (graph_at tasks k) v ≤ done Fixed (jobs_of tasks all_of) j n
    room_finishes j n at one fits = elim (cases_lt (done Fixed (jobs_of tasks all_of) j n) (wcet (graph_at tasks k) v)) [
      | inr had ↦ had
      | inl lacks ↦ absurd (
          let jobs = jobs_of tasks all_of in
          let of : IsJobOf all_of k v j (release_at (graph_at tasks k) k 0 v) = record { at = at; task = refl; vertex = refl } in
          let job = job_is all_of reach_legal j (release_at (graph_at tasks k) k 0 v) of in
          let need : (job_at jobs j).need ≡ wcet (graph_at tasks k) v = ap (λ (x : Job). x.need) job in
          let time : (job_at jobs j).time ≡ 0 = ap (λ (x : Job). x.time) job in
          let (s, low, f) = late_overload jobs j n (earlier all_of reach_legal j (release_at (graph_at tasks k) k 0 v) of) (omega arith) in
          let start : s ≡ 0 = omega arith in
          let over = above_work jobs j s n (f n one (omega arith)) in
          let over' : n < (job_at jobs j).need + needs (is_above (job_at jobs j).priority 0 (0 + n)) jobs = rw start at over in
          let zero_n : 0 + n ≡ n = omega arith in
          let over'' : n < (job_at jobs j).need + needs (is_above (job_at jobs j).priority 0 n) jobs = rw zero_n at over' in
          let asks = higher_needs j n at in
          omega (arith, over'', asks, need)
          )
    ]

    -- so it finishes at the least time that has room
    pub reach_finish : (j n : ℕ) → slice_get all_of j ≡ Some (release_at (graph_at tasks k) k 0 v) → IsLeastFit tasks walks k v n → IsFinish Fixed (jobs_of tasks all_of) j n
    reach_finish j n at least =
        let jobs = jobs_of tasks all_of in
        let of : IsJobOf all_of k v j (release_at (graph_at tasks k) k 0 v) = record { at = at; task = refl; vertex = refl } in
        let need : (job_at jobs j).need ≡ wcet (graph_at tasks k) v = ap (λ (x : Job). x.need) (job_is all_of reach_legal j (release_at (graph_at tasks k) k 0 v) of) in
        let had = room_finishes j n at least.from least.fits in
        record {
          reached = (let most = done-le-need Fixed jobs j n in omega arith);
          least = λ m e.
              (let (t, one, le, fits) = finish_shows j m at (omega arith) in
              let low = least.least t one fits in
              omega arith);
        }

  -- the response of some walks
  pub reaches : (walks : ℕ → List ℕ) → AreWalks tasks walks → (n : ℕ) → IsLeastFit tasks walks k v n → (rs : List Release) × IsResponse tasks k v n rs
  reaches walks are n least =
      let (j, at) = reach_job walks are in (
        all_releases tasks (with_job tasks walks k v) (length tasks),
        record {
          legal = reach_legal walks are;
          job = j;
          release = release_at (graph_at tasks k) k 0 v;
          of_vertex = record { at = at; task = refl; vertex = refl };
          finish = (let e : 0 + n ≡ n = omega arith in rw e (reach_finish walks are j n at least));
        },
      )

  pub from_fit : (n : ℕ) → IsGreatestFit tasks k v n → IsGreatestResponse tasks k v n
  from_fit n fit =
      let (rs, response) = reaches fit.walks fit.are n fit.least in
      record { releases = rs; reached = response; most = finishes n fit.most }

  -- where each job finishes within n ticks, each choice of walks has room by n
  all_fit : (n : ℕ) → FinishesWithin tasks k v n → (walks : ℕ → List ℕ) → AreWalks tasks walks → FitsWithin tasks walks k v n
  all_fit n most walks are =
      let (j, at) = reach_job walks are in
      let had = most (all_releases tasks (with_job tasks walks k v) (length tasks)) (reach_legal walks are) j (release_at (graph_at tasks k) k 0 v) (record { at = at; task = refl; vertex = refl }) in
      let e : 0 + n ≡ n = omega arith in
      finish_shows walks are j n at (rw e at had)

  -- a job that finishes exactly n ticks after its release shows walks that have no room before n
  shown_walks : (n : ℕ) (rs : List Release) → IsResponse tasks k v n rs → (walks : ℕ → List ℕ) × AreWalks tasks walks × ((t : ℕ) → 1 ≤ t → t < n → t < load tasks walks k v t)
  shown_walks n rs response =
      let jobs = jobs_of tasks rs in
      let j = response.job in
      let r = response.release in
      let job = job_is rs response.legal j r response.of_vertex in
      let need : (job_at jobs j).need ≡ r.need = ap (λ (x : Job). x.need) job in
      let time : (job_at jobs j).time ≡ r.time = ap (λ (x : Job). x.time) job in
      let some = (need_le rs response.legal j r response.of_vertex).0 in
      let reached : done Fixed jobs j (r.time + n) ≡ (job_at jobs j).need = response.finish.reached in
      elim (cases_eq n 0) [
        | inl z ↦ absurd (
            let none = done_unreleased Fixed jobs j (r.time + n) (omega arith) in
            omega arith
            )
        | inr ne ↦ (
            let lacks : done Fixed jobs j (r.time + (n - 1)) < r.need = elim (cases_lt (done Fixed jobs j (r.time + (n - 1))) r.need) [
              | inl lt ↦ lt
              | inr had ↦ absurd (
                  let le = done-le-need Fixed jobs j (r.time + (n - 1)) in
                  let early = response.finish.least (r.time + (n - 1)) (omega arith) in
                  omega arith
                  )
            ] in
            let (walks, are, none) = late_walks rs response.legal j r response.of_vertex (n - 1) lacks in
            (walks, are, λ t one lt. none t one (omega arith))
            )
      ]

  pub to_fit : (n : ℕ) → IsGreatestResponse tasks k v n → IsGreatestFit tasks k v n
  to_fit n greatest =
      let most = all_fit n greatest.most in
      let (walks, are, none) = shown_walks n greatest.releases greatest.reached in
      let (t, one, le, fits) = most walks are in
      let at : t ≡ n = elim (cases_lt t n) [
        | inl lt ↦ absurd (let over = none t one lt in omega arith)
        | inr ge ↦ omega arith
      ] in
      record {
        walks = walks;
        are = are;
        least = record {
          from = omega arith;
          fits = rw at at fits;
          least = λ u one' fits'. elim (cases_lt u n) [
            | inl lt ↦ absurd (let over = none u one' lt in omega arith)
            | inr ge ↦ ge
          ];
        };
        most = most;
      }

  -- the same with the walks cut at n
  cut_load : (walks : ℕ → List ℕ) (n t : ℕ) → t ≤ n → load tasks (cut_walks tasks walks n) k v t ≡ load tasks walks k v t
  cut_load walks n t le = ap (λ x. wcet (graph_at tasks k) v + x) (cut_sums tasks walks n (task_at tasks k).priority (length tasks) t le)

  cut_least : (walks : ℕ → List ℕ) (n : ℕ) → IsLeastFit tasks walks k v n → IsLeastFit tasks (cut_walks tasks walks n) k v n
  cut_least walks n least = record {
    from = least.from;
    fits = (let e = cut_load walks n n (omega arith) in let f = least.fits in omega arith);
    least = λ t one fits. elim (cases_lt t n) [
      | inl lt ↦ (let e = cut_load walks n t (omega arith) in least.least t one (omega arith))
      | inr ge ↦ ge
    ];
  }

  pub reach_cut : (walks : ℕ → List ℕ) → AreWalks tasks walks → (n : ℕ) → IsLeastFit tasks walks k v n
      → IsLegal tasks (reaching tasks walks k v n)
      × ((j : ℕ) × (slice_get (reaching tasks walks k v n) j ≡ Some (release_at (graph_at tasks k) k 0 v)) × IsFinish Fixed (jobs_of tasks (reaching tasks walks k v n)) j n)
  reach_cut walks are n least =
      let cut_are = are_cut tasks walks n are in
      let (j, at) = reach_job (cut_walks tasks walks n) cut_are in
      (reach_legal (cut_walks tasks walks n) cut_are, (j, at, reach_finish (cut_walks tasks walks n) cut_are j n at (cut_least walks n least)))

pub response_decides : ResponseDecides
response_decides version tasks ok constrained k v h here meets n =
    ((λ greatest. to_fit version tasks ok constrained k v h here meets n greatest), (λ fit. from_fit version tasks ok constrained k v h here meets n fit))

pub releases_reach : ReleasesReach
releases_reach version tasks ok constrained k v h here meets walks are n least = reach_cut version tasks ok constrained k v h here meets walks are n least

pub cuts_are_releases : CutsAreReleases
cuts_are_releases version tasks ok k t h one walks are = cut_releases (graph_at tasks k) k t (walks k) one
