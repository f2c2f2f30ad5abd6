-- The greatest of the least times over all tuples of leaves is the greatest response, and the walks of its tuple reach it.
use Rattle.std.proofs.Common.{inl, inr, ◌≡◌, ℕ, ◌+◌, ◌<◌, ◌≤◌, eqb, ltb, List, [], ◌∷◌, length, Some, slice_get, refl, sym, ap, ◌∙◌, subst, arith}
use Rattle.std.proofs.lemmas.Bool.{cases_Bool, cases_lt}
use Rattle.std.proofs.lemmas.Option.{get_or_from_slice_get, slice_get_within}
use Rattle.drt_model.specs.declared.jobs.Release.{Release}
use Rattle.drt_model.specs.declared.tasks.Task.{Task}
use Rattle.drt_model.specs.Digraph.{Digraph}
use Rattle.drt_model.specs.Walk.{deadline, gap, wcet}
use Rattle.drt_busy.specs.Choice.{AreWalks, graph_at, requests, task_at}
use Rattle.drt_busy.specs.Decide.{TimesSufficeForTask}
use Rattle.drt_busy.specs.Response.{FitsWithin, IsGreatestFit, IsLeastFit, MeetsDeadlines, ReleasesReach, ResponseDecides, reaching}
use Rattle.drt_busy.specs.WalkReleases.{all_releases, with_job}
use Rattle.drt_steps.specs.Time.{sum_at}
use Rattle.drt_tree.specs.Tree.{Plain, walk}
use Rattle.drt_refine.specs.Below.{AreBelow}
use Rattle.drt_sp.specs.Choices.{chosen}
use Rattle.drt_busy.specs.Response.{cut, cut_from}
use Rattle.drt_sp.specs.ChoiceLaws.{IsPosed, LeavesRespond, WalksPass, leaf_releases, AreReachingReleases}
use Rattle.drt_sp.proofs.Asked.{requests_asked}
use Rattle.drt_sp.proofs.ChosenLeaves.{below_length, chosen_asked, chosen_walks}
use Rattle.drt_sp.proofs.Covered.{covering, order_within}

-- a walk that was cut is cut
cut_from_again : (g : Digraph) (d x u : ℕ) (vs : List ℕ) → cut_from g d x u (cut_from g d x u vs) ≡ cut_from g d x u vs
unfolding cut_from
cut_from_again g d x u [] = refl
cut_from_again g d x u (v ∷ vs) = elim (cases_Bool (ltb (x + gap g u v) d)) [
  | inl early ↦ rw early (rw early (ap (λ ws. v ∷ ws) (cut_from_again g d (x + gap g u v) v vs)))
  | inr late ↦ rw late refl
]

cut_again : (g : Digraph) (d : ℕ) (w : List ℕ) → cut g d (cut g d w) ≡ cut g d w
cut_again g d [] = refl
cut_again g d (u ∷ vs) = ap (λ ws. u ∷ ws) (cut_from_again g d 0 u vs)

chosen_again : (tasks : List Task) (f : Plain) (d : ℕ) (order tuple : List ℕ) (k : ℕ) → cut (graph_at tasks k) d (chosen tasks f d order tuple k) ≡ chosen tasks f d order tuple k
unfolding chosen
chosen_again tasks f d order [] k = refl
chosen_again tasks f d [] (leaf ∷ tuple) k = refl
chosen_again tasks f d (j ∷ order) (leaf ∷ tuple) k = elim (cases_Bool (eqb j k)) [
  | inl here ↦ rw here (cut_again (graph_at tasks k) d (walk f leaf))
  | inr later ↦ rw later (chosen_again tasks f d order tuple k)
]

-- The walks that a tuple of leaves names have its releases.
pub reaching_leaves : (tasks : List Task) (f : Plain) (order tuple : List ℕ) (k v d : ℕ) → reaching tasks (chosen tasks f d order tuple) k v d ≡ leaf_releases tasks f order tuple k v d
reaching_leaves tasks f order tuple k v d =
    let same : (λ i. cut (graph_at tasks i) d (chosen tasks f d order tuple i)) ≡ chosen tasks f d order tuple = λ n i. chosen_again tasks f d order tuple i n in
    ap (λ (ws : ℕ → List ℕ). all_releases tasks (with_job tasks ws k v) (length tasks)) same

module _ (version : ℕ) (tasks : List Task) (order : List ℕ) (bound : ℕ) (f : Plain) (roots : List ℕ) (k v : ℕ) (posed : IsPosed version tasks order bound f roots k v) where
  -- the walks that a tuple names, cut at a time up to the bound, ask for what the tuple does
  asks_same : (d t : ℕ) (tuple : List ℕ) → AreBelow f tuple roots → 1 ≤ t → t ≤ d → t ≤ bound
      → requests tasks (chosen tasks f d order tuple) (task_at tasks k).priority (length tasks) t ≡ sum_at f.pool tuple t
  asks_same d t tuple below one by near =
      let at' : slice_get order (length tuple) ≡ Some k = subst (λ n. slice_get order n ≡ Some k) (sym (below_length f tuple roots below)) posed.subject.at in
      requests_asked tasks (chosen tasks f d order tuple) order tuple k t posed.order_is at' ∙ chosen_asked tasks f d bound order roots tuple posed.order_is.rising posed.trees below t one by near

  pub task_within : k < length tasks
  task_within =
      let at = posed.subject.at in
      subst (λ x. x < length tasks) (get_or_from_slice_get order (length roots) k k at) (order_within tasks order posed.order_is (length roots) k (slice_get_within order (length roots) k at))

pub walks_pass : WalksPass
walks_pass version tasks order bound f roots k v posed passes tuple below =
    let d = deadline (graph_at tasks k) v in
    let (t, one, by, fits) = passes (chosen tasks f d order tuple) (chosen_walks tasks f d bound order roots tuple posed.trees below) in
    let same = asks_same version tasks order bound f roots k v posed d t tuple below one by (omega (arith, by, posed.subject.near)) in
    (t, record { from = one; to = by; passes = omega (arith, same, fits) })

pub leaves_respond : ResponseDecides → ReleasesReach → TimesSufficeForTask → LeavesRespond
leaves_respond decides reach suffice version tasks order bound f roots k v posed constrained passes tuple n greatest =
    let g = graph_at tasks k in
    let h : k < length tasks = task_within version tasks order bound f roots k v posed in
    let meets : MeetsDeadlines tasks k = λ rs legal j here of. suffice version tasks posed.limits constrained k passes rs legal j here of in
    let walks = chosen tasks f n order tuple in
    let are = chosen_walks tasks f n bound order roots tuple posed.trees greatest.below in
    let to : n ≤ deadline g v = greatest.least.passes.to in
    let near : deadline g v ≤ bound = posed.subject.near in
    let same = λ (t : ℕ) (one : 1 ≤ t) (by : t ≤ n). asks_same version tasks order bound f roots k v posed n t tuple greatest.below one by (omega arith) in
    let least : IsLeastFit tasks walks k v n = record {
      from = greatest.least.passes.from;
      fits = omega (arith, same n greatest.least.passes.from (omega arith), greatest.least.passes.passes);
      least = λ t one fits. elim (cases_lt t n) [
        | inl lt ↦ greatest.least.least t (record { from = one; to = omega arith; passes = omega (arith, same t one (omega arith), fits) })
        | inr le ↦ le
      ];
    } in
    let most : (others : ℕ → List ℕ) → AreWalks tasks others → FitsWithin tasks others k v n = λ others all.
    (let (other, below, more) = covering tasks others all bound f order roots (order_within tasks order posed.order_is) posed.trees in
    let (t, p, by) = greatest.most other below in
    let asked = requests_asked tasks others order roots k t posed.order_is posed.subject.at in
    let enough = more t p.from (omega (arith, p.to, near)) in
    (t, p.from, by, omega (arith, asked, enough, p.passes))) in
    let fit : IsGreatestFit tasks k v n = record { walks = walks; are = are; least = least; most = most } in
    let (legal, (job, here, finish)) = reach version tasks posed.limits constrained k v h posed.subject.vertex meets walks are n least in
    let shown : AreReachingReleases tasks k v n (reaching tasks walks k v n) = record { legal = legal; job = job; here = here; finish = finish } in
    ((decides version tasks posed.limits constrained k v h posed.subject.vertex meets n).1 fit, subst (AreReachingReleases tasks k v n) (reaching_leaves tasks f order tuple k v n) shown)
