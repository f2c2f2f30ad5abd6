-- A set with milder tasks than a schedulable one is schedulable, and a vertex of a schedulable one is done by its deadline.
use Rattle.std.proofs.Common.{◌≡◌, ℕ, zero, suc, ◌+◌, ◌<◌, ◌≤◌, cond, eqb, List, [], ◌∷◌, length, ◌⊎◌, inl, inr, refl, sym, ap, ◌∙◌, arith}
use Rattle.std.proofs.lemmas.Bool.{cases_eq, cases_lt, eq-eqb, ne_eqb}
use Rattle.drt_model.specs.Constrained.{AreConstrained}
use Rattle.drt_model.specs.Digraph.{vertex_count}
use Rattle.drt_model.specs.Limits.{IsTaskSet}
use Rattle.drt_model.specs.Schedulable.{Schedulable}
use Rattle.drt_model.specs.Walk.{span, wcet, work, IsWalk, due_of}
use Rattle.drt_model.specs.declared.jobs.Policy.{Policy}
use Rattle.drt_model.specs.declared.jobs.Policy.TheVariants.{Edf, Fixed}
use Rattle.drt_model.specs.declared.tasks.Task.{Task}
use Rattle.drt_busy.specs.Choice.{AreDueBy, AreWalks, efforts, graph_at, requests, task_at}
use Rattle.drt_busy.proofs.Decide.{deadlines_decide, times_decide}
use Rattle.drt_margin.specs.Margin.{deadline_at, wcet_at}
use Rattle.drt_margin.proofs.Milder.{AreMilder, dues_same, efforts_less, requests_less, walks_same}

-- A set within the limits whose deadlines are constrained.
pub record IsGiven (version : ℕ) (tasks : List Task) : Type 0 where
  pub limits : IsTaskSet version tasks
  pub constrained : AreConstrained tasks

module _ (version : ℕ) (fast slow : List Task) (m : AreMilder fast slow) (quick : IsGiven version fast) (long : IsGiven version slow) where
  -- Under either policy, milder tasks are schedulable where the others are.
  pub milder_schedulable : (policy : Policy) → Schedulable slow policy → Schedulable fast policy
  milder_schedulable Edf is =
      let all = (deadlines_decide version slow long.limits long.constrained).0 is in
      (deadlines_decide version fast quick.limits quick.constrained).1
      (λ t walks are due. (let less = all t walks (walks_same fast slow m walks are) (dues_same fast slow m walks t due) in
      let same : efforts slow walks (length slow) ≡ efforts slow walks (length fast) = ap (efforts slow walks) (sym m.count) in
      omega (arith, less, same, efforts_less fast slow m walks (length fast))))
  milder_schedulable Fixed is =
      let all = (times_decide version slow long.limits long.constrained).0 is in
      (times_decide version fast quick.limits quick.constrained).1
      (λ k v l n walks are. (let found = all k v (omega (arith, m.count)) (omega (arith, (m.graphs k).count)) walks (walks_same fast slow m walks are) in
      (found.0, found.1, omega (arith, found.2, (m.graphs k).deadlines v), room k v walks found.0 found.3)))
    where
      room : (k v : ℕ) (walks : ℕ → List ℕ) (t : ℕ) → wcet (graph_at slow k) v + requests slow walks (task_at slow k).priority (length slow) t ≤ t
          → wcet (graph_at fast k) v + requests fast walks (task_at fast k).priority (length fast) t ≤ t
      room k v walks t fits =
          let p = m.priorities k in
          let n = m.count in
          let same : requests slow walks (task_at slow k).priority (length slow) t ≡ requests slow walks (task_at fast k).priority (length fast) t =
          ap (λ q. requests slow walks q (length slow) t) (sym p) ∙ ap (λ i. requests slow walks (task_at fast k).priority i t) (sym n) in
          omega (arith, fits, same, (m.graphs k).times v, requests_less fast slow m walks (task_at fast k).priority (length fast) t)

module _ (tasks : List Task) (k v : ℕ) (l : k < length tasks) (n : v < vertex_count (graph_at tasks k)) where
  -- The vertex alone, and no walk of another task.
  alone : ℕ → List ℕ
  alone i = cond (eqb i k) (v ∷ []) []

  alone_here : alone k ≡ v ∷ []
  unfolding alone
  alone_here = rw (eq-eqb k k refl) refl

  alone_elsewhere : (i : ℕ) → (i ≡ k → ⊥) → alone i ≡ []
  unfolding alone
  alone_elsewhere i other = rw (ne_eqb i k other) refl

  alone_walks : AreWalks tasks alone
  alone_walks i m = go (cases_eq i k)
    where
      go : (i ≡ k) ⊎ (i ≡ k → ⊥) → IsWalk (graph_at tasks i) (alone i)
      go (inl e) = rw e (rw alone_here (n, tt))
      go (inr other) = rw (alone_elsewhere i other) tt

  due_here : due_of (graph_at tasks k) (v ∷ []) ≤ deadline_at tasks k v
  unfolding span
  due_here = omega arith

  alone_due : AreDueBy tasks alone (deadline_at tasks k v)
  alone_due i m = go (cases_eq i k)
    where
      go : (i ≡ k) ⊎ (i ≡ k → ⊥) → due_of (graph_at tasks i) (alone i) ≤ deadline_at tasks k v
      go (inl e) = rw e (rw alone_here due_here)
      go (inr other) = rw (alone_elsewhere i other) (omega arith)

  work_here : wcet_at tasks k v ≤ work (graph_at tasks k) (alone k)
  unfolding work
  work_here = rw alone_here (omega arith)

  alone_effort : (i : ℕ) → k < i → wcet_at tasks k v ≤ efforts tasks alone i
  unfolding efforts
  alone_effort zero m = absurd (omega arith)
  alone_effort (suc i) m = go (cases_lt k i) (alone_effort i)
    where
      go : (k < i) ⊎ (i ≤ k) → (k < i → wcet_at tasks k v ≤ efforts tasks alone i) → wcet_at tasks k v ≤ efforts tasks alone i + work (graph_at tasks i) (alone i)
      go (inl before) ih = omega (arith, ih before)
      go (inr here) ih = let e : i ≡ k = omega arith in rw e (omega (arith, work_here))

  -- Where the set is schedulable, the vertex can be done by its deadline.
  pub done_in_time : (version : ℕ) → IsGiven version tasks → (policy : Policy) → Schedulable tasks policy → wcet_at tasks k v ≤ deadline_at tasks k v
  done_in_time version is Edf schedulable =
      let all = (deadlines_decide version tasks is.limits is.constrained).0 schedulable in
      omega (arith, all (deadline_at tasks k v) alone alone_walks alone_due, alone_effort (length tasks) l)
  done_in_time version is Fixed schedulable =
      let found = (times_decide version tasks is.limits is.constrained).0 schedulable k v l n (λ _. []) (λ i m. tt) in
      omega (arith, found.2, found.3)
