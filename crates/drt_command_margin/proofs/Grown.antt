-- The margin of a set is that of the verdict.
use Rattle.std.proofs.Common.{◌≡◌, ℕ, ◌+◌, List, ◌++◌, codes, get_or, set, sym, ap, ◌∙◌, subst}
use Rattle.std.specs.Prelude.{decimal}
use Rattle.std.proofs.lemmas.Option.{get_or_from_slice_get}
use Rattle.drt_model.specs.Contents.{Contents}
use Rattle.drt_model.specs.Digraph.{no_vertex}
use Rattle.drt_model.specs.declared.jobs.Policy.{Policy}
use Rattle.drt_model.specs.declared.tasks.Task.{Task}
use Rattle.drt_model.specs.declared.tasks.Vertex.{Vertex}
use Rattle.drt_busy.specs.Choice.{no_task, task_at}
use Rattle.drt_margin.specs.Margin.{IsMargin, IsWithinMargin, plus, timed, timed_task, timed_tasks}
use Rattle.drt_command_files.proofs.AtOneLemmas.{below_one_of, below_scale_of}
use Rattle.drt_command_files.specs.Spots.{IsSpot}
use Rattle.drt_command_margin.specs.Verdict.{AreWithin, IsMarginText, grown_tasks}

-- The tasks with more of a vertex that stands there.
more_of : (tasks : List Task) (k v c : ℕ) (t : Task) (x : Vertex) → task_at tasks k ≡ t → get_or t.vertices v no_vertex ≡ x
    → plus tasks k v c ≡ grown_tasks tasks k t v x c
unfolding timed_tasks
more_of tasks k v c t x at there =
    ap (λ (s : Task). set tasks k (timed_task s v ((get_or s.vertices v no_vertex).wcet + c))) at
    ∙ ap (λ (xs : List Vertex). set tasks k (record { name = t.name; priority = t.priority; vertices = xs; edges = t.edges }))
    (ap (λ (y : Vertex). set t.vertices v (timed y (y.wcet + c))) there)

-- The tasks with more of a named vertex.
plus_is : (tasks : List Task) (task vertex : List ℕ) (k v c : ℕ) (s : IsSpot tasks task vertex k v)
    → plus tasks k v c ≡ grown_tasks tasks k s.of v s.at c
plus_is tasks task vertex k v c s =
    more_of tasks k v c s.of s.at (get_or_from_slice_get tasks k s.of no_task s.task_is.here)
    (get_or_from_slice_get s.of.vertices v s.at no_vertex s.vertex_is.here)

-- A number within the margin is one with which the tasks are within, and back.
are_within : (policy : Policy) (set : Contents) (k v c : ℕ) → IsWithinMargin set policy k v c → AreWithin policy set.version (plus set.tasks k v c)
are_within policy set k v c w = record {
  limits = w.limits;
  schedulable = w.schedulable;
  below_one = λ is. (let b = w.below_one is in below_one_of set.version (plus set.tasks k v c) w.limits.each b.0 b.1);
}

within_back : (policy : Policy) (set : Contents) (k v c : ℕ) → AreWithin policy set.version (plus set.tasks k v c) → IsWithinMargin set policy k v c
within_back policy set k v c w = record {
  limits = w.limits;
  schedulable = w.schedulable;
  below_one = λ is. below_scale_of set.version (plus set.tasks k v c) w.limits.each (w.below_one is);
}

-- So the text that says the margin says that of the verdict.
pub text_of : (policy : Policy) (set : Contents) (task vertex : List ℕ) (k v add : ℕ) (s : IsSpot set.tasks task vertex k v) (rest text : List ℕ)
    → IsMargin set policy k v add
    → text ≡ codes "drt-margin 1\nadd " ++ (decimal add ++ (codes "\nwithin\n" ++ rest))
    → IsMarginText policy set.version (grown_tasks set.tasks k s.of v s.at) text
text_of policy set task vertex k v add s rest text margin is = record {
  add = add;
  within = subst (AreWithin policy set.version) (plus_is set.tasks task vertex k v add s) (are_within policy set k v add margin.within);
  greatest = λ more w.
      margin.greatest more
      (within_back policy set k v more (subst (AreWithin policy set.version) (sym (plus_is set.tasks task vertex k v more s)) w));
  rest = rest;
  is = is;
}
