-- The digraphs of a classic set release its classic lists, and no others.
use Rattle.std.proofs.Common.{◌≡◌, ◌↔◌, ℕ, zero, suc, ◌+◌, ◌<◌, ◌≤◌, List, [], ◌∷◌, length, get_or, refl, sym, ap, ◌∙◌, subst, arith, Some, All, slice_get}
use Rattle.drt_model.specs.declared.jobs.Release.{Release}
use Rattle.drt_model.specs.declared.tasks.Task.{Task}
use Rattle.drt_model.specs.Legal.{IsLegalPart, IsLegal, part_of}
use Rattle.drt_classic.specs.declared.classic.Classic.{Classic}
use Rattle.drt_classic.specs.ClassicLegal.{IsClassicPart, IsClassicList}
use Rattle.drt_classic.specs.ClassicLaws.{ReleasesAgree}
use Rattle.drt_classic.specs.Digraphs.{digraph_of_classic, tasks_from}
use Rattle.drt_classic.proofs.Follow.{step_of_edge, edge_of_step, release_there, release_again}

part_there : (p : ℕ) (t : Classic) (rs : List Release) → IsLegalPart (digraph_of_classic p t) rs → IsClassicPart t rs
part_there p t rs h = record {
  each = λ k d lt. release_there p t (get_or rs k d) (h.each k d lt);
  steps = λ i d lt. step_of_edge p t (get_or rs i d) (get_or rs (i + 1) d) (h.steps i d lt);
}

part_again : (p : ℕ) (t : Classic) (rs : List Release) → IsClassicPart t rs → IsLegalPart (digraph_of_classic p t) rs
part_again p t rs h = record {
  each = λ k d lt. release_again p t (get_or rs k d) (h.each k d lt);
  steps = λ i d lt. edge_of_step p t (get_or rs i d) (get_or rs (i + 1) d) (h.each i d (omega (arith, lt))) (h.each (i + 1) d lt) (h.steps i d lt);
}

pub as_many : (p : ℕ) (ts : List Classic) → length (tasks_from p ts) ≡ length ts
unfolding tasks_from
as_many p [] = refl
as_many p (t ∷ ts) = ap suc (as_many (p + 1) ts)

-- The digraph at a place is that of the task there.
pub digraph_at : (p : ℕ) (ts : List Classic) (k : ℕ) (t : Classic) → slice_get ts k ≡ Some t → slice_get (tasks_from p ts) k ≡ Some (digraph_of_classic (p + k) t)
unfolding tasks_from
digraph_at p [] k t e = absurd (cc)
digraph_at p (u ∷ ts) zero t e =
    let z : p + 0 ≡ p = omega arith in
    let same : u ≡ t = cc in
    rw (z, same) refl
digraph_at p (u ∷ ts) (suc k) t e =
    let z : p + suc k ≡ p + 1 + k = omega arith in
    digraph_at (p + 1) ts k t e ∙ ap (λ n. Some (digraph_of_classic n t)) (sym z)

pub record TaskAt (p : ℕ) (ts : List Classic) (k : ℕ) (digraph : Task) : Type 0 where
  pub task : Classic
  pub at : slice_get ts k ≡ Some task
  pub is : digraph ≡ digraph_of_classic (p + k) task

pub task_at : (p : ℕ) (ts : List Classic) (k : ℕ) (g : Task) → slice_get (tasks_from p ts) k ≡ Some g → TaskAt p ts k g
unfolding tasks_from
task_at p [] k g e = absurd (cc)
task_at p (u ∷ ts) zero g e =
    let z : p + 0 ≡ p = omega arith in
    let same : digraph_of_classic p u ≡ g = cc in
    record { task = u; at = refl; is = sym same ∙ ap (λ n. digraph_of_classic n u) (sym z) }
task_at p (u ∷ ts) (suc k) g e =
    let r = task_at (p + 1) ts k g e in
    let z : p + suc k ≡ p + 1 + k = omega arith in
    record { task = r.task; at = r.at; is = r.is ∙ ap (λ n. digraph_of_classic n r.task) (sym z) }

pub releases_agree : ReleasesAgree
releases_agree tasks rs = (there, again)
  where
    there : IsLegal (tasks_from 1 tasks) rs → IsClassicList tasks rs
    there h = record {
      of_tasks = subst (λ n. All (λ r. r.task < n) rs) (as_many 1 tasks) h.of_tasks;
      in_order = h.in_order;
      parts = λ k t e. part_there (1 + k) t (part_of k rs) (h.parts k (digraph_of_classic (1 + k) t) (digraph_at 1 tasks k t e));
    }

    again : IsClassicList tasks rs → IsLegal (tasks_from 1 tasks) rs
    again h = record {
      of_tasks = subst (λ n. All (λ r. r.task < n) rs) (sym (as_many 1 tasks)) h.of_tasks;
      in_order = h.in_order;
      parts = λ k g e. let r = task_at 1 tasks k g e in subst (λ g. IsLegalPart g (part_of k rs)) (sym r.is) (part_again (1 + k) r.task (part_of k rs) (h.parts k r.task r.at));
    }
