-- The verdict of `response`: the greatest response time of each vertex under fixed priorities.
use Rattle.std.specs.Prelude.{◌≡◌, ℕ, ◌+◌, ◌⊎◌, List, [], ◌∷◌, ◌++◌, All, length, map, filter, slice_index_or, codes, bytes_eq, decimal}
use Rattle.std.specs.List.{range_with_len}
use Rattle.drt_model.specs.Contents.{Contents}
use Rattle.drt_model.specs.declared.tasks.Task.{Task}
use Rattle.drt_model.specs.declared.jobs.Policy.TheVariants.{Fixed}
use Rattle.drt_model.specs.Schedulable.{Schedulable}
use Rattle.drt_busy.specs.Response.{IsGreatestResponse}
use Rattle.drt_file.specs.trusted.Line.{said}
use Rattle.drt_command.specs.declared.report.Report.{Report}
use Rattle.drt_command_files.specs.TaskFiles.{IsAccepted}
use Rattle.drt_command_files.specs.Verdicts.{IsAbout}

-- The vertices of tasks, of which the first has the number k, in order: each by the numbers of its task and of itself.
abbrev pub vertices_in_order : ℕ → List Task → List (ℕ × ℕ)
vertices_in_order k [] = []
vertices_in_order k (t ∷ tasks) = map (λ v. (k, v)) (range_with_len 0 (length t.vertices)) ++ vertices_in_order (k + 1) tasks

-- The set is schedulable, and each vertex of each task has a greatest response time. The lines of the text whose first field is `response` are, in
-- order of the file, one for each vertex: the number of its task, its own, and that time.
pub record IsGreatestText (set : Contents) (written : List ℕ) : Type 0 where
  pub schedulable : Schedulable set.tasks Fixed
  pub responses : List (ℕ × ℕ × ℕ)
  pub are : map (λ r. (r.0, r.1)) responses ≡ vertices_in_order 0 set.tasks
  pub greatest : All (λ r. IsGreatestResponse set.tasks r.0 r.1 r.2) responses
  pub lines : filter (λ words. bytes_eq (slice_index_or words 0 []) (codes "response")) (said written) ≡ map (λ r. codes "response" ∷ decimal r.0 ∷ decimal r.1 ∷ decimal r.2 ∷ []) responses

-- The bytes are an accepted file. At status 0 the text says the greatest responses of its set; at 1 the set isn't schedulable; at 3 nothing is
-- decided. At the latter two what is written is about the set.
pub record Verdict (bytes : List ℕ) (made : Report) : Type 0 where
  pub set : Contents
  pub accepted : IsAccepted bytes set
  pub answer :
      ((made.status ≡ 0) × IsGreatestText set made.text)
      ⊎ (((made.status ≡ 1) × IsAbout Fixed set made.text × ¬ Schedulable set.tasks Fixed)
      ⊎ ((made.status ≡ 3) × IsAbout Fixed set made.text))
