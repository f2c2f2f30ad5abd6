-- The text of a set that no order of priorities makes schedulable. A line is the list of its fields.
use Rattle.std.specs.Prelude.{ℕ, List, [], ◌∷◌, ◌++◌, codes, decimal, length}
use Rattle.std.specs.List.{flat_map}
use Rattle.drt_model.specs.Contents.{Contents}
use Rattle.drt_file.specs.trusted.Canonical.{canonical, written}
use Rattle.drt_evidence.specs.Text.{count_line, release_block}
use Rattle.drt_assign.specs.declared.answer.Stuck.{Stuck}

-- The line that names a stuck task.
abbrev pub lowest_line : ℕ → List (List ℕ)
lowest_line task = codes "lowest" ∷ decimal task ∷ []

-- The lines of a stuck task: which it is, its releases, and the job of theirs that misses.
abbrev pub stuck_lines : Stuck → List (List (List ℕ))
stuck_lines s = lowest_line s.miss.task ∷ release_block s.releases s.miss

-- The text: its first line, the set, how many tasks are stuck, the lines of each, and the last line.
abbrev pub no_order_text : Contents → List Stuck → List ℕ
no_order_text set stuck =
    written ((codes "drt-no-order" ∷ codes "1" ∷ []) ∷ [])
    ++ canonical set
    ++ written (count_line (codes "stuck") (length stuck) ∷ (flat_map stuck_lines stuck ++ (codes "close" ∷ []) ∷ []))
