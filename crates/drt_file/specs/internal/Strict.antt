-- Reading a text line by line as a canonical one: each line as it is printed, and in its order.
use Rattle.std.specs.Prelude.{◌≡◌, ℕ, ◌+◌, Bool, true, false, not, ◌&&◌, ◌||◌, ◌==◌, if◌then◌else◌, List, [], ◌∷◌, ◌++◌, length, Option, Some, None, option_and_then, Result, Ok, Err, bytes_eq, decimal}
use Rattle.std.specs.List.{join_with_byte, AllByRecursion}
use Rattle.drt_file.specs.declared.state.Draft.{Draft}
use Rattle.drt_file.specs.declared.state.State.{State}
use Rattle.drt_file.specs.declared.state.Kind.{Kind}
use Rattle.drt_file.specs.declared.state.Kind.TheVariants as kinds
use Rattle.drt_file.specs.declared.fault.FileFault.{FileFault}
use Rattle.drt_file.specs.trusted.Cutting.{fields, fed, HasNoFeed}
use Rattle.drt_file.specs.internal.Kinds.{kind, first_word}
use Rattle.drt_file.specs.internal.StateFaults.{in_task, is_outside, has_priority}
use Rattle.drt_file.specs.internal.Steps.{line_step, capped}

-- A number as it is printed, without a leading zero.
unfoldable pub is_printed : List ℕ → Bool
is_printed word = bytes_eq (decimal (capped word)) word

-- A task that another line than its own may follow: it has its priority and a vertex.
unfoldable pub is_whole : Draft → Bool
is_whole d = has_priority d && not (length d.vertices == 0)

-- A task that a vertex may follow in the order of print: it has its priority and no edge.
unfoldable pub takes_vertex : Draft → Bool
takes_vertex d = has_priority d && length d.edges == 0

-- A task that a priority may follow in the order of print: it has no vertex and no edge.
unfoldable pub takes_priority : Draft → Bool
takes_priority d = length d.vertices == 0 && length d.edges == 0

-- A line of this kind stands in the order of print, and its numbers as they are printed.
unfoldable pub fits : Kind → State → List (List ℕ) → Bool
fits kinds.Task s words = is_outside s || in_task is_whole s
fits kinds.Vertex s (word ∷ name ∷ wcet ∷ deadline ∷ rest) = in_task takes_vertex s && (is_printed wcet && is_printed deadline)
fits kinds.Edge s (word ∷ from ∷ to ∷ sep ∷ rest) = is_printed sep
fits kinds.Priority s (word ∷ number ∷ rest) = in_task takes_priority s && is_printed number
fits kinds.End s words = in_task is_whole s
fits k s words = false

-- The fields fit below what the lines above leave. Any may stand in the first line.
unfoldable pub fits_below : Option State → List (List ℕ) → Bool
fits_below None words = true
fits_below (Some s) words = fits (kind s.version (first_word words)) s words

-- What a line without a fault leaves.
unfoldable pub left_by : Result (Option State) FileFault → Option State
left_by (Ok below) = below
left_by (Err f) = None

-- A line is these fields, parted by one space, and they fit.
unfoldable pub stands : Option State → List ℕ → List (List ℕ) → Bool
stands above line words = bytes_eq (join_with_byte 32 words) line && fits_below above words

-- What line n of these fields leaves, where they stand as in a canonical text and have no fault.
unfoldable pub strict_words : ℕ → Option State → List ℕ → List (List ℕ) → Option State
strict_words n above line words = if stands above line words then left_by (line_step n above line words) else None

-- What line n leaves, where it is fields parted by one space that fit and have no fault.
unfoldable pub strict_step : ℕ → Option State → List ℕ → Option State
strict_step n above line =
    if bytes_eq (join_with_byte 32 (fields line)) line && fits_below above (fields line) then left_by (line_step n above line (fields line)) else None

-- What lines from number n on leave, and the number behind the last, where each leaves something.
unfoldable pub strict_steps : ℕ → Option State → List (List ℕ) → Option (ℕ × Option State)
strict_steps n above [] = Some (n, above)
strict_steps n above (line ∷ others) = option_and_then (λ s. strict_steps (n + 1) (Some s) others) (strict_step n above line)

-- The lines above end with `end`.
unfoldable pub has_ended : Option State → Bool
has_ended above = elim above [ None ↦ false | Some s ↦ s.ended ]

-- These lines stand before the rest of a text, and leave this; the line behind them has number n.
pub record Above (bytes : List ℕ) (n : ℕ) (above : Option State) (rest : List ℕ) : Type 0 where
  pub ls : List (List ℕ)
  pub no_feeds : AllByRecursion HasNoFeed ls
  pub bytes_are : bytes ≡ fed ls ++ rest
  pub steps_are : strict_steps 1 None ls ≡ Some (n, above)
  pub count : n ≡ length ls + 1
