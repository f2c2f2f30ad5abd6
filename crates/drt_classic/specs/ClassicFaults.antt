-- The faults of a classic file: for each line, below what the lines above leave, its code, and the one fault that a text has. Lines are
-- numbered from 1, and a line is seen as its bytes and its fields.
use Rattle.std.specs.Prelude.{ℕ, ◌+◌, Bool, true, false, not, ◌&&◌, ◌||◌, ◌==◌, nat_le, nat_lt, if◌then◌else◌, List}
use Rattle.std.specs.Prelude.{[], ◌∷◌, ◌++◌, length, map, Option, Some, None, option_map, Result, Ok, Err, bytes_eq}
use Rattle.std.specs.List.{list_any, list_all}
use Rattle.drt_file.specs.internal.Steps.{◌>>=◌}
use Rattle.drt_file.specs.trusted.Cutting.{lines, fields}
use Rattle.drt_file.specs.trusted.Words.{is_name, is_number, value, end_word}
use Rattle.drt_file.specs.trusted.Line.{is_text, is_in_range, is_skipped}
use Rattle.drt_classic.specs.declared.classic.Frame.{Frame}
use Rattle.drt_classic.specs.declared.classic.Classic.{Classic}
use Rattle.drt_classic.specs.declared.classic.Classic.TheVariants.{Sporadic, Multiframe, Cyclic, Free}
use Rattle.drt_classic.specs.declared.state.Draft.{Draft}
use Rattle.drt_classic.specs.declared.state.State.{State}
use Rattle.drt_classic.specs.declared.state.Line.{Line}
use Rattle.drt_classic.specs.declared.state.Line.TheVariants as saying
use Rattle.drt_classic.specs.declared.state.Kind.{Kind}
use Rattle.drt_classic.specs.declared.state.Kind.TheVariants as kinds
use Rattle.drt_classic.specs.declared.fault.ClassicFault.{ClassicFault}
use Rattle.drt_classic.specs.Classics.{name_of, frames_of}
use Rattle.drt_classic.specs.ClassicLimits.{most_frames}
use Rattle.drt_classic.specs.ClassicWords.{head_line, classic_word, sporadic_word, multiframe_word, gmf_word, noncyclic_word, frame_word}

-- What a line is, from its first field.

-- The first field, and no byte where there is none.
abbrev pub first_field : List (List ℕ) → List ℕ
first_field [] = []
first_field (word ∷ words) = word

-- What the first field of a line says that it is: one of the six words, or another.
unfoldable pub classic_kind : List ℕ → Kind
classic_kind word =
    if bytes_eq word sporadic_word then kinds.Sporadic
    else if bytes_eq word multiframe_word then kinds.Multiframe
    else if bytes_eq word gmf_word then kinds.Gmf
    else if bytes_eq word noncyclic_word then kinds.Noncyclic
    else if bytes_eq word frame_word then kinds.Frame
    else if bytes_eq word end_word then kinds.End
    else kinds.Other

-- What stands above a line.

-- The task has that name.
unfoldable pub is_named : List ℕ → Draft → Bool
is_named name d = bytes_eq (name_of d.task) name

-- The last task above the line passes a test. Above the first task none does.
unfoldable pub in_last : (Draft → Bool) → State → Bool
in_last test s = elim s.last [ None ↦ false | Some d ↦ test d ]

-- A task of that name stands above.
unfoldable pub has_classic_task : List ℕ → State → Bool
has_classic_task name s = list_any (is_named name) s.closed || in_last (is_named name) s

-- How many tasks stand above.
unfoldable pub classic_task_count : State → ℕ
classic_task_count s = elim s.last [ None ↦ length s.closed | Some d ↦ length s.closed + 1 ]

-- The task is a `gmf` or `noncyclic`, which lines `frame` may follow.
unfoldable pub is_open : Draft → Bool
is_open d = elim d.task [ Sporadic name frame ↦ false | Multiframe name deadline period wcets ↦ false | Cyclic name frames ↦ true | Free name frames ↦ true ]

-- The task has the most frames that one of its kind may have.
unfoldable pub is_full : Draft → Bool
is_full d = nat_le (most_frames d.task) (length (frames_of d.task))

-- What each code says of a line.

-- In a table of codes and tests, the code of the first test that holds.
unfoldable pub first_that_holds : List (ℕ × Bool) → Option ℕ
first_that_holds [] = None
first_that_holds (row ∷ rows) = if row.1 then Some row.0 else first_that_holds rows

-- 35: a time isn't a number.
abbrev pub classic_has_no_number : List (List ℕ) → Bool
classic_has_no_number times = not (list_all is_number times)

-- 36: a time is outside 1 to 1,000,000.
abbrev pub classic_is_out_of_range : List (List ℕ) → Bool
classic_is_out_of_range times = not (list_all is_in_range times)

-- 37: a name isn't as in a task file.
abbrev pub is_no_name : List ℕ → Bool
is_no_name name = not (is_name name)

-- 39: a deadline is greater than the period or separation of its line.
abbrev pub is_past : List ℕ → List ℕ → Bool
is_past deadline sep = nat_lt (value sep) (value deadline)

-- 41: a task below 16 others.
abbrev pub are_full : State → Bool
are_full s = nat_le 16 (classic_task_count s)

-- The code of a line `sporadic NAME WCET DEADLINE PERIOD`; 34 where it hasn't five fields.
unfoldable pub sporadic_fault : State → List (List ℕ) → Option ℕ
sporadic_fault s (word ∷ name ∷ wcet ∷ deadline ∷ period ∷ []) = first_that_holds (
    (35, classic_has_no_number (wcet ∷ deadline ∷ period ∷ []))
    ∷ (36, classic_is_out_of_range (wcet ∷ deadline ∷ period ∷ []))
    ∷ (37, is_no_name name)
    ∷ (38, has_classic_task name s)
    ∷ (39, is_past deadline period)
    ∷ (41, are_full s)
    ∷ [])
sporadic_fault s words = Some 34

-- The code of a line `multiframe NAME DEADLINE PERIOD WCET1 .. WCETK`; 34 where it has fewer than five fields, 42 where it has more than 48 frames.
unfoldable pub multiframe_fault : State → List (List ℕ) → Option ℕ
multiframe_fault s (word ∷ name ∷ deadline ∷ period ∷ wcet ∷ wcets) = first_that_holds (
    (35, classic_has_no_number (deadline ∷ period ∷ wcet ∷ wcets))
    ∷ (36, classic_is_out_of_range (deadline ∷ period ∷ wcet ∷ wcets))
    ∷ (37, is_no_name name)
    ∷ (38, has_classic_task name s)
    ∷ (39, is_past deadline period)
    ∷ (41, are_full s)
    ∷ (42, nat_lt 48 (length (wcet ∷ wcets)))
    ∷ [])
multiframe_fault s words = Some 34

-- The code of a line `gmf NAME` or `noncyclic NAME`; 34 where it hasn't two fields.
unfoldable pub open_fault : State → List (List ℕ) → Option ℕ
open_fault s (word ∷ name ∷ []) = first_that_holds (
    (37, is_no_name name)
    ∷ (38, has_classic_task name s)
    ∷ (41, are_full s)
    ∷ [])
open_fault s words = Some 34

-- The code of a line `frame WCET DEADLINE SEPARATION`; 34 where it hasn't four fields, 40 where the last task above is no `gmf` or
-- `noncyclic`, 42 where it has the most frames.
unfoldable pub frame_fault : State → List (List ℕ) → Option ℕ
frame_fault s (word ∷ wcet ∷ deadline ∷ sep ∷ []) = first_that_holds (
    (35, classic_has_no_number (wcet ∷ deadline ∷ sep ∷ []))
    ∷ (36, classic_is_out_of_range (wcet ∷ deadline ∷ sep ∷ []))
    ∷ (39, is_past deadline sep)
    ∷ (40, not (in_last is_open s))
    ∷ (42, in_last is_full s)
    ∷ [])
frame_fault s words = Some 34

-- The code of a line `end`; 34 where it hasn't one field.
unfoldable pub classic_end_fault : List (List ℕ) → Option ℕ
classic_end_fault (word ∷ []) = None
classic_end_fault words = Some 34

-- The code of a line of each kind; 33 where the first field is none of the six words.
unfoldable pub classic_kind_fault : Kind → State → List (List ℕ) → Option ℕ
classic_kind_fault kinds.Sporadic s words = sporadic_fault s words
classic_kind_fault kinds.Multiframe s words = multiframe_fault s words
classic_kind_fault kinds.Gmf s words = open_fault s words
classic_kind_fault kinds.Noncyclic s words = open_fault s words
classic_kind_fault kinds.Frame s words = frame_fault s words
classic_kind_fault kinds.End s words = classic_end_fault words
classic_kind_fault kinds.Other s words = Some 33

-- The code of a line that isn't skipped and isn't the first such: 32 where a byte is neither a blank nor printable ASCII, 46 after `end`.
unfoldable pub fault_of_line : State → List ℕ → List (List ℕ) → Option ℕ
fault_of_line s line words =
    if not (list_all is_text line) then Some 32
    else if s.ended then Some 46
    else classic_kind_fault (classic_kind (first_field words)) s words

-- What a line says that has no fault.

-- What a line of each kind says. A `gmf` and a `noncyclic` have no frame yet.
unfoldable pub classic_said_by : Kind → List (List ℕ) → Line
classic_said_by kinds.Sporadic (word ∷ name ∷ wcet ∷ deadline ∷ period ∷ rest) = saying.Task (Sporadic name (record { wcet = value wcet; deadline = value deadline; sep = value period }))
classic_said_by kinds.Multiframe (word ∷ name ∷ deadline ∷ period ∷ wcets) = saying.Task (Multiframe name (value deadline) (value period) (map value wcets))
classic_said_by kinds.Gmf (word ∷ name ∷ rest) = saying.Task (Cyclic name [])
classic_said_by kinds.Noncyclic (word ∷ name ∷ rest) = saying.Task (Free name [])
classic_said_by kinds.Frame (word ∷ wcet ∷ deadline ∷ sep ∷ rest) = saying.Frame (record { wcet = value wcet; deadline = value deadline; sep = value sep })
classic_said_by k words = saying.End

-- The tasks above a line: those that are done, and the last one, if any.
unfoldable pub with_last_classic : List Draft → Option Draft → List Draft
with_last_classic ds None = ds
with_last_classic ds (Some d) = ds ++ d ∷ []

-- The task with this frame behind its others. Only a `gmf` and a `noncyclic` have such lines.
unfoldable pub with_frame : Frame → Classic → Classic
with_frame f (Sporadic name frame) = Sporadic name frame
with_frame f (Multiframe name deadline period wcets) = Multiframe name deadline period wcets
with_frame f (Cyclic name frames) = Cyclic name (frames ++ f ∷ [])
with_frame f (Free name frames) = Free name (frames ++ f ∷ [])

-- The task of a draft with this frame more.
unfoldable pub add_frame : Frame → Draft → Draft
add_frame f d = record { line = d.line; task = with_frame f d.task }

-- What line n leaves that says this, below what the lines above leave.
unfoldable pub after_classic_line : ℕ → State → Line → State
after_classic_line n s (saying.Task t) = record { closed = with_last_classic s.closed s.last; last = Some (record { line = n; task = t }); ended = s.ended }
after_classic_line n s (saying.Frame f) = record { closed = s.closed; last = option_map (add_frame f) s.last; ended = s.ended }
after_classic_line n s saying.End = record { closed = s.closed; last = s.last; ended = true }

-- Reading line by line, down to the first fault.

-- The fault with this code at line n, or else what the line gives.
unfoldable pub unless : {A : Type 0} → ℕ → Option ℕ → A → Result A ClassicFault
unless n None x = Ok x
unless n (Some code) x = Err (record { line = n; code = code })

-- Below the first line, which is `drt-classic 1`, nothing is known.
abbrev pub classic_opening : State
classic_opening = record { closed = []; last = None; ended = false }

-- The first line that isn't skipped is `drt-classic 1`.
unfoldable pub is_head : List (List ℕ) → Bool
is_head (word ∷ version ∷ []) = bytes_eq word classic_word && bytes_eq version (49 ∷ [])
is_head words = false

-- Line n, which isn't skipped, below what the lines above leave: nothing above the first such, on which only 31 is tried.
unfoldable pub classic_line_step : ℕ → Option State → List ℕ → List (List ℕ) → Result (Option State) ClassicFault
classic_line_step n None line words = unless n (if is_head words then None else Some 31) (Some classic_opening)
classic_line_step n (Some s) line words = unless n (fault_of_line s line words) (Some (after_classic_line n s (classic_said_by (classic_kind (first_field words)) words)))

-- Line n, below what the lines above leave. A skipped line changes nothing.
unfoldable pub classic_step : ℕ → Option State → List ℕ → Result (Option State) ClassicFault
classic_step n above line = if is_skipped (fields line) then Ok above else classic_line_step n above line (fields line)

-- Lines from number n on: the number behind the last, and what they leave.
unfoldable pub classic_steps : ℕ → Option State → List (List ℕ) → Result (ℕ × Option State) ClassicFault
classic_steps n above [] = Ok (n, above)
classic_steps n above (line ∷ others) = classic_step n above line >>= λ below. classic_steps (n + 1) below others

-- The task has no frame.
unfoldable pub has_no_frame : Draft → Bool
has_no_frame d = length (frames_of d.task) == 0

-- The line of the first of these tasks without a frame.
unfoldable pub first_without_frame : List Draft → Option ℕ
first_without_frame [] = None
first_without_frame (d ∷ ds) = if has_no_frame d then Some d.line else first_without_frame ds

-- The task of a draft.
abbrev pub task_of_draft : Draft → Classic
task_of_draft d = d.task

-- Behind the last line, whose number is n - 1: 43 where there is no task, 44 where one has no frame, 45 where there is no `end`, and else the tasks.
unfoldable pub classic_closing : ℕ → List Draft → Bool → Result (List Classic) ClassicFault
classic_closing n ds ended =
    if length ds == 0 then Err (record { line = n; code = 43 })
    else elim (first_without_frame ds) [
      | Some line ↦ Err (record { line = line; code = 44 })
      | None ↦ if ended then Ok (map task_of_draft ds) else Err (record { line = n; code = 45 })
    ]

-- The tasks that the lines say, or the fault of the text as a whole: 31 where no line is left.
unfoldable pub classic_finish : ℕ → Option State → Result (List Classic) ClassicFault
classic_finish n None = Err (record { line = n; code = 31 })
classic_finish n (Some s) = classic_closing n (with_last_classic s.closed s.last) s.ended

-- The tasks that a text says, or its fault.
unfoldable pub read_classic_text : List ℕ → Result (List Classic) ClassicFault
read_classic_text text = classic_steps 1 None (lines text) >>= λ x. classic_finish x.0 x.1

-- The line and the code of a text's fault, if it has one.
unfoldable pub classic_fault_of : List ℕ → Option (ℕ × ℕ)
classic_fault_of text = elim (read_classic_text text) [ Ok tasks ↦ None | Err f ↦ Some (f.line, f.code) ]
