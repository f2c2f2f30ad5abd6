-- The faults of a task file: for each code the lines that have it, and the one fault that a text has. Lines are numbered from 1, and a
-- line is seen as its fields. `above` is everywhere the lines above a line that aren't skipped, in the order of the file.
use Rattle.std.specs.Prelude.{ℕ, ◌+◌, Bool, not, ◌&&◌, ◌||◌, ◌==◌, nat_le, if◌then◌else◌, List, [], ◌∷◌, ◌++◌, length, get_or, count_by, Option, Some, None, bytes_eq}
use Rattle.std.specs.List.{list_any, list_all}
use Rattle.drt_model.specs.Limits.{most_tasks, most_vertices}
use Rattle.drt_file.specs.trusted.Cutting.{lines, fields, lines_of_fields}
use Rattle.drt_file.specs.trusted.Words.{is_name, is_number, value, drt_word, task_word, vertex_word, edge_word, priority_word, end_word}
use Rattle.drt_file.specs.trusted.Line.{is_text, is_in_range, is_skipped, said}

-- A line is seen as its fields.
abbrev pub Fields : Type 0
Fields = List (List ℕ)

-- The field at a place, counted from 0, and no byte where the line has none there.
abbrev pub field : ℕ → Fields → List ℕ
field i words = get_or words i []

-- What a line is, from its first field.

-- A line `task ..`.
unfoldable pub is_task : Fields → Bool
is_task words = bytes_eq (field 0 words) task_word

-- A line `vertex ..`.
unfoldable pub is_vertex : Fields → Bool
is_vertex words = bytes_eq (field 0 words) vertex_word

-- A line `edge ..`.
unfoldable pub is_edge : Fields → Bool
is_edge words = bytes_eq (field 0 words) edge_word

-- A line `priority ..`.
unfoldable pub is_priority : Fields → Bool
is_priority words = bytes_eq (field 0 words) priority_word

-- A line `end ..`.
unfoldable pub is_end : Fields → Bool
is_end words = bytes_eq (field 0 words) end_word

-- The fields of a line that stand for times or a priority.
unfoldable pub numbers_of : Fields → List (List ℕ)
numbers_of words =
    if is_vertex words then field 2 words ∷ field 3 words ∷ []
    else if is_edge words then field 3 words ∷ []
    else if is_priority words then field 1 words ∷ []
    else []

-- The fields of a line that stand for names.
unfoldable pub names_of : Fields → List (List ℕ)
names_of words =
    if is_task words then field 1 words ∷ []
    else if is_vertex words then field 1 words ∷ []
    else if is_edge words then field 1 words ∷ field 2 words ∷ []
    else []

-- What stands above a line.

-- No line stands above: the line is the first one that isn't skipped.
unfoldable pub is_first : List Fields → Bool
is_first above = length above == 0

-- The version is the number in the first line.
unfoldable pub version_of : List Fields → ℕ
version_of above = value (field 1 (get_or above 0 []))

-- A `task` line stands above.
unfoldable pub has_task : List Fields → Bool
has_task above = list_any is_task above

-- `end` stands above.
unfoldable pub has_end : List Fields → Bool
has_end above = list_any is_end above

-- The lines above in the task that a line stands in: those below the last `task` line above.
unfoldable pub own_lines : List Fields → List Fields
own_lines [] = []
own_lines (words ∷ below) = if is_task words && not (has_task below) then below else own_lines below

-- The lines above that task: those above the last `task` line above.
unfoldable pub lines_of_others : List Fields → List Fields
lines_of_others [] = []
lines_of_others (words ∷ below) = if has_task below then words ∷ lines_of_others below else []

-- A task of that name stands above.
unfoldable pub has_task_named : List ℕ → List Fields → Bool
has_task_named name above = list_any (λ other. is_task other && bytes_eq (field 1 other) name) above

-- A vertex of that name stands above in the task.
unfoldable pub has_vertex_named : List ℕ → List Fields → Bool
has_vertex_named name above = list_any (λ other. is_vertex other && bytes_eq (field 1 other) name) (own_lines above)

-- An edge between vertices of these names stands above in the task.
unfoldable pub has_edge_between : List ℕ → List ℕ → List Fields → Bool
has_edge_between from to above = list_any (λ other. is_edge other && (bytes_eq (field 1 other) from && bytes_eq (field 2 other) to)) (own_lines above)

-- That priority stands above in another task.
unfoldable pub others_have_priority : ℕ → List Fields → Bool
others_have_priority n above = list_any (λ other. is_priority other && value (field 1 other) == n) (lines_of_others above)

-- What each code says of a line.

-- 1: the first line that isn't skipped isn't `drt` followed by the one field `1` or `2`.
unfoldable pub is_no_head : List Fields → Fields → Bool
is_no_head above words = is_first above && not (length words == 2 && (bytes_eq (field 0 words) drt_word && (bytes_eq (field 1 words) (49 ∷ []) || bytes_eq (field 1 words) (50 ∷ []))))

-- 2: a byte is neither a blank nor printable ASCII.
unfoldable pub is_no_text : List ℕ → Bool
is_no_text line = not (list_all is_text line)

-- 3: the first field isn't `task`, `vertex`, `edge`, `end` or, in version 2, `priority`.
unfoldable pub is_of_no_kind : List Fields → Fields → Bool
is_of_no_kind above words = not (is_task words || (is_vertex words || (is_edge words || (is_end words || (version_of above == 2 && is_priority words)))))

-- 4: `task` or `priority` without 2, `vertex` or `edge` without 4, `end` without 1 field.
unfoldable pub has_wrong_length : Fields → Bool
has_wrong_length words =
    ((is_task words || is_priority words) && not (length words == 2))
    || (((is_vertex words || is_edge words) && not (length words == 4))
    || (is_end words && not (length words == 1)))

-- 5: a time or a priority isn't a number.
unfoldable pub has_no_number : Fields → Bool
has_no_number words = not (list_all is_number (numbers_of words))

-- 6: a time or a priority is outside 1 to 1,000,000.
unfoldable pub is_out_of_range : Fields → Bool
is_out_of_range words = not (list_all is_in_range (numbers_of words))

-- 7: a name isn't 1 to 32 bytes of `A-Z a-z 0-9 _ -`.
unfoldable pub has_no_name : Fields → Bool
has_no_name words = not (list_all is_name (names_of words))

-- 8: a task name that stands above.
unfoldable pub is_task_again : List Fields → Fields → Bool
is_task_again above words = is_task words && has_task_named (field 1 words) above

-- 9: a vertex name that stands above in the task.
unfoldable pub is_vertex_again : List Fields → Fields → Bool
is_vertex_again above words = is_vertex words && has_vertex_named (field 1 words) above

-- 10: an edge that names a vertex that doesn't stand above in the task.
unfoldable pub names_no_vertex : List Fields → Fields → Bool
names_no_vertex above words = is_edge words && not (has_vertex_named (field 1 words) above && has_vertex_named (field 2 words) above)

-- 11: an edge with the same two ends as one above in the task.
unfoldable pub is_edge_again : List Fields → Fields → Bool
is_edge_again above words = is_edge words && has_edge_between (field 1 words) (field 2 words) above

-- 12: `vertex`, `edge` or `priority` before the first `task`.
unfoldable pub is_before_tasks : List Fields → Fields → Bool
is_before_tasks above words = (is_vertex words || (is_edge words || is_priority words)) && not (has_task above)

-- 13: a `task` where the most tasks of the version stand above: the seventeenth in version 1, the thirty-third in version 2.
unfoldable pub is_task_too_many : List Fields → Fields → Bool
is_task_too_many above words = is_task words && nat_le (most_tasks (version_of above)) (count_by is_task above)

-- 14: a `vertex` where the most vertices of the version stand above in the task: the forty-ninth in version 1, the ninety-seventh in version 2.
unfoldable pub is_vertex_too_many : List Fields → Fields → Bool
is_vertex_too_many above words = is_vertex words && nat_le (most_vertices (version_of above)) (count_by is_vertex (own_lines above))

-- 15: the two hundred and fifty-seventh `edge` of a task.
unfoldable pub is_edge_too_many : List Fields → Fields → Bool
is_edge_too_many above words = is_edge words && nat_le 256 (count_by is_edge (own_lines above))

-- 24: a second `priority` in one task.
unfoldable pub is_second_priority : List Fields → Fields → Bool
is_second_priority above words = is_priority words && list_any is_priority (own_lines above)

-- 25: a priority that stands above in another task.
unfoldable pub is_priority_again : List Fields → Fields → Bool
is_priority_again above words = is_priority words && others_have_priority (value (field 1 words)) above

-- The table of a line: each code and whether it fits, in the order of the codes. Code 19 is a line that isn't skipped after `end`.
unfoldable pub table : List Fields → List ℕ → Fields → List (ℕ × Bool)
table above line words =
    (1, is_no_head above words)
    ∷ (2, is_no_text line)
    ∷ (3, is_of_no_kind above words)
    ∷ (4, has_wrong_length words)
    ∷ (5, has_no_number words)
    ∷ (6, is_out_of_range words)
    ∷ (7, has_no_name words)
    ∷ (8, is_task_again above words)
    ∷ (9, is_vertex_again above words)
    ∷ (10, names_no_vertex above words)
    ∷ (11, is_edge_again above words)
    ∷ (12, is_before_tasks above words)
    ∷ (13, is_task_too_many above words)
    ∷ (14, is_vertex_too_many above words)
    ∷ (15, is_edge_too_many above words)
    ∷ (19, has_end above)
    ∷ (24, is_second_priority above words)
    ∷ (25, is_priority_again above words)
    ∷ []

-- These codes are tried only on lines inside a task.
unfoldable pub is_of_tasks : ℕ → Bool
is_of_tasks code = list_any (λ c. c == code) (9 ∷ 10 ∷ 11 ∷ 14 ∷ 15 ∷ 24 ∷ 25 ∷ [])

-- A code is tried on a line: on the first line only 1, after `end` only 2 and 19, before the first `task` none that is of tasks.
unfoldable pub is_tried : List Fields → ℕ → Bool
is_tried above code =
    if is_first above then code == 1
    else if has_end above then code == 2 || code == 19
    else not (is_of_tasks code) || has_task above

-- The first code of a table that is tried and fits.
unfoldable pub first_code : (ℕ → Bool) → List (ℕ × Bool) → Option ℕ
first_code tried [] = None
first_code tried (row ∷ rows) = if tried row.0 && row.1 then Some row.0 else first_code tried rows

-- The code of a line that isn't skipped, below these lines: the least of those tried that fits it. A line without one isn't faulty.
unfoldable pub code_of : List Fields → List ℕ → Option ℕ
code_of above line = first_code (is_tried above) (table above line (fields line))

-- The number and the code of the first faulty line among these, of which the first has number n and stands below those lines.
unfoldable pub first_faulty : ℕ → List Fields → List (List ℕ) → Option (ℕ × ℕ)
first_faulty n above [] = None
first_faulty n above (line ∷ below) =
    if is_skipped (fields line) then first_faulty (n + 1) above below
    else elim (code_of above line) [ Some code ↦ Some (n, code) | None ↦ first_faulty (n + 1) (above ++ fields line ∷ []) below ]

-- What each code says of a text without a faulty line. (A skipped line has none of the words of the format as its first field.)

-- The lines before the next `task` line.
unfoldable pub lines_of_task : List Fields → List Fields
lines_of_task [] = []
lines_of_task (words ∷ below) = if is_task words then [] else words ∷ lines_of_task below

-- The number of the first `task` line without such a line before the next `task` line; the first line has number n.
unfoldable pub first_without : (Fields → Bool) → ℕ → List Fields → Option ℕ
first_without is_such n [] = None
first_without is_such n (words ∷ below) = if is_task words && not (list_any is_such (lines_of_task below)) then Some n else first_without is_such (n + 1) below

-- The table of a text: each code and the line where it fits, if any, in the order in which they are tried. Code 1: no line is left; 16: no
-- task; 17: a task without a vertex; 18: no `end`; 26: in version 2 a task without `priority`. What is missing is missing behind the last line.
unfoldable pub text_table : List Fields → List Fields → List (ℕ × Option ℕ)
text_table every kept =
    (1, if is_first kept then Some (length every + 1) else None)
    ∷ (16, if has_task kept then None else Some (length every + 1))
    ∷ (17, first_without is_vertex 1 every)
    ∷ (18, if has_end kept then None else Some (length every + 1))
    ∷ (26, if version_of kept == 2 then first_without is_priority 1 every else None)
    ∷ []

-- The first place in a table of a text, and its code.
unfoldable pub first_place : List (ℕ × Option ℕ) → Option (ℕ × ℕ)
first_place [] = None
first_place (row ∷ rows) = elim row.1 [ Some line ↦ Some (line, row.0) | None ↦ first_place rows ]

-- The line and the code of a text's fault: those of its first faulty line, and where no line is faulty those of the text as a whole.
unfoldable pub fault_of : List ℕ → Option (ℕ × ℕ)
fault_of text = elim (first_faulty 1 [] (lines text)) [ Some fault ↦ Some fault | None ↦ first_place (text_table (lines_of_fields text) (said text)) ]
