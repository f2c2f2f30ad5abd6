-- Worked rows of the table of faults (docs/FORMATS.md): a text for each code, with the line and the code that it must have, computed.
use Rattle.std.proofs.Common.{◌≡◌, ℕ, List, [], ◌∷◌, ◌++◌, map, Option, Some, None, refl}
use Rattle.std.specs.Prelude.{codes}
use Rattle.std.specs.List.{flat_map}
use Rattle.drt_file.specs.trusted.Cutting.{with_run, lines_after, is_blank, fields_after}
use Rattle.drt_file.specs.trusted.Faults.{is_task, is_vertex, is_edge, is_priority, is_end, numbers_of, names_of, is_first, version_of, has_task, has_end, own_lines}
use Rattle.drt_file.specs.trusted.Faults.{lines_of_others, has_task_named, has_vertex_named, has_edge_between, others_have_priority, is_no_head, is_no_text}
use Rattle.drt_file.specs.trusted.Faults.{is_of_no_kind, has_wrong_length, has_no_number, is_out_of_range, has_no_name, is_task_again, is_vertex_again, names_no_vertex}
use Rattle.drt_file.specs.trusted.Faults.{is_edge_again, is_before_tasks, is_task_too_many, is_vertex_too_many, is_edge_too_many, is_second_priority, is_priority_again}
use Rattle.drt_file.specs.trusted.Faults.{table, is_of_tasks, is_tried, first_code, code_of, first_faulty, lines_of_task, first_without, text_table, first_place}
use Rattle.drt_file.specs.trusted.Faults.{fault_of}
use Rattle.drt_file.specs.trusted.Line.{is_skipped, is_text}
use Rattle.drt_file.specs.trusted.Words.{is_digit, is_name_byte, is_name, is_number, value_after}

-- A text, and its fault.
abbrev Row : Type 0
Row = List ℕ × Option (ℕ × ℕ)

-- This text has that code at this line.
abbrev row : List ℕ → ℕ → ℕ → Row
row text line code = (text, Some (line, code))

-- The texts have those faults.
abbrev AreRight : List Row → Type 0
AreRight rows = map (λ r. fault_of r.0) rows ≡ map (λ r. r.1) rows

-- One text for each code.
abbrev by_code : List Row
by_code =
    row (codes "drt 3\n") 1 1
    ∷ row (codes "drt 1\ntask \u{7f}\n") 2 2
    ∷ row (codes "drt 1\npriority 3\n") 2 3
    ∷ row (codes "drt 1\ntask T U\n") 2 4
    ∷ row (codes "drt 1\ntask T\nvertex a 1.5 5\n") 3 5
    ∷ row (codes "drt 1\ntask T\nvertex a 2 1000001\n") 3 6
    ∷ row (codes "drt 1\ntask a.b\n") 2 7
    ∷ row (codes "drt 1\ntask T\nvertex a 2 5\ntask T\n") 4 8
    ∷ row (codes "drt 1\ntask T\nvertex a 2 5\nvertex a 3 6\n") 4 9
    ∷ row (codes "drt 1\ntask T\nvertex a 2 5\nedge a b 5\n") 4 10
    ∷ row (codes "drt 1\ntask T\nvertex a 2 5\nedge a a 5\nedge a a 7\n") 5 11
    ∷ row (codes "drt 1\nvertex a 2 5\n") 2 12
    ∷ row (codes "drt 1\nend\n") 3 16
    ∷ row (codes "drt 1\ntask T\ntask U\nvertex a 2 5\nend\n") 2 17
    ∷ row (codes "drt 1\ntask T\nvertex a 2 5\n") 4 18
    ∷ row (codes "drt 1\ntask T\nvertex a 2 5\nend\ntask U\n") 5 19
    ∷ row (codes "drt 2\ntask T\npriority 1\nvertex a 2 5\npriority 2\n") 5 24
    ∷ row (codes "drt 2\ntask T\npriority 1\nvertex a 2 5\ntask U\npriority 1\n") 6 25
    ∷ row (codes "drt 2\ntask T\nvertex a 2 5\nend\n") 2 26
    ∷ []

-- The limits of both versions: the seventeenth and the thirty-third task, the forty-ninth and the ninety-seventh vertex.
abbrev letters : List ℕ
letters = codes "ABCDEFGHIJKLMNOPQRSTUVWXYZabcdefghijklmnopqrstuvwxyz"

abbrev tasks : List ℕ
tasks = flat_map (λ b. codes "task " ++ b ∷ codes "\n") letters

abbrev vertices : List ℕ
vertices = flat_map (λ b. codes "vertex " ++ b ∷ codes " 1 1\n") letters

abbrev more_vertices : List ℕ
more_vertices = flat_map (λ a. flat_map (λ b. codes "vertex " ++ a ∷ b ∷ codes " 1 1\n") (codes "ABCDEFGHIJ")) (codes "ABCDEFGHIJ")

abbrev by_limit : List Row
by_limit =
    row (codes "drt 1\n" ++ tasks) 18 13
    ∷ row (codes "drt 2\n" ++ tasks) 34 13
    ∷ row (codes "drt 1\ntask T\n" ++ vertices) 51 14
    ∷ row (codes "drt 2\ntask T\n" ++ more_vertices) 99 14
    ∷ []

-- The two hundred and fifty-seventh edge: all edges among seventeen vertices.
abbrev many : List ℕ
many = codes "ABCDEFGHIJKLMNOPQ"

abbrev edges : List ℕ
edges = flat_map (λ a. flat_map (λ b. codes "edge " ++ a ∷ codes " " ++ b ∷ codes " 1\n") many) many

abbrev by_edges : List Row
by_edges = row (codes "drt 1\ntask T\n" ++ flat_map (λ b. codes "vertex " ++ b ∷ codes " 1 1\n") many ++ edges) 276 15 ∷ []

-- Where two codes fit a line the lesser one counts; after `end` only 2 and 19 are tried; skipped lines are counted; a text without any other
-- line has code 1 behind its last line; the codes of a text are tried in their order; what is distinct in one task may
-- stand again in another.
abbrev by_order : List Row
by_order =
    row (codes "drt 1\nvertex a. 0 x\n") 2 5
    ∷ row (codes "drt 1\nedge a. b 0\n") 2 6
    ∷ row (codes "drt 1\ntask T\nvertex a 2 5\nend\nplan \u{7f}\n") 5 2
    ∷ row (codes "drt 1\ntask T\nvertex a 2 5\nend\nend end\n") 5 19
    ∷ row (codes "# a comment\n\n \t\ndrt 1 1\n") 4 1
    ∷ row (codes "drt 2\ntask T\npriority 1\nvertex a 2 5\ntask U\npriority 2\n") 5 17
    ∷ row (codes "") 1 1
    ∷ row (codes "# drt 1") 2 1
    ∷ (codes "# a comment\ndrt 2\ntask T\nvertex a 2 5\r\npriority 07\nedge a a 5\ntask U\n\nvertex a 1 9\npriority 1\nend\n# \u{7f}\n", None)
    ∷ []

-- All of them are right.
pub rows_right : AreRight by_code × AreRight by_limit × AreRight by_edges × AreRight by_order
unfolding with_run lines_after is_blank fields_after is_task is_vertex is_edge is_priority is_end numbers_of names_of is_first version_of has_task has_end own_lines
    lines_of_others has_task_named has_vertex_named has_edge_between others_have_priority is_no_head is_no_text is_of_no_kind has_wrong_length has_no_number
    is_out_of_range has_no_name is_task_again is_vertex_again names_no_vertex is_edge_again is_before_tasks is_task_too_many is_vertex_too_many is_edge_too_many
    is_second_priority is_priority_again table is_of_tasks is_tried first_code code_of first_faulty lines_of_task first_without text_table first_place fault_of is_skipped
    is_text is_digit is_name_byte is_name is_number value_after
rows_right = (refl, refl, refl, refl)
