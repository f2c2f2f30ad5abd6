-- Each field of the lines of a set is a run of bytes above the space.
use Rattle.std.proofs.Common.{◌≡◌, ℕ, ◌<◌, ◌≤◌, List, [], ◌∷◌, ◌++◌, length, map, get_or, sym, ap, subst, arith, rules}
use Rattle.std.specs.Prelude.{decimal, unwrap_or, option_map, ◌==◌, Bool, true, false, cond}
use Rattle.std.specs.List.{AllByRecursion, flat_map}
use Rattle.std.proofs.lemmas.List.Elements.{recursion_from_All}
use Rattle.std.proofs.lemmas.Option.{slice_get-get_or}
use Rattle.drt_model.specs.declared.tasks.Vertex.{Vertex}
use Rattle.drt_model.specs.declared.tasks.Edge.{Edge}
use Rattle.drt_model.specs.declared.tasks.Task.{Task}
use Rattle.drt_model.specs.Contents.{Contents}
use Rattle.drt_model.specs.Limits.{IsNameByte, IsName, IsVertex, IsEdgeAmong, IsTask, IsTaskSet, IsVersion}
use Rattle.drt_file.specs.trusted.Words.{drt_word, task_word, vertex_word, edge_word, priority_word, end_word}
use Rattle.drt_file.specs.trusted.Canonical.{name_at, vertex_line, edge_line, end_line, priority_lines, lines_of_body, task_lines, set_lines}
use Rattle.drt_file.proofs.Again.{IsField, all_of_both}
use Rattle.drt_file.proofs.Digits.{decimal_field}

name_byte_high : (b : ℕ) → IsNameByte b → 33 ≤ b
name_byte_high b is = grind (arith, is)

high_of_names : (name : List ℕ) → AllByRecursion IsNameByte name → AllByRecursion (λ b. 33 ≤ b) name
high_of_names [] are = are
high_of_names (b ∷ name) are = (name_byte_high b are.0, high_of_names name are.1)

-- A name is a field.
pub name_field : (name : List ℕ) → IsName name → IsField name
name_field name is = record { has_byte = omega (arith, is.not_empty); bytes = high_of_names name (recursion_from_All IsNameByte name is.bytes) }

pub drt_field : IsField drt_word
drt_field = record { has_byte = omega arith; bytes = search rules }

pub task_field : IsField task_word
task_field = record { has_byte = omega arith; bytes = search rules }

pub vertex_field : IsField vertex_word
vertex_field = record { has_byte = omega arith; bytes = search rules }

pub edge_field : IsField edge_word
edge_field = record { has_byte = omega arith; bytes = search rules }

pub priority_field : IsField priority_word
priority_field = record { has_byte = omega arith; bytes = search rules }

pub end_field : IsField end_word
end_field = record { has_byte = omega arith; bytes = search rules }

-- At a place where a vertex is, its name is found.
pub name_at_is : (vs : List Vertex) (i : ℕ) (d : Vertex) → i < length vs → name_at vs i ≡ (get_or vs i d).name
unfolding name_at
name_at_is vs i d lt = ap (λ o. unwrap_or (option_map (λ v. v.name) o) []) (slice_get-get_or vs i d lt)

abbrev nobody : Vertex
nobody = record { name = []; wcet = 0; deadline = 0 }

small_number : (n : ℕ) → n ≤ 1000000 → IsField (decimal n)
small_number n le = decimal_field n (omega arith)

vertex_lines_fielded : (vs : List Vertex) → AllByRecursion IsVertex vs → AllByRecursion (AllByRecursion IsField) (map vertex_line vs)
vertex_lines_fielded [] are = tt
vertex_lines_fielded (v ∷ vs) are =
    ((vertex_field, (name_field v.name are.0.name, (small_number v.wcet are.0.wcet.1, (small_number v.deadline are.0.deadline.1, tt)))), vertex_lines_fielded vs are.1)

end_of_edge : (vs : List Vertex) (i : ℕ) → ((k : ℕ) (d : Vertex) → k < length vs → IsVertex (get_or vs k d)) → i < length vs → IsField (name_at vs i)
end_of_edge vs i are lt = subst IsField (sym (name_at_is vs i nobody lt)) (name_field (get_or vs i nobody).name (are i nobody lt).name)

edge_lines_fielded : (vs : List Vertex) → ((k : ℕ) (d : Vertex) → k < length vs → IsVertex (get_or vs k d)) → (es : List Edge)
    → AllByRecursion (IsEdgeAmong (length vs)) es → AllByRecursion (AllByRecursion IsField) (map (edge_line vs) es)
edge_lines_fielded vs vertices [] are = tt
edge_lines_fielded vs vertices (e ∷ es) are =
    ((edge_field, (end_of_edge vs e.from vertices are.0.from, (end_of_edge vs e.to vertices are.0.to, (small_number e.sep are.0.sep.1, tt)))), edge_lines_fielded vs vertices es are.1)

priority_fielded : (version : ℕ) (t : Task) → t.priority ≤ 1000000 → AllByRecursion (AllByRecursion IsField) (priority_lines version t)
unfolding priority_lines
priority_fielded version t le = go (version == 2)
  where
    go : (b : Bool) → AllByRecursion (AllByRecursion IsField) (cond b ((priority_word ∷ decimal t.priority ∷ []) ∷ []) [])
    go true = ((priority_field, (small_number t.priority le, tt)), tt)
    go false = tt

task_fielded : (version : ℕ) (t : Task) → IsTask version t → AllByRecursion (AllByRecursion IsField) (task_lines version t)
unfolding task_lines lines_of_body
task_fielded version t is = (
  (task_field, (name_field t.name is.name, tt)),
  all_of_both (AllByRecursion IsField) (priority_lines version t) (map vertex_line t.vertices ++ map (edge_line t.vertices) t.edges) (priority_fielded version t is.priority.1)
      (all_of_both (AllByRecursion IsField) (map vertex_line t.vertices) (map (edge_line t.vertices) t.edges)
      (vertex_lines_fielded t.vertices (recursion_from_All IsVertex t.vertices is.vertices))
      (edge_lines_fielded t.vertices is.vertices t.edges (recursion_from_All (IsEdgeAmong (length t.vertices)) t.edges is.edges))),
)

tasks_fielded : (version : ℕ) (ts : List Task) → AllByRecursion (IsTask version) ts → AllByRecursion (AllByRecursion IsField) (flat_map (task_lines version) ts)
tasks_fielded version [] are = tt
tasks_fielded version (t ∷ ts) are =
    all_of_both (AllByRecursion IsField) (task_lines version t) (flat_map (task_lines version) ts) (task_fielded version t are.0) (tasks_fielded version ts are.1)

version_small : (version : ℕ) → IsVersion version → version ≤ 1000000
version_small version is = grind (arith, is)

-- Each field of the lines of a set within its limits is a field to be written.
pub set_fielded : (set : Contents) → IsTaskSet set.version set.tasks → AllByRecursion (AllByRecursion IsField) (set_lines set)
unfolding set_lines
set_fielded set is = (
  (drt_field, (small_number set.version (version_small set.version is.known), tt)),
  all_of_both (AllByRecursion IsField) (flat_map (task_lines set.version) set.tasks) (end_line ∷ [])
      (tasks_fielded set.version set.tasks (recursion_from_All (IsTask set.version) set.tasks is.each)) ((end_field, tt), tt),
)
