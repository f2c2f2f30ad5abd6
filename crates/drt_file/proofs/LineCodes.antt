-- The code of a line by the table of faults is the one that the reader finds from its state.
use Rattle.std.proofs.Common.{◌≡◌, ℕ, suc, ◌+◌, Bool, true, false, not, ◌&&◌, ◌||◌, List, [], ◌∷◌, length, Option, Some, None, refl, sym, ap, ◌∙◌, arith, cond}
use Rattle.std.specs.Prelude.{bytes_eq, ◌==◌, nat_le, count_by}
use Rattle.std.specs.List.{list_any}
use Rattle.drt_model.specs.Limits.{most_tasks, most_vertices}
use Rattle.drt_file.specs.declared.state.Draft.{Draft}
use Rattle.drt_file.specs.declared.state.State.{State}
use Rattle.drt_file.specs.declared.state.Kind.{Kind}
use Rattle.drt_file.specs.declared.state.Kind.TheVariants as kinds
use Rattle.drt_file.specs.trusted.Words.{is_name, is_number, value, task_word, vertex_word, edge_word, priority_word, end_word}
use Rattle.drt_file.specs.trusted.Line.{is_in_range}
use Rattle.drt_file.specs.trusted.Faults.{Fields, field, is_task, is_vertex, is_edge, is_priority, is_end, numbers_of, names_of, is_first, version_of, has_task, has_end}
use Rattle.drt_file.specs.trusted.Faults.{own_lines, has_task_named, has_vertex_named, has_edge_between, others_have_priority, is_no_head, is_no_text, is_of_no_kind}
use Rattle.drt_file.specs.trusted.Faults.{has_wrong_length, has_no_number, is_out_of_range, has_no_name, is_task_again, is_vertex_again, names_no_vertex, is_edge_again}
use Rattle.drt_file.specs.trusted.Faults.{is_before_tasks, is_task_too_many, is_vertex_too_many, is_edge_too_many, is_second_priority, is_priority_again, table}
use Rattle.drt_file.specs.trusted.Faults.{is_of_tasks, is_tried, first_code}
use Rattle.drt_file.specs.internal.Kinds.{kind, first_word}
use Rattle.drt_file.specs.internal.StateFaults.{first_of, has_vertex, place_of_name, has_edge, in_task, is_outside, in_some_task, task_count, has_priority, has_that_priority}
use Rattle.drt_file.specs.internal.StateFaults.{task_fault, vertex_fault, edge_fault, priority_fault, end_fault, kind_fault}
use Rattle.drt_file.proofs.Shown.{Shown, ShownIn}

-- What is known of a line that isn't the first, has no odd byte and stands above `end`.
pub record Open (above : List Fields) (line : List ℕ) (inside : Bool) : Type 0 where
  pub later : is_first above ≡ false
  pub still : has_end above ≡ false
  pub text : is_no_text line ≡ false
  pub within : has_task above ≡ inside

-- The codes by the tests that are left for a line of each kind.
abbrev task_rows : Bool → Bool → Bool → Option ℕ
task_rows name again many = first_of ((7, not name) ∷ (8, again) ∷ (13, many) ∷ [])

abbrev vertex_rows : Bool → Bool → Bool → Bool → Bool → Bool → Option ℕ
vertex_rows inside number range name again many = first_of ((5, not number) ∷ (6, not range) ∷ (7, not name) ∷ (9, inside && again) ∷ (12, not inside) ∷ (14, inside && many) ∷ [])

abbrev edge_rows : Bool → Bool → Bool → Bool → Bool → Bool → Bool → Option ℕ
edge_rows inside number range name missing again many =
    first_of ((5, not number) ∷ (6, not range) ∷ (7, not name) ∷ (10, inside && missing) ∷ (11, inside && again) ∷ (12, not inside) ∷ (15, inside && many) ∷ [])

abbrev priority_rows : Bool → Bool → Bool → Bool → Bool → Option ℕ
priority_rows inside number range second again = first_of ((5, not number) ∷ (6, not range) ∷ (12, not inside) ∷ (24, inside && second) ∷ (25, inside && again) ∷ [])

-- Codes 3 and 4.
kindless : (above : List Fields) (line : List ℕ) (words : Fields) (inside : Bool) → Open above line inside → is_of_no_kind above words ≡ true
    → first_code (is_tried above) (table above line words) ≡ Some 3
unfolding table first_code is_tried is_of_tasks is_no_head
kindless above line words inside o e = rw (o.later, o.still, o.text, e) refl

misshapen : (above : List Fields) (line : List ℕ) (words : Fields) (inside : Bool) → Open above line inside → is_of_no_kind above words ≡ false → has_wrong_length words ≡ true
    → first_code (is_tried above) (table above line words) ≡ Some 4
unfolding table first_code is_tried is_of_tasks is_no_head
misshapen above line words inside o k e = rw (o.later, o.still, o.text, k, e) refl

-- A table by its tests alone.
abbrev tried : Bool → ℕ → Bool
tried inside code = not (is_of_tasks code) || inside

task_go : (inside name again many : Bool)
    → first_code (tried inside)
    ((1, false) ∷ (2, false) ∷ (3, false) ∷ (4, false) ∷ (5, false) ∷ (6, false) ∷ (7, not (name && true)) ∷ (8, again) ∷ (9, false)
    ∷ (10, false) ∷ (11, false) ∷ (12, false) ∷ (13, many) ∷ (14, false) ∷ (15, false) ∷ (19, false) ∷ (24, false) ∷ (25, false) ∷ [])
    ≡ task_rows name again many
unfolding first_code first_of is_of_tasks
task_go inside false again many = refl
task_go inside true true many = refl
task_go true true false true = refl
task_go false true false true = refl
task_go true true false false = refl
task_go false true false false = refl

vertex_go : (inside a b p q name again many : Bool)
    → first_code (tried inside)
    ((1, false) ∷ (2, false) ∷ (3, false) ∷ (4, false) ∷ (5, not (a && (b && true))) ∷ (6, not (p && (q && true))) ∷ (7, not (name && true)) ∷ (8, false) ∷ (9, again)
    ∷ (10, false) ∷ (11, false) ∷ (12, not inside) ∷ (13, false) ∷ (14, many) ∷ (15, false) ∷ (19, false) ∷ (24, false) ∷ (25, false) ∷ [])
    ≡ vertex_rows inside (a && b) (p && q) name again many
unfolding first_code first_of is_of_tasks
vertex_go inside false b p q name again many = refl
vertex_go inside true false p q name again many = refl
vertex_go inside true true false q name again many = refl
vertex_go inside true true true false name again many = refl
vertex_go inside true true true true false again many = refl
vertex_go false true true true true true again many = refl
vertex_go true true true true true true true many = refl
vertex_go true true true true true true false true = refl
vertex_go true true true true true true false false = refl

edge_go : (inside number range a b missing again many : Bool)
    → first_code (tried inside)
    ((1, false) ∷ (2, false) ∷ (3, false) ∷ (4, false) ∷ (5, not (number && true)) ∷ (6, not (range && true)) ∷ (7, not (a && (b && true))) ∷ (8, false) ∷ (9, false)
    ∷ (10, missing) ∷ (11, again) ∷ (12, not inside) ∷ (13, false) ∷ (14, false) ∷ (15, many) ∷ (19, false) ∷ (24, false) ∷ (25, false) ∷ [])
    ≡ edge_rows inside number range (a && b) missing again many
unfolding first_code first_of is_of_tasks
edge_go inside false range a b missing again many = refl
edge_go inside true false a b missing again many = refl
edge_go inside true true false b missing again many = refl
edge_go inside true true true false missing again many = refl
edge_go false true true true true missing again many = refl
edge_go true true true true true true again many = refl
edge_go true true true true true false true many = refl
edge_go true true true true true false false true = refl
edge_go true true true true true false false false = refl

priority_go : (inside number range second again : Bool)
    → first_code (tried inside)
    ((1, false) ∷ (2, false) ∷ (3, false) ∷ (4, false) ∷ (5, not (number && true)) ∷ (6, not (range && true)) ∷ (7, false) ∷ (8, false) ∷ (9, false)
    ∷ (10, false) ∷ (11, false) ∷ (12, not inside) ∷ (13, false) ∷ (14, false) ∷ (15, false) ∷ (19, false) ∷ (24, second) ∷ (25, again) ∷ [])
    ≡ priority_rows inside number range second again
unfolding first_code first_of is_of_tasks
priority_go inside false range second again = refl
priority_go inside true false second again = refl
priority_go false true true second again = refl
priority_go true true true true again = refl
priority_go true true true false true = refl
priority_go true true true false false = refl

task_codes : (above : List Fields) (line name : List ℕ) (inside : Bool) → Open above line inside
    → first_code (is_tried above) (table above line (task_word ∷ name ∷ []))
    ≡ task_rows (is_name name) (has_task_named name above) (nat_le (most_tasks (version_of above)) (count_by is_task above))
unfolding table first_code first_of is_tried is_of_tasks is_no_head is_of_no_kind has_wrong_length has_no_number is_out_of_range has_no_name is_task_again is_vertex_again
    names_no_vertex is_edge_again is_before_tasks is_task_too_many is_vertex_too_many is_edge_too_many is_second_priority is_priority_again numbers_of names_of is_task
    is_vertex is_edge is_priority is_end
task_codes above line name inside o =
    rw (o.later, o.still, o.text, o.within) (task_go inside (is_name name) (has_task_named name above) (nat_le (most_tasks (version_of above)) (count_by is_task above)))

vertex_codes : (above : List Fields) (line name wcet deadline : List ℕ) (inside : Bool) → Open above line inside
    → first_code (is_tried above) (table above line (vertex_word ∷ name ∷ wcet ∷ deadline ∷ []))
    ≡ vertex_rows inside (is_number wcet && is_number deadline) (is_in_range wcet && is_in_range deadline) (is_name name) (has_vertex_named name above)
    (nat_le (most_vertices (version_of above)) (count_by is_vertex (own_lines above)))
unfolding table first_code first_of is_tried is_of_tasks is_no_head is_of_no_kind has_wrong_length has_no_number is_out_of_range has_no_name is_task_again is_vertex_again
    names_no_vertex is_edge_again is_before_tasks is_task_too_many is_vertex_too_many is_edge_too_many is_second_priority is_priority_again numbers_of names_of is_task
    is_vertex is_edge is_priority is_end
vertex_codes above line name wcet deadline inside o =
    rw (o.later, o.still, o.text, o.within)
    (vertex_go inside (is_number wcet) (is_number deadline) (is_in_range wcet) (is_in_range deadline) (is_name name) (has_vertex_named name above)
    (nat_le (most_vertices (version_of above)) (count_by is_vertex (own_lines above))))

edge_codes : (above : List Fields) (line from to sep : List ℕ) (inside : Bool) → Open above line inside
    → first_code (is_tried above) (table above line (edge_word ∷ from ∷ to ∷ sep ∷ []))
    ≡ edge_rows inside (is_number sep) (is_in_range sep) (is_name from && is_name to) (not (has_vertex_named from above && has_vertex_named to above)) (has_edge_between from to above)
    (nat_le 256 (count_by is_edge (own_lines above)))
unfolding table first_code first_of is_tried is_of_tasks is_no_head is_of_no_kind has_wrong_length has_no_number is_out_of_range has_no_name is_task_again is_vertex_again
    names_no_vertex is_edge_again is_before_tasks is_task_too_many is_vertex_too_many is_edge_too_many is_second_priority is_priority_again numbers_of names_of is_task
    is_vertex is_edge is_priority is_end
edge_codes above line from to sep inside o =
    rw (o.later, o.still, o.text, o.within)
    (edge_go inside (is_number sep) (is_in_range sep) (is_name from) (is_name to) (not (has_vertex_named from above && has_vertex_named to above)) (has_edge_between from to above)
    (nat_le 256 (count_by is_edge (own_lines above))))

priority_codes : (above : List Fields) (line number : List ℕ) (inside : Bool) → Open above line inside → version_of above ≡ 2
    → first_code (is_tried above) (table above line (priority_word ∷ number ∷ []))
    ≡ priority_rows inside (is_number number) (is_in_range number) (list_any is_priority (own_lines above)) (others_have_priority (value number) above)
unfolding table first_code first_of is_tried is_of_tasks is_no_head is_of_no_kind has_wrong_length has_no_number is_out_of_range has_no_name is_task_again is_vertex_again
    names_no_vertex is_edge_again is_before_tasks is_task_too_many is_vertex_too_many is_edge_too_many is_second_priority is_priority_again numbers_of names_of is_task
    is_vertex is_edge is_priority is_end
priority_codes above line number inside o two =
    rw (o.later, o.still, o.text, o.within, two)
    (priority_go inside (is_number number) (is_in_range number) (list_any is_priority (own_lines above)) (others_have_priority (value number) above))

end_codes : (above : List Fields) (line : List ℕ) (inside : Bool) → Open above line inside → first_code (is_tried above) (table above line (end_word ∷ [])) ≡ None
unfolding table first_code first_of is_tried is_of_tasks is_no_head is_of_no_kind has_wrong_length has_no_number is_out_of_range has_no_name is_task_again is_vertex_again
    names_no_vertex is_edge_again is_before_tasks is_task_too_many is_vertex_too_many is_edge_too_many is_second_priority is_priority_again numbers_of names_of is_task
    is_vertex is_edge is_priority is_end
end_codes above line inside o = rw (o.later, o.still, o.text, o.within) (go inside)
  where
    go : (inside : Bool) → first_code (tried inside) ((1, false) ∷ (2, false) ∷ (3, false) ∷ (4, false) ∷ (5, false) ∷ (6, false) ∷ (7, false) ∷ (8, false) ∷ (9, false)
        ∷ (10, false) ∷ (11, false) ∷ (12, false) ∷ (13, false) ∷ (14, false) ∷ (15, false) ∷ (19, false) ∷ (24, false) ∷ (25, false) ∷ []) ≡ None
    go true = refl
    go false = refl

pub open_at : (ws : List Fields) (s : State) (line : List ℕ) (o : Option Draft) → Shown ws s.version s.closed o → is_no_text line ≡ false → Open ws line (elim o [ None ↦ false | Some d ↦ true ])
open_at ws s line o w text = record { later = w.later; still = w.still; text = text; within = w.within }

-- The code of a line of each kind, against the state.
abbrev pub Agrees : List Fields → State → List ℕ → Fields → Kind → Type 0
Agrees ws s line words k = first_code (is_tried ws) (table ws line words) ≡ kind_fault k s words

long : (a b c d e : List ℕ) (more : Fields) → (length (a ∷ b ∷ c ∷ d ∷ e ∷ more) == 4) ≡ false
long a b c d e more = go (length more)
  where
    go : (n : ℕ) → (suc (suc (suc (suc (suc n)))) == 4) ≡ false
    go n = grind arith

longer : (a b c : List ℕ) (more : Fields) → (length (a ∷ b ∷ c ∷ more) == 2) ≡ false
longer a b c more = go (length more)
  where
    go : (n : ℕ) → (suc (suc (suc n)) == 2) ≡ false
    go n = grind arith

longest : (a b : List ℕ) (more : Fields) → (length (a ∷ b ∷ more) == 1) ≡ false
longest a b more = go (length more)
  where
    go : (n : ℕ) → (suc (suc n) == 1) ≡ false
    go n = grind arith

counted_same : (s : State) → length s.closed + (elim s.current [ None ↦ 0 | Some d ↦ 1 ]) ≡ task_count s
unfolding task_count is_outside
counted_same s = go s.current
  where
    go : (o : Option Draft) → length s.closed + (elim o [ None ↦ 0 | Some d ↦ 1 ]) ≡ length s.closed + cond (elim o [ None ↦ true | Some d ↦ false ]) 0 1
    go None = refl
    go (Some d) = refl

pub task_agrees : (ws : List Fields) (s : State) (line : List ℕ) (rest : Fields) (inside : Bool) → Open ws line inside → Shown ws s.version s.closed s.current
    → Agrees ws s line (task_word ∷ rest) kinds.Task
unfolding kind_fault task_fault in_some_task in_task is_of_no_kind has_wrong_length is_task is_vertex is_edge is_priority is_end
task_agrees ws s line [] inside o w = misshapen ws line (task_word ∷ []) inside o refl refl
task_agrees ws s line (name ∷ more ∷ rest) inside o w = misshapen ws line (task_word ∷ name ∷ more ∷ rest) inside o refl (rw (longer task_word name more rest) refl)
task_agrees ws s line (name ∷ []) inside o w =
    task_codes ws line name inside o
    ∙ ap (λ b. task_rows (is_name name) b (nat_le (most_tasks (version_of ws)) (count_by is_task ws))) (w.named name)
    ∙ ap (λ v. task_rows (is_name name) (in_some_task (λ d. bytes_eq d.name name) s) (nat_le (most_tasks v) (count_by is_task ws))) w.version_is
    ∙ ap (λ n. task_rows (is_name name) (in_some_task (λ d. bytes_eq d.name name) s) (nat_le (most_tasks s.version) n)) (w.counted ∙ counted_same s)

-- The codes of the state, outside and inside of a task.
vertex_in : (s : State) (d : Draft) (name wcet deadline : List ℕ) → s.current ≡ Some d → vertex_fault s (vertex_word ∷ name ∷ wcet ∷ deadline ∷ [])
    ≡ vertex_rows true (is_number wcet && is_number deadline) (is_in_range wcet && is_in_range deadline) (is_name name) (has_vertex name d.vertices)
    (nat_le (most_vertices s.version) (length d.vertices))
unfolding vertex_fault in_task is_outside
vertex_in s d name wcet deadline at = rw at refl

vertex_out : (s : State) (name wcet deadline : List ℕ) (again many : Bool) → s.current ≡ None → vertex_fault s (vertex_word ∷ name ∷ wcet ∷ deadline ∷ [])
    ≡ vertex_rows false (is_number wcet && is_number deadline) (is_in_range wcet && is_in_range deadline) (is_name name) again many
unfolding vertex_fault in_task is_outside
vertex_out s name wcet deadline again many at = rw at refl

edge_in : (s : State) (d : Draft) (from to sep : List ℕ) → s.current ≡ Some d → edge_fault s (edge_word ∷ from ∷ to ∷ sep ∷ [])
    ≡ edge_rows true (is_number sep) (is_in_range sep) (is_name from && is_name to) (not (has_vertex from d.vertices && has_vertex to d.vertices))
    (has_edge (place_of_name from d.vertices) (place_of_name to d.vertices) d.edges) (nat_le 256 (length d.edges))
unfolding edge_fault in_task is_outside
edge_in s d from to sep at = rw at refl

edge_out : (s : State) (from to sep : List ℕ) (missing again many : Bool) → s.current ≡ None → edge_fault s (edge_word ∷ from ∷ to ∷ sep ∷ [])
    ≡ edge_rows false (is_number sep) (is_in_range sep) (is_name from && is_name to) missing again many
unfolding edge_fault in_task is_outside
edge_out s from to sep missing again many at = rw at refl

priority_in : (s : State) (d : Draft) (number : List ℕ) → s.current ≡ Some d → priority_fault s (priority_word ∷ number ∷ [])
    ≡ priority_rows true (is_number number) (is_in_range number) (has_priority d) (list_any (has_that_priority (value number)) s.closed)
unfolding priority_fault in_task is_outside
priority_in s d number at = rw at refl

priority_out : (s : State) (number : List ℕ) (second again : Bool) → s.current ≡ None → priority_fault s (priority_word ∷ number ∷ [])
    ≡ priority_rows false (is_number number) (is_in_range number) second again
unfolding priority_fault in_task is_outside
priority_out s number second again at = rw at refl

-- What is shown of the task that is open, if any.
abbrev pub ShownOf : List Fields → State → Option Draft → Type 0
ShownOf ws s None = Unit {0}
ShownOf ws s (Some d) = ShownIn ws s.version s.closed d

abbrev pub inside_of : Option Draft → Bool
inside_of None = false
inside_of (Some d) = true

pub vertex_agrees : (ws : List Fields) (s : State) (line : List ℕ) (rest : Fields) (c : Option Draft) → s.current ≡ c → Open ws line (inside_of c) → version_of ws ≡ s.version → ShownOf ws s c
    → Agrees ws s line (vertex_word ∷ rest) kinds.Vertex
unfolding kind_fault vertex_fault is_of_no_kind has_wrong_length is_task is_vertex is_edge is_priority is_end
vertex_agrees ws s line [] c at o v w = misshapen ws line (vertex_word ∷ []) (inside_of c) o refl refl
vertex_agrees ws s line (name ∷ []) c at o v w = misshapen ws line (vertex_word ∷ name ∷ []) (inside_of c) o refl refl
vertex_agrees ws s line (name ∷ wcet ∷ []) c at o v w = misshapen ws line (vertex_word ∷ name ∷ wcet ∷ []) (inside_of c) o refl refl
vertex_agrees ws s line (name ∷ wcet ∷ deadline ∷ more ∷ rest) c at o v w =
    misshapen ws line (vertex_word ∷ name ∷ wcet ∷ deadline ∷ more ∷ rest) (inside_of c) o refl (rw (long vertex_word name wcet deadline more rest) refl)
vertex_agrees ws s line (name ∷ wcet ∷ deadline ∷ []) None at o v w =
    vertex_codes ws line name wcet deadline false o
    ∙ sym (vertex_out s name wcet deadline (has_vertex_named name ws) (nat_le (most_vertices (version_of ws)) (count_by is_vertex (own_lines ws))) at)
vertex_agrees ws s line (name ∷ wcet ∷ deadline ∷ []) (Some d) at o v w =
    let numbers = is_number wcet && is_number deadline in
    let range = is_in_range wcet && is_in_range deadline in
    vertex_codes ws line name wcet deadline true o
    ∙ ap (λ b. vertex_rows true numbers range (is_name name) b (nat_le (most_vertices (version_of ws)) (count_by is_vertex (own_lines ws)))) (w.vertex_named name)
    ∙ ap (λ n. vertex_rows true numbers range (is_name name) (has_vertex name d.vertices) (nat_le (most_vertices n) (count_by is_vertex (own_lines ws)))) v
    ∙ ap (λ n. vertex_rows true numbers range (is_name name) (has_vertex name d.vertices) (nat_le (most_vertices s.version) n)) w.vertices
    ∙ sym (vertex_in s d name wcet deadline at)

pub edge_agrees : (ws : List Fields) (s : State) (line : List ℕ) (rest : Fields) (c : Option Draft) → s.current ≡ c → Open ws line (inside_of c) → ShownOf ws s c
    → Agrees ws s line (edge_word ∷ rest) kinds.Edge
unfolding kind_fault edge_fault is_of_no_kind has_wrong_length is_task is_vertex is_edge is_priority is_end
edge_agrees ws s line [] c at o w = misshapen ws line (edge_word ∷ []) (inside_of c) o refl refl
edge_agrees ws s line (from ∷ []) c at o w = misshapen ws line (edge_word ∷ from ∷ []) (inside_of c) o refl refl
edge_agrees ws s line (from ∷ to ∷ []) c at o w = misshapen ws line (edge_word ∷ from ∷ to ∷ []) (inside_of c) o refl refl
edge_agrees ws s line (from ∷ to ∷ sep ∷ more ∷ rest) c at o w =
    misshapen ws line (edge_word ∷ from ∷ to ∷ sep ∷ more ∷ rest) (inside_of c) o refl (rw (long edge_word from to sep more rest) refl)
edge_agrees ws s line (from ∷ to ∷ sep ∷ []) None at o w =
    edge_codes ws line from to sep false o
    ∙ sym (edge_out s from to sep (not (has_vertex_named from ws && has_vertex_named to ws)) (has_edge_between from to ws) (nat_le 256 (count_by is_edge (own_lines ws))) at)
edge_agrees ws s line (from ∷ to ∷ sep ∷ []) (Some d) at o w =
    let names = is_name from && is_name to in
    let rows = edge_rows true (is_number sep) (is_in_range sep) names in
    let many = nat_le 256 (count_by is_edge (own_lines ws)) in
    let missing = not (has_vertex from d.vertices && has_vertex to d.vertices) in
    let again = has_edge (place_of_name from d.vertices) (place_of_name to d.vertices) d.edges in
    edge_codes ws line from to sep true o
    ∙ ap (λ b. rows (not (b && has_vertex_named to ws)) (has_edge_between from to ws) many) (w.vertex_named from)
    ∙ ap (λ b. rows (not (has_vertex from d.vertices && b)) (has_edge_between from to ws) many) (w.vertex_named to)
    ∙ ap (λ b. rows missing b many) (w.edge_between from to)
    ∙ ap (λ n. rows missing again (nat_le 256 n)) w.edges
    ∙ sym (edge_in s d from to sep at)

pub priority_agrees : (ws : List Fields) (s : State) (line : List ℕ) (rest : Fields) (c : Option Draft) → s.current ≡ c → Open ws line (inside_of c)
    → version_of ws ≡ s.version → s.version ≡ 2 → ShownOf ws s c
    → Agrees ws s line (priority_word ∷ rest) kinds.Priority
unfolding kind_fault priority_fault is_of_no_kind has_wrong_length is_task is_vertex is_edge is_priority is_end
priority_agrees ws s line [] c at o v two w = misshapen ws line (priority_word ∷ []) (inside_of c) o (rw (v ∙ two) refl) refl
priority_agrees ws s line (number ∷ more ∷ rest) c at o v two w =
    misshapen ws line (priority_word ∷ number ∷ more ∷ rest) (inside_of c) o (rw (v ∙ two) refl) (rw (longer priority_word number more rest) refl)
priority_agrees ws s line (number ∷ []) None at o v two w =
    priority_codes ws line number false o (v ∙ two) ∙ sym (priority_out s number (list_any is_priority (own_lines ws)) (others_have_priority (value number) ws) at)
priority_agrees ws s line (number ∷ []) (Some d) at o v two w =
    priority_codes ws line number true o (v ∙ two)
    ∙ ap (λ b. priority_rows true (is_number number) (is_in_range number) b (others_have_priority (value number) ws)) (w.has_own two)
    ∙ ap (λ b. priority_rows true (is_number number) (is_in_range number) (has_priority d) b) (w.others_have two (value number))
    ∙ sym (priority_in s d number at)

pub end_agrees : (ws : List Fields) (s : State) (line : List ℕ) (rest : Fields) (inside : Bool) → Open ws line inside → Agrees ws s line (end_word ∷ rest) kinds.End
unfolding kind_fault end_fault is_of_no_kind has_wrong_length is_task is_vertex is_edge is_priority is_end
end_agrees ws s line [] inside o = end_codes ws line inside o
end_agrees ws s line (more ∷ rest) inside o = misshapen ws line (end_word ∷ more ∷ rest) inside o refl (rw (longest end_word more rest) refl)

other_kind : (version : ℕ) (word : List ℕ) → kind version word ≡ kinds.Other
    → not (bytes_eq word task_word || (bytes_eq word vertex_word || (bytes_eq word edge_word || (bytes_eq word end_word || (version == 2 && bytes_eq word priority_word))))) ≡ true
unfolding kind
other_kind version word = go (bytes_eq word task_word) (bytes_eq word vertex_word) (bytes_eq word edge_word) (bytes_eq word priority_word) (version == 2) (bytes_eq word end_word)
  where
    go : (t v e p two n : Bool) → cond t kinds.Task (cond v kinds.Vertex (cond e kinds.Edge (cond (p && two) kinds.Priority (cond n kinds.End kinds.Other)))) ≡ kinds.Other
        → not (t || (v || (e || (n || (two && p))))) ≡ true
    go true v e p two n h = absurd (cc)
    go false true e p two n h = absurd (cc)
    go false false true p two n h = absurd (cc)
    go false false false true true n h = absurd (cc)
    go false false false true false true h = absurd (cc)
    go false false false true false false h = refl
    go false false false false two true h = absurd (cc)
    go false false false false true false h = refl
    go false false false false false false h = refl

pub other_agrees : (ws : List Fields) (s : State) (line : List ℕ) (words : Fields) (inside : Bool) → kind s.version (first_word words) ≡ kinds.Other → version_of ws ≡ s.version → Open ws line inside
    → Agrees ws s line words kinds.Other
unfolding kind_fault is_of_no_kind is_task is_vertex is_edge is_priority is_end
other_agrees ws s line words inside k v o = kindless ws line words inside o (ap none_at (first_field words) ∙ (rw v (other_kind s.version (first_word words) k)))
  where
    first_field : (words : Fields) → field 0 words ≡ first_word words
    first_field [] = refl
    first_field (word ∷ words) = refl

    none_at : List ℕ → Bool
    none_at word = not (bytes_eq word task_word || (bytes_eq word vertex_word || (bytes_eq word edge_word || (bytes_eq word end_word || (version_of ws == 2 && bytes_eq word priority_word)))))
