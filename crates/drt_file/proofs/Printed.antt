-- The canonical text of a set reads as that set.
use Rattle.std.proofs.Common.{◌≡◌, ℕ, ◌≤◌, Bool, true, false, not, cond, List, [], ◌∷◌, ◌++◌, length, map, get_or, Option, Some, None, refl, ap, subst, ◌∙◌, append_assoc, arith}
use Rattle.std.specs.Prelude.{decimal, filter, ◌==◌}
use Rattle.std.specs.List.{AllByRecursion, flat_map}
use Rattle.std.proofs.lemmas.List.{append-nil}
use Rattle.std.proofs.lemmas.List.Elements.{recursion_from_All}
use Rattle.std.proofs.lemmas.Option.{slice_get-get_or}
use Rattle.drt_model.specs.declared.tasks.Vertex.{Vertex}
use Rattle.drt_model.specs.declared.tasks.Edge.{Edge}
use Rattle.drt_model.specs.declared.tasks.Task.{Task}
use Rattle.drt_model.specs.Contents.{Contents}
use Rattle.drt_model.specs.Limits.{IsVertex, IsEdgeAmong, IsTask, IsTaskSet}
use Rattle.drt_file.specs.trusted.Cutting.{lines_of_fields}
use Rattle.drt_file.specs.trusted.Words.{edge_word, priority_word}
use Rattle.drt_file.specs.trusted.Canonical.{name_at, vertex_line, edge_line, end_line, priority_lines, lines_of_body, task_lines, set_lines, canonical}
use Rattle.drt_file.specs.trusted.Line.{is_skipped}
use Rattle.drt_file.specs.trusted.Reading.{Says, nothing, SaysTask, SaysTasks, no_task, next_task, Reads}
use Rattle.drt_file.proofs.Written.{Means, says_vertex, says_edge, says_priority, written_priority, written_is}
use Rattle.drt_file.proofs.Again.{all_of_both, written_again}
use Rattle.drt_file.proofs.Digits.{decimal_number, value_decimal}
use Rattle.drt_file.proofs.Exact.{one_set}
use Rattle.drt_file.proofs.Fielded.{name_at_is, set_fielded}

pub cut_as_made : (set : Contents) → IsTaskSet set.version set.tasks → lines_of_fields (canonical set) ≡ set_lines set
unfolding canonical
cut_as_made set is = written_again (set_lines set) (set_fielded set is)

abbrev pub Stays : List (List ℕ) → Type 0
Stays words = is_skipped words ≡ false

pub all_stay : (ls : List (List (List ℕ))) → AllByRecursion Stays ls → filter (λ words. not (is_skipped words)) ls ≡ ls
all_stay [] are = refl
all_stay (l ∷ ls) are = ap (λ b. cond (not b) (l ∷ filter (λ words. not (is_skipped words)) ls) (filter (λ words. not (is_skipped words)) ls)) are.0 ∙ ap (λ others. l ∷ others) (all_stay ls are.1)

vertices_stay : (vs : List Vertex) → AllByRecursion Stays (map vertex_line vs)
unfolding is_skipped
vertices_stay [] = tt
vertices_stay (v ∷ vs) = (refl, vertices_stay vs)

edges_stay : (vs : List Vertex) (es : List Edge) → AllByRecursion Stays (map (edge_line vs) es)
unfolding is_skipped
edges_stay vs [] = tt
edges_stay vs (e ∷ es) = (refl, edges_stay vs es)

priority_stays : (version : ℕ) (t : Task) → AllByRecursion Stays (priority_lines version t)
unfolding priority_lines is_skipped
priority_stays version t = go (version == 2)
  where
    go : (b : Bool) → AllByRecursion Stays (cond b ((priority_word ∷ decimal t.priority ∷ []) ∷ []) [])
    go true = (refl, tt)
    go false = tt

tasks_stay : (version : ℕ) (ts : List Task) → AllByRecursion Stays (flat_map (task_lines version) ts)
unfolding task_lines lines_of_body is_skipped
tasks_stay version [] = tt
tasks_stay version (t ∷ ts) =
    all_of_both Stays (task_lines version t) (flat_map (task_lines version) ts) (
      refl,
      all_of_both Stays (priority_lines version t) (lines_of_body t) (priority_stays version t)
          (all_of_both Stays (map vertex_line t.vertices) (map (edge_line t.vertices) t.edges) (vertices_stay t.vertices) (edges_stay t.vertices t.edges)),
    )
    (tasks_stay version ts)

pub set_stays : (set : Contents) → AllByRecursion Stays (set_lines set)
unfolding set_lines is_skipped
set_stays set = (refl, all_of_both Stays (flat_map (task_lines set.version) set.tasks) (end_line ∷ []) (tasks_stay set.version set.tasks) (refl, tt))

means_decimal : (n : ℕ) → n ≤ 1000000 → Means (decimal n) n
means_decimal n le = (decimal_number n (omega arith), value_decimal n (omega arith))

vertices_said : (us : List Vertex) (body : List (List (List ℕ))) (vs : List Vertex) (es : List Edge) (p : Option ℕ) → AllByRecursion IsVertex us → Says body vs es p
    → Says (body ++ map vertex_line us) (vs ++ us) es p
vertices_said [] body vs es p are says = rw (append-nil body, append-nil vs) says
vertices_said (u ∷ us) body vs es p are says =
    let one = says_vertex body vs es p (vertex_line u) u says (decimal u.wcet, decimal u.deadline, refl, means_decimal u.wcet are.0.wcet.1, means_decimal u.deadline are.0.deadline.1) in
    let rest = vertices_said us (body ++ vertex_line u ∷ []) (vs ++ u ∷ []) es p are.1 one in
    subst (λ b. Says b (vs ++ u ∷ us) es p) (append_assoc body (vertex_line u ∷ []) (map vertex_line us))
    (subst (λ (ns : List Vertex). Says ((body ++ vertex_line u ∷ []) ++ map vertex_line us) ns es p) (append_assoc vs (u ∷ []) us) rest)

abbrev nobody : Vertex
nobody = record { name = []; wcet = 0; deadline = 0 }

edge_said : (vs : List Vertex) (body : List (List (List ℕ))) (es : List Edge) (p : Option ℕ) (e : Edge) → IsEdgeAmong (length vs) e → Says body vs es p
    → Says (body ++ edge_line vs e ∷ []) vs (es ++ e ∷ []) p
edge_said vs body es p e is says =
    let from = get_or vs e.from nobody in
    let to = get_or vs e.to nobody in
    let line : edge_line vs e ≡ edge_word ∷ from.name ∷ to.name ∷ decimal e.sep ∷ []
    = ap (λ n. edge_word ∷ n ∷ name_at vs e.to ∷ decimal e.sep ∷ []) (name_at_is vs e.from nobody is.from) ∙ ap (λ n. edge_word ∷ from.name ∷ n ∷ decimal e.sep ∷ [])
    (name_at_is vs e.to nobody is.to) in
    says_edge body vs es p (edge_line vs e) e says
    (from, to, decimal e.sep, slice_get-get_or vs e.from nobody is.from, slice_get-get_or vs e.to nobody is.to, line, means_decimal e.sep is.sep.1)

edges_said : (fs : List Edge) (body : List (List (List ℕ))) (vs : List Vertex) (es : List Edge) (p : Option ℕ) → AllByRecursion (IsEdgeAmong (length vs)) fs → Says body vs es p
    → Says (body ++ map (edge_line vs) fs) vs (es ++ fs) p
edges_said [] body vs es p are says = rw (append-nil body, append-nil es) says
edges_said (f ∷ fs) body vs es p are says =
    let rest = edges_said fs (body ++ edge_line vs f ∷ []) vs (es ++ f ∷ []) p are.1 (edge_said vs body es p f are.0 says) in
    subst (λ b. Says b vs (es ++ f ∷ fs) p) (append_assoc body (edge_line vs f ∷ []) (map (edge_line vs) fs))
    (subst (λ (gs : List Edge). Says ((body ++ edge_line vs f ∷ []) ++ map (edge_line vs) fs) vs gs p) (append_assoc es (f ∷ []) fs) rest)

priority_said : (version : ℕ) (t : Task) → t.priority ≤ 1000000 → Says (priority_lines version t) [] [] (written_priority version (Some t.priority))
unfolding priority_lines written_priority
priority_said version t le = go (version == 2)
  where
    go : (b : Bool) → Says (cond b ((priority_word ∷ decimal t.priority ∷ []) ∷ []) []) [] [] (cond b (Some t.priority) None)
    go true = says_priority [] [] [] (priority_word ∷ decimal t.priority ∷ []) t.priority nothing (decimal t.priority, refl, means_decimal t.priority le)
    go false = nothing

task_said : (version : ℕ) (t : Task) → IsTask version t → SaysTask version (task_lines version t) t
unfolding task_lines lines_of_body
task_said version t is =
    let pl = priority_lines version t in
    let mv = map vertex_line t.vertices in
    let me = map (edge_line t.vertices) t.edges in
    let p = written_priority version (Some t.priority) in
    let vertices : Says (pl ++ mv) t.vertices [] p = vertices_said t.vertices pl [] [] p (recursion_from_All IsVertex t.vertices is.vertices) (priority_said version t is.priority.1) in
    let edges : Says ((pl ++ mv) ++ me) t.vertices t.edges p = edges_said t.edges (pl ++ mv) t.vertices [] p (recursion_from_All (IsEdgeAmong (length t.vertices)) t.edges is.edges) vertices in
    let all : Says (pl ++ (mv ++ me)) t.vertices t.edges p = subst (λ b. Says b t.vertices t.edges p) (append_assoc pl mv me) edges in
    (pl ++ (mv ++ me), refl, subst (Says (pl ++ (mv ++ me)) t.vertices t.edges) (written_is version (Some t.priority)) all)

pub tasks_said : (version : ℕ) (us : List Task) (ls : List (List (List ℕ))) (ts : List Task) → AllByRecursion (IsTask version) us → SaysTasks version ls ts
    → SaysTasks version (ls ++ flat_map (task_lines version) us) (ts ++ us)
tasks_said version [] ls ts are says = rw (append-nil ls, append-nil ts) says
tasks_said version (u ∷ us) ls ts are says =
    let own = task_lines version u in
    let rest = tasks_said version us (ls ++ own) (ts ++ u ∷ []) are.1 (next_task ls ts own u says (task_said version u are.0)) in
    subst (λ b. SaysTasks version b (ts ++ u ∷ us)) (append_assoc ls own (flat_map (task_lines version) us))
    (subst (λ (ws : List Task). SaysTasks version ((ls ++ own) ++ flat_map (task_lines version) us) ws) (append_assoc ts (u ∷ []) us) rest)

pub canonical_reads : (set : Contents) → IsTaskSet set.version set.tasks → Reads (canonical set) set
unfolding set_lines
canonical_reads set is = record {
  limits = is;
  task_lines = flat_map (task_lines set.version) set.tasks;
  spelled = ap (filter (λ words. not (is_skipped words))) (cut_as_made set is) ∙ all_stay (set_lines set) (set_stays set);
  tasks = tasks_said set.version set.tasks [] [] (recursion_from_All (IsTask set.version) set.tasks is.each) no_task;
}

-- Two sets with one canonical text are one set.
pub told : (first second : Contents) → IsTaskSet first.version first.tasks → IsTaskSet second.version second.tasks → canonical first ≡ canonical second → first ≡ second
told first second a b e =
    one_set (canonical second) first second (subst (λ bytes. Reads bytes first) e (canonical_reads first a)) (canonical_reads second b)
