-- What the lines of a text say by the tests of the table of faults: the names, edges and priorities of the tasks that they say.
use Rattle.std.proofs.Common.{◌≡◌, ◌≢◌, ℕ, zero, suc, ◌+◌, ◌<◌, Bool, true, false, not, ◌&&◌, ◌||◌, List, [], ◌∷◌, ◌++◌, length, Option, Some, None, refl, sym, ap, ◌∙◌, append_assoc, arith, cond, length-append}
use Rattle.std.specs.Prelude.{bytes_eq, slice_get, ◌==◌, count_by, unwrap_or, option_map}
use Rattle.std.specs.List.{AllByRecursion, list_any}
use Rattle.std.proofs.lemmas.List.{append-nil}
use Rattle.std.proofs.lemmas.List.Folds.{list_any-append}
use Rattle.std.proofs.lemmas.List.Sums.{sum_by-append}
use Rattle.std.proofs.lemmas.Slice.Eq.{bytes_eq-Decides}
use Rattle.drt_model.specs.declared.tasks.Vertex.{Vertex}
use Rattle.drt_model.specs.declared.tasks.Edge.{Edge}
use Rattle.drt_model.specs.Limits.{IsEdgeAmong}
use Rattle.drt_file.specs.declared.state.Draft.{Draft}
use Rattle.drt_file.specs.trusted.Words.{value, task_word, vertex_word, edge_word, priority_word}
use Rattle.drt_file.specs.trusted.Canonical.{name_at}
use Rattle.drt_file.specs.trusted.Faults.{Fields, field, is_task, is_vertex, is_edge, is_priority, is_end, has_task, own_lines, lines_of_others}
use Rattle.drt_file.specs.trusted.Reading.{Says, nothing, vertex, edge, priority}
use Rattle.drt_file.proofs.Written.{SaysVertex, SaysEdge, SaysPriority, means_number, written_priority}
use Rattle.drt_file.specs.internal.StateFaults.{place_of_name, has_edge, has_that_priority}
use Rattle.drt_file.proofs.Kept.{IsDraft, SaysDrafts, none, more}
use Rattle.drt_file.proofs.Meanings.{unlike, either_false}
use Rattle.drt_file.proofs.Passing.{every_at}
use Rattle.drt_file.proofs.Snoc.{Pairwise}

pub or_false : (b : Bool) → (b || false) ≡ b
or_false true = refl
or_false false = refl

pub any_push : {X : Type 0} (q : X → Bool) (xs : List X) (x : X) → list_any q (xs ++ x ∷ []) ≡ (list_any q xs || q x)
any_push q xs x = list_any-append q xs (x ∷ []) ∙ ap (λ b. list_any q xs || b) (or_false (q x))

pub count_push : {X : Type 0} (q : X → Bool) (xs : List X) (x : X) → count_by q (xs ++ x ∷ []) ≡ count_by q xs + cond (q x) 1 0
count_push q xs x = let e = sum_by-append (λ y. cond (q y) 1 0) xs (x ∷ []) in omega (arith, e)

-- The last `task` line parts what stands above.
pub has_last : (xs : List Fields) (t : Fields) (body : List Fields) → is_task t ≡ true → has_task (xs ++ t ∷ body) ≡ true
unfolding has_task
has_last [] t body is = ap (λ b. b || has_task body) is
has_last (x ∷ xs) t body is = go (is_task x) (has_last xs t body is)
  where
    go : (b : Bool) → list_any is_task (xs ++ t ∷ body) ≡ true → (b || list_any is_task (xs ++ t ∷ body)) ≡ true
    go true h = refl
    go false h = h

pub own_is : (xs : List Fields) (t : Fields) (body : List Fields) → is_task t ≡ true → has_task body ≡ false → own_lines (xs ++ t ∷ body) ≡ body
unfolding own_lines
own_is [] t body is never = rw (is, never) refl
own_is (x ∷ xs) t body is never = go (own_is xs t body is never) (is_task x) (has_task (xs ++ t ∷ body)) (has_last xs t body is)
  where
    go : own_lines (xs ++ t ∷ body) ≡ body → (b c : Bool) → c ≡ true → cond (b && not c) (xs ++ t ∷ body) (own_lines (xs ++ t ∷ body)) ≡ body
    go rest true true h = rest
    go rest false true h = rest
    go rest b false h = absurd (cc)

pub others_are : (xs : List Fields) (t : Fields) (body : List Fields) → is_task t ≡ true → has_task body ≡ false → lines_of_others (xs ++ t ∷ body) ≡ xs
unfolding lines_of_others
others_are [] t body is never = rw never refl
others_are (x ∷ xs) t body is never = rw (has_last xs t body is) (ap (λ l. x ∷ l) (others_are xs t body is never))

-- What passes a test in the lines of a task.
abbrev pub OnVertices : (Fields → Bool) → (Vertex → Bool) → Type 0
OnVertices q r = (words : List (List ℕ)) (v : Vertex) → SaysVertex words v → q words ≡ r v

abbrev pub NoEdges : (Fields → Bool) → Type 0
NoEdges q = (from to sep : List ℕ) → q (edge_word ∷ from ∷ to ∷ sep ∷ []) ≡ false

abbrev pub NoVertices : (Fields → Bool) → Type 0
NoVertices q = (name wcet deadline : List ℕ) → q (vertex_word ∷ name ∷ wcet ∷ deadline ∷ []) ≡ false

abbrev pub NoPriorities : (Fields → Bool) → Type 0
NoPriorities q = (number : List ℕ) → q (priority_word ∷ number ∷ []) ≡ false

or_none : (a b : Bool) → b ≡ false → (a || b) ≡ a
or_none true b e = refl
or_none false b e = e

no_vertex_at : (q : Fields → Bool) → NoVertices q → (words : List (List ℕ)) (v : Vertex) → SaysVertex words v → q words ≡ false
no_vertex_at q never words v (wcet, deadline, is, mw, md) = ap q is ∙ never v.name wcet deadline

no_edge_at : (q : Fields → Bool) → NoEdges q → (vs : List Vertex) (words : List (List ℕ)) (e : Edge) → SaysEdge vs words e → q words ≡ false
no_edge_at q never vs words e (from, to, sep, f, t, is, m) = ap q is ∙ never from.name to.name sep

no_priority_at : (q : Fields → Bool) → NoPriorities q → (words : List (List ℕ)) (n : ℕ) → SaysPriority words n → q words ≡ false
no_priority_at q never words n (number, is, m) = ap q is ∙ never number

pub none_said : (q : Fields → Bool) → NoVertices q → NoEdges q → NoPriorities q → (body : List Fields) (vs : List Vertex) (es : List Edge) (p : Option ℕ) → Says body vs es p → list_any q body ≡ false
none_said q nv ne np body vs es p nothing = refl
none_said q nv ne np body vs es p (vertex body2 vs2 es2 p2 v wcet deadline says mw ml) =
    let words = vertex_word ∷ v.name ∷ wcet ∷ deadline ∷ [] in
    let is : SaysVertex words v = (wcet, deadline, refl, means_number wcet v.wcet mw, means_number deadline v.deadline ml) in
    any_push q body2 words ∙ or_none (list_any q body2) (q words) (no_vertex_at q nv words v is) ∙ none_said q nv ne np body2 vs2 es2 p2 says
none_said q nv ne np body vs es p (edge body2 vs2 es2 p2 e from to sep says at_from at_to m) =
    let words = edge_word ∷ from.name ∷ to.name ∷ sep ∷ [] in
    let is : SaysEdge vs2 words e = (from, to, sep, at_from, at_to, refl, means_number sep e.sep m) in
    any_push q body2 words ∙ or_none (list_any q body2) (q words) (no_edge_at q ne vs2 words e is) ∙ none_said q nv ne np body2 vs2 es2 p2 says
none_said q nv ne np body vs es p (priority body2 vs2 es2 number n says m) =
    let words = priority_word ∷ number ∷ [] in
    let is : SaysPriority words n = (number, refl, means_number number n m) in
    any_push q body2 words ∙ or_none (list_any q body2) (q words) (no_priority_at q np words n is) ∙ none_said q nv ne np body2 vs2 es2 None says

-- Vertices.
pub vertices_said : (q : Fields → Bool) (r : Vertex → Bool) → OnVertices q r → NoEdges q → NoPriorities q
    → (body : List Fields) (vs : List Vertex) (es : List Edge) (p : Option ℕ) → Says body vs es p → list_any q body ≡ list_any r vs
vertices_said q r on ne np body vs es p nothing = refl
vertices_said q r on ne np body vs es p (vertex body2 vs2 es2 p2 v wcet deadline says mw ml) =
    let words = vertex_word ∷ v.name ∷ wcet ∷ deadline ∷ [] in
    let is : SaysVertex words v = (wcet, deadline, refl, means_number wcet v.wcet mw, means_number deadline v.deadline ml) in
    any_push q body2 words ∙ ap (λ b. b || q words) (vertices_said q r on ne np body2 vs2 es2 p2 says) ∙ ap (λ b. list_any r vs2 || b) (on words v is) ∙ sym (any_push r vs2 v)
vertices_said q r on ne np body vs es p (edge body2 vs2 es2 p2 e from to sep says at_from at_to m) =
    let words = edge_word ∷ from.name ∷ to.name ∷ sep ∷ [] in
    let is : SaysEdge vs2 words e = (from, to, sep, at_from, at_to, refl, means_number sep e.sep m) in
    any_push q body2 words ∙ or_none (list_any q body2) (q words) (no_edge_at q ne vs2 words e is) ∙ vertices_said q r on ne np body2 vs2 es2 p2 says
vertices_said q r on ne np body vs es p (priority body2 vs2 es2 number n says m) =
    let words = priority_word ∷ number ∷ [] in
    let is : SaysPriority words n = (number, refl, means_number number n m) in
    any_push q body2 words ∙ or_none (list_any q body2) (q words) (no_priority_at q np words n is) ∙ vertices_said q r on ne np body2 vs2 es2 None says

pub vertices_named : (name : List ℕ) (body : List Fields) (vs : List Vertex) (es : List Edge) (p : Option ℕ) → Says body vs es p
    → list_any (λ o. is_vertex o && bytes_eq (field 1 o) name) body ≡ list_any (λ v. bytes_eq v.name name) vs
unfolding is_vertex
vertices_named name body vs es p says =
    vertices_said (λ o. is_vertex o && bytes_eq (field 1 o) name) (λ v. bytes_eq v.name name) (λ words v (wcet, deadline, is, mw, md). rw is refl) (λ f t s. refl) (λ n. refl) body vs es p says

plus_none : (n : ℕ) (b : Bool) → b ≡ false → n + cond b 1 0 ≡ n
plus_none n b e = rw e (omega arith)

plus_one : (n : ℕ) (b : Bool) → b ≡ true → n + cond b 1 0 ≡ n + 1
plus_one n b e = rw e refl

is_vertex_at : (words : List (List ℕ)) (v : Vertex) → SaysVertex words v → is_vertex words ≡ true
unfolding is_vertex
is_vertex_at words v (wcet, deadline, is, mw, md) = rw is refl

is_edge_at : (vs : List Vertex) (words : List (List ℕ)) (e : Edge) → SaysEdge vs words e → is_edge words ≡ true
unfolding is_edge
is_edge_at vs words e (from, to, sep, f, t, is, m) = rw is refl

pub vertices_counted : (body : List Fields) (vs : List Vertex) (es : List Edge) (p : Option ℕ) → Says body vs es p → count_by is_vertex body ≡ length vs
unfolding is_vertex
vertices_counted body vs es p nothing = refl
vertices_counted body vs es p (vertex body2 vs2 es2 p2 v wcet deadline says mw ml) =
    let words = vertex_word ∷ v.name ∷ wcet ∷ deadline ∷ [] in
    let is : SaysVertex words v = (wcet, deadline, refl, means_number wcet v.wcet mw, means_number deadline v.deadline ml) in
    count_push is_vertex body2 words ∙ plus_one _ (is_vertex words) (is_vertex_at words v is) ∙ ap (λ n. n + 1) (vertices_counted body2 vs2 es2 p2 says) ∙ sym (length-append vs2 (v ∷ []))
vertices_counted body vs es p (edge body2 vs2 es2 p2 e from to sep says at_from at_to m) =
    let words = edge_word ∷ from.name ∷ to.name ∷ sep ∷ [] in
    let is : SaysEdge vs2 words e = (from, to, sep, at_from, at_to, refl, means_number sep e.sep m) in
    count_push is_vertex body2 words ∙ plus_none _ (is_vertex words) (no_edge_at is_vertex (λ f t s. refl) vs2 words e is) ∙ vertices_counted body2 vs2 es2 p2 says
vertices_counted body vs es p (priority body2 vs2 es2 number n says m) =
    let words = priority_word ∷ number ∷ [] in
    let is : SaysPriority words n = (number, refl, means_number number n m) in
    count_push is_vertex body2 words ∙ plus_none _ (is_vertex words) (no_priority_at is_vertex (λ m. refl) words n is) ∙ vertices_counted body2 vs2 es2 None says

pub edges_counted : (body : List Fields) (vs : List Vertex) (es : List Edge) (p : Option ℕ) → Says body vs es p → count_by is_edge body ≡ length es
unfolding is_edge
edges_counted body vs es p nothing = refl
edges_counted body vs es p (vertex body2 vs2 es2 p2 v wcet deadline says mw ml) =
    let words = vertex_word ∷ v.name ∷ wcet ∷ deadline ∷ [] in
    let is : SaysVertex words v = (wcet, deadline, refl, means_number wcet v.wcet mw, means_number deadline v.deadline ml) in
    count_push is_edge body2 words ∙ plus_none _ (is_edge words) (no_vertex_at is_edge (λ a b c. refl) words v is) ∙ edges_counted body2 vs2 es2 p2 says
edges_counted body vs es p (edge body2 vs2 es2 p2 e from to sep says at_from at_to m) =
    let words = edge_word ∷ from.name ∷ to.name ∷ sep ∷ [] in
    let is : SaysEdge vs2 words e = (from, to, sep, at_from, at_to, refl, means_number sep e.sep m) in
    count_push is_edge body2 words ∙ plus_one _ (is_edge words) (is_edge_at vs2 words e is) ∙ ap (λ n. n + 1) (edges_counted body2 vs2 es2 p2 says) ∙ sym (length-append es2 (e ∷ []))
edges_counted body vs es p (priority body2 vs2 es2 number n says m) =
    let words = priority_word ∷ number ∷ [] in
    let is : SaysPriority words n = (number, refl, means_number number n m) in
    count_push is_edge body2 words ∙ plus_none _ (is_edge words) (no_priority_at is_edge (λ m. refl) words n is) ∙ edges_counted body2 vs2 es2 None says

-- Edges, by the names of their ends.
abbrev joins : List ℕ → List ℕ → Fields → Bool
joins f t o = is_edge o && (bytes_eq (field 1 o) f && bytes_eq (field 2 o) t)

abbrev joined_by : List ℕ → List ℕ → List Vertex → Edge → Bool
joined_by f t vs e = bytes_eq (name_at vs e.from) f && bytes_eq (name_at vs e.to) t

slice_more : (vs more_vs : List Vertex) (i : ℕ) (v : Vertex) → slice_get vs i ≡ Some v → slice_get (vs ++ more_vs) i ≡ Some v
slice_more [] more_vs i v e = absurd (cc)
slice_more (u ∷ us) more_vs zero v e = e
slice_more (u ∷ us) more_vs (suc i) v e = slice_more us more_vs i v e

pub name_of_place : (vs : List Vertex) (i : ℕ) (v : Vertex) → slice_get vs i ≡ Some v → name_at vs i ≡ v.name
unfolding name_at
name_of_place vs i v e = ap (λ (o : Option Vertex). unwrap_or (option_map (λ u. u.name) o) []) e

edge_named : (f t : List ℕ) (vs more_vs : List Vertex) (words : List (List ℕ)) (e : Edge) → SaysEdge vs words e → joins f t words ≡ joined_by f t (vs ++ more_vs) e
unfolding is_edge
edge_named f t vs more_vs words e (from, to, sep, at_from, at_to, is, m) =
    let a : name_at (vs ++ more_vs) e.from ≡ from.name = name_of_place (vs ++ more_vs) e.from from (slice_more vs more_vs e.from from at_from) in
    let b : name_at (vs ++ more_vs) e.to ≡ to.name = name_of_place (vs ++ more_vs) e.to to (slice_more vs more_vs e.to to at_to) in
    rw (is, a, b) refl

edges_named : (f t : List ℕ) (body : List Fields) (vs : List Vertex) (es : List Edge) (p : Option ℕ) → Says body vs es p → (more_vs : List Vertex)
    → list_any (joins f t) body ≡ list_any (joined_by f t (vs ++ more_vs)) es
unfolding is_edge
edges_named f t body vs es p nothing more_vs = refl
edges_named f t body vs es p (vertex body2 vs2 es2 p2 v wcet deadline says mw ml) more_vs =
    let words = vertex_word ∷ v.name ∷ wcet ∷ deadline ∷ [] in
    let is : SaysVertex words v = (wcet, deadline, refl, means_number wcet v.wcet mw, means_number deadline v.deadline ml) in
    any_push (joins f t) body2 words ∙ or_none _ (joins f t words) (no_vertex_at (joins f t) (λ a b c. refl) words v is) ∙ edges_named f t body2 vs2 es2 p2 says (v ∷ more_vs)
    ∙ ap (λ l. list_any (joined_by f t l) es2) (sym (append_assoc vs2 (v ∷ []) more_vs))
edges_named f t body vs es p (edge body2 vs2 es2 p2 e from to sep says at_from at_to m) more_vs =
    let words = edge_word ∷ from.name ∷ to.name ∷ sep ∷ [] in
    let is : SaysEdge vs2 words e = (from, to, sep, at_from, at_to, refl, means_number sep e.sep m) in
    any_push (joins f t) body2 words ∙ ap (λ b. b || joins f t words) (edges_named f t body2 vs2 es2 p2 says more_vs)
    ∙ ap (λ b. list_any (joined_by f t (vs2 ++ more_vs)) es2 || b) (edge_named f t vs2 more_vs words e is) ∙ sym (any_push (joined_by f t (vs2 ++ more_vs)) es2 e)
edges_named f t body vs es p (priority body2 vs2 es2 number n says m) more_vs =
    let words = priority_word ∷ number ∷ [] in
    let is : SaysPriority words n = (number, refl, means_number number n m) in
    any_push (joins f t) body2 words ∙ or_none _ (joins f t words) (no_priority_at (joins f t) (λ m. refl) words n is) ∙ edges_named f t body2 vs2 es2 None says more_vs

-- A place is that of a name where the vertex there has the name.
some_at : {X : Type 0} (xs : List X) (i : ℕ) → i < length xs → (x : X) × (slice_get xs i ≡ Some x)
some_at [] i lt = absurd (omega (arith, lt))
some_at (x ∷ xs) zero lt = (x, refl)
some_at (x ∷ xs) (suc i) lt = some_at xs i (omega (arith, lt))

other_name : (f : List ℕ) (v : Vertex) (vs : List Vertex) (i : ℕ) → AllByRecursion (λ w. v.name ≢ w.name) vs → i < length vs → bytes_eq v.name f ≡ true → bytes_eq (name_at vs i) f ≡ false
other_name f v vs i are lt at =
    let w = some_at vs i lt in
    let is : v.name ≡ f = (bytes_eq-Decides v.name f).0 at in
    let other : v.name ≢ w.0.name = every_at (λ u. v.name ≢ u.name) vs i w.0 are w.1 in
    ap (λ n. bytes_eq n f) (name_of_place vs i w.0 w.1) ∙ unlike w.0.name f (λ same. other (is ∙ sym same))

pub at_place : (f : List ℕ) (vs : List Vertex) (i : ℕ) → Pairwise (λ u v. u.name ≢ v.name) vs → i < length vs → (i == place_of_name f vs) ≡ bytes_eq (name_at vs i) f
unfolding place_of_name name_at
at_place f [] i are lt = absurd (omega (arith, lt))
at_place f (v ∷ vs) zero are lt = go (bytes_eq v.name f)
  where
    go : (b : Bool) → (0 == cond (not b) (1 + place_of_name f vs) 0) ≡ b
    go true = refl
    go false = grind arith
at_place f (v ∷ vs) (suc i) are lt = go (at_place f vs i are.1 (omega (arith, lt))) (bytes_eq v.name f) refl
  where
    go : (i == place_of_name f vs) ≡ bytes_eq (name_at vs i) f → (b : Bool) → bytes_eq v.name f ≡ b → (suc i == cond (not b) (1 + place_of_name f vs) 0) ≡ bytes_eq (name_at vs i) f
    go rest false at = (grind arith) ∙ rest
    go rest true at = (grind arith) ∙ sym (other_name f v vs i are.0 (omega (arith, lt)) at)

-- An edge with two ends stands among the edges where one with their names does.
edges_placed : (f t : List ℕ) (vs : List Vertex) → Pairwise (λ u v. u.name ≢ v.name) vs → (es : List Edge) → AllByRecursion (IsEdgeAmong (length vs)) es
    → list_any (joined_by f t vs) es ≡ has_edge (place_of_name f vs) (place_of_name t vs) es
unfolding has_edge
edges_placed f t vs distinct [] are = refl
edges_placed f t vs distinct (e ∷ es) are =
    let a : (e.from == place_of_name f vs) ≡ bytes_eq (name_at vs e.from) f = at_place f vs e.from distinct are.0.from in
    let b : (e.to == place_of_name t vs) ≡ bytes_eq (name_at vs e.to) t = at_place t vs e.to distinct are.0.to in
    ap (λ c. (c && bytes_eq (name_at vs e.to) t) || list_any (joined_by f t vs) es) (sym a)
    ∙ ap (λ c. ((e.from == place_of_name f vs) && c) || list_any (joined_by f t vs) es) (sym b)
    ∙ ap (λ c. ((e.from == place_of_name f vs) && (e.to == place_of_name t vs)) || c) (edges_placed f t vs distinct es are.1)

pub edges_said : (f t : List ℕ) (body : List Fields) (vs : List Vertex) (es : List Edge) (p : Option ℕ) → Says body vs es p → Pairwise (λ u v. u.name ≢ v.name) vs
    → AllByRecursion (IsEdgeAmong (length vs)) es
    → list_any (λ o. is_edge o && (bytes_eq (field 1 o) f && bytes_eq (field 2 o) t)) body ≡ has_edge (place_of_name f vs) (place_of_name t vs) es
edges_said f t body vs es p says distinct are =
    edges_named f t body vs es p says [] ∙ ap (λ l. list_any (joined_by f t l) es) (append-nil vs) ∙ edges_placed f t vs distinct es are

-- Priorities.
pub priorities_said : (q : Fields → Bool) (r : ℕ → Bool) → NoVertices q → NoEdges q → ((words : List (List ℕ)) (n : ℕ) → SaysPriority words n → q words ≡ r n)
    → (body : List Fields) (vs : List Vertex) (es : List Edge) (p : Option ℕ) → Says body vs es p → list_any q body ≡ elim p [ None ↦ false | Some n ↦ r n ]
priorities_said q r nv ne on body vs es p nothing = refl
priorities_said q r nv ne on body vs es p (vertex body2 vs2 es2 p2 v wcet deadline says mw ml) =
    let words = vertex_word ∷ v.name ∷ wcet ∷ deadline ∷ [] in
    let is : SaysVertex words v = (wcet, deadline, refl, means_number wcet v.wcet mw, means_number deadline v.deadline ml) in
    any_push q body2 words ∙ or_none (list_any q body2) (q words) (no_vertex_at q nv words v is) ∙ priorities_said q r nv ne on body2 vs2 es2 p2 says
priorities_said q r nv ne on body vs es p (edge body2 vs2 es2 p2 e from to sep says at_from at_to m) =
    let words = edge_word ∷ from.name ∷ to.name ∷ sep ∷ [] in
    let is : SaysEdge vs2 words e = (from, to, sep, at_from, at_to, refl, means_number sep e.sep m) in
    any_push q body2 words ∙ or_none (list_any q body2) (q words) (no_edge_at q ne vs2 words e is) ∙ priorities_said q r nv ne on body2 vs2 es2 p2 says
priorities_said q r nv ne on body vs es p (priority body2 vs2 es2 number n says m) =
    let words = priority_word ∷ number ∷ [] in
    let is : SaysPriority words n = (number, refl, means_number number n m) in
    any_push q body2 words ∙ ap (λ b. b || q words) (priorities_said q r nv ne on body2 vs2 es2 None says) ∙ on words n is

pub has_priority_said : (body : List Fields) (vs : List Vertex) (es : List Edge) (p : Option ℕ) → Says body vs es p → list_any is_priority body ≡ elim p [ None ↦ false | Some n ↦ true ]
unfolding is_priority
has_priority_said body vs es p says = priorities_said is_priority (λ n. true) (λ a b c. refl) (λ a b c. refl) (λ words n (number, is, m). rw is refl) body vs es p says

pub that_priority_said : (k : ℕ) (body : List Fields) (vs : List Vertex) (es : List Edge) (p : Option ℕ) → Says body vs es p
    → list_any (λ o. is_priority o && value (field 1 o) == k) body ≡ elim p [ None ↦ false | Some n ↦ n == k ]
unfolding is_priority
that_priority_said k body vs es p says =
    priorities_said (λ o. is_priority o && value (field 1 o) == k) (λ n. n == k) (λ a b c. refl) (λ a b c. refl) (λ words n (number, is, m). rw is (ap (λ x. x == k) m.1)) body vs es p says

-- What passes a test in the lines of tasks.
pub drafts_said : (version : ℕ) (q : Fields → Bool) (r : Draft → Bool) → ((own : List Fields) (d : Draft) → IsDraft version own d → list_any q own ≡ r d)
    → (ls : List Fields) (ds : List Draft) → SaysDrafts version ls ds → list_any q ls ≡ list_any r ds
drafts_said version q r on ls ds none = refl
drafts_said version q r on ls ds (more ls2 ds2 own d rest is) =
    list_any-append q ls2 own ∙ ap (λ b. b || list_any q own) (drafts_said version q r on ls2 ds2 rest) ∙ ap (λ b. list_any r ds2 || b) (on own d is) ∙ sym (any_push r ds2 d)

pub body_has_no_task : (body : List Fields) (vs : List Vertex) (es : List Edge) (p : Option ℕ) → Says body vs es p → has_task body ≡ false
unfolding has_task is_task
body_has_no_task body vs es p says = none_said is_task (λ a b c. refl) (λ a b c. refl) (λ n. refl) body vs es p says

count_none : {X : Type 0} (q : X → Bool) (xs : List X) → list_any q xs ≡ false → count_by q xs ≡ 0
count_none q [] e = refl
count_none q (x ∷ xs) e = let b = either_false (q x) (list_any q xs) e in rw b.0 (count_none q xs b.1)

pub one_task_in : (version : ℕ) (own : List Fields) (d : Draft) → IsDraft version own d → count_by is_task own ≡ 1
unfolding has_task is_task
one_task_in version own d is =
    let head : count_by is_task ((task_word ∷ d.name ∷ []) ∷ is.body) ≡ 1 + count_by is_task is.body = sum_by-append (λ y. cond (is_task y) 1 0) ((task_word ∷ d.name ∷ []) ∷ []) is.body in
    let rest = count_none is_task is.body (body_has_no_task is.body d.vertices d.edges (written_priority version d.priority) is.says) in
    ap (λ l. count_by is_task l) is.own_is ∙ head ∙ (omega (arith, rest))

pub tasks_counted : (version : ℕ) (ls : List Fields) (ds : List Draft) → SaysDrafts version ls ds → count_by is_task ls ≡ length ds
tasks_counted version ls ds none = refl
tasks_counted version ls ds (more ls2 ds2 own d rest is) =
    let a : count_by is_task (ls2 ++ own) ≡ count_by is_task ls2 + count_by is_task own = sum_by-append (λ y. cond (is_task y) 1 0) ls2 own in
    let b = one_task_in version own d is in
    let c = tasks_counted version ls2 ds2 rest in
    let e : length (ds2 ++ d ∷ []) ≡ length ds2 + 1 = length-append ds2 (d ∷ []) in
    omega (arith, a, b, c, e)

pub no_end_in : (version : ℕ) (own : List Fields) (d : Draft) → IsDraft version own d → list_any is_end own ≡ false
unfolding is_end
no_end_in version own d is = ap (list_any is_end) is.own_is ∙ none_said is_end (λ a b c. refl) (λ a b c. refl) (λ n. refl) is.body d.vertices d.edges (written_priority version d.priority) is.says

pub task_named_in : (name : List ℕ) (version : ℕ) (own : List Fields) (d : Draft) → IsDraft version own d
    → list_any (λ o. is_task o && bytes_eq (field 1 o) name) own ≡ bytes_eq d.name name
unfolding is_task
task_named_in name version own d is =
    let q : Fields → Bool = λ o. is_task o && bytes_eq (field 1 o) name in
    ap (list_any q) is.own_is
    ∙ or_none (bytes_eq d.name name) (list_any q is.body) (none_said q (λ a b c. refl) (λ a b c. refl) (λ n. refl) is.body d.vertices d.edges (written_priority version d.priority) is.says)

pub priority_in : (k : ℕ) (own : List Fields) (d : Draft) → IsDraft 2 own d → list_any (λ o. is_priority o && value (field 1 o) == k) own ≡ has_that_priority k d
unfolding is_priority has_that_priority written_priority
priority_in k own d is =
    let q : Fields → Bool = λ o. is_priority o && value (field 1 o) == k in
    ap (list_any q) is.own_is ∙ that_priority_said k is.body d.vertices d.edges d.priority is.says
