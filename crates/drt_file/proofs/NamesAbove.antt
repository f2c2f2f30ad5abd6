-- The names that stand above, found in a list of them.
use Rattle.std.proofs.Common.{◌≡◌, ℕ, suc, ◌+◌, ◌≤◌, nat_lt, Bool, true, false, not, ◌||◌, List, [], ◌∷◌, ◌++◌, map, length, Option, Some, None, refl, sym, ap, ◌∙◌, arith, cond}
use Rattle.std.specs.Prelude.{bytes_eq, option_map}
use Rattle.std.specs.List.{list_any, position_or_len, position}
use Rattle.std.proofs.lemmas.List.{map_push}
use Rattle.std.proofs.lemmas.List.Folds.{list_any-append}
use Rattle.std.proofs.lemmas.Slice.Eq.{bytes_eq-Decides}
use Rattle.drt_model.specs.declared.tasks.Vertex.{Vertex}
use Rattle.drt_model.specs.declared.tasks.Edge.{Edge}
use Rattle.drt_file.specs.declared.state.Draft.{Draft}
use Rattle.drt_file.specs.declared.state.State.{State}
use Rattle.drt_file.specs.internal.StateFaults.{has_vertex, place_of_name, in_task, in_some_task, is_outside}
use Rattle.drt_file.specs.internal.Reader.{own_vertices, task_names, vertex_names, HasNames, joined_draft}
use Rattle.drt_file.specs.internal.Steps.{with_last, narrow, on_current, after_task, after_end, with_vertex, with_edge, with_priority}
use Rattle.drt_file.proofs.Table.{inside}

same_bytes : (xs ys : List ℕ) → bytes_eq xs ys ≡ bytes_eq ys xs
same_bytes xs ys = go (bytes_eq xs ys) (bytes_eq ys xs) refl refl
  where
    go : (a b : Bool) → bytes_eq xs ys ≡ a → bytes_eq ys xs ≡ b → a ≡ b
    go true true p q = refl
    go false false p q = refl
    go true false p q = sym (sym q ∙ (bytes_eq-Decides ys xs).1 (sym ((bytes_eq-Decides xs ys).0 p)))
    go false true p q = sym p ∙ (bytes_eq-Decides xs ys).1 (sym ((bytes_eq-Decides ys xs).0 q))

or_false : (b : Bool) → (b || false) ≡ b
or_false true = refl
or_false false = refl

-- a test of names, where items are known by their names
pub any_of : {X : Type 0} (p : List ℕ → Bool) (f : X → List ℕ) (xs : List X) → list_any (λ x. p (f x)) xs ≡ list_any p (map f xs)
any_of p f [] = refl
any_of p f (x ∷ xs) = ap (λ b. p (f x) || b) (any_of p f xs)

pub placed_as : {X : Type 0} (p : List ℕ → Bool) (f : X → List ℕ) (xs : List X) → position_or_len (λ x. p (f x)) xs ≡ position_or_len p (map f xs)
placed_as p f [] = refl
placed_as p f (x ∷ xs) = ap (λ n. cond (not (p (f x))) (1 + n) 0) (placed_as p f xs)

-- the query may stand on either side
pub found_either_way : {X : Type 0} (f : X → List ℕ) (name : List ℕ) (xs : List X) → list_any (λ x. bytes_eq name (f x)) xs ≡ list_any (λ n. bytes_eq n name) (map f xs)
found_either_way f name [] = refl
found_either_way f name (x ∷ xs) = ap (λ b. b || list_any (λ x. bytes_eq name (f x)) xs) (same_bytes name (f x)) ∙ ap (λ b. bytes_eq (f x) name || b) (found_either_way f name xs)

pub placed_either_way : {X : Type 0} (f : X → List ℕ) (name : List ℕ) (xs : List X) → position_or_len (λ x. bytes_eq name (f x)) xs ≡ position_or_len (λ n. bytes_eq n name) (map f xs)
placed_either_way f name [] = refl
placed_either_way f name (x ∷ xs) =
    ap (λ b. cond (not b) (1 + position_or_len (λ x. bytes_eq name (f x)) xs) 0) (same_bytes name (f x)) ∙ ap (λ n. cond (not (bytes_eq (f x) name)) (1 + n) 0) (placed_either_way f name xs)

-- a place that is found, and none
pub at_that_place : {X : Type 0} (p : X → Bool) (xs : List X) (i : ℕ) → Some i ≡ position p xs → i ≡ position_or_len p xs
at_that_place p xs i e = go _ e
  where
    go : (b : Bool) → Some i ≡ cond b (Some (position_or_len p xs)) None → i ≡ position_or_len p xs
    go true h = grind (arith, h)
    go false h = absurd (cc)

at_most_length : {X : Type 0} (p : X → Bool) (xs : List X) → position_or_len p xs ≤ length xs
at_most_length p [] = omega arith
at_most_length p (x ∷ xs) = go (at_most_length p xs) (p x) refl
  where
    go : position_or_len p xs ≤ length xs → (b : Bool) → p x ≡ b → position_or_len p (x ∷ xs) ≤ length (x ∷ xs)
    go rest true at = let here : position_or_len p (x ∷ xs) ≡ 0 = rw at refl in omega (arith, here)
    go rest false at = let next : position_or_len p (x ∷ xs) ≡ suc (position_or_len p xs) = rw at (omega arith) in omega (arith, next, rest)

pub at_no_place : {X : Type 0} (p : X → Bool) (xs : List X) → None ≡ position p xs → length xs ≡ position_or_len p xs
at_no_place p xs e = go _ refl e
  where
    go : (b : Bool) → nat_lt (position_or_len p xs) (length xs) ≡ b → None ≡ cond b (Some (position_or_len p xs)) None → length xs ≡ position_or_len p xs
    go true at h = absurd (cc)
    go false at h = grind (arith, at, at_most_length p xs)

-- a new item goes to the end
pub added : {X : Type 0} (f : X → List ℕ) (xs later : List X) (x : X) (names : List (List ℕ)) → later ≡ cond (list_any (λ k. bytes_eq (f x) (f k)) xs) xs (xs ++ x ∷ []) → map f xs ≡ names
    → list_any (λ n. bytes_eq n (f x)) names ≡ false → map f later ≡ names ++ f x ∷ []
added f xs later x names is shown new =
    let absent : list_any (λ k. bytes_eq (f x) (f k)) xs ≡ false = found_either_way f (f x) xs ∙ ap (λ ns. list_any (λ n. bytes_eq n (f x)) ns) shown ∙ new in
    ap (map f) (is ∙ ap (λ b. cond b xs (xs ++ x ∷ [])) absent) ∙ map_push f xs x ∙ ap (λ ns. ns ++ f x ∷ []) shown

among : (ds : List Draft) (o : Option Draft) (name : List ℕ)
    → list_any (λ n. bytes_eq n name) (map (λ d. d.name) (with_last ds o)) ≡ (list_any (λ d. bytes_eq d.name name) ds || (elim o [ None ↦ false | Some d ↦ bytes_eq d.name name ]))
unfolding with_last
among ds None name = sym (any_of (λ n. bytes_eq n name) (λ d. d.name) ds) ∙ sym (or_false _)
among ds (Some d) name =
    sym (any_of (λ n. bytes_eq n name) (λ d. d.name) (ds ++ d ∷ [])) ∙ list_any-append (λ d. bytes_eq d.name name) ds (d ∷ [])
    ∙ ap (λ b. list_any (λ d. bytes_eq d.name name) ds || b) (or_false (bytes_eq d.name name))

-- a task's name stands among the names of the tasks above where one of them has it
pub task_among : (s : State) (name : List ℕ) → list_any (λ n. bytes_eq n name) (task_names s) ≡ in_some_task (λ d. bytes_eq d.name name) s
unfolding task_names in_some_task in_task
task_among s name = among s.closed s.current name

pub vertex_among : (s : State) (name : List ℕ) → list_any (λ n. bytes_eq n name) (vertex_names s) ≡ has_vertex name (own_vertices s)
unfolding vertex_names
vertex_among s name = sym (any_of (λ n. bytes_eq n name) (λ v. v.name) (own_vertices s))

pub vertex_placed : (s : State) (name : List ℕ) → position_or_len (λ n. bytes_eq n name) (vertex_names s) ≡ place_of_name name (own_vertices s)
unfolding vertex_names place_of_name
vertex_placed s name = sym (placed_as (λ n. bytes_eq n name) (λ v. v.name) (own_vertices s))

-- names that stand as tables of them say, after each line

-- after a `task` line
pub names_after_task : (n : ℕ) (s t : State) (name word : List ℕ) (tasks vertices more none : List (List ℕ)) → HasNames s tasks vertices → t ≡ after_task n s name
    → more ≡ tasks ++ word ∷ [] → word ≡ name → none ≡ [] → HasNames t more none
unfolding after_task task_names vertex_names own_vertices with_last
names_after_task n s t name word tasks vertices more none has at grown same cleared = record {
  of_tasks = grown ∙ ap (λ w. tasks ++ w ∷ []) same ∙ ap (λ ns. ns ++ name ∷ []) has.of_tasks ∙ sym (map_push (λ d. d.name) (with_last s.closed s.current) _) ∙ sym (ap task_names at);
  of_vertices = cleared ∙ sym (ap vertex_names at);
}

last_named : (f : Draft → Draft) → ((d : Draft) → (f d).name ≡ d.name) → (ds : List Draft) (o : Option Draft) → map (λ d. d.name) (with_last ds (option_map f o)) ≡ map (λ d. d.name) (with_last ds o)
unfolding with_last
last_named f same ds None = refl
last_named f same ds (Some d) = map_push (λ d. d.name) ds (f d) ∙ ap (λ n. map (λ d. d.name) ds ++ n ∷ []) (same d) ∙ sym (map_push (λ d. d.name) ds d)

-- a change of the open task that leaves its name
task_names_stay : (f : Draft → Draft) → ((d : Draft) → (f d).name ≡ d.name) → (s : State) → task_names (on_current f s) ≡ task_names s
unfolding on_current task_names
task_names_stay f same s = last_named f same s.closed s.current

vertex_names_stay : (f : Draft → Draft) → ((d : Draft) → (f d).vertices ≡ d.vertices) → (s : State) → vertex_names (on_current f s) ≡ vertex_names s
unfolding on_current vertex_names own_vertices
vertex_names_stay f same s = go s.current
  where
    go : (o : Option Draft) → map (λ (v : Vertex). v.name) (elim (option_map f o) [ None ↦ [] | Some d ↦ d.vertices ]) ≡ map (λ (v : Vertex). v.name) (elim o [ None ↦ [] | Some d ↦ d.vertices ])
    go None = refl
    go (Some d) = ap (λ (vs : List Vertex). map (λ v. v.name) vs) (same d)

-- after an `edge` line
pub names_after_edge : (e : Edge) (s t : State) (tasks vertices : List (List ℕ)) → HasNames s tasks vertices → t ≡ on_current (joined_draft e) s → HasNames t tasks vertices
unfolding joined_draft
names_after_edge e s t tasks vertices has at = record {
  of_tasks = has.of_tasks ∙ sym (task_names_stay (joined_draft e) (λ d. refl) s) ∙ sym (ap task_names at);
  of_vertices = has.of_vertices ∙ sym (vertex_names_stay (joined_draft e) (λ d. refl) s) ∙ sym (ap vertex_names at);
}

-- after a `priority` line
pub names_after_priority : (n : ℕ) (s t : State) (tasks vertices : List (List ℕ)) → HasNames s tasks vertices → t ≡ on_current (with_priority n) s → HasNames t tasks vertices
unfolding with_priority
names_after_priority n s t tasks vertices has at = record {
  of_tasks = has.of_tasks ∙ sym (task_names_stay (with_priority n) (λ d. refl) s) ∙ sym (ap task_names at);
  of_vertices = has.of_vertices ∙ sym (vertex_names_stay (with_priority n) (λ d. refl) s) ∙ sym (ap vertex_names at);
}

-- after an `end` line
pub names_after_end : (s t : State) (tasks vertices : List (List ℕ)) → HasNames s tasks vertices → t ≡ after_end s → HasNames t tasks vertices
unfolding after_end task_names vertex_names own_vertices
names_after_end s t tasks vertices has at = record {
  of_tasks = has.of_tasks ∙ sym (ap task_names at);
  of_vertices = has.of_vertices ∙ sym (ap vertex_names at);
}

one_more : (v : Vertex) (s : State) (d : Draft) → s.current ≡ Some d → vertex_names (on_current (with_vertex v) s) ≡ vertex_names s ++ v.name ∷ []
unfolding on_current vertex_names own_vertices with_vertex
one_more v s d at = rw at (map_push (λ v. v.name) d.vertices v)

-- after a `vertex` line
pub names_after_vertex : (v : Vertex) (s r t : State) (word : List ℕ) (tasks vertices more : List (List ℕ)) → HasNames s tasks vertices → s ≡ r → is_outside r ≡ false
    → t ≡ on_current (with_vertex v) s
    → more ≡ vertices ++ word ∷ [] → word ≡ v.name → HasNames t tasks more
unfolding with_vertex
names_after_vertex v s r t word tasks vertices more has view within at grown same =
    let here = inside s (ap is_outside view ∙ within) in
    record {
      of_tasks = has.of_tasks ∙ sym (task_names_stay (with_vertex v) (λ d. refl) s) ∙ sym (ap task_names at);
      of_vertices = grown ∙ ap (λ w. vertices ++ w ∷ []) same ∙ ap (λ ns. ns ++ v.name ∷ []) has.of_vertices ∙ sym (one_more v s here.0 here.1) ∙ sym (ap vertex_names at);
    }

-- the ends of an edge by the places of their names
pub ends_by_place : (from to : List ℕ) (sep : ℕ) (s : State)
    → on_current (joined_draft (record { from = narrow (place_of_name from (own_vertices s)); to = narrow (place_of_name to (own_vertices s)); sep = sep })) s ≡ on_current (with_edge from to sep) s
unfolding on_current joined_draft with_edge own_vertices
ends_by_place from to sep s = go s.current refl
  where
    go : (o : Option Draft) → s.current ≡ o
        → on_current (joined_draft (record { from = narrow (place_of_name from (own_vertices s)); to = narrow (place_of_name to (own_vertices s)); sep = sep })) s ≡
        on_current (with_edge from to sep) s
    go None at = rw at refl
    go (Some d) at = rw at refl

pub edge_is : (from to : List ℕ) (sep : ℕ) (s r : State) (a b : ℕ) → s ≡ r → a ≡ narrow (place_of_name from (own_vertices r)) → b ≡ narrow (place_of_name to (own_vertices r))
    → on_current (joined_draft (record { from = a; to = b; sep = sep })) s ≡ on_current (with_edge from to sep) r
edge_is from to sep s r a b view is_from is_to =
    ap (λ t. on_current (joined_draft (record { from = a; to = b; sep = sep })) t) view ∙ ap (λ x. on_current (joined_draft (record { from = x; to = b; sep = sep })) r) is_from
    ∙ ap (λ y. on_current (joined_draft (record { from = narrow (place_of_name from (own_vertices r)); to = y; sep = sep })) r) is_to ∙ ends_by_place from to sep r

-- what a line without a fault says of its names

pub not_among_tasks : (s r : State) (name word : List ℕ) (tasks vertices : List (List ℕ)) → HasNames s tasks vertices → s ≡ r → word ≡ name → in_some_task (λ d. bytes_eq d.name name) r ≡ false
    → list_any (λ n. bytes_eq n word) tasks ≡ false
not_among_tasks s r name word tasks vertices has view same new =
    ap (λ w. list_any (λ n. bytes_eq n w) tasks) same ∙ ap (λ ts. list_any (λ n. bytes_eq n name) ts) has.of_tasks ∙ task_among s name
    ∙ ap (λ t. in_some_task (λ d. bytes_eq d.name name) t) view ∙ new

pub not_among_vertices : (s r : State) (name word : List ℕ) (tasks vertices : List (List ℕ)) → HasNames s tasks vertices → s ≡ r → word ≡ name → has_vertex name (own_vertices r) ≡ false
    → list_any (λ n. bytes_eq n word) vertices ≡ false
not_among_vertices s r name word tasks vertices has view same new =
    ap (λ w. list_any (λ n. bytes_eq n w) vertices) same ∙ ap (λ vs. list_any (λ n. bytes_eq n name) vs) has.of_vertices ∙ vertex_among s name
    ∙ ap (λ t. has_vertex name (own_vertices t)) view ∙ new

pub own_of : (s : State) (d : Draft) → s.current ≡ Some d → own_vertices s ≡ d.vertices
unfolding own_vertices
own_of s d at = rw at refl
