-- What is known of the tasks that lines leave: what the lines say, and the limits that they keep.
use Rattle.std.proofs.Common.{◌≡◌, ◌≢◌, ℕ, ◌+◌, ◌≤◌, ◌<◌, Bool, true, false, ◌&&◌, List, [], ◌∷◌, ◌++◌, length, map, Option, Some, None, refl, sym, ap, subst, ◌∙◌, append_assoc, arith, cond, length-append}
use Rattle.std.specs.Prelude.{bytes_eq, slice_get, ◌==◌}
use Rattle.std.specs.List.{AllByRecursion}
use Rattle.drt_model.specs.declared.tasks.Vertex.{Vertex}
use Rattle.drt_model.specs.declared.tasks.Edge.{Edge}
use Rattle.drt_model.specs.Limits.{IsVersion, IsName, IsPriority, IsVertex, IsEdgeAmong, most_tasks, most_vertices}
use Rattle.drt_file.specs.declared.state.Draft.{Draft}
use Rattle.drt_file.specs.declared.state.State.{State}
use Rattle.drt_file.specs.trusted.Words.{is_number, value, task_word, vertex_word, edge_word, priority_word}
use Rattle.drt_file.specs.trusted.Line.{is_in_range}
use Rattle.drt_file.specs.trusted.Canonical.{version_line}
use Rattle.drt_file.specs.internal.StateFaults.{has_edge, has_that_priority, place_of_name}
use Rattle.drt_file.specs.internal.Steps.{narrow, with_vertex, with_edge, with_priority, capped}
use Rattle.drt_file.specs.trusted.Reading.{Says}
use Rattle.drt_file.proofs.Written.{Means, says_vertex, says_edge, says_priority, written_priority}
use Rattle.drt_file.proofs.Snoc.{every_push, every_weaker, every_map, Pairwise, pairs_push}
use Rattle.drt_file.proofs.Meanings.{range_is, range_capped, differ, every_of_any}
use Rattle.drt_file.proofs.Names.{is_a_name}
use Rattle.drt_file.proofs.Places.{stands_at, place_within}
use Rattle.drt_file.proofs.Table.{VertexPassed, EdgePassed, PriorityPassed}
use Rattle.drt_file.proofs.Keys.{key_of, Differ, Keys, keys_last}

-- A task as far as its lines go: they say it, and it keeps the limits.
pub record IsDraft (version : ℕ) (own : List (List (List ℕ))) (d : Draft) : Type 0 where
  pub body : List (List (List ℕ))
  pub own_is : own ≡ (task_word ∷ d.name ∷ []) ∷ body
  pub says : Says body d.vertices d.edges (written_priority version d.priority)
  pub name : IsName d.name
  pub priority : (n : ℕ) → d.priority ≡ Some n → IsPriority n
  pub few_vertices : length d.vertices ≤ most_vertices version
  pub vertices : AllByRecursion IsVertex d.vertices
  pub distinct_names : Pairwise (λ u v. u.name ≢ v.name) d.vertices
  pub few_edges : length d.edges ≤ 256
  pub edges : AllByRecursion (IsEdgeAmong (length d.vertices)) d.edges
  pub one_edge : Pairwise (λ e f. e.from ≡ f.from → e.to ≢ f.to) d.edges

-- Tasks, each with its lines.
pub data SaysDrafts (version : ℕ) : List (List (List ℕ)) → List Draft → Type 0 where
  none : SaysDrafts version [] []
  more : (ls : List (List (List ℕ))) (ds : List Draft) (own : List (List (List ℕ))) (d : Draft) → SaysDrafts version ls ds → IsDraft version own d → SaysDrafts version (ls ++ own) (ds ++ d ∷ [])

-- What the lines above say, where the next line stands in a task.
pub record Inside (ws : List (List (List ℕ))) (version : ℕ) (closed : List Draft) (d : Draft) : Type 0 where
  pub known : IsVersion version
  pub done : List (List (List ℕ))
  pub own : List (List (List ℕ))
  pub says_closed : SaysDrafts version done closed
  pub says_last : IsDraft version own d
  pub ws_are : ws ≡ version_line version ∷ (done ++ own)
  pub few : length closed + 1 ≤ most_tasks version
  pub keys : Keys version (map key_of closed ++ key_of d ∷ [])

-- What the lines above say, outside and inside of a task.
abbrev pub Stands : List (List (List ℕ)) → ℕ → List Draft → Option Draft → Type 0
Stands ws version closed None = (closed ≡ []) × (ws ≡ version_line version ∷ []) × IsVersion version
Stands ws version closed (Some d) = Inside ws version closed d

pub means : (word : List ℕ) → is_number word ≡ true → is_in_range word ≡ true → Means word (capped word)
means word number in_range = (number, sym (range_capped word in_range))

-- A further line of the task.
goes_on : (ws done own : List (List (List ℕ))) (version : ℕ) (words : List (List ℕ)) → ws ≡ version_line version ∷ (done ++ own)
    → ws ++ words ∷ [] ≡ version_line version ∷ (done ++ (own ++ words ∷ []))
goes_on ws done own version words e = ap (λ l. l ++ words ∷ []) e ∙ ap (λ l. version_line version ∷ l) (append_assoc done own (words ∷ []))

pub one_more : {X : Type 0} (xs : List X) (y : X) → length (xs ++ y ∷ []) ≡ length xs + 1
one_more xs y = length-append xs (y ∷ [])

abbrev pub vertex_of : {s : State} {words : List (List ℕ)} → VertexPassed s words → Vertex
vertex_of p = record { name = p.name; wcet = capped p.wcet; deadline = capped p.deadline }

pub vertex_goes : (ws : List (List (List ℕ))) (s : State) (words : List (List ℕ)) (p : VertexPassed s words) → p.word ≡ vertex_word → Inside ws s.version s.closed p.draft
    → Inside (ws ++ words ∷ []) s.version s.closed (with_vertex (vertex_of p) p.draft)
unfolding with_vertex
vertex_goes ws s words p is at =
    let d = p.draft in
    let v : Vertex = vertex_of p in
    let last = at.says_last in
    let grown : length (d.vertices ++ v ∷ []) ≡ length d.vertices + 1 = one_more d.vertices v in
    let room : length d.vertices < most_vertices s.version = p.room in
    record {
      known = at.known;
      done = at.done;
      own = at.own ++ words ∷ [];
      says_closed = at.says_closed;
      says_last = record {
        body = last.body ++ words ∷ [];
        own_is = ap (λ l. l ++ words ∷ []) last.own_is;
        says = says_vertex last.body d.vertices d.edges (written_priority s.version d.priority) words v last.says
            (p.wcet, p.deadline, p.words_are ∙ ap (λ w. w ∷ p.name ∷ p.wcet ∷ p.deadline ∷ []) is, means p.wcet p.numbers.0 p.in_range.0, means p.deadline p.numbers.1 p.in_range.1);
        name = last.name;
        priority = last.priority;
        few_vertices = omega (arith, grown, room);
        vertices = every_push IsVertex d.vertices v last.vertices (record { name = is_a_name p.name p.is_named; wcet = range_is p.wcet p.in_range.0; deadline = range_is p.deadline p.in_range.1 });
        distinct_names = pairs_push (λ u w. u.name ≢ w.name) d.vertices v last.distinct_names
            (every_weaker (λ u. bytes_eq u.name p.name ≡ false) (λ u. u.name ≢ p.name) (λ u h. differ u.name p.name h) d.vertices (every_of_any (λ u. bytes_eq u.name p.name) d.vertices p.new_name));
        few_edges = last.few_edges;
        edges = every_weaker (IsEdgeAmong (length d.vertices)) (IsEdgeAmong (length (d.vertices ++ v ∷ [])))
            (λ e h. record { from = let lt = h.from in omega (arith, grown, lt); to = let lt = h.to in omega (arith, grown, lt); sep = h.sep }) d.edges last.edges;
        one_edge = last.one_edge;
      };
      ws_are = goes_on ws at.done at.own s.version words at.ws_are;
      few = at.few;
      keys = at.keys;
    }

pub most_96 : (version : ℕ) → most_vertices version ≤ 96
most_96 version = go (version == 1)
  where
    go : (b : Bool) → cond b 48 96 ≤ 96
    go true = omega arith
    go false = omega arith

pub narrow_same : (n m : ℕ) → n < m → m ≤ 96 → narrow n ≡ n
narrow_same n m lt le = grind (arith, lt, le)

old_edge : (x : Edge) (f t from to : ℕ) → (x.from == f && x.to == t) ≡ false → from ≡ f → to ≡ t → x.from ≡ from → x.to ≡ to → ⊥
old_edge x f t from to e a b c d = grind (arith, e, a, b, c, d)

abbrev pub edge_of : {s : State} {words : List (List ℕ)} → EdgePassed s words → Edge
edge_of p = record { from = narrow (place_of_name p.from p.draft.vertices); to = narrow (place_of_name p.to p.draft.vertices); sep = capped p.sep }

pub edge_goes : (ws : List (List (List ℕ))) (s : State) (words : List (List ℕ)) (p : EdgePassed s words) → p.word ≡ edge_word → Inside ws s.version s.closed p.draft
    → Inside (ws ++ words ∷ []) s.version s.closed (with_edge p.from p.to (capped p.sep) p.draft)
unfolding with_edge has_edge
edge_goes ws s words p is at =
    let d = p.draft in
    let vs = d.vertices in
    let e : Edge = edge_of p in
    let last = at.says_last in
    let few : length vs ≤ 96 = let most = most_96 s.version in let le = last.few_vertices in omega (arith, most, le) in
    let f_in : place_of_name p.from vs < length vs = place_within p.from vs p.from_stands in
    let t_in : place_of_name p.to vs < length vs = place_within p.to vs p.to_stands in
    let f_same : narrow (place_of_name p.from vs) ≡ place_of_name p.from vs = narrow_same (place_of_name p.from vs) (length vs) f_in few in
    let t_same : narrow (place_of_name p.to vs) ≡ place_of_name p.to vs = narrow_same (place_of_name p.to vs) (length vs) t_in few in
    let from = stands_at p.from vs p.from_stands in
    let to = stands_at p.to vs p.to_stands in
    let grown : length (d.edges ++ e ∷ []) ≡ length d.edges + 1 = one_more d.edges e in
    let room : length d.edges < 256 = p.room in
    record {
      known = at.known;
      done = at.done;
      own = at.own ++ words ∷ [];
      says_closed = at.says_closed;
      says_last = record {
        body = last.body ++ words ∷ [];
        own_is = ap (λ l. l ++ words ∷ []) last.own_is;
        says = says_edge last.body vs d.edges (written_priority s.version d.priority) words e last.says
            (from.0, to.0, p.sep, ap (slice_get vs) f_same ∙ from.1, ap (slice_get vs) t_same ∙ to.1, p.words_are ∙ rw (is, from.2, to.2) refl, means p.sep p.number p.in_range);
        name = last.name;
        priority = last.priority;
        few_vertices = last.few_vertices;
        vertices = last.vertices;
        distinct_names = last.distinct_names;
        few_edges = omega (arith, grown, room);
        edges = every_push (IsEdgeAmong (length vs)) d.edges e last.edges
            (record { from = omega (arith, f_same, f_in); to = omega (arith, t_same, t_in); sep = range_is p.sep p.in_range });
        one_edge = pairs_push (λ x y. x.from ≡ y.from → x.to ≢ y.to) d.edges e last.one_edge
            (every_weaker (λ x. (x.from == place_of_name p.from vs && x.to == place_of_name p.to vs) ≡ false) (λ x. x.from ≡ e.from → x.to ≢ e.to)
            (λ x h a b. old_edge x (place_of_name p.from vs) (place_of_name p.to vs) e.from e.to h f_same t_same a b) d.edges
            (every_of_any (λ x. x.from == place_of_name p.from vs && x.to == place_of_name p.to vs) d.edges p.new_edge));
      };
      ws_are = goes_on ws at.done at.own s.version words at.ws_are;
      few = at.few;
      keys = at.keys;
    }

pub written_none : (version : ℕ) → written_priority version None ≡ None
unfolding written_priority
written_none version = go (version == 2) None
  where
    go : (b : Bool) (o : Option ℕ) → cond b o o ≡ o
    go true o = refl
    go false o = refl

pub written_two : (version : ℕ) (p : Option ℕ) → version ≡ 2 → written_priority version p ≡ p
unfolding written_priority
written_two version p two = rw two refl

other_priority : (m : ℕ) (c : Draft) (n : ℕ) → has_that_priority m c ≡ false → n ≡ m → Differ c.priority (Some n)
unfolding has_that_priority
other_priority m c n h same k e f = go c.priority refl h e
  where
    go : (o : Option ℕ) → c.priority ≡ o → (elim o [ None ↦ false | Some j ↦ j == m ]) ≡ false → c.priority ≡ Some k → ⊥
    go None at never is = cc
    go (Some j) at never is =
        let jk : j ≡ k = cc in
        let nk : n ≡ k = cc in
        grind (arith, never, jk, nk, same)

pub priority_goes : (ws : List (List (List ℕ))) (s : State) (words : List (List ℕ)) (p : PriorityPassed s words) → p.word ≡ priority_word → s.version ≡ 2 → Inside ws s.version s.closed p.draft
    → Inside (ws ++ words ∷ []) s.version s.closed (with_priority (capped p.number) p.draft)
unfolding with_priority
priority_goes ws s words p is two at =
    let d = p.draft in
    let last = at.says_last in
    let n = capped p.number in
    let was : written_priority s.version d.priority ≡ None = ap (written_priority s.version) p.none_yet ∙ written_none s.version in
    let now : written_priority s.version (Some n) ≡ Some n = written_two s.version (Some n) two in
    let none_said : Says last.body d.vertices d.edges None = subst (Says last.body d.vertices d.edges) was last.says in
    let said = says_priority last.body d.vertices d.edges words n none_said (p.number, p.words_are ∙ ap (λ w. w ∷ p.number ∷ []) is, means p.number p.is_one p.in_range) in
    record {
      known = at.known;
      done = at.done;
      own = at.own ++ words ∷ [];
      says_closed = at.says_closed;
      says_last = record {
        body = last.body ++ words ∷ [];
        own_is = ap (λ l. l ++ words ∷ []) last.own_is;
        says = subst (Says (last.body ++ words ∷ []) d.vertices d.edges) (sym now) said;
        name = last.name;
        priority = λ k e. let same : n ≡ k = cc in subst IsPriority same (range_is p.number p.in_range);
        few_vertices = last.few_vertices;
        vertices = last.vertices;
        distinct_names = last.distinct_names;
        few_edges = last.few_edges;
        edges = last.edges;
        one_edge = last.one_edge;
      };
      ws_are = goes_on ws at.done at.own s.version words at.ws_are;
      few = at.few;
      keys = keys_last (map key_of s.closed) s.version n d.name d.priority two at.keys
          (every_map (λ a. Differ a.1 (Some n)) key_of s.closed
          (every_weaker (λ c. has_that_priority (value p.number) c ≡ false) (λ c. Differ c.priority (Some n))
          (λ c h. other_priority (value p.number) c n h (range_capped p.number p.in_range)) s.closed (every_of_any (has_that_priority (value p.number)) s.closed p.new)));
    }
