-- The lines of a task lead to that task.
use Rattle.std.proofs.Common.{◌≡◌, ◌≢◌, ℕ, ◌+◌, ◌≤◌, ◌<◌, Bool, true, false, List, [], ◌∷◌, ◌++◌, length, map, Option, Some, None, Ok, refl, sym, ap, subst, ◌∙◌, arith, cond, length-append}
use Rattle.std.specs.Prelude.{bytes_eq, slice_get, option_map, ◌==◌}
use Rattle.std.specs.List.{AllByRecursion, list_all, list_any}
use Rattle.std.proofs.lemmas.Option.{slice_get_within}
use Rattle.drt_model.specs.declared.tasks.Vertex.{Vertex}
use Rattle.drt_model.specs.declared.tasks.Edge.{Edge}
use Rattle.drt_model.specs.declared.tasks.Task.{Task}
use Rattle.drt_model.specs.Limits.{IsTime, IsPriority, IsVertex, most_vertices}
use Rattle.drt_file.specs.declared.state.Draft.{Draft}
use Rattle.drt_file.specs.declared.state.State.{State}
use Rattle.drt_file.specs.declared.state.Kind.TheVariants as kinds
use Rattle.drt_file.specs.trusted.Cutting.{is_blank, fields}
use Rattle.drt_file.specs.trusted.Words.{is_name, is_number, value, task_word, vertex_word, edge_word, priority_word}
use Rattle.drt_file.specs.internal.Kinds.{kind}
use Rattle.drt_file.specs.trusted.Line.{is_text}
use Rattle.drt_file.specs.internal.StateFaults.{kind_fault, has_vertex, has_edge, has_that_priority, place_of_name}
use Rattle.drt_file.specs.internal.Steps.{narrow, with_vertex, with_edge, with_priority, on_current, after_kind, line_step, capped}
use Rattle.drt_file.specs.trusted.Reading.{Says, nothing, vertex, edge, priority}
use Rattle.drt_file.proofs.Written.{Means, means_number}
use Rattle.drt_file.proofs.Snoc.{every_pop, every_map, every_unmap, every_weaker, Pairwise, pairs_pop}
use Rattle.drt_file.proofs.Meanings.{name_text, number_text, unlike, any_of_every}
use Rattle.drt_file.proofs.Names.{name_is}
use Rattle.drt_file.proofs.Leads.{Leads, leads_none, leads_one, leads_then, text_again, takes}
use Rattle.drt_file.proofs.Passing.{meant, vertex_again, edge_again, priority_again, every_at, stands_again, place_again, new_edge}

-- A task but for its line.
abbrev pub core : Draft → List ℕ × Option ℕ × List Vertex × List Edge
core d = (d.name, d.priority, d.vertices, d.edges)

abbrev pub core_of : Task → List ℕ × Option ℕ × List Vertex × List Edge
core_of t = (t.name, Some t.priority, t.vertices, t.edges)

-- The lines above leave these tasks and, open, this one.
pub record In (version : ℕ) (done : List Task) (c : List ℕ × Option ℕ × List Vertex × List Edge) (above : Option State) : Type 0 where
  pub s : State
  pub is : above ≡ Some s
  pub version_is : s.version ≡ version
  pub still : s.ended ≡ false
  pub closed_is : map core s.closed ≡ map core_of done
  pub d : Draft
  pub current_is : s.current ≡ Some d
  pub core_is : core d ≡ c

-- The limits of the vertices and the edges of a task.
pub record Parts (version : ℕ) (vs : List Vertex) (es : List Edge) : Type 0 where
  pub few : length vs ≤ most_vertices version
  pub vertices : AllByRecursion IsVertex vs
  pub names : Pairwise (λ u v. u.name ≢ v.name) vs
  pub few_edges : length es ≤ 256
  pub seps : AllByRecursion (λ e. IsTime e.sep) es
  pub one_edge : Pairwise (λ e f. e.from ≡ f.from → e.to ≢ f.to) es

-- A priority may be written: in version 2, in range, and other than those of these tasks.
abbrev pub Allowed : ℕ → List Task → Option ℕ → Type 0
Allowed version done p = (n : ℕ) → p ≡ Some n → (version ≡ 2) × IsPriority n × AllByRecursion (λ t. t.priority ≢ n) done

-- The priority of a task of which lines wrote p: in version 1 it is its number.
unfoldable pub held : ℕ → ℕ → Option ℕ → Option ℕ
held version k p = cond (version == 2) p (Some k)

one_more : {X : Type 0} (xs : List X) (y : X) → length (xs ++ y ∷ []) ≡ length xs + 1
one_more xs y = length-append xs (y ∷ [])

vertices_are : (d : Draft) (name : List ℕ) (p : Option ℕ) (vs : List Vertex) (es : List Edge) → core d ≡ (name, p, vs, es) → d.vertices ≡ vs
vertices_are d name p vs es e = ap (λ (x : List ℕ × Option ℕ × List Vertex × List Edge). x.2) e

edges_are : (d : Draft) (name : List ℕ) (p : Option ℕ) (vs : List Vertex) (es : List Edge) → core d ≡ (name, p, vs, es) → d.edges ≡ es
edges_are d name p vs es e = ap (λ (x : List ℕ × Option ℕ × List Vertex × List Edge). x.3) e

priority_is : (d : Draft) (name : List ℕ) (p : Option ℕ) (vs : List Vertex) (es : List Edge) → core d ≡ (name, p, vs, es) → d.priority ≡ p
priority_is d name p vs es e = ap (λ (x : List ℕ × Option ℕ × List Vertex × List Edge). x.1) e

pub parts_vertex : (version : ℕ) (vs : List Vertex) (v : Vertex) (es : List Edge) → Parts version (vs ++ v ∷ []) es → Parts version vs es
parts_vertex version vs v es p =
    let few = p.few in
    let grown = one_more vs v in
    record {
      few = omega (arith, few, grown);
      vertices = (every_pop IsVertex vs v p.vertices).0;
      names = (pairs_pop (λ u w. u.name ≢ w.name) vs v p.names).0;
      few_edges = p.few_edges;
      seps = p.seps;
      one_edge = p.one_edge;
    }

pub parts_edge : (version : ℕ) (vs : List Vertex) (e : Edge) (es : List Edge) → Parts version vs (es ++ e ∷ []) → Parts version vs es
parts_edge version vs e es p =
    let few = p.few_edges in
    let grown = one_more es e in
    record {
      few = p.few;
      vertices = p.vertices;
      names = p.names;
      few_edges = omega (arith, few, grown);
      seps = (every_pop (λ x. IsTime x.sep) es e p.seps).0;
      one_edge = (pairs_pop (λ x y. x.from ≡ y.from → x.to ≢ y.to) es e p.one_edge).0;
    }

pub vertex_text : (name wcet deadline : List ℕ) → is_name name ≡ true → is_number wcet ≡ true → is_number deadline ≡ true
    → list_all (list_all is_text) (vertex_word ∷ name ∷ wcet ∷ deadline ∷ []) ≡ true
unfolding is_text is_blank
vertex_text name wcet deadline n w d =
    let a = name_text name n in
    let b = number_text wcet w in
    let c = number_text deadline d in
    rw (a, b, c) refl

edge_text : (from to sep : List ℕ) → is_name from ≡ true → is_name to ≡ true → is_number sep ≡ true → list_all (list_all is_text) (edge_word ∷ from ∷ to ∷ sep ∷ []) ≡ true
unfolding is_text is_blank
edge_text from to sep f t n =
    let a = name_text from f in
    let b = name_text to t in
    let c = number_text sep n in
    rw (a, b, c) refl

pub priority_text : (number : List ℕ) → is_number number ≡ true → list_all (list_all is_text) (priority_word ∷ number ∷ []) ≡ true
unfolding is_text is_blank
priority_text number n = let a = number_text number n in rw a refl

pub task_text : (name : List ℕ) → is_name name ≡ true → list_all (list_all is_text) (task_word ∷ name ∷ []) ≡ true
unfolding is_text is_blank
task_text name n = let a = name_text name n in rw a refl

pub vertex_one : (version : ℕ) (done : List Task) (name : List ℕ) (p : Option ℕ) (vs : List Vertex) (es : List Edge) (v : Vertex) (wcet deadline : List ℕ)
    → Means wcet v.wcet → Means deadline v.deadline → Parts version (vs ++ v ∷ []) es
    → (n : ℕ) (above : Option State) (line : List ℕ) → In version done (name, p, vs, es) above → fields line ≡ vertex_word ∷ v.name ∷ wcet ∷ deadline ∷ []
    → (below : Option State) × (line_step n above line (vertex_word ∷ v.name ∷ wcet ∷ deadline ∷ []) ≡ Ok below) × In version done (name, p, vs ++ v ∷ [], es) below
unfolding kind kind_fault after_kind on_current with_vertex
vertex_one version done name p vs es v wcet deadline mw ml parts n above line at cut =
    let s = at.s in
    let d = at.d in
    let words = vertex_word ∷ v.name ∷ wcet ∷ deadline ∷ [] in
    let made : Vertex = record { name = v.name; wcet = capped wcet; deadline = capped deadline } in
    let is = (every_pop IsVertex vs v parts.vertices).1 in
    let named : is_name v.name ≡ true = name_is v.name is.name in
    let stand : d.vertices ≡ vs = vertices_are d name p vs es at.core_is in
    let new_names = (pairs_pop (λ u w. u.name ≢ w.name) vs v parts.names).1 in
    let new_vs : has_vertex v.name vs ≡ false = any_of_every (λ u. bytes_eq u.name v.name) vs
    (every_weaker (λ u. u.name ≢ v.name) (λ u. bytes_eq u.name v.name ≡ false) (λ u h. unlike u.name v.name h) vs new_names) in
    let new : has_vertex v.name d.vertices ≡ false = ap (has_vertex v.name) stand ∙ new_vs in
    let grown = one_more vs v in
    let few = parts.few in
    let count : length d.vertices ≡ length vs = ap length stand in
    let room_v : length d.vertices < most_vertices version = omega (arith, grown, few, count) in
    let room : length d.vertices < most_vertices s.version = subst (λ x. length d.vertices < most_vertices x) (sym at.version_is) room_v in
    let none = vertex_again s d v.name wcet deadline v.wcet v.deadline at.current_is mw ml is.name is.wcet is.deadline new room in
    let text = text_again line words cut (vertex_text v.name wcet deadline named mw.0 ml.0) in
    let same : made ≡ v
    = ap (λ w. record { name = v.name; wcet = w; deadline = capped deadline }) (meant wcet v.wcet mw is.wcet)
    ∙ ap (λ l. record { name = v.name; wcet = v.wcet; deadline = l }) (meant deadline v.deadline ml is.deadline) in (
      Some (after_kind kinds.Vertex n s words),
      ap (λ o. line_step n o line words) at.is ∙ takes n s line words kinds.Vertex text at.still refl none,
      record {
        s = on_current (with_vertex made) s;
        is = refl;
        version_is = at.version_is;
        still = at.still;
        closed_is = at.closed_is;
        d = with_vertex made d;
        current_is = ap (option_map (with_vertex made)) at.current_is;
        core_is = ap (λ (x : List ℕ × Option ℕ × List Vertex × List Edge). (x.0, x.1, x.2 ++ made ∷ [], x.3)) at.core_is ∙ ap (λ u. (name, p, vs ++ u ∷ [], es)) same;
      },
    )

small_place : (n m : ℕ) (version : ℕ) → n < m → m ≤ most_vertices version → narrow n ≡ n
small_place n m version lt le = let most = most_96 (version == 1) in omega (arith, lt, le, most)
  where
    most_96 : (b : Bool) → cond b 48 96 ≤ 96
    most_96 true = omega arith
    most_96 false = omega arith

pub edge_one : (version : ℕ) (done : List Task) (name : List ℕ) (p : Option ℕ) (vs : List Vertex) (es : List Edge) (e : Edge) (from to : Vertex) (sep : List ℕ)
    → slice_get vs e.from ≡ Some from → slice_get vs e.to ≡ Some to → Means sep e.sep → Parts version vs (es ++ e ∷ [])
    → (n : ℕ) (above : Option State) (line : List ℕ) → In version done (name, p, vs, es) above → fields line ≡ edge_word ∷ from.name ∷ to.name ∷ sep ∷ []
    → (below : Option State) × (line_step n above line (edge_word ∷ from.name ∷ to.name ∷ sep ∷ []) ≡ Ok below) × In version done (name, p, vs, es ++ e ∷ []) below
unfolding kind kind_fault after_kind on_current with_edge
edge_one version done name p vs es e from to sep at_from at_to m parts n above line at cut =
    let s = at.s in
    let d = at.d in
    let words = edge_word ∷ from.name ∷ to.name ∷ sep ∷ [] in
    let f_is = every_at IsVertex vs e.from from parts.vertices at_from in
    let t_is = every_at IsVertex vs e.to to parts.vertices at_to in
    let stand : d.vertices ≡ vs = vertices_are d name p vs es at.core_is in
    let above_es : d.edges ≡ es = edges_are d name p vs es at.core_is in
    let f_place : place_of_name from.name d.vertices ≡ e.from = ap (place_of_name from.name) stand ∙ place_again vs e.from from parts.names at_from in
    let t_place : place_of_name to.name d.vertices ≡ e.to = ap (place_of_name to.name) stand ∙ place_again vs e.to to parts.names at_to in
    let f_stands : has_vertex from.name d.vertices ≡ true = ap (has_vertex from.name) stand ∙ stands_again vs e.from from at_from in
    let t_stands : has_vertex to.name d.vertices ≡ true = ap (has_vertex to.name) stand ∙ stands_again vs e.to to at_to in
    let is_time = (every_pop (λ x. IsTime x.sep) es e parts.seps).1 in
    let others = (pairs_pop (λ x y. x.from ≡ y.from → x.to ≢ y.to) es e parts.one_edge).1 in
    let new : has_edge (place_of_name from.name d.vertices) (place_of_name to.name d.vertices) d.edges ≡ false
    = ap (λ f. has_edge f (place_of_name to.name d.vertices) d.edges) f_place ∙ ap (λ t. has_edge e.from t d.edges) t_place ∙ ap (has_edge e.from e.to) above_es ∙ new_edge es e.from e.to others in
    let grown = one_more es e in
    let few = parts.few_edges in
    let count : length d.edges ≡ length es = ap length above_es in
    let room : length d.edges < 256 = omega (arith, grown, few, count) in
    let none = edge_again s d from.name to.name sep e.sep at.current_is m is_time f_is.name t_is.name f_stands t_stands new room in
    let text = text_again line words cut (edge_text from.name to.name sep (name_is from.name f_is.name) (name_is to.name t_is.name) m.0) in
    let f_same : narrow (place_of_name from.name d.vertices) ≡ e.from = ap narrow f_place ∙ small_place e.from (length vs) version (slice_get_within vs e.from from at_from) parts.few in
    let t_same : narrow (place_of_name to.name d.vertices) ≡ e.to = ap narrow t_place ∙ small_place e.to (length vs) version (slice_get_within vs e.to to at_to) parts.few in
    let made : Edge = record { from = narrow (place_of_name from.name d.vertices); to = narrow (place_of_name to.name d.vertices); sep = capped sep } in
    let same : made ≡ e
    = ap (λ f. record { from = f; to = narrow (place_of_name to.name d.vertices); sep = capped sep }) f_same
    ∙ ap (λ t. record { from = e.from; to = t; sep = capped sep }) t_same
    ∙ ap (λ x. record { from = e.from; to = e.to; sep = x }) (meant sep e.sep m is_time) in (
      Some (after_kind kinds.Edge n s words),
      ap (λ o. line_step n o line words) at.is ∙ takes n s line words kinds.Edge text at.still refl none,
      record {
        s = on_current (with_edge from.name to.name (capped sep)) s;
        is = refl;
        version_is = at.version_is;
        still = at.still;
        closed_is = at.closed_is;
        d = with_edge from.name to.name (capped sep) d;
        current_is = ap (option_map (with_edge from.name to.name (capped sep))) at.current_is;
        core_is = ap (λ (x : List ℕ × Option ℕ × List Vertex × List Edge). (x.0, x.1, x.2, x.3 ++ made ∷ [])) at.core_is ∙ ap (λ u. (name, p, vs, es ++ u ∷ [])) same;
      },
    )

pub held_two : (version k : ℕ) (p : Option ℕ) → version ≡ 2 → held version k p ≡ p
unfolding held
held_two version k p two = ap (λ v. cond (v == 2) p (Some k)) two

no_such : (d : Draft) (m n : ℕ) → m ≡ n → d.priority ≢ Some n → has_that_priority m d ≡ false
unfolding has_that_priority
no_such d m n same other = go d.priority refl
  where
    test : (j : ℕ) → j ≢ m → (j == m) ≡ false
    test j ne = grind (arith, ne)

    go : (o : Option ℕ) → d.priority ≡ o → (elim o [ None ↦ false | Some j ↦ j == m ]) ≡ false
    go None at = refl
    go (Some j) at = test j (λ e. other (at ∙ ap (λ x. Some x) (e ∙ same)))

none_has : (closed : List Draft) (done : List Task) (m n : ℕ) → m ≡ n → map core closed ≡ map core_of done → AllByRecursion (λ t. t.priority ≢ n) done → list_any (has_that_priority m) closed ≡ false
none_has closed done m n same closed_is others =
    let P : List ℕ × Option ℕ × List Vertex × List Edge → Type 0 = λ c. c.1 ≢ Some n in
    let of_done : AllByRecursion P (map core_of done) = every_map P core_of done (every_weaker (λ t. t.priority ≢ n) (λ t. P (core_of t)) (λ t h e. h (number t.priority n e)) done others) in
    let of_closed : AllByRecursion P (map core closed) = subst (AllByRecursion P) (sym closed_is) of_done in
    any_of_every (has_that_priority m) closed
    (every_weaker (λ d. P (core d)) (λ d. has_that_priority m d ≡ false) (λ d h. no_such d m n same h) closed (every_unmap P core closed of_closed))
  where
    number : (a b : ℕ) → Some a ≡ Some b → a ≡ b
    number a b e = cc

kind_two : (version : ℕ) → version ≡ 2 → kind version priority_word ≡ kinds.Priority
unfolding kind
kind_two version two = rw two refl

pub priority_one : (version k : ℕ) (done : List Task) (name : List ℕ) (vs : List Vertex) (es : List Edge) (m : ℕ) (number : List ℕ)
    → Means number m → Allowed version done (Some m)
    → (n : ℕ) (above : Option State) (line : List ℕ) → In version done (name, held version k None, vs, es) above → fields line ≡ priority_word ∷ number ∷ []
    → (below : Option State) × (line_step n above line (priority_word ∷ number ∷ []) ≡ Ok below) × In version done (name, held version k (Some m), vs, es) below
unfolding kind_fault after_kind on_current with_priority
priority_one version k done name vs es m number means allowed n above line at cut =
    let s = at.s in
    let d = at.d in
    let words = priority_word ∷ number ∷ [] in
    let ok = allowed m refl in
    let two : version ≡ 2 = ok.0 in
    let none_yet : d.priority ≡ None = priority_is d name (held version k None) vs es at.core_is ∙ held_two version k None two in
    let new : list_any (has_that_priority (value number)) s.closed ≡ false = none_has s.closed done (value number) m means.1 at.closed_is ok.2 in
    let none = priority_again s d number m at.current_is means ok.1 none_yet new in
    let text = text_again line words cut (priority_text number means.0) in
    let same : Some (capped number) ≡ held version k (Some m) = ap (λ x. Some x) (meant number m means ok.1) ∙ sym (held_two version k (Some m) two) in (
      Some (after_kind kinds.Priority n s words),
      ap (λ o. line_step n o line words) at.is ∙ takes n s line words kinds.Priority text at.still (kind_two s.version (at.version_is ∙ two)) none,
      record {
        s = on_current (with_priority (capped number)) s;
        is = refl;
        version_is = at.version_is;
        still = at.still;
        closed_is = at.closed_is;
        d = with_priority (capped number) d;
        current_is = ap (option_map (with_priority (capped number))) at.current_is;
        core_is = ap (λ (x : List ℕ × Option ℕ × List Vertex × List Edge). (x.0, Some (capped number), x.2, x.3)) at.core_is ∙ ap (λ o. (name, o, vs, es)) same;
      },
    )

-- The lines below a `task` line lead to what they say.
pub body_leads : (version k : ℕ) (done : List Task) (name : List ℕ) (body : List (List (List ℕ))) (vs : List Vertex) (es : List Edge) (p : Option ℕ) → Says body vs es p
    → Parts version vs es → Allowed version done p
    → Leads (In version done (name, held version k None, [], [])) body (In version done (name, held version k p, vs, es))
body_leads version k done name body vs es p nothing parts allowed = leads_none (In version done (name, held version k None, [], []))
body_leads version k done name body vs es p (vertex body2 vs2 es2 p2 v wcet deadline says mw ml) parts allowed =
    leads_then (In version done (name, held version k None, [], [])) (In version done (name, held version k p2, vs2, es2))
    (In version done (name, held version k p2, vs2 ++ v ∷ [], es2)) body2 ((vertex_word ∷ v.name ∷ wcet ∷ deadline ∷ []) ∷ [])
    (body_leads version k done name body2 vs2 es2 p2 says (parts_vertex version vs2 v es2 parts) allowed)
    (leads_one (In version done (name, held version k p2, vs2, es2)) (In version done (name, held version k p2, vs2 ++ v ∷ [], es2)) (vertex_word ∷ v.name ∷ wcet ∷ deadline ∷ [])
    (vertex_one version done name (held version k p2) vs2 es2 v wcet deadline (means_number wcet v.wcet mw) (means_number deadline v.deadline ml) parts))
body_leads version k done name body vs es p (edge body2 vs2 es2 p2 e from to sep says at_from at_to m) parts allowed =
    leads_then (In version done (name, held version k None, [], [])) (In version done (name, held version k p2, vs2, es2))
    (In version done (name, held version k p2, vs2, es2 ++ e ∷ [])) body2 ((edge_word ∷ from.name ∷ to.name ∷ sep ∷ []) ∷ [])
    (body_leads version k done name body2 vs2 es2 p2 says (parts_edge version vs2 e es2 parts) allowed)
    (leads_one (In version done (name, held version k p2, vs2, es2)) (In version done (name, held version k p2, vs2, es2 ++ e ∷ [])) (edge_word ∷ from.name ∷ to.name ∷ sep ∷ [])
    (edge_one version done name (held version k p2) vs2 es2 e from to sep at_from at_to (means_number sep e.sep m) parts))
body_leads version k done name body vs es p (priority body2 vs2 es2 number n says m) parts allowed =
    leads_then (In version done (name, held version k None, [], [])) (In version done (name, held version k None, vs2, es2))
    (In version done (name, held version k (Some n), vs2, es2)) body2 ((priority_word ∷ number ∷ []) ∷ [])
    (body_leads version k done name body2 vs2 es2 None says parts (λ j e. absurd (cc)))
    (leads_one (In version done (name, held version k None, vs2, es2)) (In version done (name, held version k (Some n), vs2, es2)) (priority_word ∷ number ∷ [])
    (priority_one version k done name vs2 es2 n number (means_number number n m) allowed))
