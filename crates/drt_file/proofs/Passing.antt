-- A line that says what may be added has no fault.
use Rattle.std.proofs.Common.{◌≡◌, ◌≢◌, ℕ, zero, suc, ◌+◌, ◌<◌, Bool, true, false, ◌&&◌, ◌||◌, List, [], ◌∷◌, length, Option, Some, None, refl, sym, ap, subst, ◌∙◌, arith, cond, length-append}
use Rattle.std.specs.Prelude.{nat_le, bytes_eq, slice_get, ◌==◌}
use Rattle.std.specs.List.{AllByRecursion, list_any}
use Rattle.std.proofs.lemmas.List.Folds.{list_any-append}
use Rattle.std.proofs.lemmas.Slice.Eq.{bytes_eq-Decides}
use Rattle.drt_model.specs.declared.tasks.Vertex.{Vertex}
use Rattle.drt_model.specs.declared.tasks.Edge.{Edge}
use Rattle.drt_model.specs.Limits.{IsName, IsTime, IsPriority, most_tasks, most_vertices}
use Rattle.drt_file.specs.declared.state.Draft.{Draft}
use Rattle.drt_file.specs.declared.state.State.{State}
use Rattle.drt_file.specs.trusted.Words.{is_name, value, task_word, vertex_word, edge_word, priority_word}
use Rattle.drt_file.specs.trusted.Line.{is_in_range}
use Rattle.drt_file.proofs.Written.{Means}
use Rattle.drt_file.specs.internal.StateFaults.{first_of, in_task, in_some_task, is_outside, task_fault, vertex_fault, edge_fault, priority_fault, has_vertex, has_edge, has_priority, has_that_priority, place_of_name, task_count}
use Rattle.drt_file.specs.internal.Steps.{with_last, capped}
use Rattle.drt_file.proofs.Snoc.{every_weaker, Pairwise}
use Rattle.drt_file.proofs.Meanings.{range_again, range_capped, unlike, any_of_every}
use Rattle.drt_file.proofs.Names.{name_is}

pub room_for : (n m : ℕ) → n < m → nat_le m n ≡ false
room_for n m lt = grind (arith, lt)

-- A number in range is the one that it means.
pub meant : (word : List ℕ) (n : ℕ) → Means word n → IsTime n → capped word ≡ n
meant word n m is = range_capped word (range_again word n m.1 is) ∙ m.1

pub vertex_again : (s : State) (d : Draft) (name wcet deadline : List ℕ) (w l : ℕ) → s.current ≡ Some d → Means wcet w → Means deadline l → IsName name → IsTime w → IsTime l
    → has_vertex name d.vertices ≡ false → length d.vertices < most_vertices s.version → vertex_fault s (vertex_word ∷ name ∷ wcet ∷ deadline ∷ []) ≡ None
unfolding vertex_fault first_of in_task is_outside
vertex_again s d name wcet deadline w l at mw ml named tw tl new few =
    let rw1 : is_in_range wcet ≡ true = range_again wcet w mw.1 tw in
    let rd1 : is_in_range deadline ≡ true = range_again deadline l ml.1 tl in
    let nm : is_name name ≡ true = name_is name named in
    let room : nat_le (most_vertices s.version) (length d.vertices) ≡ false = room_for (length d.vertices) (most_vertices s.version) few in
    rw (mw.0, ml.0, rw1, rd1, nm, at, new, room) refl

pub edge_again : (s : State) (d : Draft) (from to sep : List ℕ) (n : ℕ) → s.current ≡ Some d → Means sep n → IsTime n → IsName from → IsName to
    → has_vertex from d.vertices ≡ true → has_vertex to d.vertices ≡ true → has_edge (place_of_name from d.vertices) (place_of_name to d.vertices) d.edges ≡ false → length d.edges < 256
    → edge_fault s (edge_word ∷ from ∷ to ∷ sep ∷ []) ≡ None
unfolding edge_fault first_of in_task is_outside
edge_again s d from to sep n at m t nf nt hf ht new few =
    let r : is_in_range sep ≡ true = range_again sep n m.1 t in
    let f : is_name from ≡ true = name_is from nf in
    let g : is_name to ≡ true = name_is to nt in
    let room : nat_le 256 (length d.edges) ≡ false = room_for (length d.edges) 256 few in
    rw (m.0, r, f, g, at, hf, ht, new, room) refl

pub priority_again : (s : State) (d : Draft) (number : List ℕ) (n : ℕ) → s.current ≡ Some d → Means number n → IsPriority n → d.priority ≡ None
    → list_any (has_that_priority (value number)) s.closed ≡ false → priority_fault s (priority_word ∷ number ∷ []) ≡ None
unfolding priority_fault first_of in_task is_outside has_priority
priority_again s d number n at m t none new =
    let r : is_in_range number ≡ true = range_again number n m.1 t in
    rw (m.0, r, at, none, new) refl

pub some_above : (test : Draft → Bool) (s : State) → in_some_task test s ≡ list_any test (with_last s.closed s.current)
unfolding in_some_task in_task with_last
some_above test s = go s.current
  where
    or_false : (b : Bool) → (b || false) ≡ b
    or_false true = refl
    or_false false = refl

    go : (o : Option Draft) → (list_any test s.closed || (elim o [ None ↦ false | Some d ↦ test d ])) ≡ list_any test (with_last s.closed o)
    go None = or_false (list_any test s.closed)
    go (Some d) = ap (λ b. list_any test s.closed || b) (sym (or_false (test d))) ∙ sym (list_any-append test s.closed (d ∷ []))

pub count_all : (s : State) → task_count s ≡ length (with_last s.closed s.current)
unfolding task_count is_outside with_last
count_all s = go s.current
  where
    go : (o : Option Draft) → length s.closed + cond (elim o [ None ↦ true | Some d ↦ false ]) 0 1 ≡ length (with_last s.closed o)
    go None = omega arith
    go (Some d) = sym (length-append s.closed (d ∷ []))

pub task_again : (s : State) (name : List ℕ) → IsName name → list_any (λ d. bytes_eq d.name name) (with_last s.closed s.current) ≡ false
    → length (with_last s.closed s.current) < most_tasks s.version → task_fault s (task_word ∷ name ∷ []) ≡ None
unfolding task_fault first_of
task_again s name named new few =
    let nm : is_name name ≡ true = name_is name named in
    let above : in_some_task (λ d. bytes_eq d.name name) s ≡ false = some_above (λ d. bytes_eq d.name name) s ∙ new in
    let room : nat_le (most_tasks s.version) (task_count s) ≡ false = ap (nat_le (most_tasks s.version)) (count_all s) ∙ room_for (length (with_last s.closed s.current)) (most_tasks s.version) few in
    rw (nm, above, room) refl

-- What stands at a place.
pub every_at : {X : Type 0} (P : X → Type 0) (xs : List X) (i : ℕ) (x : X) → AllByRecursion P xs → slice_get xs i ≡ Some x → P x
every_at P [] i x are e = absurd (cc)
every_at P (y ∷ ys) zero x are e = let same : y ≡ x = cc in subst P same are.0
every_at P (y ∷ ys) (suc i) x are e = every_at P ys i x are.1 e

pub same_name : (name : List ℕ) → bytes_eq name name ≡ true
same_name name = (bytes_eq-Decides name name).1 refl

pub stands_again : (vs : List Vertex) (i : ℕ) (v : Vertex) → slice_get vs i ≡ Some v → has_vertex v.name vs ≡ true
stands_again [] i v e = absurd (cc)
stands_again (u ∷ us) zero v e =
    let same : u ≡ v = cc in
    let t : bytes_eq u.name v.name ≡ true = ap (λ (x : Vertex). bytes_eq x.name v.name) same ∙ same_name v.name in
    ap (λ b. b || has_vertex v.name us) t
stands_again (u ∷ us) (suc i) v e = go (bytes_eq u.name v.name) (stands_again us i v e)
  where
    go : (b : Bool) → has_vertex v.name us ≡ true → (b || has_vertex v.name us) ≡ true
    go true h = refl
    go false h = h

pub place_again : (vs : List Vertex) (i : ℕ) (v : Vertex) → Pairwise (λ u w. u.name ≢ w.name) vs → slice_get vs i ≡ Some v → place_of_name v.name vs ≡ i
unfolding place_of_name
place_again [] i v are e = absurd (cc)
place_again (u ∷ us) zero v are e =
    let same : u ≡ v = cc in
    let t : bytes_eq u.name v.name ≡ true = ap (λ (x : Vertex). bytes_eq x.name v.name) same ∙ same_name v.name in
    rw t refl
place_again (u ∷ us) (suc i) v are e =
    let other : bytes_eq u.name v.name ≡ false = unlike u.name v.name (every_at (λ w. u.name ≢ w.name) us i v are.0 e) in
    let later = place_again us i v are.1 e in
    let next : place_of_name v.name (u ∷ us) ≡ suc (place_of_name v.name us) = rw other (omega arith) in
    next ∙ ap (λ n. suc n) later

new_end : (x : Edge) (f t : ℕ) → (x.from ≡ f → x.to ≢ t) → (x.from == f && x.to == t) ≡ false
new_end x f t other = go (x.from == f) refl (x.to == t) refl
  where
    go : (a : Bool) → (x.from == f) ≡ a → (b : Bool) → (x.to == t) ≡ b → (a && b) ≡ false
    go false isa b isb = refl
    go true isa false isb = refl
    go true isa true isb =
        let e : x.from ≡ f = grind (arith, isa) in
        let g : x.to ≡ t = grind (arith, isb) in
        absurd (other e g)

-- An edge with other ends than those above.
pub new_edge : (es : List Edge) (f t : ℕ) → AllByRecursion (λ x. x.from ≡ f → x.to ≢ t) es → has_edge f t es ≡ false
unfolding has_edge
new_edge es f t are =
    any_of_every (λ e. e.from == f && e.to == t) es
    (every_weaker (λ x. x.from ≡ f → x.to ≢ t) (λ x. (x.from == f && x.to == t) ≡ false) (λ x h. new_end x f t h) es are)
