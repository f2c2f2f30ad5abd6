-- What a line without a fault is: no test of its table holds.
use Rattle.std.proofs.Common.{◌≡◌, ℕ, ◌<◌, Bool, true, false, not, ◌&&◌, List, [], ◌∷◌, length, Option, Some, None, refl, sym, ◌∙◌, arith, cond, ap}
use Rattle.std.specs.Prelude.{bytes_eq, nat_le}
use Rattle.std.specs.List.{list_any}
use Rattle.drt_model.specs.Limits.{most_tasks, most_vertices}
use Rattle.drt_file.specs.declared.state.Draft.{Draft}
use Rattle.drt_file.specs.declared.state.State.{State}
use Rattle.drt_file.specs.trusted.Words.{is_number, is_name, value}
use Rattle.drt_file.specs.trusted.Line.{is_in_range}
use Rattle.drt_file.specs.internal.StateFaults.{first_of, in_task, in_some_task, is_outside, task_fault, vertex_fault, edge_fault, priority_fault, end_fault, has_vertex, has_edge, has_priority, has_that_priority, place_of_name, task_count}
use Rattle.drt_file.proofs.Meanings.{both, not_false, either_false}

-- No code: this test doesn't hold, and none of the others.
pub passed : (t : ℕ × Bool) (ts : List (ℕ × Bool)) → first_of (t ∷ ts) ≡ None → (t.1 ≡ false) × (first_of ts ≡ None)
unfolding first_of
passed t ts e = go t.1 refl e
  where
    go : (b : Bool) → t.1 ≡ b → cond b (Some t.0) (first_of ts) ≡ None → (t.1 ≡ false) × (first_of ts ≡ None)
    go false at h = (at, h)
    go true at h = absurd (cc)

pub inside : (s : State) → is_outside s ≡ false → (d : Draft) × (s.current ≡ Some d)
unfolding is_outside
inside s e = go s.current refl e
  where
    go : (o : Option Draft) → s.current ≡ o → (elim o [ None ↦ true | Some d ↦ false ]) ≡ false → (d : Draft) × (s.current ≡ Some d)
    go None at h = absurd (cc)
    go (Some d) at h = (d, at)

pub at_task : (test : Draft → Bool) (s : State) (d : Draft) → s.current ≡ Some d → in_task test s ≡ test d
unfolding in_task
at_task test s d at = rw at refl

pub not_full : (n m : ℕ) → nat_le m n ≡ false → n < m
not_full n m e = grind (arith, e)

-- What a `task` line without a fault is.
pub record TaskPassed (s : State) (words : List (List ℕ)) : Type 0 where
  pub word : List ℕ
  pub name : List ℕ
  pub words_are : words ≡ word ∷ name ∷ []
  pub is_named : is_name name ≡ true
  pub new_above : list_any (λ d. bytes_eq d.name name) s.closed ≡ false
  pub new_here : in_task (λ d. bytes_eq d.name name) s ≡ false
  pub room : task_count s < most_tasks s.version

pub task_passed : (s : State) (words : List (List ℕ)) → task_fault s words ≡ None → TaskPassed s words
unfolding task_fault in_some_task
task_passed s [] e = absurd (cc)
task_passed s (a ∷ []) e = absurd (cc)
task_passed s (word ∷ name ∷ []) e =
    let seven = passed _ _ e in
    let eight = passed _ _ seven.1 in
    let thirteen = passed _ _ eight.1 in
    let new = either_false _ _ eight.0 in
    record {
      word = word;
      name = name;
      words_are = refl;
      is_named = not_false _ seven.0;
      new_above = new.0;
      new_here = new.1;
      room = not_full _ _ thirteen.0;
    }
task_passed s (a ∷ b ∷ c ∷ more) e = absurd (cc)

-- What a `vertex` line without a fault is.
pub record VertexPassed (s : State) (words : List (List ℕ)) : Type 0 where
  pub word : List ℕ
  pub name : List ℕ
  pub wcet : List ℕ
  pub deadline : List ℕ
  pub words_are : words ≡ word ∷ name ∷ wcet ∷ deadline ∷ []
  pub numbers : (is_number wcet ≡ true) × (is_number deadline ≡ true)
  pub in_range : (is_in_range wcet ≡ true) × (is_in_range deadline ≡ true)
  pub is_named : is_name name ≡ true
  pub draft : Draft
  pub in_a_task : s.current ≡ Some draft
  pub new_name : has_vertex name draft.vertices ≡ false
  pub room : length draft.vertices < most_vertices s.version

pub vertex_passed : (s : State) (words : List (List ℕ)) → vertex_fault s words ≡ None → VertexPassed s words
unfolding vertex_fault
vertex_passed s [] e = absurd (cc)
vertex_passed s (a ∷ []) e = absurd (cc)
vertex_passed s (a ∷ b ∷ []) e = absurd (cc)
vertex_passed s (a ∷ b ∷ c ∷ []) e = absurd (cc)
vertex_passed s (word ∷ name ∷ wcet ∷ deadline ∷ []) e =
    let five = passed _ _ e in
    let six = passed _ _ five.1 in
    let seven = passed _ _ six.1 in
    let nine = passed _ _ seven.1 in
    let twelve = passed _ _ nine.1 in
    let fourteen = passed _ _ twelve.1 in
    let here = inside s twelve.0 in
    record {
      word = word;
      name = name;
      wcet = wcet;
      deadline = deadline;
      words_are = refl;
      numbers = both _ _ (not_false _ five.0);
      in_range = both _ _ (not_false _ six.0);
      is_named = not_false _ seven.0;
      draft = here.0;
      in_a_task = here.1;
      new_name = sym (at_task (λ d. has_vertex name d.vertices) s here.0 here.1) ∙ nine.0;
      room = not_full _ _ (sym (at_task (λ d. nat_le (most_vertices s.version) (length d.vertices)) s here.0 here.1) ∙ fourteen.0);
    }
vertex_passed s (a ∷ b ∷ c ∷ d ∷ e1 ∷ more) e = absurd (cc)

-- What an `edge` line without a fault is.
pub record EdgePassed (s : State) (words : List (List ℕ)) : Type 0 where
  pub word : List ℕ
  pub from : List ℕ
  pub to : List ℕ
  pub sep : List ℕ
  pub words_are : words ≡ word ∷ from ∷ to ∷ sep ∷ []
  pub number : is_number sep ≡ true
  pub in_range : is_in_range sep ≡ true
  pub draft : Draft
  pub in_a_task : s.current ≡ Some draft
  pub from_stands : has_vertex from draft.vertices ≡ true
  pub to_stands : has_vertex to draft.vertices ≡ true
  pub new_edge : has_edge (place_of_name from draft.vertices) (place_of_name to draft.vertices) draft.edges ≡ false
  pub room : length draft.edges < 256

pub edge_passed : (s : State) (words : List (List ℕ)) → edge_fault s words ≡ None → EdgePassed s words
unfolding edge_fault
edge_passed s [] e = absurd (cc)
edge_passed s (a ∷ []) e = absurd (cc)
edge_passed s (a ∷ b ∷ []) e = absurd (cc)
edge_passed s (a ∷ b ∷ c ∷ []) e = absurd (cc)
edge_passed s (word ∷ from ∷ to ∷ sep ∷ []) e =
    let five = passed _ _ e in
    let six = passed _ _ five.1 in
    let seven = passed _ _ six.1 in
    let ten = passed _ _ seven.1 in
    let eleven = passed _ _ ten.1 in
    let twelve = passed _ _ eleven.1 in
    let fifteen = passed _ _ twelve.1 in
    let here = inside s twelve.0 in
    let stand = both _ _ (not_false _ (sym (at_task (λ d. not (has_vertex from d.vertices && has_vertex to d.vertices)) s here.0 here.1) ∙ ten.0)) in
    record {
      word = word;
      from = from;
      to = to;
      sep = sep;
      words_are = refl;
      number = not_false _ five.0;
      in_range = not_false _ six.0;
      draft = here.0;
      in_a_task = here.1;
      from_stands = stand.0;
      to_stands = stand.1;
      new_edge = sym (at_task (λ d. has_edge (place_of_name from d.vertices) (place_of_name to d.vertices) d.edges) s here.0 here.1) ∙ eleven.0;
      room = not_full _ _ (sym (at_task (λ d. nat_le 256 (length d.edges)) s here.0 here.1) ∙ fifteen.0);
    }
edge_passed s (a ∷ b ∷ c ∷ d ∷ e1 ∷ more) e = absurd (cc)

-- What a `priority` line without a fault is.
pub record PriorityPassed (s : State) (words : List (List ℕ)) : Type 0 where
  pub word : List ℕ
  pub number : List ℕ
  pub words_are : words ≡ word ∷ number ∷ []
  pub is_one : is_number number ≡ true
  pub in_range : is_in_range number ≡ true
  pub draft : Draft
  pub in_a_task : s.current ≡ Some draft
  pub none_yet : draft.priority ≡ None
  pub new : list_any (has_that_priority (value number)) s.closed ≡ false

none_of : (d : Draft) → has_priority d ≡ false → d.priority ≡ None
unfolding has_priority
none_of d e = go d.priority refl e
  where
    go : (o : Option ℕ) → d.priority ≡ o → (elim o [ None ↦ false | Some n ↦ true ]) ≡ false → d.priority ≡ None
    go None at h = at
    go (Some n) at h = absurd (cc)

pub priority_passed : (s : State) (words : List (List ℕ)) → priority_fault s words ≡ None → PriorityPassed s words
unfolding priority_fault
priority_passed s [] e = absurd (cc)
priority_passed s (a ∷ []) e = absurd (cc)
priority_passed s (word ∷ number ∷ []) e =
    let five = passed _ _ e in
    let six = passed _ _ five.1 in
    let twelve = passed _ _ six.1 in
    let second = passed _ _ twelve.1 in
    let same = passed _ _ second.1 in
    let here = inside s twelve.0 in
    record {
      word = word;
      number = number;
      words_are = refl;
      is_one = not_false _ five.0;
      in_range = not_false _ six.0;
      draft = here.0;
      in_a_task = here.1;
      none_yet = none_of here.0 (sym (at_task has_priority s here.0 here.1) ∙ second.0);
      new = sym (ap (λ b. not b && list_any (has_that_priority (value number)) s.closed) twelve.0) ∙ same.0;
    }
priority_passed s (a ∷ b ∷ c ∷ more) e = absurd (cc)

pub end_passed : (words : List (List ℕ)) → end_fault words ≡ None → (word : List ℕ) × (words ≡ word ∷ [])
unfolding end_fault
end_passed [] e = absurd (cc)
end_passed (word ∷ []) e = (word, refl)
end_passed (a ∷ b ∷ more) e = absurd (cc)
