-- What the lines above show by the tests of the table of faults, against the tasks that they leave.
use Rattle.std.proofs.Common.{◌≡◌, ℕ, suc, ◌+◌, Bool, true, false, ◌&&◌, ◌||◌, List, [], ◌∷◌, ◌++◌, length, Option, Some, None, refl, sym, ap, subst, ◌∙◌, arith, cond, inl, inr}
use Rattle.std.specs.Prelude.{bytes_eq, ◌==◌, count_by, decimal}
use Rattle.std.specs.List.{list_any}
use Rattle.std.proofs.lemmas.List.Folds.{list_any-append}
use Rattle.std.proofs.lemmas.List.Sums.{sum_by-append}
use Rattle.drt_model.specs.Limits.{IsVersion}
use Rattle.drt_file.specs.declared.state.Draft.{Draft}
use Rattle.drt_file.specs.trusted.Words.{value, task_word}
use Rattle.drt_file.specs.trusted.Canonical.{version_line}
use Rattle.drt_file.specs.trusted.Faults.{Fields, field, is_task, is_vertex, is_edge, is_priority, is_end, is_first, version_of, has_task, has_end, own_lines, lines_of_others, has_task_named, has_vertex_named, has_edge_between, others_have_priority}
use Rattle.drt_file.proofs.Written.{written_priority}
use Rattle.drt_file.specs.internal.StateFaults.{has_vertex, place_of_name, has_edge, has_priority, has_that_priority}
use Rattle.drt_file.proofs.Digits.{value_decimal}
use Rattle.drt_file.proofs.Kept.{IsDraft, SaysDrafts, Inside, Stands, written_two}
use Rattle.drt_file.proofs.LinesAbove.{has_last, own_is, others_are, vertices_named, vertices_counted, edges_counted, edges_said, has_priority_said, drafts_said, body_has_no_task, one_task_in, tasks_counted, no_end_in, task_named_in, priority_in}

-- What is shown above `end`, inside and outside of a task.
pub record Shown (ws : List Fields) (version : ℕ) (closed : List Draft) (o : Option Draft) : Type 0 where
  pub later : is_first ws ≡ false
  pub still : has_end ws ≡ false
  pub version_is : version_of ws ≡ version
  pub within : has_task ws ≡ elim o [ None ↦ false | Some d ↦ true ]
  pub named : (name : List ℕ) → has_task_named name ws ≡ (list_any (λ d. bytes_eq d.name name) closed || (elim o [ None ↦ false | Some d ↦ bytes_eq d.name name ]))
  pub counted : count_by is_task ws ≡ length closed + (elim o [ None ↦ 0 | Some d ↦ 1 ])

-- What is shown in a task.
pub record ShownIn (ws : List Fields) (version : ℕ) (closed : List Draft) (d : Draft) : Type 0 where
  pub vertex_named : (name : List ℕ) → has_vertex_named name ws ≡ has_vertex name d.vertices
  pub vertices : count_by is_vertex (own_lines ws) ≡ length d.vertices
  pub edge_between : (from to : List ℕ) → has_edge_between from to ws ≡ has_edge (place_of_name from d.vertices) (place_of_name to d.vertices) d.edges
  pub edges : count_by is_edge (own_lines ws) ≡ length d.edges
  pub has_own : version ≡ 2 → list_any is_priority (own_lines ws) ≡ has_priority d
  pub others_have : version ≡ 2 → (n : ℕ) → others_have_priority n ws ≡ list_any (has_that_priority n) closed

version_said : (version : ℕ) → IsVersion version → value (decimal version) ≡ version
version_said version (inl one) = value_decimal version (rw one (omega arith))
version_said version (inr two) = value_decimal version (rw two (omega arith))

outside : (version : ℕ) → IsVersion version → Shown (version_line version ∷ []) version [] None
unfolding is_first has_end version_of has_task has_task_named is_task is_end
outside version known = record {
  later = refl;
  still = refl;
  version_is = version_said version known;
  within = refl;
  named = λ name. refl;
  counted = refl;
}

never : {X : Type 0} (xs : List X) → list_any (λ x. false) xs ≡ false
never [] = refl
never (x ∷ xs) = never xs

-- The lines of the open task, and those above it.
parts : (ws : List Fields) (version : ℕ) (closed : List Draft) (d : Draft) (at : Inside ws version closed d)
    → (own_lines ws ≡ at.says_last.body) × (lines_of_others ws ≡ version_line version ∷ at.done)
unfolding is_task
parts ws version closed d at =
    let body = at.says_last.body in
    let above = version_line version ∷ at.done in
    let t : Fields = task_word ∷ d.name ∷ [] in
    let e : ws ≡ above ++ (t ∷ body) = at.ws_are ∙ ap (λ l. version_line version ∷ (at.done ++ l)) at.says_last.own_is in
    let none = body_has_no_task body d.vertices d.edges (written_priority version d.priority) at.says_last.says in
    (ap own_lines e ∙ own_is above t body refl none, ap lines_of_others e ∙ others_are above t body refl none)

-- What passes a test that the first line doesn't pass.
any_in : (q : Fields → Bool) (r : Draft → Bool) (ws : List Fields) (version : ℕ) (closed : List Draft) (d : Draft) (at : Inside ws version closed d) → q (version_line version) ≡ false
    → ((own : List Fields) (c : Draft) → IsDraft version own c → list_any q own ≡ r c) → list_any q ws ≡ (list_any r closed || r d)
any_in q r ws version closed d at head on =
    ap (list_any q) at.ws_are ∙ ap (λ b. b || list_any q (at.done ++ at.own)) head ∙ list_any-append q at.done at.own
    ∙ ap (λ b. b || list_any q at.own) (drafts_said version q r on at.done closed at.says_closed) ∙ ap (λ b. list_any r closed || b) (on at.own d at.says_last)

or_false : (b : Bool) → (b || false) ≡ b
or_false true = refl
or_false false = refl

inside : (ws : List Fields) (version : ℕ) (closed : List Draft) (d : Draft) → Inside ws version closed d → Shown ws version closed (Some d)
unfolding is_first has_end version_of has_task_named is_task is_end
inside ws version closed d at = record {
  later = ap is_first at.ws_are ∙ later (length (at.done ++ at.own));
  still = any_in is_end (λ c. false) ws version closed d at refl (no_end_in version) ∙ or_false _ ∙ never closed;
  version_is = ap version_of at.ws_are ∙ version_said version at.known;
  within = ap has_task at.ws_are ∙ ap (λ l. has_task (version_line version ∷ (at.done ++ l))) at.says_last.own_is
      ∙ has_last (version_line version ∷ at.done) (task_word ∷ d.name ∷ []) at.says_last.body refl;
  named = λ name. any_in (λ o. is_task o && bytes_eq (field 1 o) name) (λ c. bytes_eq c.name name) ws version closed d at refl (task_named_in name version);
  counted =
      let a : count_by is_task (version_line version ∷ (at.done ++ at.own)) ≡ count_by is_task (at.done ++ at.own) = refl in
      let b = sum_by-append (λ y. cond (is_task y) 1 0) at.done at.own in
      ap (λ l. count_by is_task l) at.ws_are ∙ a ∙ b ∙ (omega (arith, tasks_counted version at.done closed at.says_closed, one_task_in version at.own d at.says_last));
}
  where
    later : (n : ℕ) → (suc n == 0) ≡ false
    later n = grind arith

pub shown : (ws : List Fields) (version : ℕ) (closed : List Draft) (o : Option Draft) → Stands ws version closed o → Shown ws version closed o
shown ws version closed None (none_closed, are, known) =
    subst (λ l. Shown l version closed None) (sym are) (subst (λ c. Shown (version_line version ∷ []) version c None) (sym none_closed) (outside version known))
shown ws version closed (Some d) at = inside ws version closed d at

pub shown_in : (ws : List Fields) (version : ℕ) (closed : List Draft) (d : Draft) → Inside ws version closed d → ShownIn ws version closed d
unfolding has_vertex_named has_edge_between others_have_priority has_priority is_priority
shown_in ws version closed d at =
    let last = at.says_last in
    let p = written_priority version d.priority in
    let r = parts ws version closed d at in
    record {
      vertex_named = λ name. ap (list_any (λ o. is_vertex o && bytes_eq (field 1 o) name)) r.0 ∙ vertices_named name last.body d.vertices d.edges p last.says;
      vertices = ap (λ l. count_by is_vertex l) r.0 ∙ vertices_counted last.body d.vertices d.edges p last.says;
      edge_between = λ from to. ap (list_any (λ o. is_edge o && (bytes_eq (field 1 o) from && bytes_eq (field 2 o) to))) r.0
          ∙ edges_said from to last.body d.vertices d.edges p last.says last.distinct_names last.edges;
      edges = ap (λ l. count_by is_edge l) r.0 ∙ edges_counted last.body d.vertices d.edges p last.says;
      has_own = λ two. ap (list_any is_priority) r.0 ∙ has_priority_said last.body d.vertices d.edges p last.says ∙ own_written version d.priority two;
      others_have = λ two n.
          let q : Fields → Bool = λ o. is_priority o && value (field 1 o) == n in
          ap (list_any q) r.1 ∙ drafts_said 2 q (has_that_priority n) (priority_in n) at.done closed (subst (λ v. SaysDrafts v at.done closed) two at.says_closed);
    }
  where
    own_written : (version : ℕ) (o : Option ℕ) → version ≡ 2 → ◌≡◌ {A = Bool} (elim (written_priority version o) [ None ↦ false | Some n ↦ true ]) (elim o [ None ↦ false | Some n ↦ true ])
    own_written version o two = ap (λ (q : Option ℕ). elim q [ None ↦ false | Some n ↦ true ]) (written_two version o two)
