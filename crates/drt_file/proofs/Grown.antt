-- The lines of what is read so far, and what is known of it, where each line stands as printed.
use Rattle.std.proofs.Common.{◌≡◌, ℕ, ◌+◌, ◌≤◌, Bool, true, false, not, ◌&&◌, ◌||◌, List, [], ◌∷◌, ◌++◌, length, map, Option, Some, None, Ok, refl, sym, ap, subst, ◌∙◌, append_assoc, arith, inl, inr, cond}
use Rattle.std.specs.Prelude.{bytes_eq, ◌==◌, decimal, unwrap_or, option_map}
use Rattle.std.specs.List.{AllByRecursion, flat_map}
use Rattle.std.proofs.lemmas.List.{append-nil, map_push}
use Rattle.std.proofs.lemmas.List.Concat.{flat_map-append}
use Rattle.std.proofs.lemmas.Fmt.{decimal_digit}
use Rattle.std.proofs.lemmas.Slice.Eq.{bytes_eq-Decides}
use Rattle.drt_model.specs.declared.tasks.Vertex.{Vertex}
use Rattle.drt_model.specs.declared.tasks.Edge.{Edge}
use Rattle.drt_model.specs.Limits.{IsVersion}
use Rattle.drt_file.specs.declared.state.Draft.{Draft}
use Rattle.drt_file.specs.declared.state.State.{State}
use Rattle.drt_file.specs.declared.state.Kind.{Kind}
use Rattle.drt_file.specs.declared.state.Kind.TheVariants as kinds
use Rattle.drt_file.specs.trusted.Cutting.{fields, fed}
use Rattle.drt_file.specs.trusted.Words.{drt_word, task_word, vertex_word, edge_word, priority_word}
use Rattle.drt_file.specs.trusted.Canonical.{written, written_line, name_at, version_line, vertex_line, edge_line, end_line}
use Rattle.drt_file.specs.internal.Kinds.{kind, first_word}
use Rattle.drt_file.specs.internal.StateFaults.{has_priority, has_vertex, in_task, is_outside, kind_fault, place_of_name}
use Rattle.drt_file.specs.internal.Steps.{narrow, with_last, opening_priority, with_vertex, with_edge, with_priority, on_current, after_task, after_end, after_kind, opening, head, headed, line_step, capped}
use Rattle.drt_file.specs.internal.Strict.{is_printed, is_whole, takes_vertex, takes_priority, fits, fits_below, strict_step, strict_steps}
use Rattle.drt_file.proofs.Meanings.{both}
use Rattle.drt_file.proofs.Places.{stands_at, place_within}
use Rattle.drt_file.proofs.Kept.{one_more, most_96, narrow_same}
use Rattle.drt_file.proofs.Snoc.{every_push}
use Rattle.drt_file.proofs.Table.{at_task, task_passed, VertexPassed, vertex_passed, EdgePassed, edge_passed, PriorityPassed, priority_passed, end_passed}
use Rattle.drt_file.proofs.Follows.{task_kind, vertex_kind, edge_kind, priority_kind, end_kind}
use Rattle.drt_file.proofs.Ordered.{step_taken, left_below, first_taken}

-- The line of a priority that is there.
abbrev pub number_lines : Option ℕ → List (List (List ℕ))
number_lines None = []
number_lines (Some n) = (priority_word ∷ decimal n ∷ []) ∷ []

-- The lines of a task as far as it is read.
abbrev pub draft_lines : ℕ → Draft → List (List (List ℕ))
draft_lines version d = (task_word ∷ d.name ∷ []) ∷ (cond (version == 2) (number_lines d.priority) [] ++ (map vertex_line d.vertices ++ map (edge_line d.vertices) d.edges))

abbrev pub lines_of : ℕ → List Draft → Bool → List (List (List ℕ))
lines_of version ds ended = version_line version ∷ (flat_map (draft_lines version) ds ++ cond ended (end_line ∷ []) [])

-- The lines that are read.
abbrev pub state_lines : Option State → List (List (List ℕ))
state_lines None = []
state_lines (Some s) = lines_of s.version (with_last s.closed s.current) s.ended

-- A task that has its priority and a vertex.
pub record IsWhole (d : Draft) : Type 0 where
  pub vertices : 1 ≤ length d.vertices
  pub priority : (k : ℕ) × (d.priority ≡ Some k)

-- A task as far as it is read in the order of print.
pub record Shape (version : ℕ) (d : Draft) : Type 0 where
  pub unprinted : d.priority ≡ None → (version ≡ 2) × (d.vertices ≡ []) × (d.edges ≡ [])
  pub no_edges : d.vertices ≡ [] → d.edges ≡ []
  pub few : length d.vertices ≤ 96

abbrev pub CurrentIs : ℕ → List Draft → Option Draft → Type 0
CurrentIs version closed None = closed ≡ []
CurrentIs version closed (Some d) = Shape version d

-- What is read in the order of print.
pub record Good (s : State) : Type 0 where
  pub known : IsVersion s.version
  pub closed : AllByRecursion IsWhole s.closed
  pub current : CurrentIs s.version s.closed s.current
  pub ended : s.ended ≡ true → (d : Draft) × (s.current ≡ Some d) × IsWhole d

abbrev pub GoodAbove : Option State → Type 0
GoodAbove None = Unit {0}
GoodAbove (Some s) = Good s

-- A line leaves the lines above and itself.
pub record Went (above : Option State) (words : List (List ℕ)) (t : State) : Type 0 where
  pub lines : state_lines (Some t) ≡ state_lines above ++ words ∷ []
  pub good : Good t

pub some_priority : (d : Draft) → has_priority d ≡ true → (k : ℕ) × (d.priority ≡ Some k)
unfolding has_priority
some_priority d e = go d.priority refl e
  where
    go : (o : Option ℕ) → d.priority ≡ o → (elim o [ None ↦ false | Some n ↦ true ]) ≡ true → (k : ℕ) × (d.priority ≡ Some k)
    go None at h = absurd (cc)
    go (Some n) at h = (n, at)

is_there : (d : Draft) → has_priority d ≡ true → d.priority ≡ None → ⊥
is_there d e none = let p = some_priority d e in let at = p.1 in cc

some_length : (n : ℕ) → not (n == 0) ≡ true → 1 ≤ n
some_length n e = grind (arith, e)

pub no_length : {X : Type 0} (xs : List X) → (length xs == 0) ≡ true → xs ≡ []
no_length [] e = refl
no_length (x ∷ xs) e = absurd (grind (arith, e))

pub whole_is : (d : Draft) → is_whole d ≡ true → IsWhole d
unfolding is_whole
whole_is d e =
    let b = both (has_priority d) (not (length d.vertices == 0)) e in
    record { vertices = some_length (length d.vertices) b.1; priority = some_priority d b.0 }

pub in_whole : (s : State) → in_task is_whole s ≡ true → (d : Draft) × (s.current ≡ Some d) × IsWhole d
unfolding in_task
in_whole s e = go s.current refl e
  where
    go : (o : Option Draft) → s.current ≡ o → (elim o [ None ↦ false | Some d ↦ is_whole d ]) ≡ true → (d : Draft) × (s.current ≡ Some d) × IsWhole d
    go None at h = absurd (cc)
    go (Some d) at h = (d, at, whole_is d h)

pub printed_is : (word : List ℕ) → is_printed word ≡ true → decimal (capped word) ≡ word
unfolding is_printed
printed_is word e = (bytes_eq-Decides (decimal (capped word)) word).0 e

-- Lines of tasks, with the last one apart.
open_lines : (version : ℕ) (closed : List Draft) (d : Draft) → lines_of version (closed ++ d ∷ []) false ≡ version_line version ∷ (flat_map (draft_lines version) closed ++ draft_lines version d)
open_lines version closed d =
    let f = draft_lines version in
    ap (λ l. version_line version ∷ l) (append-nil (flat_map f (closed ++ d ∷ [])) ∙ flat_map-append f closed (d ∷ []) ∙ ap (λ r. flat_map f closed ++ r) (append-nil (f d)))

draft_more : (version : ℕ) (closed : List Draft) (d e : Draft) (w : List (List ℕ)) → draft_lines version e ≡ draft_lines version d ++ w ∷ []
    → lines_of version (closed ++ e ∷ []) false ≡ lines_of version (closed ++ d ∷ []) false ++ w ∷ []
draft_more version closed d e w more =
    let f = draft_lines version in
    open_lines version closed e ∙ ap (λ l. version_line version ∷ (flat_map f closed ++ l)) more
    ∙ ap (λ l. version_line version ∷ l) (sym (append_assoc (flat_map f closed) (f d) (w ∷ []))) ∙ sym (ap (λ l. l ++ w ∷ []) (open_lines version closed d))

task_more : (version : ℕ) (ds : List Draft) (d : Draft) (w : List (List ℕ)) → draft_lines version d ≡ w ∷ []
    → lines_of version (ds ++ d ∷ []) false ≡ lines_of version ds false ++ w ∷ []
task_more version ds d w is =
    let f = draft_lines version in
    open_lines version ds d ∙ ap (λ l. version_line version ∷ (flat_map f ds ++ l)) is ∙ sym (ap (λ l. version_line version ∷ (l ++ w ∷ [])) (append-nil (flat_map f ds)))

end_more : (version : ℕ) (ds : List Draft) → lines_of version ds true ≡ lines_of version ds false ++ end_line ∷ []
end_more version ds = sym (ap (λ l. version_line version ∷ (l ++ end_line ∷ [])) (append-nil (flat_map (draft_lines version) ds)))

vertex_lines_more : (p : List (List (List ℕ))) (vs : List Vertex) (v : Vertex) (es : List Edge) → es ≡ []
    → p ++ (map vertex_line (vs ++ v ∷ []) ++ map (edge_line (vs ++ v ∷ [])) es) ≡ (p ++ (map vertex_line vs ++ map (edge_line vs) es)) ++ vertex_line v ∷ []
vertex_lines_more p vs v [] none =
    ap (λ l. p ++ l) (append-nil (map vertex_line (vs ++ v ∷ [])) ∙ map_push vertex_line vs v) ∙ sym (append_assoc p (map vertex_line vs) (vertex_line v ∷ []))
    ∙ sym (ap (λ l. (p ++ l) ++ vertex_line v ∷ []) (append-nil (map vertex_line vs)))
vertex_lines_more p vs v (e ∷ es) none = absurd (cc)

edge_lines_more : (p m : List (List (List ℕ))) (vs : List Vertex) (es : List Edge) (e : Edge)
    → p ++ (m ++ map (edge_line vs) (es ++ e ∷ [])) ≡ (p ++ (m ++ map (edge_line vs) es)) ++ edge_line vs e ∷ []
edge_lines_more p m vs es e =
    ap (λ l. p ++ (m ++ l)) (map_push (edge_line vs) es e) ∙ ap (λ l. p ++ l) (sym (append_assoc m (map (edge_line vs) es) (edge_line vs e ∷ [])))
    ∙ sym (append_assoc p (m ++ map (edge_line vs) es) (edge_line vs e ∷ []))

-- A change of the open task.
changed : (s : State) (d : Draft) (change : Draft → Draft) (words w : List (List ℕ)) → Good s → s.current ≡ Some d → s.ended ≡ false → words ≡ w
    → draft_lines s.version (change d) ≡ draft_lines s.version d ++ w ∷ [] → Shape s.version (change d) → Went (Some s) words (on_current change s)
unfolding on_current with_last
changed s d change words w good at still is more shape = record {
  lines = ap (λ o. lines_of s.version (with_last s.closed (option_map change o)) s.ended) at ∙ ap (lines_of s.version (s.closed ++ change d ∷ [])) still
      ∙ draft_more s.version s.closed d (change d) w more ∙ sym (ap (λ b. lines_of s.version (s.closed ++ d ∷ []) b ++ w ∷ []) still)
      ∙ sym (ap (λ o. lines_of s.version (with_last s.closed o) s.ended ++ w ∷ []) at) ∙ ap (λ l. lines_of s.version (with_last s.closed s.current) s.ended ++ l ∷ []) (sym is);
  good = record {
    known = good.known;
    closed = good.closed;
    current = subst (λ o. CurrentIs s.version s.closed (option_map change o)) (sym at) shape;
    ended = λ e. absurd (cc);
  };
}

vertex_went : (n : ℕ) (s : State) (words : List (List ℕ)) (p : VertexPassed s words) → p.word ≡ vertex_word → fits kinds.Vertex s words ≡ true → s.ended ≡ false → Good s
    → Went (Some s) words (on_current (with_vertex (record { name = p.name; wcet = capped p.wcet; deadline = capped p.deadline })) s)
unfolding fits with_vertex takes_vertex
vertex_went n s words p is fit still good =
    let d = p.draft in
    let v : Vertex = record { name = p.name; wcet = capped p.wcet; deadline = capped p.deadline } in
    let all = both (in_task takes_vertex s) (is_printed p.wcet && is_printed p.deadline) (sym (ap (fits kinds.Vertex s) p.words_are) ∙ fit) in
    let numbers = both (is_printed p.wcet) (is_printed p.deadline) all.1 in
    let here = both (has_priority d) (length d.edges == 0) (sym (at_task takes_vertex s d p.in_a_task) ∙ all.0) in
    let none = no_length d.edges here.1 in
    let line : words ≡ vertex_line v
    = p.words_are ∙ ap (λ w. w ∷ p.name ∷ p.wcet ∷ p.deadline ∷ []) is ∙ sym (ap (λ w. vertex_word ∷ p.name ∷ w ∷ p.deadline ∷ []) (printed_is p.wcet numbers.0))
    ∙ sym (ap (λ w. vertex_word ∷ p.name ∷ decimal v.wcet ∷ w ∷ []) (printed_is p.deadline numbers.1)) in
    let grown : length (d.vertices ++ v ∷ []) ≡ length d.vertices + 1 = one_more d.vertices v in
    let room = p.room in
    let most = most_96 s.version in
    changed s d (with_vertex v) words (vertex_line v) good p.in_a_task still line
    (ap (λ l. (task_word ∷ d.name ∷ []) ∷ l) (vertex_lines_more (cond (s.version == 2) (number_lines d.priority) []) d.vertices v d.edges none))
    (record { unprinted = λ o. absurd (is_there d here.0 o); no_edges = λ e. none; few = omega (arith, grown, room, most) })

name_found : (vs : List Vertex) (name : List ℕ) → has_vertex name vs ≡ true → name_at vs (place_of_name name vs) ≡ name
unfolding name_at
name_found vs name e =
    let r = stands_at name vs e in
    ap (λ o. unwrap_or (option_map (λ v. v.name) o) []) r.1 ∙ r.2

edge_went : (n : ℕ) (s : State) (words : List (List ℕ)) (p : EdgePassed s words) → p.word ≡ edge_word → fits kinds.Edge s words ≡ true → s.ended ≡ false → Good s
    → Went (Some s) words (on_current (with_edge p.from p.to (capped p.sep)) s)
unfolding fits with_edge
edge_went n s words p is fit still good =
    let d = p.draft in
    let vs = d.vertices in
    let printed = printed_is p.sep (sym (ap (fits kinds.Edge s) p.words_are) ∙ fit) in
    let shape : Shape s.version d = subst (CurrentIs s.version s.closed) p.in_a_task good.current in
    let f_same : narrow (place_of_name p.from vs) ≡ place_of_name p.from vs = narrow_same (place_of_name p.from vs) (length vs) (place_within p.from vs p.from_stands) shape.few in
    let t_same : narrow (place_of_name p.to vs) ≡ place_of_name p.to vs = narrow_same (place_of_name p.to vs) (length vs) (place_within p.to vs p.to_stands) shape.few in
    let from : name_at vs (narrow (place_of_name p.from vs)) ≡ p.from = ap (name_at vs) f_same ∙ name_found vs p.from p.from_stands in
    let to : name_at vs (narrow (place_of_name p.to vs)) ≡ p.to = ap (name_at vs) t_same ∙ name_found vs p.to p.to_stands in
    let e : Edge = record { from = narrow (place_of_name p.from vs); to = narrow (place_of_name p.to vs); sep = capped p.sep } in
    let line : words ≡ edge_line vs e
    = p.words_are ∙ ap (λ w. w ∷ p.from ∷ p.to ∷ p.sep ∷ []) is ∙ sym (ap (λ w. edge_word ∷ w ∷ p.to ∷ p.sep ∷ []) from)
    ∙ sym (ap (λ w. edge_word ∷ name_at vs e.from ∷ w ∷ p.sep ∷ []) to) ∙ sym (ap (λ w. edge_word ∷ name_at vs e.from ∷ name_at vs e.to ∷ w ∷ []) printed) in
    changed s d (with_edge p.from p.to (capped p.sep)) words (edge_line vs e) good p.in_a_task still line
    (ap (λ l. (task_word ∷ d.name ∷ []) ∷ l) (edge_lines_more (cond (s.version == 2) (number_lines d.priority) []) (map vertex_line vs) vs d.edges e))
    (record { unprinted = λ none. absurd (no_vertex p.from vs p.from_stands (shape.unprinted none).1); no_edges = λ none. absurd (no_vertex p.from vs p.from_stands none); few = shape.few })
  where
    no_vertex : (name : List ℕ) (us : List Vertex) → has_vertex name us ≡ true → us ≡ [] → ⊥
    no_vertex name us has none = let e : has_vertex name us ≡ false = ap (has_vertex name) none in cc

priority_lines_more : (version : ℕ) (name : List ℕ) (p : Option ℕ) (vs : List Vertex) (es : List Edge) (n : ℕ) → version ≡ 2 → p ≡ None → vs ≡ [] → es ≡ []
    → (task_word ∷ name ∷ []) ∷ (cond (version == 2) (number_lines (Some n)) [] ++ (map vertex_line vs ++ map (edge_line vs) es))
    ≡ (task_word ∷ name ∷ []) ∷ (cond (version == 2) (number_lines p) [] ++ (map vertex_line vs ++ map (edge_line vs) es)) ++ (priority_word ∷ decimal n ∷ []) ∷ []
priority_lines_more version name p vs es n two none no_vs no_es = rw (two, none, no_es, no_vs) refl

priority_went : (n : ℕ) (s : State) (words : List (List ℕ)) (p : PriorityPassed s words) → p.word ≡ priority_word → s.version ≡ 2 → fits kinds.Priority s words ≡ true → s.ended ≡ false → Good s
    → Went (Some s) words (on_current (with_priority (capped p.number)) s)
unfolding fits with_priority takes_priority
priority_went n s words p is two fit still good =
    let d = p.draft in
    let k = capped p.number in
    let all = both (in_task takes_priority s) (is_printed p.number) (sym (ap (fits kinds.Priority s) p.words_are) ∙ fit) in
    let here = both (length d.vertices == 0) (length d.edges == 0) (sym (at_task takes_priority s d p.in_a_task) ∙ all.0) in
    let shape : Shape s.version d = subst (CurrentIs s.version s.closed) p.in_a_task good.current in
    let line : words ≡ priority_word ∷ decimal k ∷ [] = p.words_are ∙ ap (λ w. w ∷ p.number ∷ []) is ∙ sym (ap (λ w. priority_word ∷ w ∷ []) (printed_is p.number all.1)) in
    changed s d (with_priority k) words (priority_word ∷ decimal k ∷ []) good p.in_a_task still line
    (priority_lines_more s.version d.name d.priority d.vertices d.edges k two p.none_yet (no_length d.vertices here.0) (no_length d.edges here.1))
    (record { unprinted = λ e. absurd (cc); no_edges = λ e. no_length d.edges here.1; few = shape.few })

no_number : (version : ℕ) (s : State) → IsVersion s.version → cond (s.version == 2) (number_lines (opening_priority s)) [] ≡ []
unfolding opening_priority
no_number version s (inl one) = rw one refl
no_number version s (inr two) = rw two refl

opens_two : (s : State) → IsVersion s.version → opening_priority s ≡ None → s.version ≡ 2
unfolding opening_priority
opens_two s (inl one) e = let some : (s.version == 1) ≡ true = rw one refl in absurd (grind (arith, e, some))
opens_two s (inr two) e = two

all_whole : (t : State) → (is_outside t || in_task is_whole t) ≡ true → AllByRecursion IsWhole t.closed → AllByRecursion IsWhole (with_last t.closed t.current)
unfolding is_outside in_task with_last
all_whole t e are = go t.current e
  where
    go : (o : Option Draft) → ((elim o [ None ↦ true | Some x ↦ false ]) || (elim o [ None ↦ false | Some x ↦ is_whole x ])) ≡ true → AllByRecursion IsWhole (with_last t.closed o)
    go None h = are
    go (Some x) h = every_push IsWhole t.closed x are (whole_is x h)

pub task_went : (n : ℕ) (s : State) (name : List ℕ) → (is_outside s || in_task is_whole s) ≡ true → s.ended ≡ false → Good s → Went (Some s) (task_word ∷ name ∷ []) (after_task n s name)
unfolding after_task with_last
task_went n s name fit still good =
    let d : Draft = record { name = name; line = n; priority = opening_priority s; vertices = []; edges = [] } in
    let own : draft_lines s.version d ≡ (task_word ∷ name ∷ []) ∷ []
    = ap (λ l. (task_word ∷ name ∷ []) ∷ (l ++ [])) (no_number s.version s good.known) in
    record {
      lines = ap (lines_of s.version (with_last s.closed s.current ++ d ∷ [])) still ∙ task_more s.version (with_last s.closed s.current) d (task_word ∷ name ∷ []) own
          ∙ sym (ap (λ b. lines_of s.version (with_last s.closed s.current) b ++ (task_word ∷ name ∷ []) ∷ []) still);
      good = record {
        known = good.known;
        closed = all_whole s fit good.closed;
        current = record { unprinted = λ e. (opens_two s good.known e, refl, refl); no_edges = λ e. refl; few = omega arith };
        ended = λ e. absurd (cc);
      };
    }

end_went : (s : State) → in_task is_whole s ≡ true → s.ended ≡ false → Good s → Went (Some s) end_line (after_end s)
unfolding after_end
end_went s fit still good = record {
  lines = end_more s.version (with_last s.closed s.current) ∙ sym (ap (λ b. lines_of s.version (with_last s.closed s.current) b ++ end_line ∷ []) still);
  good = record { known = good.known; closed = good.closed; current = good.current; ended = λ e. in_whole s fit };
}

task_fits : (t : State) (ws : List (List ℕ)) → fits kinds.Task t ws ≡ true → (is_outside t || in_task is_whole t) ≡ true
unfolding fits
task_fits t ws h = h

end_fits : (t : State) (ws : List (List ℕ)) → fits kinds.End t ws ≡ true → in_task is_whole t ≡ true
unfolding fits
end_fits t ws h = h

kind_went : (n : ℕ) (s : State) (words : List (List ℕ)) (k : Kind) → kind s.version (first_word words) ≡ k → kind_fault k s words ≡ None → fits k s words ≡ true → s.ended ≡ false → Good s
    → Went (Some s) words (after_kind k n s words)
unfolding kind_fault after_kind
kind_went n s words kinds.Task k e fit still good =
    let p = task_passed s words e in
    let is = task_kind s.version p.word (ap (λ l. kind s.version (first_word l)) (sym p.words_are) ∙ k) in
    let line : words ≡ task_word ∷ p.name ∷ [] = p.words_are ∙ ap (λ w. w ∷ p.name ∷ []) is in
    subst (λ l. Went (Some s) l (after_kind kinds.Task n s l)) (sym line) (task_went n s p.name (task_fits s words fit) still good)
kind_went n s words kinds.Vertex k e fit still good =
    let p = vertex_passed s words e in
    let is = vertex_kind s.version p.word (ap (λ l. kind s.version (first_word l)) (sym p.words_are) ∙ k) in
    subst (λ l. Went (Some s) words (after_kind kinds.Vertex n s l)) (sym p.words_are) (vertex_went n s words p is fit still good)
kind_went n s words kinds.Edge k e fit still good =
    let p = edge_passed s words e in
    let is = edge_kind s.version p.word (ap (λ l. kind s.version (first_word l)) (sym p.words_are) ∙ k) in
    subst (λ l. Went (Some s) words (after_kind kinds.Edge n s l)) (sym p.words_are) (edge_went n s words p is fit still good)
kind_went n s words kinds.Priority k e fit still good =
    let p = priority_passed s words e in
    let is = priority_kind s.version p.word (ap (λ l. kind s.version (first_word l)) (sym p.words_are) ∙ k) in
    subst (λ l. Went (Some s) words (after_kind kinds.Priority n s l)) (sym p.words_are) (priority_went n s words p is.0 is.1 fit still good)
kind_went n s words kinds.End k e fit still good =
    let p = end_passed words e in
    let is = end_kind s.version p.0 (ap (λ l. kind s.version (first_word l)) (sym p.1) ∙ k) in
    let line : words ≡ end_line = p.1 ∙ ap (λ w. w ∷ []) is in
    subst (λ l. Went (Some s) l (after_end s)) (sym line) (end_went s (end_fits s words fit) still good)
kind_went n s words kinds.Other k e fit still good = absurd (cc)

-- The first line.
pub record Opening (words : List (List ℕ)) (s : State) : Type 0 where
  pub version : ℕ
  pub known : IsVersion version
  pub words_are : words ≡ version_line version
  pub is : s ≡ opening version

pub head_opens : (n : ℕ) (words : List (List ℕ)) (s : State) → headed n (head words) ≡ Ok (Some s) → Opening words s
unfolding headed head
head_opens n [] s e = absurd (cc)
head_opens n (a ∷ []) s e = absurd (cc)
head_opens n (a ∷ b ∷ c ∷ more) s e = absurd (cc)
head_opens n (word ∷ version ∷ []) s e = go (bytes_eq word drt_word) refl (bytes_eq version (49 ∷ [])) refl (bytes_eq version (50 ∷ [])) refl e
  where
    go : (d : Bool) → bytes_eq word drt_word ≡ d → (o : Bool) → bytes_eq version (49 ∷ []) ≡ o → (t : Bool) → bytes_eq version (50 ∷ []) ≡ t
        → headed n (cond d (cond o (Some (opening 1)) (cond t (Some (opening 2)) None)) None) ≡ Ok (Some s) → Opening (word ∷ version ∷ []) s
    go true isd true iso t ist h =
        let w = (bytes_eq-Decides word drt_word).0 isd in
        let v : version ≡ decimal 1 = (bytes_eq-Decides version (49 ∷ [])).0 iso ∙ sym (decimal_digit 1 (omega arith)) in
        record { version = 1; known = inl refl; words_are = ap (λ x. x ∷ version ∷ []) w ∙ ap (λ x. drt_word ∷ x ∷ []) v; is = cc }
    go true isd false iso true ist h =
        let w = (bytes_eq-Decides word drt_word).0 isd in
        let v : version ≡ decimal 2 = (bytes_eq-Decides version (50 ∷ [])).0 ist ∙ sym (decimal_digit 2 (omega arith)) in
        record { version = 2; known = inr refl; words_are = ap (λ x. x ∷ version ∷ []) w ∙ ap (λ x. drt_word ∷ x ∷ []) v; is = cc }
    go true isd false iso false ist h = absurd (cc)
    go false isd o iso t ist h = absurd (cc)

head_went : (words : List (List ℕ)) (s : State) → Opening words s → Went None words s
unfolding opening with_last
head_went words s o =
    subst (λ t. Went None words t) (sym o.is) (record {
      lines = ap (λ l. l ∷ []) (sym o.words_are);
      good = record { known = o.known; closed = tt; current = refl; ended = λ e. absurd (cc) };
    })

-- A line that is taken.
pub step_went : (n : ℕ) (above : Option State) (line : List ℕ) (t : State) → GoodAbove above → strict_step n above line ≡ Some t → Went above (fields line) t
unfolding line_step fits_below
step_went n None line t good e = head_went (fields line) t (head_opens n (fields line) t (step_taken n None line t e).goes)
step_went n (Some s) line t good e =
    let taken = step_taken n (Some s) line t e in
    let left = left_below n s line (fields line) t taken.goes in
    let k = kind s.version (first_word (fields line)) in
    subst (λ x. Went (Some s) (fields line) x) (sym left.is) (kind_went n s (fields line) k refl left.passed.passes taken.fits left.passed.is_open good)

-- Lines that are taken are those of what they leave.
pub steps_went : (ls : List (List ℕ)) (n m : ℕ) (above below : Option State) → GoodAbove above → strict_steps n above ls ≡ Some (m, below)
    → (written (state_lines below) ≡ written (state_lines above) ++ fed ls) × GoodAbove below
unfolding strict_steps written_line
steps_went [] n m above below good e =
    let pair : (n, above) ≡ (m, below) = cc in
    let same : above ≡ below = ap (λ (x : ℕ × Option State). x.1) pair in
    (ap (λ o. written (state_lines o)) (sym same) ∙ sym (append-nil (written (state_lines above))), subst GoodAbove same good)
steps_went (line ∷ ls) n m above below good e =
    let f = first_taken n above line ls (m, below) e in
    let went = step_went n above line f.0 good f.1 in
    let joined = (step_taken n above line f.0 f.1).joined in
    let rest = steps_went ls (n + 1) m (Some f.0) below went.good f.2 in
    let so_far = written (state_lines above) in (
      rest.0 ∙ ap (λ l. written l ++ fed ls) went.lines
          ∙ ap (λ l. l ++ fed ls) (flat_map-append written_line (state_lines above) (fields line ∷ []) ∙ ap (λ r. so_far ++ r) (append-nil (written_line (fields line)))
          ∙ ap (λ t. so_far ++ (t ++ 10 ∷ [])) joined)
          ∙ append_assoc so_far (line ++ 10 ∷ []) (fed ls),
      rest.1,
    )
