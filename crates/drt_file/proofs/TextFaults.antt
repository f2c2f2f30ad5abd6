-- The fault of a text by the tables is the one that the reader finds: from its lines (Faulty.antt), and from the text as a whole.
use Rattle.std.proofs.Common.{◌≡◌, ℕ, ◌+◌, Bool, true, false, not, ◌||◌, List, [], ◌∷◌, ◌++◌, length, map, Option, Some, None, Result, Ok, Err, refl, sym, ap, subst, ◌∙◌, arith, cond, inl, inr}
use Rattle.std.specs.Prelude.{◌==◌}
use Rattle.drt_model.specs.Contents.{Contents}
use Rattle.drt_model.specs.Limits.{IsVersion}
use Rattle.drt_file.specs.declared.state.Draft.{Draft}
use Rattle.drt_file.specs.declared.state.State.{State}
use Rattle.drt_file.specs.declared.fault.FileFault.{FileFault}
use Rattle.drt_file.specs.trusted.Cutting.{lines, lines_of_fields}
use Rattle.drt_file.specs.trusted.Canonical.{end_line}
use Rattle.drt_file.specs.trusted.Line.{said}
use Rattle.drt_file.specs.trusted.Faults.{Fields, is_vertex, is_priority, is_task, is_first, version_of, has_task, has_end, first_without, first_faulty, text_table, first_place, fault_of}
use Rattle.drt_file.specs.internal.Steps.{◌>>=◌, with_last, first_line, has_no_vertex, has_no_priority, unless_at, task_of, closing, finish, opening_priority, with_vertex, with_edge, with_priority, steps, read_text}
use Rattle.drt_file.proofs.Faulty.{told, lines_same, longer_still, ended_at}
use Rattle.drt_file.proofs.Follows.{Follows, StandsAt, steps_follow}
use Rattle.drt_file.proofs.Keys.{key_of, Numbered}
use Rattle.drt_file.proofs.Kept.{Stands}
use Rattle.drt_file.proofs.LineCodes.{inside_of}
use Rattle.drt_file.proofs.LinesAbove.{any_push, or_false}
use Rattle.drt_file.proofs.Shown.{shown}
use Rattle.drt_file.proofs.Snoc.{one_item}
use Rattle.drt_file.proofs.TaskLines.{Tells, PlacedAt, placed_same, skipped_word, steps_placed}
use Rattle.std.proofs.lemmas.List.{map_push}

or_true : (b : Bool) → (b || true) ≡ true
or_true true = refl
or_true false = refl

abbrev any_version : ℕ → Type 0
any_version v = Unit {0}

tells_vertices : Tells any_version is_vertex has_no_vertex
unfolding is_vertex has_no_vertex with_vertex with_edge with_priority
tells_vertices = record {
  opened = λ s n name v. refl;
  vertex = λ d v name wcet deadline. or_true _ ∙ sym (ap not (one_item d.vertices v));
  edge = λ d n from to sep. or_false _;
  priority = λ d n number. or_false _;
  end = refl;
  head = λ version. refl;
  skipped = λ w e. skipped_word w 118 (101 ∷ 114 ∷ 116 ∷ 101 ∷ 120 ∷ []) refl e;
}

tells_priorities : Tells (λ v. v ≡ 2) is_priority has_no_priority
unfolding is_priority has_no_priority with_vertex with_edge with_priority opening_priority
tells_priorities = record {
  opened = λ s n name two. rw two refl;
  vertex = λ d v name wcet deadline. or_false _;
  edge = λ d n from to sep. or_false _;
  priority = λ d n number. or_true _;
  end = refl;
  head = λ version. refl;
  skipped = λ w e. skipped_word w 112 (114 ∷ 105 ∷ 111 ∷ 114 ∷ 105 ∷ 116 ∷ 121 ∷ []) refl e;
}

-- In version 1 each task has a priority.
numbered_all : (k : ℕ) (ds : List Draft) → Numbered k (map key_of ds) → first_line has_no_priority ds ≡ None
unfolding first_line has_no_priority
numbered_all k [] are = refl
numbered_all k (d ∷ ds) are = rw are.0 (numbered_all (k + 1) ds are.1)

all_numbered : (ws : List Fields) (version : ℕ) (closed : List Draft) (o : Option Draft) → version ≡ 1 → Stands ws version closed o → first_line has_no_priority (with_last closed o) ≡ None
unfolding with_last first_line
all_numbered ws version closed None one stands = ap (first_line has_no_priority) stands.0
all_numbered ws version closed (Some d) one stands =
    numbered_all 1 (closed ++ d ∷ []) (subst (Numbered 1) (sym (map_push key_of closed d)) (stands.keys.in_order one))

-- What the lines that aren't skipped show at the end of a text.
record Told (kept : List Fields) (s : State) : Type 0 where
  later : is_first kept ≡ false
  within : has_task kept ≡ inside_of s.current
  ended : has_end kept ≡ s.ended
  version_is : version_of kept ≡ s.version
  above : List Fields
  stands : Stands above s.version s.closed s.current

within_is : (o : Option Draft) → (elim o [ None ↦ false | Some d ↦ true ]) ≡ inside_of o
within_is None = refl
within_is (Some d) = refl

version_more : (ws : List Fields) (w : Fields) → is_first ws ≡ false → version_of (ws ++ w ∷ []) ≡ version_of ws
unfolding version_of is_first
version_more [] w e = absurd (cc)
version_more (x ∷ ws) w e = refl

told_at : (kept : List Fields) (s : State) → Follows kept (Some s) → Told kept s
unfolding has_task is_task
told_at kept s follows = go s.ended refl follows
  where
    go : (b : Bool) → s.ended ≡ b → StandsAt b kept s.version s.closed s.current → Told kept s
    go false e stands =
        let w = shown kept s.version s.closed s.current stands in
        record { later = w.later; within = w.within ∙ within_is s.current; ended = w.still ∙ sym e; version_is = w.version_is; above = kept; stands = stands }
    go true e (above, are, stands) =
        let w = shown above s.version s.closed s.current stands in
        record {
          later = ap is_first are ∙ longer_still above end_line;
          within = ap has_task are ∙ any_push is_task above end_line ∙ or_false _ ∙ w.within ∙ within_is s.current;
          ended = ap has_end are ∙ ended_at above ∙ sym e;
          version_is = ap version_of are ∙ version_more above end_line w.later ∙ w.version_is;
          above = above;
          stands = stands;
        }

-- The two tables, by what stands in them.
ends_same : (m : ℕ) (ds : List Draft) (t e : Bool) (v p : Option ℕ)
    → first_place ((1, None) ∷ (16, cond t None (Some m)) ∷ (17, v) ∷ (18, cond e None (Some m)) ∷ (26, p) ∷ [])
    ≡ told (cond (not t) (Err (record { line = m; code = 16 })) (unless_at 17 v (cond (not e) (Err (record { line = m; code = 18 })) (unless_at 26 p (Ok ds)))))
unfolding first_place unless_at
ends_same m ds false e v p = refl
ends_same m ds true e (Some l) p = refl
ends_same m ds true false None p = refl
ends_same m ds true true None (Some l) = refl
ends_same m ds true true None None = refl

none_or_some : (ws : List Fields) (version : ℕ) (closed : List Draft) (o : Option Draft) → Stands ws version closed o → (length (with_last closed o) == 0) ≡ not (inside_of o)
unfolding with_last
none_or_some ws version closed None stands = ap (λ ds. length ds == 0) stands.0
none_or_some ws version closed (Some d) stands = one_item closed d

known_at : (ws : List Fields) (version : ℕ) (closed : List Draft) (o : Option Draft) → Stands ws version closed o → IsVersion version
known_at ws version closed None stands = stands.2
known_at ws version closed (Some d) stands = stands.known

priorities_same : (every kept : List Fields) (s : State) → Told kept s → PlacedAt (λ v. v ≡ 2) is_priority has_no_priority every (Some s)
    → cond (version_of kept == 2) (first_without is_priority 1 every) None ≡ first_line has_no_priority (with_last s.closed s.current)
priorities_same every kept s t placed = go (known_at t.above s.version s.closed s.current t.stands)
  where
    go : IsVersion s.version → cond (version_of kept == 2) (first_without is_priority 1 every) None ≡ first_line has_no_priority (with_last s.closed s.current)
    go (inl one) = rw (t.version_is ∙ one) (sym (all_numbered t.above s.version s.closed s.current one t.stands))
    go (inr two) = rw (t.version_is ∙ two) (placed_same is_priority has_no_priority every s.closed s.current (placed two))

told_then : {A B : Type 0} (r : Result A FileFault) (f : A → B) → told (r >>= λ x. Ok (f x)) ≡ told r
told_then (Ok x) f = refl
told_then (Err e) f = refl

finish_same : (every kept : List Fields) (m : ℕ) (below : Option State) → Follows kept below → PlacedAt any_version is_vertex has_no_vertex every below
    → PlacedAt (λ v. v ≡ 2) is_priority has_no_priority every below → m ≡ 1 + length every → first_place (text_table every kept) ≡ told (finish m below)
unfolding text_table first_place finish closing is_first
finish_same every kept m None follows vs ps count =
    ap (λ k. first_place (text_table every k)) follows ∙ ap (λ n. Some (n, 1)) (let e : length every + 1 ≡ m = omega (arith, count) in e)
finish_same every kept m (Some s) follows vs ps count =
    let t = told_at kept s follows in
    let ds = with_last s.closed s.current in
    let last : length every + 1 ≡ m = omega (arith, count) in
    let v : first_without is_vertex 1 every ≡ first_line has_no_vertex ds = placed_same is_vertex has_no_vertex every s.closed s.current (vs tt) in
    let p = priorities_same every kept s t ps in
    let none : (length ds == 0) ≡ not (inside_of s.current) = none_or_some t.above s.version s.closed s.current t.stands in
    go t ds last v p none ∙ sym (told_then {B = Contents} (closing m ds s.ended) (λ es. record { version = s.version; tasks = map task_of es }))
  where
    go : Told kept s → (ds : List Draft) → length every + 1 ≡ m → first_without is_vertex 1 every ≡ first_line has_no_vertex ds
        → cond (version_of kept == 2) (first_without is_priority 1 every) None ≡ first_line has_no_priority ds → (length ds == 0) ≡ not (inside_of s.current)
        → first_place (text_table every kept) ≡ told (closing m ds s.ended)
    go t ds last v p none = rw (t.later, last, t.within, v, t.ended, p, none) (ends_same m ds (inside_of s.current) s.ended (first_line has_no_vertex ds) (first_line has_no_priority ds))

-- The tables give the fault that the reader finds, and none where it finds none.
pub fault_same : (text : List ℕ) → fault_of text ≡ told (read_text text)
unfolding fault_of read_text has_task
fault_same text = go (steps 1 None (lines text)) refl (lines_same (lines text) 1 [] None refl)
  where
    go : (r : Result (ℕ × Option State) FileFault) → steps 1 None (lines text) ≡ r → first_faulty 1 [] (lines text) ≡ told (steps 1 None (lines text))
        → fault_of text ≡ told (r >>= λ x. finish x.0 x.1)
    go (Err f) at same = rw (fault_of, same ∙ ap told at) refl
    go (Ok (m, below)) at same =
        let v = steps_placed any_version is_vertex has_no_vertex tells_vertices (lines text) [] 1 m None below at refl refl in
        let p = steps_placed (λ k. k ≡ 2) is_priority has_no_priority tells_priorities (lines text) [] 1 m None below at refl refl in
        rw (fault_of, same ∙ ap told at) (finish_same (lines_of_fields text) (said text) m below (steps_follow (lines text) [] 1 m None below at refl) v.0 p.0 v.1)
