-- Lines that are taken, down to less than `end`, can be completed.
use Rattle.std.proofs.Common.{◌≡◌, ℕ, suc, ◌+◌, ◌≤◌, ◌<◌, Bool, true, false, ◌&&◌, ◌||◌, List, [], ◌∷◌, length, Option, Some, None, refl, sym, ap, subst, ◌∙◌, arith, rules, cond, inl}
use Rattle.std.specs.Prelude.{decimal, bytes_eq, option_map, ◌==◌}
use Rattle.std.specs.List.{AllByRecursion, list_any, join_with_byte}
use Rattle.drt_model.specs.declared.tasks.Vertex.{Vertex}
use Rattle.drt_model.specs.Limits.{most_tasks, most_vertices}
use Rattle.drt_file.specs.declared.state.Draft.{Draft}
use Rattle.drt_file.specs.declared.state.State.{State}
use Rattle.drt_file.specs.declared.state.Kind.TheVariants as kinds
use Rattle.drt_file.specs.trusted.Words.{is_name, is_name_byte, value, drt_word, task_word, vertex_word, priority_word}
use Rattle.drt_file.specs.trusted.Canonical.{end_line}
use Rattle.drt_file.specs.internal.Kinds.{kind}
use Rattle.drt_file.specs.internal.StateFaults.{kind_fault, end_fault, has_priority, has_vertex, has_that_priority, in_task, is_outside}
use Rattle.drt_file.specs.internal.Steps.{with_last, with_vertex, with_priority, on_current, after_task, after_end, after_kind, opening, head, headed, line_step, capped}
use Rattle.drt_file.proofs.Written.{Means}
use Rattle.drt_file.specs.trusted.Cutting.{HasNoFeed}
use Rattle.drt_file.specs.internal.Strict.{is_printed, is_whole, takes_vertex, takes_priority, fits, fits_below, strict_step, strict_steps, has_ended}
use Rattle.drt_file.proofs.Again.{IsField, joined_again, joined_no_feed}
use Rattle.drt_file.proofs.Names.{is_a_name}
use Rattle.drt_file.proofs.Digits.{decimal_field, decimal_number, value_decimal}
use Rattle.drt_file.proofs.Fielded.{drt_field, task_field, vertex_field, priority_field, end_field}
use Rattle.drt_file.proofs.Bodies.{vertex_text, priority_text, task_text}
use Rattle.drt_file.proofs.Spelled.{end_text}
use Rattle.drt_file.proofs.Passing.{task_again, vertex_again, priority_again}
use Rattle.drt_file.proofs.Opened.{most_32}
use Rattle.drt_file.proofs.Kept.{Stands}
use Rattle.drt_file.proofs.Follows.{Follows, StandsAt, steps_follow}
use Rattle.drt_file.proofs.Ordered.{step_again, accepts, taken_first, none_taken, plain_steps}
use Rattle.drt_file.proofs.Grown.{Shape, CurrentIs, Good, task_went, steps_went}
use Rattle.drt_file.proofs.Agreed.{printed}
use Rattle.drt_file.proofs.Fresh.{fresh}

-- Some further lines end with `end`.
abbrev pub Completes : ℕ → Option State → Type 0
Completes n above = (more : List (List ℕ)) × AllByRecursion HasNoFeed more × ((m : ℕ) × (t : State) × (strict_steps n above more ≡ Some (m, Some t)) × (t.ended ≡ true))

complete_next : (n : ℕ) (above : Option State) (words : List (List ℕ)) (t : State) → AllByRecursion IsField words → strict_step n above (join_with_byte 32 words) ≡ Some t
    → Completes (n + 1) (Some t) → Completes n above
complete_next n above words t fielded step (more, none, (m, u, taken, ended)) =
    (join_with_byte 32 words ∷ more, (joined_no_feed words fielded, none), (m, u, taken_first n above (join_with_byte 32 words) more t step ∙ taken, ended))

complete_end : (n : ℕ) (s : State) → in_task is_whole s ≡ true → s.ended ≡ false → Completes n (Some s)
unfolding kind kind_fault end_fault fits after_kind after_end
complete_end n s whole still =
    complete_next n (Some s) end_line (after_end s) (end_field, tt) (accepts n s end_line kinds.End (end_field, tt) end_text still refl refl whole)
    ([], tt, (n + 1, after_end s, none_taken (n + 1) (Some (after_end s)), refl))

abbrev letter : List ℕ
letter = 97 ∷ []

letter_name : is_name letter ≡ true
unfolding is_name is_name_byte
letter_name = refl

letter_field : IsField letter
letter_field = record { has_byte = omega arith; bytes = search rules }

means_one : Means (decimal 1) 1
means_one = (decimal_number 1 (omega arith), value_decimal 1 (omega arith))

room_for_vertex : (version : ℕ) → 0 < most_vertices version
room_for_vertex version = go (version == 1)
  where
    go : (b : Bool) → 0 < cond b 48 96
    go true = omega arith
    go false = omega arith

room_for_task : (version : ℕ) → 0 < most_tasks version
room_for_task version = go (version == 1)
  where
    go : (b : Bool) → 0 < cond b 16 32
    go true = omega arith
    go false = omega arith

at_draft : (test : Draft → Bool) (s : State) (d : Draft) → s.current ≡ Some d → test d ≡ true → in_task test s ≡ true
unfolding in_task
at_draft test s d at e = rw at e

complete_vertex : (n : ℕ) (s : State) (d : Draft) → s.current ≡ Some d → s.ended ≡ false → has_priority d ≡ true → d.vertices ≡ [] → d.edges ≡ [] → Completes n (Some s)
unfolding kind kind_fault fits after_kind on_current with_vertex takes_vertex is_whole has_priority
complete_vertex n s d at still priority no_vs no_es =
    let words = vertex_word ∷ letter ∷ decimal 1 ∷ decimal 1 ∷ [] in
    let v : Vertex = record { name = letter; wcet = capped (decimal 1); deadline = capped (decimal 1) } in
    let fielded : AllByRecursion IsField words = (vertex_field, (letter_field, (decimal_field 1 (omega arith), (decimal_field 1 (omega arith), tt)))) in
    let text = vertex_text letter (decimal 1) (decimal 1) letter_name (decimal_number 1 (omega arith)) (decimal_number 1 (omega arith)) in
    let new : has_vertex letter d.vertices ≡ false = ap (has_vertex letter) no_vs in
    let room : length d.vertices < most_vertices s.version = subst (λ (vs : List Vertex). length vs < most_vertices s.version) (sym no_vs) (room_for_vertex s.version) in
    let none = vertex_again s d letter (decimal 1) (decimal 1) 1 1 at means_one means_one (is_a_name letter letter_name) (omega arith, omega arith) (omega arith, omega arith) new room in
    let here : takes_vertex d ≡ true = rw (priority, no_es) refl in
    let fit : (in_task takes_vertex s && (is_printed (decimal 1) && is_printed (decimal 1))) ≡ true = rw (at_draft takes_vertex s d at here, printed 1 (omega arith)) refl in
    let e : Draft = with_vertex v d in
    let t : State = on_current (with_vertex v) s in
    let whole : is_whole e ≡ true = rw (priority, no_vs) refl in
    complete_next n (Some s) words t fielded (accepts n s words kinds.Vertex fielded text still refl none fit)
    (complete_end (n + 1) t (at_draft is_whole t e (ap (option_map (with_vertex v)) at) whole) still)

complete_priority : (n : ℕ) (s : State) (d : Draft) → s.current ≡ Some d → s.ended ≡ false → s.version ≡ 2 → d.priority ≡ None → d.vertices ≡ [] → d.edges ≡ []
    → length s.closed ≤ 32 → Completes n (Some s)
unfolding kind kind_fault fits after_kind on_current with_priority takes_priority has_priority
complete_priority n s d at still two no_number no_vs no_es few =
    let free = fresh 32 s.closed few in
    let k = free.0 in
    let at_most = free.2 in
    let words = priority_word ∷ decimal k ∷ [] in
    let small : k ≤ 1000000 = omega (arith, at_most) in
    let number = decimal_number k (omega (arith, small)) in
    let means = value_decimal k (omega (arith, small)) in
    let fielded : AllByRecursion IsField words = (priority_field, (decimal_field k (omega (arith, small)), tt)) in
    let new : list_any (has_that_priority (value (decimal k))) s.closed ≡ false = ap (λ j. list_any (has_that_priority j) s.closed) means ∙ free.3 in
    let none = priority_again s d (decimal k) k at (number, means) (free.1, small) no_number new in
    let is : kind s.version priority_word ≡ kinds.Priority = rw two refl in
    let here : takes_priority d ≡ true = rw (no_vs, no_es) refl in
    let fit : (in_task takes_priority s && is_printed (decimal k)) ≡ true = rw (at_draft takes_priority s d at here, printed k small) refl in
    let e : Draft = with_priority (capped (decimal k)) d in
    let t : State = on_current (with_priority (capped (decimal k))) s in
    complete_next n (Some s) words t fielded (accepts n s words kinds.Priority fielded (priority_text (decimal k) number) still is none fit)
    (complete_vertex (n + 1) t e (ap (option_map (with_priority (capped (decimal k)))) at) still refl no_vs no_es)

has_it : (d : Draft) (k : ℕ) → d.priority ≡ Some k → has_priority d ≡ true
unfolding has_priority
has_it d k at = rw at refl

complete_task : (n : ℕ) (s : State) (d : Draft) → s.current ≡ Some d → s.ended ≡ false → Shape s.version d → length s.closed ≤ 32 → Completes n (Some s)
unfolding is_whole
complete_task n s d at still shape few = go d.priority refl d.vertices refl
  where
    nonzero : (m : ℕ) → (suc m == 0) ≡ false
    nonzero m = grind arith

    go : (o : Option ℕ) → d.priority ≡ o → (vs : List Vertex) → d.vertices ≡ vs → Completes n (Some s)
    go None p vs v = let none = shape.unprinted p in complete_priority n s d at still none.0 p none.1 none.2 few
    go (Some k) p [] v = complete_vertex n s d at still (has_it d k p) v (shape.no_edges v)
    go (Some k) p (x ∷ vs) v =
        let some : (length d.vertices == 0) ≡ false = ap (λ l. length l == 0) v ∙ nonzero (length vs) in
        let whole : is_whole d ≡ true = rw (has_it d k p, some) refl in
        complete_end n s (at_draft is_whole s d at whole) still

complete_open : (n : ℕ) (s : State) → s.current ≡ None → s.closed ≡ [] → s.ended ≡ false → Good s → Completes n (Some s)
unfolding kind kind_fault fits after_kind after_task with_last is_outside
complete_open n s at closed still good =
    let words = task_word ∷ letter ∷ [] in
    let fielded : AllByRecursion IsField words = (task_field, (letter_field, tt)) in
    let all : with_last s.closed s.current ≡ [] = ap (with_last s.closed) at ∙ closed in
    let new : list_any (λ d. bytes_eq d.name letter) (with_last s.closed s.current) ≡ false = ap (list_any (λ d. bytes_eq d.name letter)) all in
    let room : length (with_last s.closed s.current) < most_tasks s.version = subst (λ (ds : List Draft). length ds < most_tasks s.version) (sym all) (room_for_task s.version) in
    let none = task_again s letter (is_a_name letter letter_name) new room in
    let fit : (is_outside s || in_task is_whole s) ≡ true = rw at refl in
    let t : State = after_task n s letter in
    let went = (task_went n s letter fit still good).good in
    let count : length (with_last s.closed s.current) ≤ 32 = subst (λ (ds : List Draft). length ds ≤ 32) (sym all) (omega arith) in
    complete_next n (Some s) words t fielded (accepts n s words kinds.Task fielded (task_text letter letter_name) still refl none fit)
    (complete_task (n + 1) t _ refl still went.current count)

complete_none : (n : ℕ) → Completes n None
unfolding fits_below line_step headed head opening
complete_none n =
    let words = drt_word ∷ (49 ∷ []) ∷ [] in
    let fielded : AllByRecursion IsField words = (drt_field, (record { has_byte = omega arith; bytes = search rules }, tt)) in
    let t : State = opening 1 in
    let good : Good t = record { known = inl refl; closed = tt; current = refl; ended = λ e. absurd (cc) } in
    complete_next n None words t fielded (step_again n None (join_with_byte 32 words) words t (joined_again words fielded) refl refl refl)
    (complete_open (n + 1) t refl refl refl good)

few_closed : (ws : List (List (List ℕ))) (s : State) (d : Draft) → s.current ≡ Some d → s.ended ≡ false → Follows ws (Some s) → length s.closed ≤ 32
few_closed ws s d at still follows =
    let stands : Stands ws s.version s.closed s.current = subst (λ b. StandsAt b ws s.version s.closed s.current) still follows in
    let inside : Stands ws s.version s.closed (Some d) = subst (Stands ws s.version s.closed) at stands in
    let few = inside.few in
    let most = most_32 s.version in
    omega (arith, few, most)

pub completes : (ls : List (List ℕ)) (n : ℕ) (above : Option State) → strict_steps 1 None ls ≡ Some (n, above) → has_ended above ≡ false → Completes n above
unfolding has_ended
completes ls n None taken still = complete_none n
completes ls n (Some s) taken still =
    let good : Good s = (steps_went ls 1 n None (Some s) tt taken).1 in
    go s.current refl good.current (λ d at. few_closed _ s d at still (steps_follow ls [] 1 n None (Some s) (plain_steps ls 1 n None (Some s) taken) refl)) good
  where
    go : (o : Option Draft) → s.current ≡ o → CurrentIs s.version s.closed o → ((d : Draft) → s.current ≡ Some d → length s.closed ≤ 32) → Good s → Completes n (Some s)
    go None at closed few good = complete_open n s at closed still good
    go (Some d) at shape few good = complete_task n s d at still shape (few d at)
