-- The lines of a set are taken one by one.
use Rattle.std.proofs.Common.{◌≡◌, ℕ, ◌+◌, ◌≤◌, Bool, true, false, not, ◌&&◌, ◌||◌, List, [], ◌∷◌, ◌++◌, length, map, Option, Some, None, Result, Ok, Err, refl, sym, ap, subst, ◌∙◌, append_assoc, arith, inl, inr, cond}
use Rattle.std.specs.Prelude.{◌==◌, decimal, option_map, filter}
use Rattle.std.specs.List.{AllByRecursion, flat_map, join_with_byte}
use Rattle.std.proofs.lemmas.List.{append-nil}
use Rattle.std.proofs.lemmas.List.Elements.{recursion_from_All}
use Rattle.std.proofs.lemmas.Slice.Eq.{bytes_eq-Decides}
use Rattle.drt_model.specs.declared.tasks.Vertex.{Vertex}
use Rattle.drt_model.specs.declared.tasks.Edge.{Edge}
use Rattle.drt_model.specs.declared.tasks.Task.{Task}
use Rattle.drt_model.specs.Contents.{Contents}
use Rattle.drt_model.specs.Limits.{IsVersion, IsVertex, IsEdgeAmong, IsTask, IsTaskSet}
use Rattle.drt_file.specs.declared.state.Draft.{Draft}
use Rattle.drt_file.specs.declared.state.State.{State}
use Rattle.drt_file.specs.declared.state.Kind.TheVariants as kinds
use Rattle.drt_file.specs.declared.fault.FileFault.{FileFault}
use Rattle.drt_file.specs.trusted.Cutting.{fields, fed, HasNoFeed}
use Rattle.drt_file.specs.trusted.Words.{priority_word}
use Rattle.drt_file.specs.trusted.Canonical.{canonical, written, written_line, name_at, version_line, task_line, vertex_line, edge_line, end_line, priority_lines, lines_of_body, task_lines, set_lines}
use Rattle.drt_file.specs.internal.Kinds.{kind}
use Rattle.drt_file.specs.trusted.Line.{is_skipped}
use Rattle.drt_file.specs.internal.StateFaults.{has_priority, in_task, is_outside, task_count}
use Rattle.drt_file.specs.internal.Steps.{◌>>=◌, narrow, opening_priority, with_vertex, with_edge, with_priority, on_current, after_task, after_kind, opening, headed, line_step, step, steps, capped}
use Rattle.drt_file.specs.internal.Strict.{is_printed, is_whole, takes_vertex, takes_priority, fits, fits_below, strict_steps}
use Rattle.drt_file.proofs.Again.{IsField, joined_again, joined_no_feed}
use Rattle.drt_file.proofs.Digits.{capped_decimal}
use Rattle.drt_file.proofs.Fielded.{set_fielded}
use Rattle.drt_file.proofs.Leads.{kept}
use Rattle.drt_file.proofs.Snoc.{one_item}
use Rattle.drt_file.specs.trusted.Reading.{no_task}
use Rattle.drt_file.proofs.Spelled.{few_of, opens_as, text_leads}
use Rattle.drt_file.proofs.Printed.{Stays, all_stay, set_stays, tasks_said}
use Rattle.drt_file.proofs.Ordered.{step_again, left_below, line_some, taken_first}

-- Lines of fields as bytes.
abbrev pub joined_lines : List (List (List ℕ)) → List (List ℕ)
joined_lines ws = map (join_with_byte 32) ws

-- From states with P, lines that are read are taken.
abbrev Agrees : (Option State → Type 0) → List (List (List ℕ)) → Type 0
Agrees P ws = AllByRecursion (AllByRecursion IsField) ws → AllByRecursion Stays ws
    → (n : ℕ) (above : Option State) (m : ℕ) (below : Option State) → P above → steps n above (joined_lines ws) ≡ Ok (m, below) → strict_steps n above (joined_lines ws) ≡ Some (m, below)

-- A line that is read fits, and leaves a state with Q.
abbrev Fitting : (Option State → Type 0) → List (List ℕ) → (State → Type 0) → Type 0
Fitting P w Q = (n : ℕ) (above : Option State) (line : List ℕ) (s : State) → P above → line_step n above line w ≡ Ok (Some s) → (fits_below above w ≡ true) × Q s

agrees_none : (P : Option State → Type 0) → Agrees P []
unfolding steps strict_steps
agrees_none P fielded stay n above m below p e =
    let same : (n, above) ≡ (m, below) = cc in
    ap (λ (x : ℕ × Option State). Some x) same

abbrev Below : (State → Type 0) → Option State → Type 0
Below Q o = (s : State) × (o ≡ Some s) × Q s

agrees_next : (P : Option State → Type 0) (Q : State → Type 0) (w : List (List ℕ)) (ws : List (List (List ℕ))) → Fitting P w Q → Agrees (Below Q) ws → Agrees P (w ∷ ws)
unfolding steps step
agrees_next P Q w ws fitting rest fielded stay n above m below p e =
    let line = join_with_byte 32 w in
    let cut : fields line ≡ w = joined_again w fielded.0 in
    let plain : step n above line ≡ line_step n above line w
    = ap (λ l. cond (is_skipped l) (Ok above) (line_step n above line l)) cut ∙ ap (λ b. cond b (Ok above) (line_step n above line w)) stay.0 in
    go (line_step n above line w) refl (ap (λ (r : Result (Option State) FileFault). r >>= λ mid. steps (n + 1) mid (joined_lines ws)) (sym plain) ∙ e)
  where
    go : (r : Result (Option State) FileFault) → line_step n above (join_with_byte 32 w) w ≡ r → (r >>= λ mid. steps (n + 1) mid (joined_lines ws)) ≡ Ok (m, below)
        → strict_steps n above (joined_lines (w ∷ ws)) ≡ Some (m, below)
    go (Err f) at h = absurd (cc)
    go (Ok mid) at h =
        let line = join_with_byte 32 w in
        let some = line_some n above line w mid at in
        let s = some.0 in
        let goes : line_step n above line w ≡ Ok (Some s) = at ∙ ap (λ o. Ok o) some.1 in
        let fit = fitting n above line s p goes in
        taken_first n above line (joined_lines ws) s (step_again n above line w s (joined_again w fielded.0) refl fit.0 goes)
        ∙ rest fielded.1 stay.1 (n + 1) (Some s) m below (s, refl, fit.1) (ap (λ o. steps (n + 1) o (joined_lines ws)) (sym some.1) ∙ h)

agrees_weaker : (P Q : Option State → Type 0) (ws : List (List (List ℕ))) → ((o : Option State) → P o → Q o) → Agrees Q ws → Agrees P ws
agrees_weaker P Q ws so rest fielded stay n above m below p e = rest fielded stay n above m below (so above p) e

-- The line stands in a task of which T holds.
abbrev In : ℕ → (Draft → Type 0) → State → Type 0
In version T s = (s.version ≡ version) × ((d : Draft) × (s.current ≡ Some d) × T d)

-- A task may follow.
abbrev Open : ℕ → State → Type 0
Open version s = (s.version ≡ version) × ((is_outside s || in_task is_whole s) ≡ true)

abbrev Named : Draft → Type 0
Named d = (d.vertices ≡ []) × (d.edges ≡ [])

abbrev Ready : Draft → Type 0
Ready d = (has_priority d ≡ true) × (d.edges ≡ [])

abbrev Vertices : Draft → Type 0
Vertices d = (has_priority d ≡ true) × (d.edges ≡ []) × ((length d.vertices == 0) ≡ false)

abbrev Whole : Draft → Type 0
Whole d = is_whole d ≡ true

pub printed : (n : ℕ) → n ≤ 1000000 → is_printed (decimal n) ≡ true
unfolding is_printed
printed n le = (bytes_eq-Decides (decimal (capped (decimal n))) (decimal n)).1 (ap decimal (capped_decimal n le))

in_at : (test : Draft → Bool) (s : State) (d : Draft) → s.current ≡ Some d → test d ≡ true → in_task test s ≡ true
unfolding in_task
in_at test s d at e = rw at e

no_items : {X : Type 0} (xs : List X) → xs ≡ [] → (length xs == 0) ≡ true
no_items xs e = ap (λ ys. length ys == 0) e

is_vertices : (d : Draft) → (has_priority d ≡ true) → (length d.vertices == 0) ≡ false → Whole d
unfolding is_whole
is_vertices d p v = rw (p, v) refl

whole_opens : (version : ℕ) (s : State) → In version Whole s → Open version s
unfolding is_outside in_task
whole_opens version s (v, (d, at, whole)) = (v, rw at whole)

head_fits : (version : ℕ) → IsVersion version → Fitting (λ o. o ≡ None) (version_line version) (Open version)
unfolding fits_below line_step headed opening is_outside
head_fits version known n None line s p e =
    let opens : Ok (Some (opening version)) ≡ Ok (Some s) = sym (ap (headed n) (opens_as version known)) ∙ e in
    let same : opening version ≡ s = cc in
    (refl, subst (Open version) same (refl, refl))
head_fits version known n (Some t) line s p e = absurd (cc)

-- A line of a kind, below a state.
task_fits : (version : ℕ) (t : Task) → IsVersion version
    → Fitting (Below (Open version)) (task_line t) (λ s. In version Named s × ((version ≡ 1) → In version Ready s))
unfolding fits_below fits kind after_kind after_task opening_priority has_priority
task_fits version t known n above line s (u, is, (v, opens)) e =
    let left = left_below n u line (task_line t) s (ap (λ o. line_step n o line (task_line t)) (sym is) ∙ e) in
    let d : Draft = record { name = t.name; line = n; priority = opening_priority u; vertices = []; edges = [] } in
    let made : s ≡ after_task n u t.name = left.is in (
      ap (λ o. fits_below o (task_line t)) is ∙ opens,
      subst (λ x. In version Named x × ((version ≡ 1) → In version Ready x)) (sym made) ((v, (d, refl, (refl, refl))), λ one. (v, (d, refl, (first u (v ∙ one), refl)))),
    )
  where
    first : (u : State) → u.version ≡ 1 → (elim (cond (u.version == 1) (Some (narrow (task_count u + 1))) None) [ None ↦ false | Some k ↦ true ]) ≡ true
    first u one = rw one refl

priority_fits : (t : Task) → t.priority ≤ 1000000 → Fitting (Below (In 2 Named)) (priority_word ∷ decimal t.priority ∷ []) (In 2 Ready)
unfolding fits_below fits kind after_kind on_current with_priority takes_priority has_priority
priority_fits t le n above line s (u, is, (v, (d, at, (no_vs, no_es)))) e =
    let w = priority_word ∷ decimal t.priority ∷ [] in
    let left = left_below n u line w s (ap (λ o. line_step n o line w) (sym is) ∙ e) in
    let here : takes_priority d ≡ true = rw (no_vs, no_es) refl in
    let fit : (in_task takes_priority u && is_printed (decimal t.priority)) ≡ true = rw (in_at takes_priority u d at here, printed t.priority le) refl in
    let two : kind u.version priority_word ≡ kinds.Priority = rw v refl in
    let made : s ≡ on_current (with_priority (capped (decimal t.priority))) u = left.is ∙ ap (λ k. after_kind k n u w) two in (
      ap (λ o. fits_below o w) is ∙ ap (λ k. fits k u w) two ∙ fit,
      subst (In 2 Ready) (sym made) (v, (with_priority (capped (decimal t.priority)) d, ap (option_map (with_priority (capped (decimal t.priority)))) at, (refl, no_es))),
    )

vertex_fits : (version : ℕ) (x : Vertex) → IsVertex x → Fitting (Below (In version Ready)) (vertex_line x) (In version Vertices)
unfolding fits_below fits kind after_kind on_current with_vertex takes_vertex has_priority
vertex_fits version x within n above line s (u, is, (v, (d, at, (p, no_es)))) e =
    let w = vertex_line x in
    let left = left_below n u line w s (ap (λ o. line_step n o line w) (sym is) ∙ e) in
    let here : takes_vertex d ≡ true = rw (p, no_es) refl in
    let fit : (in_task takes_vertex u && (is_printed (decimal x.wcet) && is_printed (decimal x.deadline))) ≡ true
    = rw (in_at takes_vertex u d at here, printed x.wcet within.wcet.1, printed x.deadline within.deadline.1) refl in
    let y : Vertex = record { name = x.name; wcet = capped (decimal x.wcet); deadline = capped (decimal x.deadline) } in
    let made : s ≡ on_current (with_vertex y) u = left.is in (
      ap (λ o. fits_below o w) is ∙ fit,
      subst (In version Vertices) (sym made) (v, (with_vertex y d, ap (option_map (with_vertex y)) at, (p, no_es, one_item d.vertices y))),
    )

edge_fits : (version : ℕ) (vs : List Vertex) (x : Edge) → x.sep ≤ 1000000 → Fitting (Below (In version Whole)) (edge_line vs x) (In version Whole)
unfolding fits_below fits kind after_kind on_current with_edge is_whole has_priority
edge_fits version vs x le n above line s (u, is, (v, (d, at, whole))) e =
    let w = edge_line vs x in
    let left = left_below n u line w s (ap (λ o. line_step n o line w) (sym is) ∙ e) in
    let change = with_edge (name_at vs x.from) (name_at vs x.to) (capped (decimal x.sep)) in
    let made : s ≡ on_current change u = left.is in (
      ap (λ o. fits_below o w) is ∙ printed x.sep le,
      subst (In version Whole) (sym made) (v, (change d, ap (option_map change) at, whole)),
    )

end_fits : (version : ℕ) → Fitting (Below (In version Whole)) end_line (λ s. Unit {0})
unfolding fits_below fits kind
end_fits version n above line s (u, is, (v, (d, at, whole))) e = (ap (λ o. fits_below o end_line) is ∙ in_at is_whole u d at whole, tt)

-- Lines of each kind, before others.
vertices_agree : (version : ℕ) (vs : List Vertex) (ws : List (List (List ℕ))) → AllByRecursion IsVertex vs → Agrees (Below (In version Vertices)) ws
    → Agrees (Below (In version Vertices)) (map vertex_line vs ++ ws)
vertices_agree version [] ws are rest = rest
vertices_agree version (x ∷ vs) ws are rest =
    agrees_weaker (Below (In version Vertices)) (Below (In version Ready)) (vertex_line x ∷ (map vertex_line vs ++ ws)) (λ o (s, is, (v, (d, at, (p, no_es, has)))). (s, is, (v, (d, at, (p, no_es)))))
    (agrees_next (Below (In version Ready)) (In version Vertices) (vertex_line x) (map vertex_line vs ++ ws) (vertex_fits version x are.0) (vertices_agree version vs ws are.1 rest))

edges_agree : (version : ℕ) (vs : List Vertex) (es : List Edge) (ws : List (List (List ℕ))) → AllByRecursion (IsEdgeAmong (length vs)) es → Agrees (Below (In version Whole)) ws
    → Agrees (Below (In version Whole)) (map (edge_line vs) es ++ ws)
edges_agree version vs [] ws are rest = rest
edges_agree version vs (x ∷ es) ws are rest =
    agrees_next (Below (In version Whole)) (In version Whole) (edge_line vs x) (map (edge_line vs) es ++ ws) (edge_fits version vs x are.0.sep.1) (edges_agree version vs es ws are.1 rest)

body_agrees : (version : ℕ) (vs : List Vertex) (es : List Edge) (ws : List (List (List ℕ))) → 1 ≤ length vs → AllByRecursion IsVertex vs → AllByRecursion (IsEdgeAmong (length vs)) es
    → Agrees (Below (In version Whole)) ws → Agrees (Below (In version Ready)) (map vertex_line vs ++ (map (edge_line vs) es ++ ws))
body_agrees version [] es ws has are among rest = absurd (omega (arith, has))
body_agrees version (x ∷ vs) es ws has are among rest =
    agrees_next (Below (In version Ready)) (In version Vertices) (vertex_line x) (map vertex_line vs ++ (map (edge_line (x ∷ vs)) es ++ ws)) (vertex_fits version x are.0)
    (vertices_agree version vs (map (edge_line (x ∷ vs)) es ++ ws) are.1
    (agrees_weaker (Below (In version Vertices)) (Below (In version Whole)) (map (edge_line (x ∷ vs)) es ++ ws)
    (λ o (s, is, (v, (d, at, (p, no_es, some)))). (s, is, (v, (d, at, is_vertices d p some))))
    (edges_agree version (x ∷ vs) es ws among rest)))

task_agrees : (version : ℕ) (t : Task) (ws : List (List (List ℕ))) → IsVersion version → IsTask version t → Agrees (Below (In version Whole)) ws
    → Agrees (Below (Open version)) (task_lines version t ++ ws)
unfolding task_lines lines_of_body priority_lines
task_agrees version t ws known is rest =
    let body = body_agrees version t.vertices t.edges ws is.has_vertex (recursion_from_All IsVertex t.vertices is.vertices)
    (recursion_from_All (IsEdgeAmong (length t.vertices)) t.edges is.edges) rest in
    let own = map vertex_line t.vertices ++ (map (edge_line t.vertices) t.edges ++ ws) in
    subst (λ l. Agrees (Below (Open version)) (task_line t ∷ l)) (cut (priority_lines version t) (map vertex_line t.vertices) (map (edge_line t.vertices) t.edges) ws)
    (agrees_next (Below (Open version)) (λ s. In version Named s × ((version ≡ 1) → In version Ready s)) (task_line t) (priority_lines version t ++ own)
    (task_fits version t known) (below own known body))
  where
    cut : (p a b c : List (List (List ℕ))) → p ++ (a ++ (b ++ c)) ≡ (p ++ (a ++ b)) ++ c
    cut p a b c = ap (λ l. p ++ l) (sym (append_assoc a b c)) ∙ sym (append_assoc p (a ++ b) c)

    below : (own : List (List (List ℕ))) → IsVersion version → Agrees (Below (In version Ready)) own
        → Agrees (Below (λ s. In version Named s × ((version ≡ 1) → In version Ready s))) (cond (version == 2) ((priority_word ∷ decimal t.priority ∷ []) ∷ []) [] ++ own)
    below own (inl one) body =
        let none : cond (version == 2) ((priority_word ∷ decimal t.priority ∷ []) ∷ []) [] ≡ [] = rw one refl in
        rw none (agrees_weaker (Below (λ s. In version Named s × ((version ≡ 1) → In version Ready s))) (Below (In version Ready)) own (λ o (s, eq, (named, ready)). (s, eq, ready one)) body)
    below own (inr two) body =
        let some : cond (version == 2) ((priority_word ∷ decimal t.priority ∷ []) ∷ []) [] ≡ (priority_word ∷ decimal t.priority ∷ []) ∷ [] = rw two refl in
        let ready : Agrees (Below (In 2 Ready)) own = subst (λ v. Agrees (Below (In v Ready)) own) two body in
        rw some (agrees_weaker (Below (λ s. In version Named s × ((version ≡ 1) → In version Ready s))) (Below (In 2 Named)) ((priority_word ∷ decimal t.priority ∷ []) ∷ own)
        (λ o (s, eq, (named, other)). (s, eq, subst (λ v. In v Named s) two named))
        (agrees_next (Below (In 2 Named)) (In 2 Ready) (priority_word ∷ decimal t.priority ∷ []) own (priority_fits t is.priority.1) ready))

tasks_agree : (version : ℕ) (t : Task) (ts : List Task) (ws : List (List (List ℕ))) → IsVersion version → AllByRecursion (IsTask version) (t ∷ ts) → Agrees (Below (In version Whole)) ws
    → Agrees (Below (Open version)) (flat_map (task_lines version) (t ∷ ts) ++ ws)
tasks_agree version t [] ws known are rest =
    subst (λ l. Agrees (Below (Open version)) (l ++ ws)) (sym (append-nil (task_lines version t))) (task_agrees version t ws known are.0 rest)
tasks_agree version t (u ∷ ts) ws known are rest =
    let more = tasks_agree version u ts ws known are.1 rest in
    subst (Agrees (Below (Open version))) (sym (append_assoc (task_lines version t) (flat_map (task_lines version) (u ∷ ts)) ws))
    (task_agrees version t (flat_map (task_lines version) (u ∷ ts) ++ ws) known are.0
    (agrees_weaker (Below (In version Whole)) (Below (Open version)) (flat_map (task_lines version) (u ∷ ts) ++ ws) (λ o (s, eq, h). (s, eq, whole_opens version s h)) more))

set_agrees : (set : Contents) → IsTaskSet set.version set.tasks → Agrees (λ o. o ≡ None) (set_lines set)
unfolding set_lines
set_agrees set is =
    let v = set.version in
    let tail = agrees_next (Below (In v Whole)) (λ s. Unit {0}) end_line [] (end_fits v) (agrees_none (Below (λ s. Unit {0}))) in
    agrees_next (λ o. o ≡ None) (Open v) (version_line v) (flat_map (task_lines v) set.tasks ++ end_line ∷ []) (head_fits v is.known)
    (some_tasks set.tasks is.has_task (recursion_from_All (IsTask v) set.tasks is.each) tail)
  where
    some_tasks : (ts : List Task) → 1 ≤ length ts → AllByRecursion (IsTask set.version) ts → Agrees (Below (In set.version Whole)) (end_line ∷ [])
        → Agrees (Below (Open set.version)) (flat_map (task_lines set.version) ts ++ end_line ∷ [])
    some_tasks [] has are rest = absurd (omega (arith, has))
    some_tasks (t ∷ ts) has are rest = tasks_agree set.version t ts (end_line ∷ []) is.known are rest

joined_kept : (ws : List (List (List ℕ))) → AllByRecursion (AllByRecursion IsField) ws → map fields (joined_lines ws) ≡ ws
joined_kept [] are = refl
joined_kept (w ∷ ws) are = ap (λ l. l ∷ map fields (joined_lines ws)) (joined_again w are.0) ∙ ap (λ l. w ∷ l) (joined_kept ws are.1)

joined_no_feeds : (ws : List (List (List ℕ))) → AllByRecursion (AllByRecursion IsField) ws → AllByRecursion HasNoFeed (joined_lines ws)
joined_no_feeds [] are = tt
joined_no_feeds (w ∷ ws) are = (joined_no_feed w are.0, joined_no_feeds ws are.1)

joined_fed : (ws : List (List (List ℕ))) → fed (joined_lines ws) ≡ written ws
unfolding written_line
joined_fed [] = refl
joined_fed (w ∷ ws) = ap (λ t. (join_with_byte 32 w ++ 10 ∷ []) ++ t) (joined_fed ws)

-- The canonical text of a set is lines that are taken down to `end`.
pub record Print (set : Contents) : Type 0 where
  pub ls : List (List ℕ)
  pub no_feeds : AllByRecursion HasNoFeed ls
  pub fed_is : fed ls ≡ canonical set
  pub m : ℕ
  pub s : State
  pub taken : strict_steps 1 None ls ≡ Some (m, Some s)
  pub ended : s.ended ≡ true

pub print_of : (set : Contents) → IsTaskSet set.version set.tasks → Print set
unfolding canonical set_lines
print_of set is =
    let fielded = set_fielded set is in
    let stay = set_stays set in
    let ws = set_lines set in
    let said = tasks_said set.version set.tasks [] [] (recursion_from_All (IsTask set.version) set.tasks is.each) no_task in
    let e : kept (joined_lines ws) ≡ ws = ap (filter (λ words. not (is_skipped words))) (joined_kept ws fielded) ∙ all_stay ws stay in
    let r = text_leads set.version is.known (flat_map (task_lines set.version) set.tasks) set.tasks said (few_of set.version set.tasks is) (joined_lines ws) e 1 None refl in
    record {
      ls = joined_lines ws;
      no_feeds = joined_no_feeds ws fielded;
      fed_is = joined_fed ws;
      m = r.0;
      s = r.3.s;
      taken = set_agrees set is fielded stay 1 None r.0 r.1 refl r.2 ∙ ap (λ o. Some (r.0, o)) r.3.is;
      ended = r.3.at_end;
    }
