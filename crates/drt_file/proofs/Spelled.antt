-- A text that says a set is read as that set.
use Rattle.std.proofs.Common.{◌≡◌, ◌≢◌, ℕ, zero, suc, ◌+◌, ◌≤◌, ◌<◌, Bool, true, false, List, [], ◌∷◌, ◌++◌, length, map, Option, Some, None, Ok, refl, sym, ap, subst, ◌∙◌, arith, cond, inl, inr, length-append}
use Rattle.std.specs.Prelude.{bytes_eq, slice_get, unwrap_or, ◌==◌}
use Rattle.std.specs.List.{AllByRecursion, list_all, list_any}
use Rattle.std.proofs.lemmas.List.{map_push, length-map}
use Rattle.std.proofs.lemmas.List.Elements.{recursion_from_All}
use Rattle.std.proofs.lemmas.Fmt.{decimal_digit}
use Rattle.drt_model.specs.declared.tasks.Vertex.{Vertex}
use Rattle.drt_model.specs.declared.tasks.Edge.{Edge}
use Rattle.drt_model.specs.declared.tasks.Task.{Task}
use Rattle.drt_model.specs.Contents.{Contents}
use Rattle.drt_model.specs.Limits.{IsVersion, IsName, IsTime, IsPriority, IsVertex, IsEdgeAmong, IsTask, IsTaskSet, AreInPriorityOrder, most_tasks}
use Rattle.drt_file.specs.declared.state.Draft.{Draft}
use Rattle.drt_file.specs.declared.state.State.{State}
use Rattle.drt_file.specs.declared.state.Kind.TheVariants as kinds
use Rattle.drt_file.specs.trusted.Cutting.{is_blank, lines, fields}
use Rattle.drt_file.specs.trusted.Words.{drt_word, task_word}
use Rattle.drt_file.specs.trusted.Canonical.{version_line, end_line}
use Rattle.drt_file.specs.internal.Kinds.{kind}
use Rattle.drt_file.specs.trusted.Line.{is_text}
use Rattle.drt_file.specs.internal.StateFaults.{kind_fault, end_fault, task_count}
use Rattle.drt_file.specs.internal.Steps.{◌>>=◌, with_last, opening_priority, opening, after_task, after_end, after_kind, head, headed, line_step, first_line, has_no_vertex, has_no_priority, unless_at, task_of, closing, finish, read_text}
use Rattle.drt_file.specs.trusted.Reading.{Says, SaysTasks, no_task, next_task, Reads}
use Rattle.drt_file.proofs.Written.{written_priority, written_is}
use Rattle.drt_file.proofs.Snoc.{every_pop, every_map, every_unmap, every_weaker, Pairwise, pairs_pop, pairs_of_all}
use Rattle.drt_file.proofs.Meanings.{unlike, any_of_every}
use Rattle.drt_file.proofs.Names.{name_is}
use Rattle.drt_file.proofs.Opened.{opening_opens}
use Rattle.drt_file.proofs.Leads.{Leads, leads_none, leads_one, leads_then, leads_to, text_again, takes}
use Rattle.drt_file.proofs.Passing.{task_again, count_all}
use Rattle.drt_file.proofs.Bodies.{core, core_of, In, Parts, Allowed, held, body_leads, task_text}

-- The lines above leave these tasks.
pub record Done (version : ℕ) (done : List Task) (above : Option State) : Type 0 where
  pub s : State
  pub is : above ≡ Some s
  pub version_is : s.version ≡ version
  pub still : s.ended ≡ false
  pub drafts_are : map core (with_last s.closed s.current) ≡ map core_of done

-- The lines above leave these tasks and `end`.
pub record Ended (version : ℕ) (done : List Task) (above : Option State) : Type 0 where
  pub s : State
  pub is : above ≡ Some s
  pub version_is : s.version ≡ version
  pub at_end : s.ended ≡ true
  pub drafts_are : map core (with_last s.closed s.current) ≡ map core_of done

-- The limits of tasks, as far as they go.
pub record Few (version : ℕ) (ts : List Task) : Type 0 where
  pub each : AllByRecursion (IsTask version) ts
  pub names : Pairwise (λ s t. s.name ≢ t.name) ts
  pub priorities : Pairwise (λ s t. s.priority ≢ t.priority) ts
  pub few : length ts ≤ most_tasks version
  pub in_order : AreInPriorityOrder version ts

get_front : (ts : List Task) (t : Task) (i : ℕ) (u : Task) → slice_get ts i ≡ Some u → slice_get (ts ++ t ∷ []) i ≡ Some u
get_front [] t i u e = absurd (cc)
get_front (x ∷ ts) t zero u e = e
get_front (x ∷ ts) t (suc i) u e = get_front ts t i u e

get_last : (ts : List Task) (t : Task) → slice_get (ts ++ t ∷ []) (length ts) ≡ Some t
get_last [] t = refl
get_last (x ∷ ts) t = get_last ts t

few_pop : (version : ℕ) (ts : List Task) (t : Task) → Few version (ts ++ t ∷ []) → Few version ts
few_pop version ts t f =
    let grown : length (ts ++ t ∷ []) ≡ length ts + 1 = length-append ts (t ∷ []) in
    let few = f.few in
    record {
      each = (every_pop (IsTask version) ts t f.each).0;
      names = (pairs_pop (λ s u. s.name ≢ u.name) ts t f.names).0;
      priorities = (pairs_pop (λ s u. s.priority ≢ u.priority) ts t f.priorities).0;
      few = omega (arith, grown, few);
      in_order = λ one i u e. f.in_order one i u (get_front ts t i u e);
    }

pub few_of : (version : ℕ) (ts : List Task) → IsTaskSet version ts → Few version ts
few_of version ts is = record {
  each = recursion_from_All (IsTask version) ts is.each;
  names = pairs_of_all (λ s t. s.name ≢ t.name) ts is.distinct_names;
  priorities = pairs_of_all (λ s t. s.priority ≢ t.priority) ts is.distinct_priorities;
  few = is.few_tasks;
  in_order = is.in_order;
}

seps_of : (n : ℕ) (es : List Edge) → AllByRecursion (IsEdgeAmong n) es → AllByRecursion (λ e. IsTime e.sep) es
seps_of n es are = every_weaker (IsEdgeAmong n) (λ e. IsTime e.sep) (λ e h. h.sep) es are

parts_of : (version : ℕ) (t : Task) → IsTask version t → Parts version t.vertices t.edges
parts_of version t is = record {
  few = is.few_vertices;
  vertices = recursion_from_All IsVertex t.vertices is.vertices;
  names = pairs_of_all (λ u v. u.name ≢ v.name) t.vertices is.distinct_names;
  few_edges = is.at_most_256_edges;
  seps = seps_of (length t.vertices) t.edges (recursion_from_All (IsEdgeAmong (length t.vertices)) t.edges is.edges);
  one_edge = pairs_of_all (λ e f. e.from ≡ f.from → e.to ≢ f.to) t.edges is.one_edge_each_way;
}

count_done : (version : ℕ) (done : List Task) (s : State) → map core (with_last s.closed s.current) ≡ map core_of done → length (with_last s.closed s.current) ≡ length done
count_done version done s are = sym (length-map (with_last s.closed s.current) core) ∙ ap length are ∙ length-map done core_of

opening_held : (version k : ℕ) (s : State) → s.version ≡ version → IsVersion version → task_count s + 1 ≡ k → task_count s < most_tasks version → opening_priority s ≡ held version k None
unfolding held
opening_held version k s e (inl one) count room =
    let known : IsVersion s.version = inl (e ∙ one) in
    let less : task_count s < most_tasks s.version = subst (λ v. task_count s < most_tasks v) (sym e) room in
    let same : 1 + task_count s ≡ k = omega (arith, count) in
    (opening_opens s known less).in_order (e ∙ one) ∙ ap (λ n. Some n) same ∙ sym (ap (λ v. cond (v == 2) None (Some k)) one)
opening_held version k s e (inr two) count room =
    let known : IsVersion s.version = inr (e ∙ two) in
    let less : task_count s < most_tasks s.version = subst (λ v. task_count s < most_tasks v) (sym e) room in
    (opening_opens s known less).not_yet (e ∙ two) ∙ sym (ap (λ v. cond (v == 2) None (Some k)) two)

task_one : (version : ℕ) (done : List Task) (name : List ℕ) → IsVersion version → IsName name → AllByRecursion (λ t. t.name ≢ name) done → length done < most_tasks version
    → (n : ℕ) (above : Option State) (line : List ℕ) → Done version done above → fields line ≡ task_word ∷ name ∷ []
    → (below : Option State) × (line_step n above line (task_word ∷ name ∷ []) ≡ Ok below) × In version done (name, held version (length done + 1) None, [], []) below
unfolding kind kind_fault after_kind after_task
task_one version done name known named new room n above line at cut =
    let s = at.s in
    let words = task_word ∷ name ∷ [] in
    let ds = with_last s.closed s.current in
    let P : List ℕ × Option ℕ × List Vertex × List Edge → Type 0 = λ c. c.0 ≢ name in
    let of_ds : AllByRecursion P (map core ds) = subst (AllByRecursion P) (sym at.drafts_are) (every_map P core_of done new) in
    let none_named : list_any (λ d. bytes_eq d.name name) ds ≡ false
    = any_of_every (λ d. bytes_eq d.name name) ds (every_weaker (λ d. P (core d)) (λ d. bytes_eq d.name name ≡ false) (λ d h. unlike d.name name h) ds (every_unmap P core ds of_ds)) in
    let count : length ds ≡ length done = count_done version done s at.drafts_are in
    let less : length ds < most_tasks s.version = subst (λ v. length ds < most_tasks v) (sym at.version_is) (omega (arith, count, room)) in
    let none = task_again s name named none_named less in
    let text = text_again line words cut (task_text name (name_is name named)) in
    let all : task_count s ≡ length ds = count_all s in
    let k_is : task_count s + 1 ≡ length done + 1 = omega (arith, all, count) in
    let room_s : task_count s < most_tasks version = omega (arith, all, count, room) in
    let priority = opening_held version (length done + 1) s at.version_is known k_is room_s in
    let opened : Draft = record { name = name; line = n; priority = opening_priority s; vertices = []; edges = [] } in (
      Some (after_kind kinds.Task n s words),
      ap (λ o. line_step n o line words) at.is ∙ takes n s line words kinds.Task text at.still refl none,
      record {
        s = after_kind kinds.Task n s words;
        is = refl;
        version_is = at.version_is;
        still = at.still;
        closed_is = at.drafts_are;
        d = opened;
        current_is = refl;
        core_is = ap (λ (o : Option ℕ). (name, o, [], [])) priority;
      },
    )

in_done : (version : ℕ) (done : List Task) (t : Task) (above : Option State) → In version done (core_of t) above → Done version (done ++ t ∷ []) above
unfolding with_last
in_done version done t above at = record {
  s = at.s;
  is = at.is;
  version_is = at.version_is;
  still = at.still;
  drafts_are = ap (λ o. map core (with_last at.s.closed o)) at.current_is ∙ map_push core at.s.closed at.d ∙ ap (λ cs. cs ++ core at.d ∷ []) at.closed_is
      ∙ ap (λ c. map core_of done ++ c ∷ []) at.core_is
      ∙ sym (map_push core_of done t);
}

allowed : (version : ℕ) (done : List Task) (t : Task) → IsVersion version → IsPriority t.priority → AllByRecursion (λ u. u.priority ≢ t.priority) done
    → Allowed version done (written_priority version (Some t.priority))
unfolding written_priority
allowed version done t (inl one) is others n e =
    let none : None ≡ Some n = sym (ap (λ v. cond (v == 2) (Some t.priority) None) one) ∙ e in
    absurd (cc)
allowed version done t (inr two) is others n e =
    let some : Some t.priority ≡ Some n = sym (ap (λ v. cond (v == 2) (Some t.priority) None) two) ∙ e in
    let same : t.priority ≡ n = cc in
    (two, subst IsPriority same is, subst (λ m. AllByRecursion (λ u. u.priority ≢ m) done) same others)

held_written : (version : ℕ) (done : List Task) (t : Task) → IsVersion version → (version ≡ 1 → t.priority ≡ length done + 1)
    → held version (length done + 1) (written_priority version (Some t.priority)) ≡ Some t.priority
unfolding held written_priority
held_written version done t (inl one) order = ap (λ v. cond (v == 2) (cond (v == 2) (Some t.priority) None) (Some (length done + 1))) one ∙ ap (λ n. Some n) (sym (order one))
held_written version done t (inr two) order = ap (λ v. cond (v == 2) (cond (v == 2) (Some t.priority) None) (Some (length done + 1))) two

pub tasks_lead : (version : ℕ) → IsVersion version → (ls : List (List (List ℕ))) (ts : List Task) → SaysTasks version ls ts → Few version ts → Leads (Done version []) ls (Done version ts)
tasks_lead version known ls ts no_task f = leads_none (Done version [])
tasks_lead version known ls ts (next_task ls2 ts2 own t rest (body, own_is, says)) f =
    let k = length ts2 + 1 in
    let is = (every_pop (IsTask version) ts2 t f.each).1 in
    let new_name = (pairs_pop (λ s u. s.name ≢ u.name) ts2 t f.names).1 in
    let new_priority = (pairs_pop (λ s u. s.priority ≢ u.priority) ts2 t f.priorities).1 in
    let grown : length (ts2 ++ t ∷ []) ≡ length ts2 + 1 = length-append ts2 (t ∷ []) in
    let few = f.few in
    let room : length ts2 < most_tasks version = omega (arith, grown, few) in
    let order : version ≡ 1 → t.priority ≡ length ts2 + 1 = λ one. f.in_order one (length ts2) t (get_last ts2 t) in
    let first = tasks_lead version known ls2 ts2 rest (few_pop version ts2 t f) in
    let line = leads_one (Done version ts2) (In version ts2 (t.name, held version k None, [], [])) (task_word ∷ t.name ∷ []) (task_one version ts2 t.name known is.name new_name room) in
    let written : Says body t.vertices t.edges (written_priority version (Some t.priority)) = subst (Says body t.vertices t.edges) (sym (written_is version (Some t.priority))) says in
    let below = body_leads version k ts2 t.name body t.vertices t.edges (written_priority version (Some t.priority)) written (parts_of version t is)
    (allowed version ts2 t known is.priority new_priority) in
    let both = leads_then (Done version ts2) (In version ts2 (t.name, held version k None, [], []))
    (In version ts2 (t.name, held version k (written_priority version (Some t.priority)), t.vertices, t.edges))
    ((task_word ∷ t.name ∷ []) ∷ []) body line below in
    let whole : Leads (Done version ts2) ((task_word ∷ t.name ∷ []) ∷ body) (Done version (ts2 ++ t ∷ []))
    = leads_to (Done version ts2) (In version ts2 (t.name, held version k (written_priority version (Some t.priority)), t.vertices, t.edges))
    (Done version (ts2 ++ t ∷ [])) ((task_word ∷ t.name ∷ []) ∷ body)
    (λ o h. in_done version ts2 t o (subst (λ p. In version ts2 (t.name, p, t.vertices, t.edges) o) (held_written version ts2 t known order) h)) both in
    leads_then (Done version []) (Done version ts2) (Done version (ts2 ++ t ∷ [])) ls2 own first (subst (λ l. Leads (Done version ts2) l (Done version (ts2 ++ t ∷ []))) (sym own_is) whole)

pub end_text : list_all (list_all is_text) end_line ≡ true
unfolding is_text is_blank
end_text = refl

end_one : (version : ℕ) (done : List Task) (n : ℕ) (above : Option State) (line : List ℕ) → Done version done above → fields line ≡ end_line
    → (below : Option State) × (line_step n above line end_line ≡ Ok below) × Ended version done below
unfolding kind kind_fault end_fault after_kind after_end
end_one version done n above line at cut =
    let s = at.s in
    let text = text_again line end_line cut end_text in (
      Some (after_kind kinds.End n s end_line),
      ap (λ o. line_step n o line end_line) at.is ∙ takes n s line end_line kinds.End text at.still refl refl,
      record { s = after_end s; is = refl; version_is = at.version_is; at_end = refl; drafts_are = at.drafts_are },
    )

pub opens_as : (version : ℕ) → IsVersion version → head (version_line version) ≡ Some (opening version)
unfolding head
opens_as version (inl one) =
    let word : version_line version ≡ drt_word ∷ (49 ∷ []) ∷ [] = ap version_line one ∙ ap (λ w. drt_word ∷ w ∷ []) (decimal_digit 1 (omega arith)) in
    ap head word ∙ ap (λ v. Some (opening v)) (sym one)
opens_as version (inr two) =
    let word : version_line version ≡ drt_word ∷ (50 ∷ []) ∷ [] = ap version_line two ∙ ap (λ w. drt_word ∷ w ∷ []) (decimal_digit 2 (omega arith)) in
    ap head word ∙ ap (λ v. Some (opening v)) (sym two)

head_one : (version : ℕ) → IsVersion version → (n : ℕ) (above : Option State) (line : List ℕ) → above ≡ None → fields line ≡ version_line version
    → (below : Option State) × (line_step n above line (version_line version) ≡ Ok below) × Done version [] below
unfolding line_step headed opening with_last
head_one version known n above line at cut = (
  Some (opening version),
  ap (λ o. line_step n o line (version_line version)) at ∙ ap (headed n) (opens_as version known),
  record { s = opening version; is = refl; version_is = refl; still = refl; drafts_are = refl },
)

pub text_leads : (version : ℕ) → IsVersion version → (ls : List (List (List ℕ))) (ts : List Task) → SaysTasks version ls ts → Few version ts
    → Leads (λ o. o ≡ None) (version_line version ∷ (ls ++ end_line ∷ [])) (Ended version ts)
text_leads version known ls ts says f =
    let first = leads_one (λ o. o ≡ None) (Done version []) (version_line version) (head_one version known) in
    let last = leads_one (Done version ts) (Ended version ts) end_line (end_one version ts) in
    leads_then (λ o. o ≡ None) (Done version []) (Ended version ts) (version_line version ∷ []) (ls ++ end_line ∷ []) first
    (leads_then (Done version []) (Done version ts) (Ended version ts) ls (end_line ∷ []) (tasks_lead version known ls ts says f) last)

first_none : (test : Draft → Bool) (ds : List Draft) → AllByRecursion (λ d. test d ≡ false) ds → first_line test ds ≡ None
unfolding first_line
first_none test [] are = refl
first_none test (d ∷ ds) are = ap (λ b. cond b (Some d.line) (first_line test ds)) are.0 ∙ first_none test ds are.1

not_empty : (n : ℕ) → 1 ≤ n → (n == 0) ≡ false
not_empty n has = grind (arith, has)

has_vertex_again : (d : Draft) → 1 ≤ length d.vertices → has_no_vertex d ≡ false
unfolding has_no_vertex
has_vertex_again d has = not_empty (length d.vertices) has

has_priority_again : (d : Draft) → (n : ℕ) × (d.priority ≡ Some n) → has_no_priority d ≡ false
unfolding has_no_priority
has_priority_again d (n, at) = ap (λ (o : Option ℕ). elim o [ None ↦ true | Some k ↦ false ]) at

pub closing_again : (n : ℕ) (ds : List Draft) (ended : Bool) → ended ≡ true → 1 ≤ length ds → AllByRecursion (λ d. 1 ≤ length d.vertices) ds → AllByRecursion (λ d. (k : ℕ) × (d.priority ≡ Some k)) ds
    → closing n ds ended ≡ Ok ds
unfolding closing unless_at
closing_again n ds ended at has vertices priorities =
    let some : (length ds == 0) ≡ false = not_empty (length ds) has in
    let v : first_line has_no_vertex ds ≡ None = first_none has_no_vertex ds (every_weaker (λ d. 1 ≤ length d.vertices) (λ d. has_no_vertex d ≡ false) has_vertex_again ds vertices) in
    let p : first_line has_no_priority ds ≡ None = first_none has_no_priority ds
    (every_weaker (λ d. (k : ℕ) × (d.priority ≡ Some k)) (λ d. has_no_priority d ≡ false) has_priority_again ds priorities) in
    rw (some, v, at, p) refl

-- The task of what is known of it.
abbrev task_from : List ℕ × Option ℕ × List Vertex × List Edge → Task
task_from c = record { name = c.0; priority = unwrap_or c.1 0; vertices = c.2; edges = c.3 }

tasks_from_drafts : (ds : List Draft) → map task_of ds ≡ map task_from (map core ds)
unfolding task_of
tasks_from_drafts [] = refl
tasks_from_drafts (d ∷ ds) = ap (λ ts. task_from (core d) ∷ ts) (tasks_from_drafts ds)

tasks_from_tasks : (ts : List Task) → map task_from (map core_of ts) ≡ ts
tasks_from_tasks [] = refl
tasks_from_tasks (t ∷ ts) = ap (λ us. t ∷ us) (tasks_from_tasks ts)

finish_again : (n : ℕ) (version : ℕ) (ts : List Task) (above : Option State) → 1 ≤ length ts → AllByRecursion (IsTask version) ts → Ended version ts above
    → finish n above ≡ Ok (record { version = version; tasks = ts })
unfolding finish
finish_again n version ts above has each at =
    let s = at.s in
    let ds = with_last s.closed s.current in
    let count : length ds ≡ length ts = count_done version ts s at.drafts_are in
    let V : List ℕ × Option ℕ × List Vertex × List Edge → Type 0 = λ c. 1 ≤ length c.2 in
    let P : List ℕ × Option ℕ × List Vertex × List Edge → Type 0 = λ c. (k : ℕ) × (c.1 ≡ Some k) in
    let v : AllByRecursion V (map core ds) = subst (AllByRecursion V) (sym at.drafts_are) (every_map V core_of ts (every_weaker (IsTask version) (λ t. V (core_of t)) (λ t h. h.has_vertex) ts each)) in
    let p : AllByRecursion P (map core ds) = subst (AllByRecursion P) (sym at.drafts_are)
    (every_map P core_of ts (every_weaker (IsTask version) (λ t. P (core_of t)) (λ t h. (t.priority, refl)) ts each)) in
    let ok : closing n ds s.ended ≡ Ok ds = closing_again n ds s.ended at.at_end (omega (arith, count, has)) (every_unmap V core ds v) (every_unmap P core ds p) in
    let same : map task_of ds ≡ ts = tasks_from_drafts ds ∙ ap (map task_from) at.drafts_are ∙ tasks_from_tasks ts in
    ap (finish n) at.is
    ∙ ap (λ r. r >>= λ es. Ok (record { version = s.version; tasks = map task_of es })) ok
    ∙ ap (λ us. Ok (record { version = s.version; tasks = us })) same ∙ ap (λ x. Ok (record { version = x; tasks = ts })) at.version_is

-- What is spelled so is read.
pub reads_again : (bytes : List ℕ) (set : Contents) → Reads bytes set → read_text bytes ≡ Ok set
unfolding read_text
reads_again bytes set reads =
    let f = few_of set.version set.tasks reads.limits in
    let r = text_leads set.version reads.limits.known reads.task_lines set.tasks reads.tasks f (lines bytes) reads.spelled 1 None refl in
    ap (λ x. x >>= λ (y : ℕ × Option State). finish y.0 y.1) r.2 ∙ finish_again r.0 set.version set.tasks r.1 reads.limits.has_task f.each r.3
