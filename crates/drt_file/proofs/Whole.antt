-- A text that is read as a set reads as that set.
use Rattle.std.proofs.Common.{◌≡◌, ◌≢◌, ℕ, zero, suc, ◌+◌, ◌≤◌, Bool, true, false, not, List, [], ◌∷◌, ◌++◌, length, map, Option, Some, None, Result, Ok, Err, refl, sym, ap, subst, ◌∙◌, arith, cond, length-append}
use Rattle.std.specs.Prelude.{◌==◌, slice_get, unwrap_or}
use Rattle.std.specs.List.{AllByRecursion}
use Rattle.std.proofs.lemmas.List.{map_push, length-map}
use Rattle.std.proofs.lemmas.List.Elements.{All-from_recursion}
use Rattle.drt_model.specs.declared.tasks.Task.{Task}
use Rattle.drt_model.specs.Contents.{Contents}
use Rattle.drt_model.specs.Limits.{IsTask, IsTaskSet}
use Rattle.drt_file.specs.declared.state.Draft.{Draft}
use Rattle.drt_file.specs.declared.state.State.{State}
use Rattle.drt_file.specs.declared.fault.FileFault.{FileFault}
use Rattle.drt_file.specs.trusted.Cutting.{lines}
use Rattle.drt_file.specs.trusted.Canonical.{version_line, end_line}
use Rattle.drt_file.specs.trusted.Line.{said}
use Rattle.drt_file.specs.internal.Steps.{◌>>=◌, with_last, first_line, has_no_vertex, has_no_priority, unless_at, task_of, closing, finish, steps, read_text}
use Rattle.drt_file.specs.trusted.Reading.{Says, SaysTask, SaysTasks, no_task, next_task, Reads}
use Rattle.drt_file.proofs.Snoc.{every_push, every_pop, Pairwise, pairs_unmap, pairs_map, pairs_weaker, pairs_all}
use Rattle.drt_file.proofs.Keys.{key_of, Differ, Numbered, Keys}
use Rattle.drt_file.proofs.Written.{written_priority, written_is}
use Rattle.drt_file.proofs.Kept.{IsDraft, SaysDrafts, none, more}
use Rattle.drt_file.proofs.Follows.{Follows, StandsAt, steps_follow}

-- What a whole that has no fault is.
pub record Closed (ds es : List Draft) (ended : Bool) : Type 0 where
  pub same : es ≡ ds
  pub at_end : ended ≡ true
  pub has_task : 1 ≤ length ds
  pub vertices : AllByRecursion (λ d. 1 ≤ length d.vertices) ds
  pub priorities : AllByRecursion (λ d. (n : ℕ) × (d.priority ≡ Some n)) ds

none_first : (test : Draft → Bool) (ds : List Draft) → first_line test ds ≡ None → AllByRecursion (λ d. test d ≡ false) ds
unfolding first_line
none_first test [] e = tt
none_first test (d ∷ ds) e = go (none_first test ds) (test d) refl e
  where
    go : (first_line test ds ≡ None → AllByRecursion (λ x. test x ≡ false) ds) → (b : Bool) → test d ≡ b → cond b (Some d.line) (first_line test ds) ≡ None
        → AllByRecursion (λ x. test x ≡ false) (d ∷ ds)
    go later false at h = (at, later h)
    go later true at h = absurd (cc)

some_vertex : (d : Draft) → has_no_vertex d ≡ false → 1 ≤ length d.vertices
unfolding has_no_vertex
some_vertex d e = grind (arith, e)

some_priority : (d : Draft) → has_no_priority d ≡ false → (n : ℕ) × (d.priority ≡ Some n)
unfolding has_no_priority
some_priority d e = go d.priority refl e
  where
    go : (o : Option ℕ) → d.priority ≡ o → (elim o [ None ↦ true | Some n ↦ false ]) ≡ false → (n : ℕ) × (d.priority ≡ Some n)
    go None at h = absurd (cc)
    go (Some n) at h = (n, at)

every_by : {X : Type 0} (P Q : X → Type 0) → ((x : X) → P x → Q x) → (xs : List X) → AllByRecursion P xs → AllByRecursion Q xs
every_by P Q so [] are = tt
every_by P Q so (x ∷ xs) are = (so x are.0, every_by P Q so xs are.1)

has_one : (n : ℕ) → (n == 0) ≡ false → 1 ≤ n
has_one n e = grind (arith, e)

pub closing_is : (n : ℕ) (ds es : List Draft) (ended : Bool) → closing n ds ended ≡ Ok es → Closed ds es ended
unfolding closing unless_at
closing_is n ds es ended e = go (length ds == 0) refl (first_line has_no_vertex ds) refl ended refl (first_line has_no_priority ds) refl e
  where
    go : (z : Bool) → (length ds == 0) ≡ z → (v : Option ℕ) → first_line has_no_vertex ds ≡ v → (b : Bool) → ended ≡ b → (p : Option ℕ) → first_line has_no_priority ds ≡ p
        → cond z (Err (record { line = n; code = 16 })) (unless_at 17 v (cond (not b) (Err (record { line = n; code = 18 })) (unless_at 26 p (Ok ds)))) ≡ Ok es → Closed ds es ended
    go true isz v isv b isb p isp h = absurd (cc)
    go false isz (Some l) isv b isb p isp h = absurd (cc)
    go false isz None isv false isb p isp h = absurd (cc)
    go false isz None isv true isb (Some l) isp h = absurd (cc)
    go false isz None isv true isb None isp h = record {
      same = cc;
      at_end = isb;
      has_task = has_one (length ds) isz;
      vertices = every_by (λ d. has_no_vertex d ≡ false) (λ d. 1 ≤ length d.vertices) some_vertex ds (none_first has_no_vertex ds isv);
      priorities = every_by (λ d. has_no_priority d ≡ false) (λ d. (k : ℕ) × (d.priority ≡ Some k)) some_priority ds (none_first has_no_priority ds isp);
    }

-- A draft with a vertex and a priority is a task.
one_task : (version : ℕ) (own : List (List (List ℕ))) (d : Draft) (n : ℕ) → IsDraft version own d → 1 ≤ length d.vertices → d.priority ≡ Some n → IsTask version (task_of d)
unfolding task_of
one_task version own d n is has at = record {
  name = is.name;
  priority = rw at (is.priority n at);
  has_vertex = has;
  few_vertices = is.few_vertices;
  vertices = All-from_recursion _ d.vertices is.vertices;
  distinct_names = pairs_all _ d.vertices is.distinct_names;
  at_most_256_edges = is.few_edges;
  edges = All-from_recursion _ d.edges is.edges;
  one_edge_each_way = pairs_all _ d.edges is.one_edge;
}

one_said : (version : ℕ) (own : List (List (List ℕ))) (d : Draft) (n : ℕ) → IsDraft version own d → d.priority ≡ Some n → SaysTask version own (task_of d)
unfolding task_of
one_said version own d n is at =
    let same : d.priority ≡ Some (unwrap_or d.priority 0) = rw at refl in
    let said = subst (λ (o : Option ℕ). Says is.body d.vertices d.edges (written_priority version o)) same is.says in
    (is.body, is.own_is, subst (Says is.body d.vertices d.edges) (written_is version (Some (unwrap_or d.priority 0))) said)

tasks_said : (version : ℕ) (ls : List (List (List ℕ))) (ds : List Draft) → SaysDrafts version ls ds → AllByRecursion (λ d. 1 ≤ length d.vertices) ds
    → AllByRecursion (λ d. (n : ℕ) × (d.priority ≡ Some n)) ds → SaysTasks version ls (map task_of ds) × AllByRecursion (IsTask version) (map task_of ds)
tasks_said version ls ds none hv hp = (no_task, tt)
tasks_said version ls ds (more ls2 ds2 own d rest is) hv hp =
    let v = every_pop (λ c. 1 ≤ length c.vertices) ds2 d hv in
    let p = every_pop (λ c. (n : ℕ) × (c.priority ≡ Some n)) ds2 d hp in
    let r = tasks_said version ls2 ds2 rest v.0 p.0 in
    rw (map_push task_of ds2 d) (
      next_task ls2 (map task_of ds2) own (task_of d) r.0 (one_said version own d p.1.0 is p.1.1),
      every_push (IsTask version) (map task_of ds2) (task_of d) r.1 (one_task version own d p.1.0 is v.1 p.1.1),
    )

name_keys : (version : ℕ) (ds : List Draft) → Keys version (map key_of ds) → Pairwise (λ s t. s.name ≢ t.name) (map task_of ds)
unfolding task_of
name_keys version ds keys = pairs_map (λ s t. s.name ≢ t.name) task_of ds (pairs_unmap (λ a b. a.0 ≢ b.0) key_of ds keys.names)

two_priorities : (a b : Draft) → (n : ℕ) × (a.priority ≡ Some n) → (n : ℕ) × (b.priority ≡ Some n) → Differ a.priority b.priority → (task_of a).priority ≢ (task_of b).priority
unfolding task_of
two_priorities a b (n, an) (m, bm) other same =
    let e : n ≡ m = rw (an, bm) at same in
    other n an (bm ∙ ap (λ k. Some k) (sym e))

priority_keys : (version : ℕ) (ds : List Draft) → Keys version (map key_of ds) → AllByRecursion (λ d. (n : ℕ) × (d.priority ≡ Some n)) ds → Pairwise (λ s t. s.priority ≢ t.priority) (map task_of ds)
priority_keys version ds keys has =
    pairs_map (λ s t. s.priority ≢ t.priority) task_of ds
    (pairs_weaker (λ d. (n : ℕ) × (d.priority ≡ Some n)) (λ a b. Differ a.priority b.priority) (λ a b. (task_of a).priority ≢ (task_of b).priority)
    (λ a b ha hb r. two_priorities a b ha hb r) ds has (pairs_unmap (λ a b. Differ a.1 b.1) key_of ds keys.priorities))

in_order_at : (k : ℕ) (ds : List Draft) (i : ℕ) (t : Task) → Numbered k (map key_of ds) → slice_get (map task_of ds) i ≡ Some t → t.priority ≡ i + k
unfolding task_of
in_order_at k [] i t are e = absurd (cc)
in_order_at k (d ∷ ds) zero t are e =
    let same : task_of d ≡ t = cc in
    let p : (task_of d).priority ≡ k = rw are.0 refl in
    sym (ap (λ (x : Task). x.priority) same) ∙ p ∙ (omega arith)
in_order_at k (d ∷ ds) (suc i) t are e = in_order_at (k + 1) ds i t are.1 e ∙ (omega arith)

-- What is read of a text that has no fault.
read_of : (words : List (List (List ℕ))) (version : ℕ) (closed : List Draft) (o : Option Draft) (es : List Draft) (n : ℕ) → closing n (with_last closed o) true ≡ Ok es
    → StandsAt true words version closed o
    → IsTaskSet version (map task_of es) × ((ls : List (List (List ℕ))) × (words ≡ version_line version ∷ (ls ++ end_line ∷ [])) × SaysTasks version ls (map task_of es))
unfolding with_last
read_of words version closed None es n e (above, are, stands) =
    let c = closing_is n closed es true e in
    let has = c.has_task in
    let zero_tasks : length closed ≡ 0 = ap length stands.0 in
    absurd (omega (arith, has, zero_tasks))
read_of words version closed (Some d) es n e (above, are, at) =
    let all = closed ++ d ∷ [] in
    let c = closing_is n all es true e in
    let grown : length all ≡ length closed + 1 = length-append closed (d ∷ []) in
    let few = at.few in
    let keys : Keys version (map key_of all) = subst (Keys version) (sym (map_push key_of closed d)) at.keys in
    let said = tasks_said version (at.done ++ at.own) all (more at.done closed at.own d at.says_closed at.says_last) c.vertices c.priorities in
    let count : length (map task_of all) ≡ length all = length-map all task_of in
    let has = c.has_task in
    let limits : IsTaskSet version (map task_of all) = record {
      known = at.known;
      has_task = omega (arith, count, has);
      few_tasks = omega (arith, count, grown, few);
      each = All-from_recursion (IsTask version) (map task_of all) said.1;
      distinct_names = pairs_all _ (map task_of all) (name_keys version all keys);
      distinct_priorities = pairs_all _ (map task_of all) (priority_keys version all keys c.priorities);
      in_order = λ one i t g. in_order_at 1 all i t (keys.in_order one) g;
    } in
    subst (λ (x : List Draft). IsTaskSet version (map task_of x)
    × ((ls : List (List (List ℕ))) × (words ≡ version_line version ∷ (ls ++ end_line ∷ [])) × SaysTasks version ls (map task_of x))) (sym c.same)
    (limits, (at.done ++ at.own, are ∙ ap (λ l. l ++ end_line ∷ []) at.ws_are, said.0))

finish_reads : (bytes : List ℕ) (n : ℕ) (above : Option State) (set : Contents) → Follows (said bytes) above → finish n above ≡ Ok set → Reads bytes set
unfolding finish
finish_reads bytes n None set follows e = absurd (cc)
finish_reads bytes n (Some s) set follows e = go (closing n (with_last s.closed s.current) s.ended) refl e
  where
    go : (r : Result (List Draft) FileFault) → closing n (with_last s.closed s.current) s.ended ≡ r
        → (r >>= λ ds. Ok (record { version = s.version; tasks = map task_of ds })) ≡ Ok set → Reads bytes set
    go (Err f) at h = absurd (cc)
    go (Ok es) at h =
        let c = closing_is n (with_last s.closed s.current) es s.ended at in
        let stands : StandsAt true (said bytes) s.version s.closed s.current = subst (λ b. StandsAt b (said bytes) s.version s.closed s.current) c.at_end follows in
        let closed : closing n (with_last s.closed s.current) true ≡ Ok es = ap (closing n (with_last s.closed s.current)) (sym c.at_end) ∙ at in
        let r = read_of (said bytes) s.version s.closed s.current es n closed stands in
        let same : record { version = s.version; tasks = map task_of es } ≡ set = cc in
        subst (Reads bytes) same (record { limits = r.0; task_lines = r.1.0; spelled = r.1.1; tasks = r.1.2 })

-- What is read is spelled so.
pub read_says : (bytes : List ℕ) (set : Contents) → read_text bytes ≡ Ok set → Reads bytes set
unfolding read_text
read_says bytes set e = go (steps 1 None (lines bytes)) refl e
  where
    go : (r : Result (ℕ × Option State) FileFault) → steps 1 None (lines bytes) ≡ r → (r >>= λ x. finish x.0 x.1) ≡ Ok set → Reads bytes set
    go (Err f) at h = absurd (cc)
    go (Ok (m, below)) at h = finish_reads bytes m below set (steps_follow (lines bytes) [] 1 m None below at refl) h
