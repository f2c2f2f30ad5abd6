-- The digraphs of a classic set keep the limits of version 1, and their deadlines are constrained.
use Rattle.std.proofs.Common.{◌≡◌, ◌≢◌, ℕ, zero, suc, ◌+◌, ◌*◌, ◌^◌, ◌<◌, ◌≤◌, true, ◌==◌, if◌then◌else◌, List, [], ◌∷◌}
use Rattle.std.proofs.Common.{◌++◌, length, map, get_or, inl, inr, refl, sym, ap, ◌∙◌, subst, arith, Some, All, slice_get, length-append}
use Rattle.std.specs.Prelude.{decimal, IfSome, AllPairs}
use Rattle.std.specs.List.{AllByRecursion, list_all, range_with_len}
use Rattle.std.proofs.Math.Nat.{mul-suc}
use Rattle.std.proofs.lemmas.List.{length-map}
use Rattle.std.proofs.lemmas.List.Elements.{All-from_recursion, recursion_from_All}
use Rattle.std.proofs.lemmas.Fmt.{decimal_injective, length-decimal-le}
use Rattle.drt_model.specs.declared.tasks.Vertex.{Vertex}
use Rattle.drt_model.specs.declared.tasks.Edge.{Edge}
use Rattle.drt_model.specs.declared.tasks.Task.{Task}
use Rattle.drt_model.specs.Limits.{IsNameByte, IsName, IsTime, IsVertex, IsEdgeAmong, IsTask, IsTaskSet, most_vertices}
use Rattle.drt_model.specs.Constrained.{IsConstrainedEdge, AreConstrained}
use Rattle.drt_file.specs.trusted.Words.{is_digit, is_number}
use Rattle.drt_file.proofs.Again.{all_of_both}
use Rattle.drt_file.proofs.Digits.{decimal_number}
use Rattle.drt_file.proofs.Snoc.{every_weaker, Pairwise, pairs_all, pairs_of_all}
use Rattle.drt_classic.specs.declared.classic.Frame.{Frame}
use Rattle.drt_classic.specs.declared.classic.Classic.{Classic}
use Rattle.drt_classic.specs.declared.classic.Classic.TheVariants.{Sporadic, Multiframe, Cyclic, Free}
use Rattle.drt_classic.specs.Classics.{name_of, frames_of, frames_of_period}
use Rattle.drt_classic.specs.ClassicLimits.{IsFrame, IsClassic, IsClassicSet, most_frames}
use Rattle.drt_classic.specs.ClassicLegal.{next_frame}
use Rattle.drt_classic.specs.ClassicLaws.{DigraphsKeepLimits}
use Rattle.drt_classic.specs.Digraphs.{frame_name, vertices_from, frames_after, frame_edges, digraph_of_classic, tasks_from}
use Rattle.drt_classic.proofs.Agree.{as_many, task_at}

-- Names of vertices.

digit_names : (ds : List ℕ) → list_all is_digit ds ≡ true → AllByRecursion IsNameByte ds
unfolding is_digit
digit_names [] e = tt
digit_names (d ∷ ds) e = (grind (arith, e), digit_names ds (grind (arith, e)))

digits_of : (word : List ℕ) → is_number word ≡ true → list_all is_digit word ≡ true
unfolding is_number
digits_of word e = grind (arith, e)

letter : IsNameByte 102
letter = grind arith

vertex_named : (i : ℕ) → i < 48 → IsName (frame_name i)
vertex_named i lt =
    let few : length (decimal i) ≤ 2 = length-decimal-le 2 i (omega arith) (omega (arith, lt)) (omega (arith, lt)) in
    let bytes : AllByRecursion IsNameByte (frame_name i) = (letter, digit_names (decimal i) (digits_of (decimal i) (decimal_number i (omega (arith, lt))))) in
    record { not_empty = omega arith; at_most_32 = omega (arith, few); bytes = All-from_recursion IsNameByte (frame_name i) bytes }

tail_of : List ℕ → List ℕ
tail_of [] = []
tail_of (b ∷ bs) = bs

names_apart : (i j : ℕ) → i < j → j < 48 → frame_name i ≡ frame_name j → ⊥
unfolding tail_of
names_apart i j lt few e =
    let same : i ≡ j = decimal_injective i j (omega (arith, lt, few)) (omega (arith, few)) (ap tail_of e) in
    omega (arith, lt, same)

-- Vertices.

pub vertex_count : (i : ℕ) (frames : List Frame) → length (vertices_from i frames) ≡ length frames
unfolding vertices_from
vertex_count i [] = refl
vertex_count i (f ∷ frames) = ap suc (vertex_count (i + 1) frames)

are_vertices : (i : ℕ) (frames : List Frame) → i + length frames ≤ 48 → AllByRecursion IsFrame frames → AllByRecursion IsVertex (vertices_from i frames)
unfolding vertices_from
are_vertices i [] few are = tt
are_vertices i (f ∷ frames) few are = (
  record { name = vertex_named i (omega (arith, few)); wcet = are.0.wcet; deadline = are.0.deadline },
  are_vertices (i + 1) frames (omega (arith, few)) are.1,
)

names_after : (i j : ℕ) (frames : List Frame) → i < j → j + length frames ≤ 48 → AllByRecursion (λ v. frame_name i ≢ v.name) (vertices_from j frames)
unfolding vertices_from
names_after i j [] lt few = tt
names_after i j (f ∷ frames) lt few = (
  (λ e. names_apart i j lt (omega (arith, few)) e),
  names_after i (j + 1) frames (omega (arith, lt)) (omega (arith, few)),
)

names_distinct : (i : ℕ) (frames : List Frame) → i + length frames ≤ 48 → Pairwise (λ u v. u.name ≢ v.name) (vertices_from i frames)
unfolding vertices_from
names_distinct i [] few = tt
names_distinct i (f ∷ frames) few = (names_after i (i + 1) frames (omega arith) (omega (arith, few)), names_distinct (i + 1) frames (omega (arith, few)))

-- Edges.

abbrev row_of : ℕ → ℕ → List ℕ → List Edge
row_of i sep js = map (λ j. record { from = i; to = j; sep = sep }) js

-- What the frames that come after each of n frames keep: at most m of them, which are frames and differ.
pub record IsAfter (after : ℕ → List ℕ) (m n : ℕ) : Type 0 where
  pub few : (i : ℕ) → length (after i) ≤ m
  pub frames : (i : ℕ) → i < n → AllByRecursion (λ j. j < n) (after i)
  pub apart : (i : ℕ) → Pairwise (λ j k. j ≢ k) (after i)

row_among : (n i sep : ℕ) (js : List ℕ) → i < n → IsTime sep → AllByRecursion (λ j. j < n) js → AllByRecursion (IsEdgeAmong n) (row_of i sep js)
row_among n i sep [] lt time are = tt
row_among n i sep (j ∷ js) lt time are = (record { from = lt; to = are.0; sep = time }, row_among n i sep js lt time are.1)

edges_among : (after : ℕ → List ℕ) (m n i : ℕ) (frames : List Frame) → IsAfter after m n → i + length frames ≤ n → AllByRecursion IsFrame frames
    → AllByRecursion (IsEdgeAmong n) (frame_edges after i frames)
unfolding frame_edges
edges_among after m n i [] is few are = tt
edges_among after m n i (f ∷ frames) is few are =
    let lt : i < n = omega (arith, few) in
    all_of_both (IsEdgeAmong n) (row_of i f.sep (after i)) (frame_edges after (i + 1) frames)
    (row_among n i f.sep (after i) lt are.0.sep (is.frames i lt)) (edges_among after m n (i + 1) frames is (omega (arith, few)) are.1)

-- At most m edges leave each frame.
few_edges : (after : ℕ → List ℕ) (m n i : ℕ) (frames : List Frame) → IsAfter after m n → length (frame_edges after i frames) ≤ m * length frames
unfolding frame_edges
few_edges after m n i [] is = omega arith
few_edges after m n i (f ∷ frames) is =
    let row : length (row_of i f.sep (after i)) ≡ length (after i) = length-map (after i) (λ j. record { from = i; to = j; sep = f.sep }) in
    let both : length (frame_edges after i (f ∷ frames)) ≡ length (row_of i f.sep (after i)) + length (frame_edges after (i + 1) frames)
    = length-append (row_of i f.sep (after i)) (frame_edges after (i + 1) frames) in
    let others = few_edges after m n (i + 1) frames is in
    let product : m * suc (length frames) ≡ m * length frames + m = mul-suc m (length frames) in
    omega (arith, row, both, others, product, is.few i)

-- Two edges out of one frame have different targets.
abbrev Apart : Edge → Edge → Type 0
Apart e f = e.from ≡ f.from → e.to ≢ f.to

row_apart : (i sep j : ℕ) (js : List ℕ) → AllByRecursion (λ k. j ≢ k) js → AllByRecursion (Apart (record { from = i; to = j; sep = sep })) (row_of i sep js)
row_apart i sep j [] are = tt
row_apart i sep j (k ∷ js) are = ((λ e. are.0), row_apart i sep j js are.1)

later_apart : (i sep j : ℕ) (es : List Edge) → AllByRecursion (λ e. i < e.from) es → AllByRecursion (Apart (record { from = i; to = j; sep = sep })) es
later_apart i sep j [] are = tt
later_apart i sep j (e ∷ es) are = ((λ same. absurd (omega (arith, same, are.0))), later_apart i sep j es are.1)

row_later : (i : ℕ) (k sep : ℕ) (js : List ℕ) → i < k → AllByRecursion (λ (e : Edge). i < e.from) (row_of k sep js)
row_later i k sep [] lt = tt
row_later i k sep (j ∷ js) lt = (lt, row_later i k sep js lt)

edges_later : (after : ℕ → List ℕ) (i k : ℕ) (frames : List Frame) → i < k → AllByRecursion (λ (e : Edge). i < e.from) (frame_edges after k frames)
unfolding frame_edges
edges_later after i k [] lt = tt
edges_later after i k (f ∷ frames) lt =
    all_of_both (λ (e : Edge). i < e.from) (row_of k f.sep (after k)) (frame_edges after (k + 1) frames) (row_later i k f.sep (after k) lt) (edges_later after i (k + 1) frames (omega (arith, lt)))

join_apart : (i sep : ℕ) (js : List ℕ) (es : List Edge) → Pairwise (λ j k. j ≢ k) js → AllByRecursion (λ (e : Edge). i < e.from) es → Pairwise Apart es → Pairwise Apart (row_of i sep js ++ es)
join_apart i sep [] es js_apart later are = are
join_apart i sep (j ∷ js) es js_apart later are = (
  all_of_both (Apart (record { from = i; to = j; sep = sep })) (row_of i sep js) es (row_apart i sep j js js_apart.0) (later_apart i sep j es later),
  join_apart i sep js es js_apart.1 later are,
)

edges_apart : (after : ℕ → List ℕ) (m n i : ℕ) (frames : List Frame) → IsAfter after m n → Pairwise Apart (frame_edges after i frames)
unfolding frame_edges
edges_apart after m n i [] is = tt
edges_apart after m n i (f ∷ frames) is =
    join_apart i f.sep (after i) (frame_edges after (i + 1) frames) (is.apart i) (edges_later after i (i + 1) frames (omega arith)) (edges_apart after m n (i + 1) frames is)

-- Each edge has the separation of its source, which is due by then.
record IsBehind (vs : List Vertex) (i : ℕ) (e : Edge) : Type 0 where
  k : ℕ
  at : e.from ≡ i + k
  due : IfSome (slice_get vs k) (λ v. v.deadline ≤ e.sep)

row_behind : (vs : List Vertex) (v : Vertex) (i sep : ℕ) (js : List ℕ) → v.deadline ≤ sep → AllByRecursion (IsBehind (v ∷ vs) i) (row_of i sep js)
row_behind vs v i sep [] le = tt
row_behind vs v i sep (j ∷ js) le = (record { k = 0; at = omega arith; due = le }, row_behind vs v i sep js le)

further : (vs : List Vertex) (v : Vertex) (i : ℕ) (e : Edge) → IsBehind vs (i + 1) e → IsBehind (v ∷ vs) i e
further vs v i e b = record { k = suc b.k; at = omega (arith, b.at); due = b.due }

edges_behind : (after : ℕ → List ℕ) (i : ℕ) (frames : List Frame) → AllByRecursion IsFrame frames → AllByRecursion (IsBehind (vertices_from i frames) i) (frame_edges after i frames)
unfolding frame_edges vertices_from
edges_behind after i [] are = tt
edges_behind after i (f ∷ frames) are =
    let v : Vertex = record { name = frame_name i; wcet = f.wcet; deadline = f.deadline } in
    all_of_both (IsBehind (v ∷ vertices_from (i + 1) frames) i) (row_of i f.sep (after i)) (frame_edges after (i + 1) frames)
    (row_behind (vertices_from (i + 1) frames) v i f.sep (after i) are.0.constrained)
    (every_weaker (IsBehind (vertices_from (i + 1) frames) (i + 1)) (IsBehind (v ∷ vertices_from (i + 1) frames) i)
    (further (vertices_from (i + 1) frames) v i) (frame_edges after (i + 1) frames) (edges_behind after (i + 1) frames are.1))

constrained : (p : ℕ) (t : Classic) (e : Edge) → IsBehind (vertices_from 0 (frames_of t)) 0 e → IsConstrainedEdge (digraph_of_classic p t) e
constrained p t e b =
    let same : b.k ≡ e.from = omega (arith, b.at) in
    subst (λ k. IfSome (slice_get (vertices_from 0 (frames_of t)) k) (λ v. v.deadline ≤ e.sep)) same b.due

-- The frames after a frame of each kind of task.

one_after : (after : ℕ → List ℕ) (next : ℕ → ℕ) (n : ℕ) → ((i : ℕ) → after i ≡ next i ∷ []) → ((i : ℕ) → i < n → next i < n) → IsAfter after 1 n
one_after after next n is lt = record {
  few = λ i. rw (is i) (omega arith);
  frames = λ i within. rw (is i) (lt i within, tt);
  apart = λ i. rw (is i) (tt, tt);
}

next_within : (n i : ℕ) → i < n → next_frame n i < n
next_within n i lt = grind (arith, lt)

range_low : (a b n : ℕ) → a < b → AllByRecursion (λ k. a ≢ k) (range_with_len b n)
range_low a b zero lt = tt
range_low a b (suc n) lt = ((λ e. omega (arith, e, lt)), range_low a (b + 1) n (omega (arith, lt)))

range_apart : (a n : ℕ) → Pairwise (λ j k. j ≢ k) (range_with_len a n)
range_apart a zero = tt
range_apart a (suc n) = (range_low a (a + 1) n (omega arith), range_apart (a + 1) n)

range_within : (a n m : ℕ) → a + n ≤ m → AllByRecursion (λ j. j < m) (range_with_len a n)
range_within a zero m le = tt
range_within a (suc n) m le = (omega (arith, le), range_within (a + 1) n m (omega (arith, le)))

range_length : (a n : ℕ) → length (range_with_len a n) ≡ n
range_length a zero = refl
range_length a (suc n) = ap suc (range_length (a + 1) n)

-- How many edges at most leave a frame.
abbrev most_after : Classic → ℕ
most_after (Sporadic name frame) = 1
most_after (Multiframe name deadline period wcets) = 1
most_after (Cyclic name frames) = 1
most_after (Free name frames) = 16

period_count : (deadline period : ℕ) (wcets : List ℕ) → length (frames_of_period deadline period wcets) ≡ length wcets
period_count deadline period wcets = length-map wcets (λ wcet. record { wcet = wcet; deadline = deadline; sep = period })

after_is : (t : Classic) → length (frames_of t) ≤ most_frames t → IsAfter (frames_after t) (most_after t) (length (frames_of t))
after_is (Sporadic name frame) few = one_after (frames_after (Sporadic name frame)) (λ i. 0) 1 (λ i. refl) (λ i lt. omega arith)
after_is (Multiframe name deadline period wcets) few =
    subst (IsAfter (frames_after (Multiframe name deadline period wcets)) 1) (sym (period_count deadline period wcets))
    (one_after (frames_after (Multiframe name deadline period wcets)) (next_frame (length wcets)) (length wcets) (λ i. refl) (next_within (length wcets)))
after_is (Cyclic name frames) few = one_after (frames_after (Cyclic name frames)) (next_frame (length frames)) (length frames) (λ i. refl) (next_within (length frames))
after_is (Free name frames) few = record {
  few = λ i. (let e = range_length 0 (length frames) in omega (arith, e, few));
  frames = λ i lt. range_within 0 (length frames) (length frames) (omega arith);
  apart = λ i. range_apart 0 (length frames);
}

within_48 : (t : Classic) → most_frames t ≤ 48
within_48 (Sporadic name frame) = omega arith
within_48 (Multiframe name deadline period wcets) = omega arith
within_48 (Cyclic name frames) = omega arith
within_48 (Free name frames) = omega arith

within_256 : (t : Classic) (n : ℕ) → n ≤ most_frames t → most_after t * n ≤ 256
within_256 (Sporadic name frame) n le = omega (arith, le)
within_256 (Multiframe name deadline period wcets) n le = omega (arith, le)
within_256 (Cyclic name frames) n le = omega (arith, le)
within_256 (Free name frames) n le = omega (arith, le)

-- The digraph of a task keeps the limits of a task.
digraph_is : (p : ℕ) (t : Classic) → 1 ≤ p → p ≤ 16 → IsClassic t → IsTask 1 (digraph_of_classic p t)
digraph_is p t low high is =
    let frames = frames_of t in
    let are : AllByRecursion IsFrame frames = recursion_from_All IsFrame frames is.frames in
    let count : length (vertices_from 0 frames) ≡ length frames = vertex_count 0 frames in
    let few : length frames ≤ 48 = (let m = within_48 t in omega (arith, m, is.few_frames)) in
    let after : IsAfter (frames_after t) (most_after t) (length frames) = after_is t is.few_frames in
    record {
      name = is.name;
      priority = (low, omega (arith, high));
      has_vertex = omega (arith, count, is.has_frame);
      few_vertices = omega (arith, count, few);
      vertices = All-from_recursion IsVertex (vertices_from 0 frames) (are_vertices 0 frames (omega (arith, few)) are);
      distinct_names = pairs_all (λ u v. u.name ≢ v.name) (vertices_from 0 frames) (names_distinct 0 frames (omega (arith, few)));
      at_most_256_edges = (let edges = few_edges (frames_after t) (most_after t) (length frames) 0 frames after in let most = within_256 t (length frames) is.few_frames in omega (arith, edges, most));
      edges = subst (λ n. All (IsEdgeAmong n) (frame_edges (frames_after t) 0 frames)) (sym count)
          (All-from_recursion (IsEdgeAmong (length frames)) (frame_edges (frames_after t) 0 frames)
          (edges_among (frames_after t) (most_after t) (length frames) 0 frames after (omega arith) are));
      one_edge_each_way = pairs_all Apart (frame_edges (frames_after t) 0 frames) (edges_apart (frames_after t) (most_after t) (length frames) 0 frames after);
    }

digraphs_are : (p : ℕ) (ts : List Classic) → 1 ≤ p → p + length ts ≤ 17 → AllByRecursion IsClassic ts → AllByRecursion (IsTask 1) (tasks_from p ts)
unfolding tasks_from
digraphs_are p [] low few are = tt
digraphs_are p (t ∷ ts) low few are = (digraph_is p t low (omega (arith, few)) are.0, digraphs_are (p + 1) ts (omega (arith, low)) (omega (arith, few)) are.1)

digraphs_constrained : (p : ℕ) (ts : List Classic) → AllByRecursion IsClassic ts → AllByRecursion (λ t. All (IsConstrainedEdge t) t.edges) (tasks_from p ts)
unfolding tasks_from
digraphs_constrained p [] are = tt
digraphs_constrained p (t ∷ ts) are = (
  All-from_recursion (IsConstrainedEdge (digraph_of_classic p t)) (frame_edges (frames_after t) 0 (frames_of t))
      (every_weaker (IsBehind (vertices_from 0 (frames_of t)) 0) (IsConstrainedEdge (digraph_of_classic p t)) (constrained p t) (frame_edges (frames_after t) 0 (frames_of t))
      (edges_behind (frames_after t) 0 (frames_of t) (recursion_from_All IsFrame (frames_of t) are.0.frames))),
  digraphs_constrained (p + 1) ts are.1,
)

names_kept : (name : List ℕ) (p : ℕ) (ts : List Classic) → AllByRecursion (λ t. name ≢ name_of t) ts → AllByRecursion (λ (t : Task). name ≢ t.name) (tasks_from p ts)
unfolding tasks_from
names_kept name p [] are = tt
names_kept name p (t ∷ ts) are = (are.0, names_kept name (p + 1) ts are.1)

tasks_named : (p : ℕ) (ts : List Classic) → Pairwise (λ s t. name_of s ≢ name_of t) ts → Pairwise (λ (s t : Task). s.name ≢ t.name) (tasks_from p ts)
unfolding tasks_from
tasks_named p [] are = tt
tasks_named p (t ∷ ts) are = (names_kept (name_of t) (p + 1) ts are.0, tasks_named (p + 1) ts are.1)

priorities_later : (n p : ℕ) (ts : List Classic) → n < p → AllByRecursion (λ (t : Task). n ≢ t.priority) (tasks_from p ts)
unfolding tasks_from
priorities_later n p [] lt = tt
priorities_later n p (t ∷ ts) lt = ((λ e. omega (arith, e, lt)), priorities_later n (p + 1) ts (omega (arith, lt)))

priorities_apart : (p : ℕ) (ts : List Classic) → Pairwise (λ (s t : Task). s.priority ≢ t.priority) (tasks_from p ts)
unfolding tasks_from
priorities_apart p [] = tt
priorities_apart p (t ∷ ts) = (priorities_later p (p + 1) ts (omega arith), priorities_apart (p + 1) ts)

pub set_is : (ts : List Classic) → IsClassicSet ts → IsTaskSet 1 (tasks_from 1 ts)
set_is ts is =
    let count : length (tasks_from 1 ts) ≡ length ts = as_many 1 ts in
    record {
      known = inl refl;
      has_task = omega (arith, count, is.has_task);
      few_tasks = omega (arith, count, is.few_tasks);
      each = All-from_recursion (IsTask 1) (tasks_from 1 ts) (digraphs_are 1 ts (omega arith) (omega (arith, is.few_tasks)) (recursion_from_All IsClassic ts is.each));
      distinct_names = pairs_all (λ (s t : Task). s.name ≢ t.name) (tasks_from 1 ts) (tasks_named 1 ts (pairs_of_all (λ s t. name_of s ≢ name_of t) ts is.distinct_names));
      distinct_priorities = pairs_all (λ (s t : Task). s.priority ≢ t.priority) (tasks_from 1 ts) (priorities_apart 1 ts);
      in_order = λ one i g e. (let r = task_at 1 ts i g e in ap (λ (x : Task). x.priority) r.is ∙ (omega arith));
    }

pub set_constrained : (ts : List Classic) → IsClassicSet ts → AreConstrained (tasks_from 1 ts)
set_constrained ts is =
    All-from_recursion (λ t. All (IsConstrainedEdge t) t.edges) (tasks_from 1 ts) (digraphs_constrained 1 ts (recursion_from_All IsClassic ts is.each))

pub digraphs_keep_limits : DigraphsKeepLimits
digraphs_keep_limits ts is = (set_is ts is, set_constrained ts is)
