-- Each generated set keeps the limits, and its deadlines are constrained.
use Rattle.std.proofs.Common.{◌≡◌, ◌≢◌, ◌⊎◌, inl, inr, ℕ, zero, suc, ◌+◌, ◌*◌, ◌/◌, ◌%◌, ◌<◌, ◌≤◌, List, [], ◌∷◌, ◌++◌, length, get_or, map, slice_get, Some, IfSome, All, AllPairs, refl, sym, ap, subst, ◌∙◌, arith}
use Rattle.std.specs.Prelude.{decimal}
use Rattle.std.specs.List.{range_with_len, flat_map}
use Rattle.std.proofs.lemmas.Bool.{cases_eq, cases_lt, eq-eqb, ne_eqb}
use Rattle.std.proofs.lemmas.Fmt.{decimal_digit, decimal_injective, decimal_step}
use Rattle.std.proofs.lemmas.List.{length-append}
use Rattle.std.proofs.lemmas.List.Elements.{All-append, All-cons, All-from_get_or, All-from_recursion, All-get_or, All-nil, All-weaker}
use Rattle.std.proofs.lemmas.List.FromFn.{get_or-map-range_with_len, length-map-range_with_len}
use Rattle.std.proofs.lemmas.List.Kept.{AllPairs-cons}
use Rattle.std.proofs.lemmas.Nat.{mod_below}
use Rattle.std.proofs.lemmas.Option.{get_or_from_slice_get, slice_get-get_or, slice_get_within}
use Rattle.drt_model.specs.declared.tasks.Vertex.{Vertex}
use Rattle.drt_model.specs.declared.tasks.Edge.{Edge}
use Rattle.drt_model.specs.declared.tasks.Task.{Task}
use Rattle.drt_model.specs.Constrained.{AreConstrained, IsConstrainedEdge}
use Rattle.drt_model.specs.Limits.{IsEdgeAmong, IsName, IsNameByte, IsTask, IsTaskSet, IsVertex}
use Rattle.drt_gen.specs.Draws.{draw}
use Rattle.drt_gen.specs.Generated.{drawn_edges, drawn_period, drawn_task, drawn_vertex, generated, next_on_ring, periods}
use Rattle.drt_gen.proofs.Shifts.{edges_are}

-- Lists of formulas of an index.
module _ {X : Type 0} (f : ℕ → X) where
  pub each_of : (P : X → Type 0) (n : ℕ) → ((k : ℕ) → k < n → P (f k)) → All P (map f (range_with_len 0 n))
  each_of P n all = All-from_get_or P (map f (range_with_len 0 n)) (f 0) (λ k l.
      let m : k < n = omega (arith, length-map-range_with_len f 0 n) in
      subst P (sym (get_or-map-range_with_len f 0 n k k (f 0) m (omega arith))) (all k m))

  pub pairs_of : (R : X → X → Type 0) (n : ℕ) → ((j k : ℕ) → j < k → k < n → R (f j) (f k)) → AllPairs R (map f (range_with_len 0 n))
  pairs_of R n all j k d l m =
      let here : k < n = omega (arith, length-map-range_with_len f 0 n) in
      let one = get_or-map-range_with_len f 0 n j j d (omega arith) (omega arith) in
      let two = get_or-map-range_with_len f 0 n k k d here (omega arith) in
      subst (λ x. R x (get_or (map f (range_with_len 0 n)) k d)) (sym one) (subst (λ y. R (f j) y) (sym two) (all j k l here))

-- Lists of lists of formulas.
pub each_flat : {X : Type 0} (P : X → Type 0) (f : ℕ → List X) (a n : ℕ) → ((k : ℕ) → a ≤ k → k < a + n → All P (f k)) → All P (flat_map f (range_with_len a n))
each_flat P f a zero all = All-nil P
each_flat P f a (suc n) all = All-append P (f a) (flat_map f (range_with_len (a + 1) n)) (all a (omega arith) (omega arith)) (each_flat P f (a + 1) n (λ k lo hi. all k (omega arith) (omega arith)))

pub flat_length : {X : Type 0} (f : ℕ → List X) (a n : ℕ) → ((k : ℕ) → length (f k) ≤ 2) → length (flat_map f (range_with_len a n)) ≤ 2 * n
flat_length f a zero few = omega arith
flat_length f a (suc n) few = omega (arith, few a, flat_length f (a + 1) n few, length-append (f a) (flat_map f (range_with_len (a + 1) n)))

-- A name of a letter and a small number.
digit : (d : ℕ) → d < 10 → IsNameByte (48 + d)
digit d l = inl (inl (inl (omega arith, omega arith)))

small_number : (j : ℕ) → j < 12 → All IsNameByte (decimal j) × (length (decimal j) ≤ 2)
small_number j l = elim (cases_lt j 10) [
  | inl one ↦
      subst (λ ds. All IsNameByte ds × (length ds ≤ 2)) (sym (decimal_digit j one)) (All-cons IsNameByte (48 + j) [] (digit j one) (All-nil IsNameByte), omega arith)
  | inr two ↦
      let first : decimal (j / 10) ≡ (48 + j / 10) ∷ [] = decimal_digit (j / 10) (omega arith) in
      let e : decimal j ≡ (48 + j / 10) ∷ (48 + j % 10) ∷ [] = decimal_step j two (omega arith) ∙ ap (λ ds. ds ++ (48 + j % 10) ∷ []) first in
      subst (λ ds. All IsNameByte ds × (length ds ≤ 2)) (sym e) (
        All-cons IsNameByte (48 + j / 10) ((48 + j % 10) ∷ []) (digit (j / 10) (omega arith))
            (All-cons IsNameByte (48 + j % 10) [] (digit (j % 10) (mod_below j 10 (omega arith))) (All-nil IsNameByte)),
        omega arith,
      )
]

pub name : (b j : ℕ) → IsNameByte b → j < 12 → IsName (b ∷ decimal j)
name b j letter l =
    let number = small_number j l in
    record { not_empty = omega arith; at_most_32 = omega (arith, number.1); bytes = All-cons IsNameByte b (decimal j) letter number.0 }

tail_of : List ℕ → List ℕ
tail_of [] = []
tail_of (x ∷ xs) = xs

pub names_differ : (b j k : ℕ) → j < k → k < 12 → (b ∷ decimal j ≡ b ∷ decimal k) → ⊥
unfolding tail_of
names_differ b j k l m same =
    let e : j ≡ k = decimal_injective j k (omega arith) (omega arith) (ap tail_of same) in
    omega (arith, e)

-- The period of a task.
pub period_within : (x k : ℕ) → (100 ≤ drawn_period x k) × (drawn_period x k ≤ 600)
unfolding drawn_period
period_within x k =
    let P : ℕ → Type 0 = λ p. (100 ≤ p) × (p ≤ 600) in
    All-get_or P periods (draw x k 8) 0 (mod_below _ 8 (omega arith))
    (All-from_recursion P periods (
      (omega arith, omega arith),
      (
        (omega arith, omega arith),
        (
          (omega arith, omega arith),
          ((omega arith, omega arith), ((omega arith, omega arith), ((omega arith, omega arith), ((omega arith, omega arith), ((omega arith, omega arith), tt))))),
        ),
      ),
    ))

module _ (x p : ℕ) (lo : 100 ≤ p) (hi : p ≤ 600) where
  wcet_below : (k : ℕ) → draw x k (p / 15) < p / 15
  wcet_below k = mod_below _ (p / 15) (omega arith)

  back_below : (k : ℕ) → draw x k (p / 2) < p / 2
  back_below k = mod_below _ (p / 2) (omega arith)

  two_below : (k : ℕ) → draw x k 2 < 2
  two_below k = mod_below _ 2 (omega arith)

  pub vertex_limits : (k j : ℕ) → j < 12 → IsVertex (drawn_vertex p x k j)
  unfolding drawn_vertex
  vertex_limits k j l = record {
    name = name 118 j (inl (inr (omega arith, omega arith))) l;
    wcet = (omega arith, omega (arith, wcet_below k));
    deadline = (omega (arith, back_below (k + 1)), omega arith);
  }

  -- A separation is the period or twice it.
  pub sep_within : (k : ℕ) → (p ≤ p * (1 + draw x k 2)) × (p * (1 + draw x k 2) ≤ 1200)
  sep_within k = elim (cases_eq (draw x k 2) 0) [
    | inl e ↦ subst (λ d. (p ≤ p * (1 + d)) × (p * (1 + d) ≤ 1200)) (sym e) (omega arith, omega arith)
    | inr ne ↦
        let e : draw x k 2 ≡ 1 = omega (arith, two_below k, ne) in
        subst (λ d. (p ≤ p * (1 + d)) × (p * (1 + d) ≤ 1200)) (sym e) (omega arith, omega arith)
  ]

  -- The edges out of a vertex are the one on the ring, or that and one to another vertex.
  pub edges_cases : (k j : ℕ) → let ring : Edge = record { from = j; to = next_on_ring j; sep = p * (1 + draw x k 2) } in
      (drawn_edges p x k j ≡ ring ∷ [])
      ⊎ ((drawn_edges p x k j ≡ ring ∷ record { from = j; to = draw x (k + 1) 12; sep = p * (1 + draw x (k + 1 + 1) 2) } ∷ []) × (draw x (k + 1) 12 ≡ next_on_ring j → ⊥))
  edges_cases k j = elim (cases_eq (draw x (k + 1) 12) (next_on_ring j)) [
    | inl e ↦ inl (edges_are p x k j ∙ rw (eq-eqb _ _ e) refl)
    | inr ne ↦ inr (edges_are p x k j ∙ rw (ne_eqb _ _ ne) refl, ne)
  ]

  -- What holds of each edge from vertex j whose separation is the period or twice it holds of each that is drawn.
  pub each_edge : (P : Edge → Type 0) (k j : ℕ) → ((to sep : ℕ) → to < 12 → p ≤ sep → sep ≤ 1200 → P (record { from = j; to = to; sep = sep })) → All P (drawn_edges p x k j)
  each_edge P k j holds =
      let seps = sep_within k in
      let ring = holds (next_on_ring j) (p * (1 + draw x k 2)) (mod_below (j + 1) 12 (omega arith)) seps.0 seps.1 in
      let others = sep_within (k + 1 + 1) in
      let other = holds (draw x (k + 1) 12) (p * (1 + draw x (k + 1 + 1) 2)) (mod_below _ 12 (omega arith)) others.0 others.1 in
      elim (edges_cases k j) [
        | inl e ↦ subst (All P) (sym e) (All-cons P _ [] ring (All-nil P))
        | inr (e, ne) ↦ subst (All P) (sym e) (All-cons P _ (record { from = j; to = draw x (k + 1) 12; sep = p * (1 + draw x (k + 1 + 1) 2) } ∷ []) ring (All-cons P _ [] other (All-nil P)))
      ]

  pub few_edges : (k j : ℕ) → length (drawn_edges p x k j) ≤ 2
  few_edges k j = elim (edges_cases k j) [
    | inl e ↦ subst (λ es. length es ≤ 2) (sym e) (omega arith)
    | inr (e, ne) ↦ subst (λ es. length es ≤ 2) (sym e) (omega arith)
  ]

-- Two edges don't join the same vertices.
abbrev pub Apart : Edge → Edge → Type 0
Apart e f = e.from ≡ f.from → e.to ≢ f.to

module _ (x p : ℕ) (lo : 100 ≤ p) (hi : p ≤ 600) where
  -- An edge from a vertex below all others is apart from theirs.
  apart_from : (k a n : ℕ) (e : Edge) → e.from < a → All (Apart e) (flat_map (λ j. drawn_edges p x (k + 3 * j) j) (range_with_len a n))
  apart_from k a n e below = each_flat (Apart e) (λ j. drawn_edges p x (k + 3 * j) j) a n (λ j l m.
      each_edge x p lo hi (Apart e) (k + 3 * j) j (λ to sep in_range least most same. absurd (omega (arith, below, l, same))))

  pub edges_apart : (k a n : ℕ) → AllPairs Apart (flat_map (λ j. drawn_edges p x (k + 3 * j) j) (range_with_len a n))
  edges_apart k a zero = λ i j d l m. absurd (omega (arith, m))
  edges_apart k a (suc n) =
      let f : ℕ → List Edge = λ j. drawn_edges p x (k + 3 * j) j in
      let rest = flat_map f (range_with_len (a + 1) n) in
      let more = edges_apart k (a + 1) n in
      let ring : Edge = record { from = a; to = next_on_ring a; sep = p * (1 + draw x (k + 3 * a) 2) } in
      let chord : Edge = record { from = a; to = draw x (k + 3 * a + 1) 12; sep = p * (1 + draw x (k + 3 * a + 1 + 1) 2) } in
      let of_ring = apart_from k (a + 1) n ring (omega arith) in
      let of_chord = apart_from k (a + 1) n chord (omega arith) in
      elim (edges_cases x p lo hi (k + 3 * a) a) [
        | inl e ↦ subst (λ es. AllPairs Apart (es ++ rest)) (sym e) (AllPairs-cons Apart ring rest of_ring more)
        | inr (e, ne) ↦
            let two = AllPairs-cons Apart chord rest of_chord more in
            let one : Apart ring chord = λ same onto. ne (sym onto) in
            subst (λ es. AllPairs Apart (es ++ rest)) (sym e) (AllPairs-cons Apart ring (chord ∷ rest) (All-cons (Apart ring) chord rest one of_ring) two)
      ]

-- The fields of a drawn task and of a drawn vertex.
vertex_names : (p x k j l : ℕ) → j < l → l < 12 → (drawn_vertex p x (k + 2 * j) j).name ≢ (drawn_vertex p x (k + 2 * l) l).name
unfolding drawn_vertex
vertex_names p x k j l less below = names_differ 118 j l less below

task_names : (x i j : ℕ) → i < j → j < 12 → (drawn_task x (61 * i) i).name ≢ (drawn_task x (61 * j) j).name
unfolding drawn_task
task_names x i j less below = names_differ 116 i j less below

priority_is : (x k i : ℕ) → (drawn_task x k i).priority ≡ i + 1
unfolding drawn_task
priority_is x k i = refl

task_priorities : (x i j : ℕ) → i < j → j < 12 → (drawn_task x (61 * i) i).priority ≢ (drawn_task x (61 * j) j).priority
task_priorities x i j less below same = omega (arith, same, priority_is x (61 * i) i, priority_is x (61 * j) j)

task_at_place : (x i : ℕ) (t : Task) → slice_get (map (λ i. drawn_task x (61 * i) i) (range_with_len 0 12)) i ≡ Some t → t.priority ≡ i + 1
task_at_place x i t at =
    let f : ℕ → Task = λ i. drawn_task x (61 * i) i in
    let tasks = map f (range_with_len 0 12) in
    let l : i < 12 = omega (arith, slice_get_within tasks i t at, length-map-range_with_len f 0 12) in
    let e : t ≡ f i = sym (get_or_from_slice_get tasks i t t at) ∙ get_or-map-range_with_len f 0 12 i i t l (omega arith) in
    ap (λ u. u.priority) e ∙ priority_is x (61 * i) i

-- The deadlines of a task are at most its period, and its separations at least that.
deadline_within : (p x k j : ℕ) → (drawn_vertex p x k j).deadline ≤ p
unfolding drawn_vertex
deadline_within p x k j = omega arith

some_of : {X : Type 0} (P : X → Type 0) (xs : List X) (i : ℕ) (d : X) → i < length xs → All P xs → IfSome (slice_get xs i) P
some_of P xs i d l all = subst (λ o. IfSome o P) (sym (slice_get-get_or xs i d l)) (All-get_or P xs i d l all)

task_constrained : (x k i : ℕ) → All (IsConstrainedEdge (drawn_task x k i)) (drawn_task x k i).edges
unfolding drawn_task
task_constrained x k i =
    let p = drawn_period x k in
    let within = period_within x k in
    let vertex : ℕ → Vertex = λ j. drawn_vertex p x (k + 1 + 2 * j) j in
    let vertices = map vertex (range_with_len 0 12) in
    let due : All (λ v. v.deadline ≤ p) vertices = each_of vertex (λ v. v.deadline ≤ p) 12 (λ j l. deadline_within p x (k + 1 + 2 * j) j) in
    let Kept : Edge → Type 0 = λ e. IfSome (slice_get vertices e.from) (λ v. v.deadline ≤ e.sep) in
    each_flat Kept (λ j. drawn_edges p x (k + 25 + 3 * j) j) 0 12 (λ j least l.
    each_edge x p within.0 within.1 Kept (k + 25 + 3 * j) j (λ to sep in_range lo hi.
    some_of (λ v. v.deadline ≤ sep) vertices j (vertex 0) (omega (arith, l, length-map-range_with_len vertex 0 12))
    (All-weaker (λ v. v.deadline ≤ p) (λ v. v.deadline ≤ sep) (λ v due_by. omega (arith, due_by, lo)) vertices due)))

-- A task keeps the limits.
pub task_limits : (x k i : ℕ) → i < 12 → IsTask 1 (drawn_task x k i)
unfolding drawn_task
task_limits x k i l =
    let p = drawn_period x k in
    let within = period_within x k in
    let vertex : ℕ → Vertex = λ j. drawn_vertex p x (k + 1 + 2 * j) j in
    let edges : ℕ → List Edge = λ j. drawn_edges p x (k + 25 + 3 * j) j in
    let twelve = length-map-range_with_len vertex 0 12 in
    record {
      name = name 116 i (inl (inr (omega arith, omega arith))) l;
      priority = (omega arith, omega arith);
      has_vertex = omega (arith, twelve);
      few_vertices = omega (arith, twelve);
      vertices = each_of vertex IsVertex 12 (λ j m. vertex_limits x p within.0 within.1 (k + 1 + 2 * j) j m);
      distinct_names = pairs_of vertex (λ u v. u.name ≢ v.name) 12 (vertex_names p x (k + 1));
      at_most_256_edges = omega (arith, flat_length edges 0 12 (λ j. few_edges x p within.0 within.1 (k + 25 + 3 * j) j));
      edges = each_flat (IsEdgeAmong 12) edges 0 12
          (λ j m n. each_edge x p within.0 within.1 (IsEdgeAmong 12) (k + 25 + 3 * j) j
          (λ to sep in_range least most. record { from = omega arith; to = in_range; sep = (omega arith, omega arith) }));
      one_edge_each_way = edges_apart x p within.0 within.1 (k + 25) 0 12;
    }

-- The tasks of each generated set keep the limits.
pub set_limits : (number : ℕ) → IsTaskSet 1 (generated number).tasks
unfolding generated
set_limits number =
    let task : ℕ → Task = λ i. drawn_task number (61 * i) i in
    let twelve = length-map-range_with_len task 0 12 in
    record {
      known = inl refl;
      has_task = omega (arith, twelve);
      few_tasks = omega (arith, twelve);
      each = each_of task (IsTask 1) 12 (λ i l. task_limits number (61 * i) i l);
      distinct_names = pairs_of task (λ s t. s.name ≢ t.name) 12 (task_names number);
      distinct_priorities = pairs_of task (λ s t. s.priority ≢ t.priority) 12 (task_priorities number);
      in_order = λ one i t at. task_at_place number i t at;
    }

-- The deadlines of each generated set are constrained.
pub set_constrained : (number : ℕ) → AreConstrained (generated number).tasks
unfolding generated
set_constrained number = each_of (λ i. drawn_task number (61 * i) i) (λ t. All (IsConstrainedEdge t) t.edges) 12 (λ i l. task_constrained number (61 * i) i)
