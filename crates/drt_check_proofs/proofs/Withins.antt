-- The questions of proofs are for nodes of the tree, and the deadlines of their points are short.
use Rattle.std.proofs.Common.{◌≡◌, ℕ, ◌+◌, ◌-◌, ◌<◌, ◌≤◌, ◌⊎◌, inl, inr, Bool, true, false, List, [], ◌∷◌, length, map, get_or, ltb, refl, sym, ap, subst, arith}
use Rattle.std.specs.Prelude.{All, Option, Some, None, slice_get, ◌==◌, if◌then◌else◌}
use Rattle.std.specs.List.{AllByRecursion}
use Rattle.std.proofs.lemmas.Bool.{cases_lt, le-ltb, lt-ltb}
use Rattle.std.proofs.lemmas.List.{get_or_past}
use Rattle.std.proofs.lemmas.List.Elements.{All-from_recursion}
use Rattle.std.proofs.lemmas.Option.{get_or_from_slice_get, slice_get_within, same_Some}
use Rattle.drt_model.specs.declared.tasks.Task.{Task}
use Rattle.drt_model.specs.Digraph.{digraph_of, no_vertex}
use Rattle.drt_model.specs.Limits.{IsTask, IsVertex}
use Rattle.drt_model.specs.Walk.{deadline}
use Rattle.drt_claims.specs.Proofs.{opening_stack, node_parts, parts_of, passes}
use Rattle.drt_claims.specs.Trees.{IsTree, higher_count, root}
use Rattle.drt_claims.specs.declared.evidence.Item.{Item}
use Rattle.drt_claims.specs.declared.evidence.Item.TheVariants.{Pass, Split}
use Rattle.drt_claims.specs.declared.evidence.Pair.{Pair}
use Rattle.drt_claims.specs.declared.evidence.ProofClaim.{ProofClaim}
use Rattle.drt_claims.specs.declared.evidence.TreeClaim.{TreeClaim}
use Rattle.drt_check_values.specs.declared.query.Query.{Query}
use Rattle.drt_check_proofs.specs.Passing.{all_queries, asks_at, blank, passes_at, queries_in, queries_of, passing_times}
use Rattle.drt_check_proofs.specs.Places.{after_at, with_halves}
use Rattle.drt_check_proofs.specs.Points.{point, points, points_in, points_of}
use Rattle.drt_check_proofs.proofs.Rest.{all_parts}

-- How many nodes the tree has.
abbrev pub size : TreeClaim → ℕ
size tree = length tree.walks + length tree.pairs

-- The question is for a node of the tree.
abbrev pub IsWithin : TreeClaim → Query → Type 0
IsWithin tree q = q.node < size tree

parts_within : (tree : TreeClaim) (n : ℕ) (p : ℕ × ℕ) → IsTree tree → node_parts tree n ≡ Some p → (p.0 < size tree) × (p.1 < size tree)
parts_within tree n p is e = go (cases_lt n (length tree.walks))
  where
    by_pair : (o : Option Pair) → slice_get tree.pairs (n - length tree.walks) ≡ o → parts_of o ≡ Some p → (p.0 < size tree) × (p.1 < size tree)
    by_pair None at h = absurd (cc)
    by_pair (Some pair) at h =
        let same : (pair.left, pair.right) ≡ p = same_Some _ _ h in
        let left : pair.left ≡ p.0 = ap (λ (x : ℕ × ℕ). x.0) same in
        let right : pair.right ≡ p.1 = ap (λ (x : ℕ × ℕ). x.1) same in
        let within = slice_get_within tree.pairs (n - length tree.walks) pair at in
        (omega (arith, left, within, is.left (n - length tree.walks) pair at), omega (arith, right, within, is.right (n - length tree.walks) pair at))

    go : (n < length tree.walks) ⊎ (length tree.walks ≤ n) → (p.0 < size tree) × (p.1 < size tree)
    go (inl l) = absurd (let h = rw (lt-ltb n (length tree.walks) l) at e in cc)
    go (inr l) = by_pair (slice_get tree.pairs (n - length tree.walks)) refl (rw (le-ltb n (length tree.walks) l) at e)

-- The nodes are the tree's.
abbrev pub AreValuesWithin : TreeClaim → List ℕ → Type 0
AreValuesWithin tree nodes = AllByRecursion (λ n. n < size tree) nodes

-- They are, if there are some.
abbrev pub AreWithinIn : TreeClaim → Option (List ℕ) → Type 0
AreWithinIn tree None = Unit {0}
AreWithinIn tree (Some nodes) = AreValuesWithin tree nodes

after_within : (tree : TreeClaim) (i : ℕ) (item : Item) (nodes : List ℕ) → IsTree tree → AreValuesWithin tree nodes → AreWithinIn tree (after_at tree i item nodes)
after_within tree i item [] is all = tt
after_within tree i (Pass t) (n ∷ nodes) is all = all.1
after_within tree i (Split place) (n ∷ nodes) is all = by_test (place == i)
  where
    by_parts : (o : Option (ℕ × ℕ)) → node_parts tree n ≡ o → AreWithinIn tree (with_halves nodes o)
    by_parts None e = tt
    by_parts (Some p) e = (let both = parts_within tree n p is e in (both.0, (both.1, all.1)))

    by_test : (b : Bool) → AreWithinIn tree (with_halves nodes (if b then node_parts tree n else Some (n, n)))
    by_test true = by_parts (node_parts tree n) refl
    by_test false = (all.0, (all.0, all.1))

asks_within : (tree : TreeClaim) (item : Item) (nodes : List ℕ) → AreValuesWithin tree nodes → AllByRecursion (IsWithin tree) (asks_at item nodes)
asks_within tree (Pass t) [] all = tt
asks_within tree (Pass t) (n ∷ nodes) all = (all.0, tt)
asks_within tree (Split place) nodes all = tt

passes_within : (tree : TreeClaim) (i : ℕ) (items : List Item) (o : Option (List ℕ)) → IsTree tree → AreWithinIn tree o → AllByRecursion (IsWithin tree) (passes_at tree i items o)
unfolding passes_at
passes_within tree i items None is all = tt
passes_within tree i [] (Some nodes) is all = tt
passes_within tree i (item ∷ items) (Some nodes) is all =
    let rest = passes_within tree i items (after_at tree i item nodes) is (after_within tree i item nodes is all) in
    (all_parts (IsWithin tree) (asks_at item nodes) (passes_at tree i items (after_at tree i item nodes))).1 (asks_within tree item nodes all, rest)

blanks_within : (tree : TreeClaim) (ts : List ℕ) → IsTree tree → AllByRecursion (IsWithin tree) (map blank ts)
blanks_within tree [] is = tt
blanks_within tree (t ∷ ts) is = (omega (arith, is.some), blanks_within tree ts is)

queries_within_in : (tasks : List Task) (tree : TreeClaim) (i : ℕ) (items : List Item) (o : Option Task) → IsTree tree → AllByRecursion (IsWithin tree) (queries_in tasks tree i items o)
queries_within_in tasks tree i items None is = tt
queries_within_in tasks tree i items (Some t) is = go (ltb i (higher_count tasks t.priority))
  where
    go : (b : Bool) → AllByRecursion (IsWithin tree) (if b then passes_at tree i items (Some (root tree ∷ [])) else map blank (passing_times items))
    go true = passes_within tree i items (Some (root tree ∷ [])) is (omega (arith, is.some), tt)
    go false = blanks_within tree (passing_times items) is

queries_within_all : (tasks : List Task) (tree : TreeClaim) (i : ℕ) (proofs : List ProofClaim) → IsTree tree → AllByRecursion (IsWithin tree) (all_queries tasks tree i proofs)
queries_within_all tasks tree i [] is = tt
queries_within_all tasks tree i (p ∷ proofs) is =
    (all_parts (IsWithin tree) (queries_of tasks tree i p) (all_queries tasks tree i proofs)).1
    (queries_within_in tasks tree i p.items (slice_get tasks p.task) is, queries_within_all tasks tree i proofs is)

-- The questions of all proofs are for nodes of the tree.
pub queries_within : (tasks : List Task) (tree : TreeClaim) (i : ℕ) (proofs : List ProofClaim) (qs : List Query) → IsTree tree → qs ≡ all_queries tasks tree i proofs → All (IsWithin tree) qs
queries_within tasks tree i proofs qs is are =
    All-from_recursion (IsWithin tree) qs (subst (λ (xs : List Query). AllByRecursion (IsWithin tree) xs) (sym are) (queries_within_all tasks tree i proofs is))

-- The deadline of a vertex of a task of a set is short.
deadline_short : (version : ℕ) (t : Task) (v : ℕ) → IsTask version t → deadline (digraph_of t) v ≤ 4294967295
deadline_short version t v is = go (cases_lt v (length t.vertices))
  where
    go : (v < length t.vertices) ⊎ (length t.vertices ≤ v) → deadline (digraph_of t) v ≤ 4294967295
    go (inl l) = (let known : IsVertex (get_or t.vertices v no_vertex) = is.vertices v no_vertex l in omega (arith, known.deadline.1))
    go (inr l) = (let past = get_or_past t.vertices v no_vertex l in let zero : (get_or t.vertices v no_vertex).deadline ≡ 0 = ap (λ x. x.deadline) past in omega (arith, zero))

points_of_task : (t : Task) (v : ℕ) → deadline (digraph_of t) v ≤ 4294967295 → (ps : List (List ℕ × ℕ)) → AllByRecursion (λ p. p.mark.deadline ≤ 4294967295) (map (point (digraph_of t) v) ps)
points_of_task t v l [] = tt
points_of_task t v l (p ∷ ps) = (l, points_of_task t v l ps)

points_short_one : (tasks : List Task) (trees : List TreeClaim) (proof : ProofClaim) (version : ℕ) → All (IsTask version) tasks
    → AllByRecursion (λ p. p.mark.deadline ≤ 4294967295) (points_of tasks trees proof)
points_short_one tasks trees proof version all = go (slice_get tasks proof.task) refl
  where
    go : (o : Option Task) → slice_get tasks proof.task ≡ o → AllByRecursion (λ p. p.mark.deadline ≤ 4294967295) (points_in tasks trees proof o)
    go None at = tt
    go (Some t) at =
        let is : IsTask version t = subst (λ (x : Task). IsTask version x) (get_or_from_slice_get tasks proof.task t t at) (all proof.task t (slice_get_within tasks proof.task t at)) in
        points_of_task t proof.vertex (deadline_short version t proof.vertex is) (passes trees proof.items (Some (opening_stack trees (higher_count tasks t.priority))))

-- The deadlines of all points are short.
pub points_short : (tasks : List Task) (trees : List TreeClaim) (proofs : List ProofClaim) (version : ℕ) → All (IsTask version) tasks
    → AllByRecursion (λ p. p.mark.deadline ≤ 4294967295) (points tasks trees proofs)
points_short tasks trees [] version all = tt
points_short tasks trees (p ∷ proofs) version all =
    (all_parts (λ q. q.mark.deadline ≤ 4294967295) (points_of tasks trees p) (points tasks trees proofs)).1 (points_short_one tasks trees p version all, points_short tasks trees proofs version all)
