-- Claimed proofs: for each vertex of each task, how the combinations of the higher tasks' request functions are split until a time
-- passes. A combination has one node of each tree, in order of priority.
use Rattle.std.specs.Prelude.{◌≡◌, ℕ, ◌+◌, ◌-◌, ◌≤◌, nat_lt, if◌then◌else◌, Option, None, Some, List, [], ◌∷◌, ◌++◌, length, map, take, slice_get, slice_index_or, slice_set, All}
use Rattle.std.specs.List.{range_with_len}
use Rattle.drt_model.specs.declared.tasks.Task.{Task}
use Rattle.drt_model.specs.Digraph.{Digraph, digraph_of}
use Rattle.drt_model.specs.Walk.{wcet, deadline}
use Rattle.drt_claims.specs.Trees.{higher_count, node_values, root}
use Rattle.drt_claims.specs.declared.evidence.Item.{Item}
use Rattle.drt_claims.specs.declared.evidence.Item.TheVariants.{Pass, Split}
use Rattle.drt_claims.specs.declared.evidence.Pair.{Pair}
use Rattle.drt_claims.specs.declared.evidence.ProofClaim.{ProofClaim}
use Rattle.drt_claims.specs.declared.evidence.TreeClaim.{TreeClaim}

-- The numbers of a task and each of its vertices, for the tasks from number k on, in order.
unfoldable pub subjects_from : ℕ → List Task → List (ℕ × ℕ)
subjects_from k [] = []
subjects_from k (t ∷ tasks) = map (λ v. (k, v)) (range_with_len 0 (length t.vertices)) ++ subjects_from (k + 1) tasks

-- There is one proof per vertex of each task, in order of tasks and then of vertices.
abbrev pub IsProofPerVertex : List Task → List ProofClaim → Type 0
IsProofPerVertex tasks proofs = map (λ p. (p.task, p.vertex)) proofs ≡ subjects_from 0 tasks

-- The two nodes that a pair names.
abbrev pub parts_of : Option Pair → Option (ℕ × ℕ)
parts_of None = None
parts_of (Some p) = Some (p.left, p.right)

-- The two parts of a node of the tree, if it is a pair.
abbrev pub node_parts : TreeClaim → ℕ → Option (ℕ × ℕ)
node_parts tree n = if nat_lt n (length tree.walks) then None else parts_of (slice_get tree.pairs (n - length tree.walks))

-- The two parts of the node at a place, if there are a node and a tree at it and the node is a pair.
abbrev pub parts_in : Option TreeClaim → Option ℕ → Option (ℕ × ℕ)
parts_in None n = None
parts_in (Some tree) None = None
parts_in (Some tree) (Some n) = node_parts tree n

-- The combinations after the topmost one was split at a place: the one with the left part comes on top, and the one with the right
-- part after it.
abbrev pub halved : List ℕ → ℕ → List (List ℕ) → Option (ℕ × ℕ) → Option (List (List ℕ))
halved nodes place stack None = None
halved nodes place stack (Some p) = Some (slice_set nodes place p.0 ∷ slice_set nodes place p.1 ∷ stack)

-- The stack after an item: one that passes ends the topmost combination, and one that splits it puts back its two halves. There is
-- none where the item can't be taken.
abbrev pub after : List TreeClaim → Item → List (List ℕ) → Option (List (List ℕ))
after trees item [] = None
after trees (Pass t) (nodes ∷ stack) = Some stack
after trees (Split place) (nodes ∷ stack) = halved nodes place stack (parts_in (slice_get trees place) (slice_get nodes place))

-- The stack after some items.
unfoldable pub after_all : List TreeClaim → List Item → Option (List (List ℕ)) → Option (List (List ℕ))
after_all trees items None = None
after_all trees [] (Some stack) = Some stack
after_all trees (item ∷ items) (Some stack) = after_all trees items (after trees item stack)

-- What a proof of a vertex begins with: the roots of the trees of the tasks of higher priority.
abbrev pub opening_stack : List TreeClaim → ℕ → List (List ℕ)
opening_stack trees count = map root (take count trees) ∷ []

-- The items of the proof can be taken one after another, and the stack is empty after the last one and not before.
abbrev pub HasShape : List Task → List TreeClaim → ProofClaim → Type 0
HasShape tasks trees proof =
    (t : Task) → slice_get tasks proof.task ≡ Some t
    → after_all trees proof.items (Some (opening_stack trees (higher_count tasks t.priority))) ≡ Some []

-- Where each item that passes stands: its combination and its time.
unfoldable pub passes : List TreeClaim → List Item → Option (List (List ℕ)) → List (List ℕ × ℕ)
passes trees items None = []
passes trees [] (Some stack) = []
passes trees (item ∷ items) (Some []) = []
passes trees (Pass t ∷ items) (Some (nodes ∷ stack)) = (nodes, t) ∷ passes trees items (Some stack)
passes trees (Split place ∷ items) (Some (nodes ∷ stack)) = passes trees items (after trees (Split place) (nodes ∷ stack))

-- The sum of the values at t of the nodes of a combination, each of the tree at its place.
unfoldable pub tree_sum_at : List Digraph → List TreeClaim → List ℕ → ℕ → ℕ
tree_sum_at graphs trees [] t = 0
tree_sum_at [] trees (n ∷ nodes) t = 0
tree_sum_at (g ∷ graphs) [] (n ∷ nodes) t = 0
tree_sum_at (g ∷ graphs) (tree ∷ trees) (n ∷ nodes) t = slice_index_or (node_values g tree t) n 0 + tree_sum_at graphs trees nodes t

-- A time passes for a vertex and a combination: it is at most the vertex's deadline, and the vertex's execution time and what the
-- combination asks for before it fit into it.
pub record HasPassingTime (graphs : List Digraph) (trees : List TreeClaim) (g : Digraph) (v : ℕ) (at : List ℕ × ℕ) : Type 0 where
  pub some : 1 ≤ at.1
  pub within : at.1 ≤ deadline g v
  pub fits : wcet g v + tree_sum_at graphs trees at.0 at.1 ≤ at.1

-- Each item of the proof that passes does so at a time that passes.
abbrev pub HasPassingTimes : List Task → List Digraph → List TreeClaim → ProofClaim → Type 0
HasPassingTimes tasks graphs trees proof =
    (t : Task) → slice_get tasks proof.task ≡ Some t
    → All (HasPassingTime graphs trees (digraph_of t) proof.vertex) (passes trees proof.items (Some (opening_stack trees (higher_count tasks t.priority))))
