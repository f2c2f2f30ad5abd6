-- Where a worked proof splits: at the node with the most walks below it, and not at the last pair.
use Rattle.std.proofs.Common.{◌≡◌, ℕ, zero, suc, ◌<◌, ◌≤◌, List, [], ◌∷◌, Some, codes, refl, subst, lit<, lit≤, arith}
use Rattle.std.specs.Prelude.{AllPairs}
use Rattle.std.proofs.lemmas.List.Sorted.{IsPermutation-refl}
use Rattle.std.proofs.lemmas.Option.{same_Some}
use Rattle.drt_model.specs.declared.tasks.Task.{Task}
use Rattle.drt_model.specs.Digraph.{Digraph, digraph_of}
use Rattle.drt_model.specs.Walk.{sep_in, or_zero, requested_from}
use Rattle.drt_claims.specs.Proofs.{HasPassingTime, after_all, opening_stack, tree_sum_at}
use Rattle.drt_claims.specs.Trees.{AreByPriority, higher_count, joined, tree_graphs}
use Rattle.drt_claims.specs.declared.evidence.Item.{Item}
use Rattle.drt_claims.specs.declared.evidence.Item.TheVariants.{Pass, Split}
use Rattle.drt_claims.specs.declared.evidence.Pair.{Pair}
use Rattle.drt_claims.specs.declared.evidence.ProofClaim.{ProofClaim}
use Rattle.drt_claims.specs.declared.evidence.TreeClaim.{TreeClaim}
use Rattle.drt_sp.specs.Written.{AreEagerItems, IsEagerProof, IsWidestPlace, count_at, counted_pairs, walk_counts}
use Rattle.drt_rows.proofs.Sets.{edge, vertex}

-- x (3, 5) with a loop of 20 and y (2, 4) with a loop of 4.
abbrev high : Task
high = record { name = codes "T1"; priority = 1; vertices = vertex (codes "x") 3 5 ∷ vertex (codes "y") 2 4 ∷ []; edges = edge 0 0 20 ∷ edge 1 1 4 ∷ [] }

-- a (1, 9) with a loop of 12 and b (1, 12).
abbrev mid : Task
mid = record { name = codes "T2"; priority = 2; vertices = vertex (codes "a") 1 9 ∷ vertex (codes "b") 1 12 ∷ []; edges = edge 0 0 12 ∷ [] }

-- z (1, 5).
abbrev low : Task
low = record { name = codes "T3"; priority = 3; vertices = vertex (codes "z") 1 5 ∷ []; edges = [] }

abbrev tasks : List Task
tasks = high ∷ mid ∷ low ∷ []

abbrev pair : ℕ → ℕ → Pair
pair left right = record { left = left; right = right }

-- The walks y, x, y y and y y y, and above them the pairs of the first two, of the last two, and of both pairs.
abbrev high_tree : TreeClaim
high_tree = record { walks = (1 ∷ []) ∷ (0 ∷ []) ∷ (1 ∷ 1 ∷ []) ∷ (1 ∷ 1 ∷ 1 ∷ []) ∷ []; pairs = pair 0 1 ∷ pair 2 3 ∷ pair 4 5 ∷ [] }

-- The walks a and b, and above them their pair.
abbrev mid_tree : TreeClaim
mid_tree = record { walks = (0 ∷ []) ∷ (1 ∷ []) ∷ []; pairs = pair 0 1 ∷ [] }

abbrev trees : List TreeClaim
trees = high_tree ∷ mid_tree ∷ []

abbrev graphs : List Digraph
graphs = digraph_of high ∷ digraph_of mid ∷ []

-- They are in order of priority, and the first two have trees.
pub in_order : AreByPriority tasks tasks
in_order = record { permutation = IsPermutation-refl tasks; rising = rising }
  where
    rising : AllPairs (λ s t. s.priority < t.priority) tasks
    rising i zero d l m = absurd (omega (arith, l))
    rising zero (suc zero) d l m = lit< tt
    rising (suc i) (suc zero) d l m = absurd (omega (arith, l))
    rising zero (suc (suc zero)) d l m = lit< tt
    rising (suc zero) (suc (suc zero)) d l m = lit< tt
    rising (suc (suc i)) (suc (suc zero)) d l m = absurd (omega (arith, l))
    rising i (suc (suc (suc j))) d l m = absurd (omega (arith, m))

pub graphs_are : tree_graphs tasks trees ≡ graphs
graphs_are = refl

-- One walk below each walk, and below a pair as many as below both its parts.
pub high_counts : walk_counts high_tree ≡ 1 ∷ 1 ∷ 1 ∷ 1 ∷ 2 ∷ 2 ∷ 4 ∷ []
unfolding counted_pairs
high_counts = refl

pub mid_counts : walk_counts mid_tree ≡ 1 ∷ 1 ∷ 2 ∷ []
unfolding counted_pairs
mid_counts = refl

-- So of the two roots the first one is the widest, and the last one isn't.
pub first_is_widest : IsWidestPlace trees (6 ∷ 2 ∷ []) 0
unfolding counted_pairs
first_is_widest = record { within = lit< tt; most = most; least = λ q l. absurd (omega (arith, l)) }
  where
    most : (q : ℕ) → q < 2 → count_at trees (6 ∷ 2 ∷ []) q ≤ 4
    most zero l = lit≤ tt
    most (suc zero) l = lit≤ tt
    most (suc (suc q)) l = absurd (omega (arith, l))

pub last_is_not_widest : ¬ IsWidestPlace trees (6 ∷ 2 ∷ []) 1
unfolding counted_pairs
last_is_not_widest w = absurd (omega (arith, w.most 0 (lit< tt)))

-- For z and the two roots no time passes: they ask for 4 before each time up to 4, and for 5 before 5.
abbrev Passes : List ℕ → ℕ → Type 0
Passes nodes t = HasPassingTime graphs trees (digraph_of low) 0 (nodes, t)

pub none_passes_roots : (t : ℕ) → Passes (6 ∷ 2 ∷ []) t → ⊥
unfolding tree_sum_at joined requested_from sep_in or_zero
none_passes_roots zero p = omega (arith, p.some)
none_passes_roots (suc zero) p = omega (arith, p.fits)
none_passes_roots (suc (suc zero)) p = omega (arith, p.fits)
none_passes_roots (suc (suc (suc zero))) p = omega (arith, p.fits)
none_passes_roots (suc (suc (suc (suc zero)))) p = omega (arith, p.fits)
none_passes_roots (suc (suc (suc (suc (suc zero))))) p = omega (arith, p.fits)
none_passes_roots (suc (suc (suc (suc (suc (suc t)))))) p = omega (arith, p.within)

-- The left half, with y and x, asks for 4 up to 5, so that 5 passes and no earlier time.
pub left_passes : Passes (4 ∷ 2 ∷ []) 5
unfolding tree_sum_at joined requested_from sep_in or_zero
left_passes = record { some = lit≤ tt; within = lit≤ tt; fits = lit≤ tt }

pub left_none_earlier : (t : ℕ) → t < 5 → Passes (4 ∷ 2 ∷ []) t → ⊥
unfolding tree_sum_at joined requested_from sep_in or_zero
left_none_earlier zero l p = omega (arith, p.some)
left_none_earlier (suc zero) l p = omega (arith, p.fits)
left_none_earlier (suc (suc zero)) l p = omega (arith, p.fits)
left_none_earlier (suc (suc (suc zero))) l p = omega (arith, p.fits)
left_none_earlier (suc (suc (suc (suc zero)))) l p = omega (arith, p.fits)
left_none_earlier (suc (suc (suc (suc (suc t))))) l p = omega (arith, l)

-- The right half, with y y and y y y, asks for 3 up to 4, so that 4 passes and no earlier time.
pub right_passes : Passes (5 ∷ 2 ∷ []) 4
unfolding tree_sum_at joined requested_from sep_in or_zero
right_passes = record { some = lit≤ tt; within = lit≤ tt; fits = lit≤ tt }

pub right_none_earlier : (t : ℕ) → t < 4 → Passes (5 ∷ 2 ∷ []) t → ⊥
unfolding tree_sum_at joined requested_from sep_in or_zero
right_none_earlier zero l p = omega (arith, p.some)
right_none_earlier (suc zero) l p = omega (arith, p.fits)
right_none_earlier (suc (suc zero)) l p = omega (arith, p.fits)
right_none_earlier (suc (suc (suc zero))) l p = omega (arith, p.fits)
right_none_earlier (suc (suc (suc (suc t)))) l p = omega (arith, l)

abbrev z_proof : List Item → ProofClaim
z_proof items = record { task = 2; vertex = 0; items = items }

abbrev due : List Item → Type 0
due items = AreEagerItems graphs trees (digraph_of low) 0 items (Some (opening_stack trees 2))

-- z's proof splits the first root, and then each half passes with the least time that does.
pub first_split_is_due : due (Split 0 ∷ Pass 5 ∷ Pass 4 ∷ [])
unfolding AreEagerItems
first_split_is_due = ((none_passes_roots, first_is_widest), ((left_passes, left_none_earlier), ((right_passes, right_none_earlier), refl)))

-- One that splits the last root first isn't due, though its items can be taken one after another to the end.
abbrev last_first : List Item
last_first = Split 1 ∷ Split 0 ∷ Pass 5 ∷ Pass 4 ∷ Split 0 ∷ Pass 5 ∷ Pass 4 ∷ []

pub last_split_ends : after_all trees last_first (Some (opening_stack trees 2)) ≡ Some []
unfolding after_all
last_split_ends = refl

pub last_split_is_not_due : (items : List Item) → ¬ due (Split 1 ∷ items)
unfolding AreEagerItems
last_split_is_not_due items d = last_is_not_widest d.0.1

-- So the first of the two is the proof that a yes may have, and the second isn't.
pub first_split_is_eager : IsEagerProof tasks graphs trees (z_proof (Split 0 ∷ Pass 5 ∷ Pass 4 ∷ []))
first_split_is_eager t at =
    subst (λ (u : Task). AreEagerItems graphs trees (digraph_of u) 0 (Split 0 ∷ Pass 5 ∷ Pass 4 ∷ []) (Some (opening_stack trees (higher_count tasks u.priority))))
    (same_Some low t at) first_split_is_due

pub last_split_is_not_eager : ¬ IsEagerProof tasks graphs trees (z_proof last_first)
last_split_is_not_eager e = last_split_is_not_due (Split 0 ∷ Pass 5 ∷ Pass 4 ∷ Split 0 ∷ Pass 5 ∷ Pass 4 ∷ []) (e low refl)
