-- What is taken together in the roots is so in each combination of their splitting tree.
use Rattle.std.proofs.Common.{◌≡◌, ℕ, suc, zero, ◌<◌, ◌≤◌, ◌⊎◌, Some, List, [], ◌∷◌, length, refl, sym, ap, subst, inl, inr, arith, set}
use Rattle.std.specs.Prelude.{slice_get}
use Rattle.std.proofs.lemmas.Option.{none-some, same_Some}
use Rattle.drt_model.specs.Numbers.{most_time}
use Rattle.drt_steps.specs.Time.{AreChosen, Passes}
use Rattle.drt_tree.specs.Tree.{Plain, IsForest, IsPair, node_values_in}
use Rattle.drt_tree.proofs.Trees.{child_within}
use Rattle.drt_refine.specs.Below.{AreBelow, AreNodes}
use Rattle.drt_worst.specs.Splitting.{IsSplit, IsPartBy, IsPart, search_for}
use Rattle.drt_worst.specs.Passing.{IsSearchReady}
use Rattle.drt_worst.specs.Plans.{CanTake}

pub node_of : (f : Plain) (nodes : List ℕ) (i n : ℕ) → AreNodes f nodes → slice_get nodes i ≡ Some n → n < length f.nodes
node_of f [] i n h at = absurd (none-some n at)
node_of f (m ∷ nodes) zero n h at = subst (λ (k : ℕ). k < length f.nodes) (same_Some m n at) h.0
node_of f (m ∷ nodes) (suc i) n h at = node_of f nodes i n h.1 at

set_nodes : (f : Plain) (nodes : List ℕ) (place k : ℕ) → k < length f.nodes → AreNodes f nodes → AreNodes f (set nodes place k)
set_nodes f [] place k lt h = tt
set_nodes f (m ∷ nodes) zero k lt h = (lt, h.1)
set_nodes f (m ∷ nodes) (suc place) k lt h = (h.0, set_nodes f nodes place k lt h.1)

set_chosen : (f : Plain) (d : ℕ) (nodes : List ℕ) (place n k : ℕ) → slice_get nodes place ≡ Some n → k < length f.pool
    → length (node_values_in f k) ≡ length (node_values_in f n) → AreChosen d f.pool nodes → AreChosen d f.pool (set nodes place k)
set_chosen f d [] place n k at lt e h = absurd (none-some n at)
set_chosen f d (m ∷ nodes) zero n k at lt e h = (
  lt,
  (let s : length (node_values_in f m) ≡ length (node_values_in f n) = ap (λ z. length (node_values_in f z)) (same_Some m n at) in let g : d ≤ length (node_values_in f m) = h.1 in omega arith),
  h.2,
)
set_chosen f d (m ∷ nodes) (suc place) n k at lt e h = (h.0, h.1, set_chosen f d nodes place n k at lt e h.2)

length_set : (nodes : List ℕ) (place k : ℕ) → length (set nodes place k) ≡ length nodes
length_set [] place k = refl
length_set (m ∷ nodes) zero k = refl
length_set (m ∷ nodes) (suc place) k = ap suc (length_set nodes place k)

child_take : (f : Plain) (d : ℕ) (nodes : List ℕ) (place n k : ℕ) → IsForest f → slice_get nodes place ≡ Some n → k < n → n < length f.nodes → CanTake f d nodes → CanTake f d (set nodes place k)
child_take f d nodes place n k sound at lt within h =
    let same : length f.nodes ≡ length f.pool = sound.same in
    record {
      nodes_are = set_nodes f nodes place k (omega arith) h.nodes_are;
      chosen = set_chosen f d nodes place n k at (omega arith) (sound.bound k n (omega arith) (omega arith)) h.chosen;
      few = (let e : length (set nodes place k) ≡ length nodes = length_set nodes place k in let g : length nodes ≤ 31 = h.few in omega arith);
    }

pub split_take : (f : Plain) (d : ℕ) (c l r : List ℕ) → IsForest f → IsSplit f c l r → CanTake f d c → CanTake f d l × CanTake f d r
split_take f d c l r sound s h =
    let pair : IsPair f s.widest.node s.left s.right = sound.pairs s.widest.node s.left s.right s.forks in
    let within : s.widest.node < length f.nodes = child_within f s.widest.node s.left s.right s.forks in (
      subst (λ (z : List ℕ). CanTake f d z) (sym s.left_is) (child_take f d c s.place s.widest.node s.left sound s.widest.at pair.left within h),
      subst (λ (z : List ℕ). CanTake f d z) (sym s.right_is) (child_take f d c s.place s.widest.node s.right sound s.widest.at pair.right within h),
    )

half_take : (f : Plain) (d : ℕ) (c e other : List ℕ) → IsForest f → IsSplit f c e other ⊎ IsSplit f c other e → CanTake f d c → CanTake f d e
half_take f d c e other sound (inl s) h = (split_take f d c e other sound s h).0
half_take f d c e other sound (inr s) h = (split_take f d c other e sound s h).1

part_take_by : (f : Plain) (d : ℕ) (c : List ℕ) (path : List (List ℕ)) (e : List ℕ) → IsForest f → IsPartBy f c path e → CanTake f d c → CanTake f d e
part_take_by f d c [] e sound h g = subst (λ (z : List ℕ). CanTake f d z) h g
part_take_by f d c (m ∷ path) e sound h g = part_take_by f d m path e sound h.1 (half_take f d c m h.0.0 sound h.0.1 g)

pub part_take : (f : Plain) (d : ℕ) (roots c : List ℕ) → IsForest f → IsPart f roots c → CanTake f d roots → CanTake f d c
part_take f d roots c sound h g = part_take_by f d roots h.0 c sound h.1 g

chosen_nodes : (f : Plain) (d : ℕ) (nodes : List ℕ) → IsForest f → AreChosen d f.pool nodes → AreNodes f nodes
chosen_nodes f d [] sound h = tt
chosen_nodes f d (n ∷ nodes) sound h =
    let same : length f.nodes ≡ length f.pool = sound.same in
    let w : n < length f.pool = h.0 in
    (omega arith, chosen_nodes f d nodes sound h.2)

-- the conditions of a search
pub roots_ready : (f : Plain) (wcet deadline : ℕ) (roots : List ℕ) → IsForest f → length roots ≤ 31 → AreChosen deadline f.pool roots → wcet ≤ most_time
    → ((tuple : List ℕ) → AreBelow f tuple roots → (t : ℕ) × Passes wcet deadline f.pool tuple t) → IsSearchReady (search_for f wcet deadline) roots
roots_ready f wcet deadline roots sound few chosen small passes = record {
  forest = sound;
  wcet = small;
  take = record { nodes_are = chosen_nodes f deadline roots sound chosen; chosen = chosen; few = few };
  passes = passes;
}
