-- Names and the places where they stand.
use Rattle.std.proofs.Common.{◌≡◌, ℕ, suc, ◌<◌, Bool, true, false, ◌||◌, List, [], ◌∷◌, length, Some, refl, arith}
use Rattle.std.specs.Prelude.{bytes_eq, slice_get}
use Rattle.std.proofs.lemmas.Slice.Eq.{bytes_eq-Decides}
use Rattle.drt_model.specs.declared.tasks.Vertex.{Vertex}
use Rattle.drt_file.specs.internal.StateFaults.{has_vertex, place_of_name}

-- a vertex of that name stands at its place
pub stands_at : (name : List ℕ) (vs : List Vertex) → has_vertex name vs ≡ true → (v : Vertex) × (slice_get vs (place_of_name name vs) ≡ Some v) × (v.name ≡ name)
unfolding place_of_name
stands_at name [] e = absurd (cc)
stands_at name (v ∷ vs) e = go (stands_at name vs) (bytes_eq v.name name) refl e
  where
    go : (has_vertex name vs ≡ true → (u : Vertex) × (slice_get vs (place_of_name name vs) ≡ Some u) × (u.name ≡ name)) → (b : Bool) → bytes_eq v.name name ≡ b → (b || has_vertex name vs) ≡ true
        → (u : Vertex) × (slice_get (v ∷ vs) (place_of_name name (v ∷ vs)) ≡ Some u) × (u.name ≡ name)
    go later true at h =
        let zero_place : place_of_name name (v ∷ vs) ≡ 0 = rw at refl in
        (v, rw zero_place refl, (bytes_eq-Decides v.name name).0 at)
    go later false at h =
        let r = later h in
        let next : place_of_name name (v ∷ vs) ≡ suc (place_of_name name vs) = rw at (omega arith) in
        (r.0, rw next r.1, r.2)

pub place_within : (name : List ℕ) (vs : List Vertex) → has_vertex name vs ≡ true → place_of_name name vs < length vs
unfolding place_of_name
place_within name [] e = absurd (cc)
place_within name (v ∷ vs) e = go (place_within name vs) (bytes_eq v.name name) refl e
  where
    go : (has_vertex name vs ≡ true → place_of_name name vs < length vs) → (b : Bool) → bytes_eq v.name name ≡ b → (b || has_vertex name vs) ≡ true → place_of_name name (v ∷ vs) < length (v ∷ vs)
    go later true at h = let zero_place : place_of_name name (v ∷ vs) ≡ 0 = rw at refl in omega (arith, zero_place)
    go later false at h = let next : place_of_name name (v ∷ vs) ≡ suc (place_of_name name vs) = rw at (omega arith) in omega (arith, next, later h)
