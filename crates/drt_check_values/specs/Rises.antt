-- The releases of walks at places, and what they add up to.
use Rattle.std.specs.Prelude.{◌≡◌, ℕ, ◌+◌, ◌<◌, ◌==◌, ◌&&◌, nat_lt, if◌then◌else◌, List, [], ◌∷◌, length, All, sum_by, slice_index_or}
use Rattle.drt_model.specs.Numbers.{most_time}
use Rattle.drt_model.specs.Digraph.{Digraph}
use Rattle.drt_model.specs.Walk.{gap, wcet, request_of}
use Rattle.drt_claims.specs.declared.evidence.TreeClaim.{TreeClaim}
use Rattle.drt_check_values.specs.declared.rises.Rise.{Rise}
use Rattle.drt_check_values.specs.Leaves.{leaf_order}

-- The release of vertex u at an offset, of the walk at a place.
abbrev pub rise_at : Digraph → ℕ → ℕ → ℕ → Rise
rise_at g place offset u = record { offset = offset; place = place; work = wcet g u }

-- The releases of the walk that starts at u, the first at the offset and each next one as early as its separation allows.
unfoldable pub rises_from : Digraph → ℕ → ℕ → ℕ → List ℕ → List Rise
rises_from g place offset u [] = rise_at g place offset u ∷ []
rises_from g place offset u (v ∷ vs) = rise_at g place offset u ∷ rises_from g place (offset + gap g u v) v vs

-- The releases of a walk, the first at 0.
abbrev pub rises_along : Digraph → ℕ → List ℕ → List Rise
rises_along g place [] = []
rises_along g place (u ∷ vs) = rises_from g place 0 u vs

-- What a release adds to a place before t.
abbrev pub added : ℕ → ℕ → Rise → ℕ
added t place r = if (r.place == place) && nat_lt r.offset t then r.work else 0

-- What releases add to a place before t.
abbrev pub risen_at_place : List Rise → ℕ → ℕ → ℕ
risen_at_place rises t place = sum_by (λ r. added t place r) rises

-- What the walk at a place asks for before t.
abbrev pub asked_at_place : Digraph → TreeClaim → ℕ → ℕ → ℕ
asked_at_place g tree t place = request_of g (slice_index_or tree.walks (slice_index_or (leaf_order tree) place 0) []) t

-- The releases are at the places of the walks and before 1,000,000, and add up to what the walks ask for.
pub record AreRises (g : Digraph) (tree : TreeClaim) (rises : List Rise) : Type 0 where
  pub offsets : All (λ r. r.offset < most_time) rises
  pub places : All (λ r. r.place < length tree.walks) rises
  pub values : (t place : ℕ) → place < length tree.walks → risen_at_place rises t place ≡ asked_at_place g tree t place
