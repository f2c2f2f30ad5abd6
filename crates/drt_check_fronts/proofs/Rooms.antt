-- The least time with too much demand against the room of the fronts.
use Rattle.std.proofs.Common.{ℕ, ◌≤◌, ◌<◌, List, [], ◌∷◌, All, arith}
use Rattle.std.specs.Prelude.{Some, None}
use Rattle.drt_model.specs.Digraph.{Digraph}
use Rattle.drt_graph.specs.declared.front.FrontEntry.{FrontEntry}
use Rattle.drt_model.specs.Each.{Each}
use Rattle.drt_graph.specs.FrontEntry.{due}
use Rattle.drt_claims.specs.Fronts.{IsOrdered, works_due, HaveRoom}
use Rattle.drt_rates.specs.Demands.{AreFronts, IsLeastExcess}
use Rattle.drt_check_fronts.proofs.SoundRoom.{room_at}

-- Fronts in order are within the bound.
pub fronts_within : (bound : ℕ) (graphs : List Digraph) (fronts : List (List FrontEntry)) → Each (IsOrdered bound) graphs fronts → AreFronts bound graphs fronts
fronts_within bound [] [] each = tt
fronts_within bound [] (f ∷ fronts) each = absurd each
fronts_within bound (g ∷ graphs) [] each = absurd each
fronts_within bound (g ∷ graphs) (f ∷ fronts) each = (each.0.0, fronts_within bound graphs fronts each.1)

-- What holds at each time up to the bound holds at those at which entries are due.
at_dues : (P : ℕ → Type 0) (bound : ℕ) → ((t : ℕ) → t ≤ bound → P t) → (graphs : List Digraph) (fronts : List (List FrontEntry)) → AreFronts bound graphs fronts
    → Each (λ g front. All (λ e. P (due g e)) front) graphs fronts
at_dues P bound all [] [] are = tt
at_dues P bound all [] (f ∷ fronts) are = absurd are
at_dues P bound all (g ∷ graphs) [] are = absurd are
at_dues P bound all (g ∷ graphs) (f ∷ fronts) are = (λ k d l. all _ (are.0 k d l).1, at_dues P bound all graphs fronts are.1)

-- Where no time up to the bound has too much demand, there is room.
pub room : (graphs : List Digraph) (fronts : List (List FrontEntry)) (bound : ℕ) → AreFronts bound graphs fronts → IsLeastExcess graphs fronts bound None → HaveRoom graphs fronts
room graphs fronts bound are none = at_dues (λ t. works_due graphs fronts t ≤ t) bound none graphs fronts are

-- Where one has, there is no room.
pub no_room : (graphs : List Digraph) (fronts : List (List FrontEntry)) (bound t : ℕ) → IsLeastExcess graphs fronts bound (Some t) → HaveRoom graphs fronts → ⊥
no_room graphs fronts bound t least has =
    let over : t < works_due graphs fronts t = least.1 in
    let fits = room_at graphs fronts has t in
    absurd (omega (arith, over, fits))
