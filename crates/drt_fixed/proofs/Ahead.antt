-- What is found ahead of vertices, by their numbers.
use Rattle.std.proofs.Common.{◌≡◌, ℕ, ◌+◌, ◌-◌, ◌≤◌, List, Option, Some, None, drop, get_or, sym, ap, ◌∙◌, subst, arith}
use Rattle.std.specs.Prelude.{IfSome, take}
use Rattle.std.specs.List.{AllZip}
use Rattle.std.proofs.lemmas.List.{get_or-drop}
use Rattle.drt_model.specs.Digraph.{Digraph}
use Rattle.drt_ahead.specs.Found.{AreThere}
use Rattle.drt_model.specs.Walk.{IsWalk}
use Rattle.drt_check_states.specs.Places.{graphs_at}
use Rattle.drt_states.specs.declared.claims.TailClaim.{TailClaim}
use Rattle.drt_sp_states.specs.Answers.{IsSearchedAnswer}
use Rattle.drt_sp_states.specs.declared.search.Searched.{Searched}
use Rattle.drt_sp_states.specs.declared.search.Searched.TheVariants.{Passes, Misses, Spent}
use Rattle.drt_fixed.specs.Searching.{AreFoundFrom, IsFoundVertex, graphs_given, no_placed_vertex}
use Rattle.drt_fixed.specs.declared.vertices.Given.{Given}
use Rattle.drt_fixed.specs.declared.vertices.PlacedVertex.{PlacedVertex}

module _ (g : Given) (vertices : List PlacedVertex) where
  -- What is found of the vertices that are left.
  pub found_left : (left : List PlacedVertex) (number : ℕ) (found : List (Option Searched)) → left ≡ drop number vertices
      → AreThere (λ i searched. IsFoundVertex g (get_or left i no_placed_vertex) searched) found → AreFoundFrom g vertices number found
  found_left left number found e are i searched at =
      subst (λ v. IsFoundVertex g v searched) (ap (λ vs. get_or vs i no_placed_vertex) e ∙ get_or-drop number vertices i no_placed_vertex) (are i searched at)

  -- What is found of the vertex of a number.
  pub found_here : (first number place : ℕ) (found : List (Option Searched)) (taken : Option Searched) → first ≤ number → place ≡ number - first → taken ≡ get_or found place None
      → AreFoundFrom g vertices first found → IfSome taken (IsFoundVertex g (get_or vertices number no_placed_vertex))
  found_here first number place found None le at is are = tt
  found_here first number place found (Some searched) le at is are =
      let e : first + place ≡ number = omega (arith, at, le) in
      subst (λ n. IsFoundVertex g (get_or vertices n no_placed_vertex) searched) e (are place searched (sym is))

-- What a search answers of a vertex.
pub found_at : (g : Given) (v : PlacedVertex) (graphs : List Digraph) (tails : List TailClaim) (wcet deadline : ℕ) → graphs ≡ graphs_at (graphs_given g) (take v.place g.order.now)
    → (searched : Searched) → IsSearchedAnswer graphs tails wcet deadline searched → IsFoundVertex g v searched
found_at g v graphs tails wcet deadline e (Passes states) is = tt
found_at g v graphs tails wcet deadline e (Misses walks) is = subst (λ gs. AllZip IsWalk gs walks) e is.each
found_at g v graphs tails wcet deadline e Spent is = tt
