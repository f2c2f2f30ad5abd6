-- The tails of some graphs.
use Rattle.std.specs.Prelude.{ℕ, List}
use Rattle.std.specs.List.{AllZip}
use Rattle.drt_model.specs.Digraph.{Digraph}
use Rattle.drt_states.specs.declared.claims.TailClaim.{TailClaim}
use Rattle.drt_states.specs.Tails.{BoundsWalks, IsTail}

-- There is a tail for each graph, which bounds what its walks ask for up to the bound.
pub record AreTails (bound : ℕ) (graphs : List Digraph) (tails : List TailClaim) : Type 0 where
  pub rising : AllZip (IsTail bound) graphs tails
  pub bounding : AllZip (BoundsWalks bound) graphs tails
