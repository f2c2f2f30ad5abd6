-- The fronts of the tasks, one after another.
use Rattle.std.proofs.Common.{ℕ, List, [], ◌∷◌, ◌++◌}
use Rattle.drt_model.specs.Digraph.{Digraph}
use Rattle.drt_graph.specs.declared.front.FrontEntry.{FrontEntry}
use Rattle.drt_rates.specs.Demands.{IsFront, AreFronts}

-- One more front.
pub fronts_push : (bound : ℕ) (graphs : List Digraph) (fronts : List (List FrontEntry)) (g : Digraph) (f : List FrontEntry) → AreFronts bound graphs fronts → IsFront g bound f
    → AreFronts bound (graphs ++ g ∷ []) (fronts ++ f ∷ [])
fronts_push bound [] [] g f are is = (is, tt)
fronts_push bound [] (e ∷ fronts) g f are is = absurd are
fronts_push bound (h ∷ graphs) [] g f are is = absurd are
fronts_push bound (h ∷ graphs) (e ∷ fronts) g f are is = (are.0, fronts_push bound graphs fronts g f are.1 is)
