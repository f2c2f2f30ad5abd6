-- Potentials that allow each edge fit each separation, and the other way.
use Rattle.std.proofs.Common.{ℕ, List}
use Rattle.std.specs.Prelude.{ℤ}
use Rattle.drt_model.specs.Digraph.{Digraph, IsSoundGraph, edge_of}
use Rattle.drt_graph.specs.RatioRules.{FitPotentials}
use Rattle.drt_graph.proofs.Edges.{sep_of_edge, edge_of_sep, source_of}
use Rattle.drt_graph.specs.Fits.{AllowAll}

pub allow_fits : (g : Digraph) (a b : ℕ) (hs : List ℤ) → IsSoundGraph g → AllowAll g a b hs → FitPotentials g a b hs
allow_fits g a b hs sound all u v p edge =
    let k = edge_of_sep g u v p edge in
    rw (k.2, k.3) at (all u k.0 (source_of g sound u v p edge) k.1)

pub fits_allow : (g : Digraph) (a b : ℕ) (hs : List ℤ) → IsSoundGraph g → FitPotentials g a b hs → AllowAll g a b hs
fits_allow g a b hs sound fits u k l m = fits u (edge_of g u k).to (edge_of g u k).sep (sep_of_edge g sound u k l m)
