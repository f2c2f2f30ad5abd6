-- What was asked so far and what is left to ask are the questions before and all of the proof.
use Rattle.std.proofs.Common.{◌≡◌, [], ◌∷◌, ◌++◌, drop, reverse}
use Rattle.std.specs.Prelude.{Some}
use Rattle.drt_claims.specs.Trees.{root}
use Rattle.drt_check_proofs.specs.Passing.{passes_at}
use Rattle.drt_check_proofs.proofs.queries.add_passes.Given as goal

abbrev pub invariant-items : goal.invariant-items
invariant-items l =
    l.queries.items ++ passes_at l.tree l.i (drop l.item-index l.items) (Some (reverse l.nodes.items))
    ≡ l.initial.queries.items ++ passes_at l.tree l.i l.items (Some (root l.tree ∷ []))
