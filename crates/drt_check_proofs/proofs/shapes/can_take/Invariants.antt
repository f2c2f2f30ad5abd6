-- What is left decides.
use Rattle.std.proofs.Common.{◌≡◌, [], ◌∷◌, drop, reverse}
use Rattle.std.specs.Prelude.{Some}
use Rattle.drt_claims.specs.Trees.{root}
use Rattle.drt_check_proofs.specs.Places.{after_all_at}
use Rattle.drt_check_proofs.proofs.shapes.can_take.Given as goal

abbrev pub invariant-items : goal.invariant-items
invariant-items l = after_all_at l.tree l.i l.items (Some (root l.tree ∷ [])) ≡ after_all_at l.tree l.i (drop l.item-index l.items) (Some (reverse l.nodes.items))
