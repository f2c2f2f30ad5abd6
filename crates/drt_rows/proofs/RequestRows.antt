-- Request functions of worked walks.
use Rattle.std.proofs.Common.{◌≡◌, [], ◌∷◌, map, refl}
use Rattle.std.specs.Prelude.{codes}
use Rattle.drt_model.specs.Digraph.{digraph_of}
use Rattle.drt_model.specs.Walk.{sep_in, or_zero, request, requested_from}
use Rattle.drt_rows.proofs.Sets.{looped, two_vertices}

-- One vertex (2, 2) with a loop of 4, and its walk of two releases, at 0 and at 4. The second isn't counted at 4, and is at 5.
pub loop_requests : map (request (digraph_of (looped (codes "T1") 1 2 2 4)) 0 (0 ∷ [])) (0 ∷ 1 ∷ 4 ∷ 5 ∷ 9 ∷ []) ≡ 0 ∷ 2 ∷ 2 ∷ 4 ∷ 4 ∷ []
unfolding requested_from sep_in or_zero
loop_requests = refl

-- The walk a b a of the two vertices (1, 2) and (4, 6): releases at 0, 2 and 10 ask for 1, 4 and 1.
pub two_requests : map (request (digraph_of two_vertices) 0 (1 ∷ 0 ∷ [])) (0 ∷ 1 ∷ 2 ∷ 3 ∷ 10 ∷ 11 ∷ []) ≡ 0 ∷ 1 ∷ 1 ∷ 5 ∷ 5 ∷ 6 ∷ []
unfolding requested_from sep_in or_zero
two_requests = refl
