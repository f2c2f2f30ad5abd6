-- Tails that bound walks, over the sorted tasks. Their functions rise.
use Rattle.std.proofs.Common.{List, [], ◌∷◌}
use Rattle.std.specs.List.{All, AllByRecursion, AllZip}
use Rattle.std.proofs.lemmas.List.Elements.{All-from_recursion, All-weaker}
use Rattle.drt_model.specs.declared.tasks.Task.{Task}
use Rattle.drt_claims.specs.Searches.{places_of}
use Rattle.drt_claims.specs.Sorting.{sorted_places}
use Rattle.drt_claims.proofs.Sorting.{holds_sorted}
use Rattle.drt_states.specs.declared.claims.TailClaim.{TailClaim}
use Rattle.drt_states.specs.Tails.{BoundsWalks, EachTail, IsCurve, IsTail, Place}
use Rattle.drt_check_states.specs.Curves.{HasRisingCurves, IsRising}
use Rattle.drt_response.specs.Tails.{HaveTails}

pub tails_rising : (tasks : List Task) (tails : List TailClaim) → HaveTails tasks tails → EachTail IsTail (sorted_places tasks) tails
tails_rising tasks tails have = holds_sorted (λ ts. EachTail IsTail (places_of tasks ts) tails) tasks have.rising

pub tails_bounding : (tasks : List Task) (tails : List TailClaim) → HaveTails tasks tails → EachTail BoundsWalks (sorted_places tasks) tails
tails_bounding tasks tails have = holds_sorted (λ ts. EachTail BoundsWalks (places_of tasks ts) tails) tasks have.bounding

each_rises : (places : List Place) (tails : List TailClaim) → EachTail IsTail places tails → AllByRecursion HasRisingCurves tails
each_rises [] [] each = tt
each_rises [] (tail ∷ tails) each = absurd each
each_rises (p ∷ places) [] each = absurd each
each_rises (p ∷ places) (tail ∷ tails) each =
    (All-weaker (IsCurve p.bound) IsRising (λ jumps curve. curve.rising) tail.curves each.0.each, each_rises places tails each.1)

pub tails_rise : (tasks : List Task) (tails : List TailClaim) → HaveTails tasks tails → All HasRisingCurves tails
tails_rise tasks tails have = All-from_recursion HasRisingCurves tails (each_rises (sorted_places tasks) tails (tails_rising tasks tails have))
