-- Where the response times are undecided, the budget that was spent is below what may be needed, so it isn't enough.
use Rattle.std.proofs.Common.{ℕ, ◌*◌, ◌<◌, List, arith}
use Rattle.drt_model.specs.Contents.{Contents}
use Rattle.drt_refine.specs.Below.{tuples}
use Rattle.drt_tree.specs.Tree.{Plain}
use Rattle.drt_response.specs.Laws.{ResponseBudgetsSuffice}
use Rattle.drt_response.specs.declared.answer.ResponseTrail.TheVariants.{Fixed, Search}
use Rattle.drt_sp.specs.Answers.{IsVertexReached}
use Rattle.drt_sp.specs.Laws.{BudgetsSuffice}
use Rattle.drt_sp.specs.Needs.{IsBelowRefinement}
use Rattle.drt_sp.proofs.Enough.{tuples_few}

-- A search at a vertex ends after fewer steps than two for each tuple of leaves, so a budget that it spent is below what may be needed.
pub response_below : (set : Contents) (budget : ℕ) (order : List ℕ) (f : Plain) (roots : List ℕ) (k v : ℕ) → IsVertexReached set order f roots k v → budget < 2 * tuples f roots
    → IsBelowRefinement set.tasks budget k
response_below set budget order f roots k v is less counts walks =
    omega (arith, less, tuples_few set.tasks order is.posed.order_is f roots is.few k is.posed.subject.at counts walks)

-- A budget that is enough isn't spent: not in the analysis, and not in a search.
pub responses_suffice : BudgetsSuffice → ResponseBudgetsSuffice
responses_suffice law set budget (Fixed trail) limits is enough = law set budget trail limits is enough
responses_suffice law set budget (Search k v taken) limits (schedulable, is) enough =
    let less = is.short enough.counts enough.walks in
    absurd (omega (arith, less, enough.refinements k is.reached.task))
