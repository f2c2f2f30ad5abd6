use Rattle.std.proofs.Common.{List, ap, subst, arith}
use Rattle.std.specs.Prelude.{◌↔◌, All, IfOk, IsTrue}
use Rattle.drt_model.specs.declared.tasks.Task.{Task}
use Rattle.drt_states.specs.Tails.{BoundsWalks, IsTail}
use Rattle.drt_states.specs.declared.claims.SearchClaim.{SearchClaim}
use Rattle.drt_states.specs.declared.claims.TailClaim.{TailClaim}
use Rattle.drt_claims.specs.Kinds.{tails_of}
use Rattle.drt_claims.specs.Searches.{HasDominatedChildren, HasPassingStates, HasStatesOver}
use Rattle.drt_claims.specs.Sorting.{by_priority}
use Rattle.drt_claims.specs.Statement.{Statement}
use Rattle.drt_claims.specs.declared.rule.Rule.TheVariants.{BoundingTails, DominatedChildren, RisingTails, SearchStates}
use Rattle.drt_check.specs.Deciding.{IsNextRule}
use Rattle.drt_check.proofs.Rows.{decides}
use Rattle.drt_check.proofs.Sorted.{OfSearches, OfTails, decides_sorted, of_sorted}
use Rattle.drt_check.proofs.rules.keeps_of_states.Goals as goal

pub returns-in-RisingTails : goal.returns-in-RisingTails
returns-in-RisingTails c =
    let d = c.args.dossier.now in
    let set = ap (λ (s : Statement). s.set) c.dossier.view_is in
    let found = rw (set, c.tails_of-tails.ensures) at c.has_rising_tails.ensures in
    decides d c.args.rule RisingTails c.has_rising_tails.result c.in-RisingTails.is
    (decides_sorted d (OfTails d IsTail) c.requires.distinct c.has_rising_tails.result found)

pub returns-in-BoundingTails : goal.returns-in-BoundingTails
returns-in-BoundingTails c =
    let d = c.args.dossier.now in
    let set = ap (λ (s : Statement). s.set) c.dossier.view_is in
    let found = rw (set, c.tails_of-tails.ensures) at c.bound_walks.ensures in
    decides d c.args.rule BoundingTails c.bound_walks.result c.in-BoundingTails.is
    (decides_sorted d (OfTails d BoundsWalks) c.requires.distinct c.bound_walks.result found)

pub bound_walks-requires-clause-tails : goal.bound_walks-requires-clause-tails
bound_walks-requires-clause-tails c =
    let next = subst (λ r. IsNextRule c.args.dossier.now r) c.in-BoundingTails.is c.requires.next in
    let set = ap (λ (s : Statement). s.set) c.dossier.view_is in
    rw (set, c.tails_of-tails.ensures) (of_sorted c.args.dossier.now (OfTails c.args.dossier.now IsTail) (next.before RisingTails next.applies (omega arith)))

pub returns-in-SearchStates : goal.returns-in-SearchStates
returns-in-SearchStates c =
    let d = c.args.dossier.now in
    let set = ap (λ (s : Statement). s.set) c.dossier.view_is in
    let found = rw (set, c.searches_of-searches.ensures) at c.have_states.ensures in
    decides d c.args.rule SearchStates c.have_states.result c.in-SearchStates.is
    (decides_sorted d (OfSearches d HasStatesOver) c.requires.distinct c.have_states.result found)

pub have_passing_states-requires : goal.have_passing_states-requires
have_passing_states-requires c =
    let next = subst (λ r. IsNextRule c.args.dossier.now r) c.in-PassingStates.is c.requires.next in
    let set = ap (λ (s : Statement). s.set) c.dossier.view_is in
    record { tails = rw (set, c.tails_of-tails.ensures) (of_sorted c.args.dossier.now (OfTails c.args.dossier.now IsTail) (next.before RisingTails next.applies (omega arith))) }

pub returns-in-PassingStates : goal.returns-in-PassingStates
returns-in-PassingStates c =
    let d = c.args.dossier.now in
    let tasks = ap (λ (s : Statement). s.set.tasks) c.dossier.view_is in
    let Decides : List Task → List TailClaim → List SearchClaim → Type 0
    = λ ts xs ys. IfOk c.have_passing_states.result (λ b. IsTrue b ↔ All (HasPassingStates ts xs) ys) in
    let one = subst (λ ts. Decides ts c.tails_of-tails.result.now c.searches_of-searches.result.now) tasks c.have_passing_states.ensures in
    let two = subst (λ xs. Decides d.set.tasks xs c.searches_of-searches.result.now) c.tails_of-tails.ensures one in
    rw c.in-PassingStates.is (subst (λ ys. Decides d.set.tasks (tails_of d.evidence) ys) c.searches_of-searches.ensures two)

pub have_dominated_splits-requires-clause-states : goal.have_dominated_splits-requires-clause-states
have_dominated_splits-requires-clause-states c =
    let next = subst (λ r. IsNextRule c.args.dossier.now r) c.in-DominatedChildren.is c.requires.next in
    let set = ap (λ (s : Statement). s.set) c.dossier.view_is in
    rw (set, c.searches_of-searches.ensures) (of_sorted c.args.dossier.now (OfSearches c.args.dossier.now HasStatesOver) (next.before SearchStates next.applies (omega arith)))

pub returns-in-DominatedChildren : goal.returns-in-DominatedChildren
returns-in-DominatedChildren c =
    let d = c.args.dossier.now in
    let tasks = ap (λ (s : Statement). s.set.tasks) c.dossier.view_is in
    let Decides : List Task → List SearchClaim → Type 0 = λ ts ys. IsTrue c.have_dominated_splits.result ↔ All (HasDominatedChildren ts (by_priority ts)) ys in
    let one = subst (λ ts. Decides ts c.searches_of-searches.result.now) tasks c.have_dominated_splits.ensures in
    let found = subst (λ ys. Decides d.set.tasks ys) c.searches_of-searches.ensures one in
    decides d c.args.rule DominatedChildren c.have_dominated_splits.result c.in-DominatedChildren.is
    (decides_sorted d (OfSearches d HasDominatedChildren) c.requires.distinct c.have_dominated_splits.result found)
