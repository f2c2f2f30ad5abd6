use Rattle.std.proofs.Common.{ap, subst, arith}
use Rattle.drt_claims.specs.Claims.{graphs_of}
use Rattle.drt_claims.specs.Fronts.{HasOpenings, IsClosedFront}
use Rattle.drt_claims.specs.Kinds.{fronts_of, ratios_of}
use Rattle.drt_claims.specs.Statement.{Statement}
use Rattle.drt_claims.specs.Trees.{CoversWalks, HasShortWalks}
use Rattle.drt_claims.specs.declared.rule.Rule.TheVariants.{LowestTerms, PotentialPerVertex, FittingPotentials, ClosedCycles, TightCycles, NearHorizon}
use Rattle.drt_claims.specs.declared.rule.Rule.TheVariants.{OrderedFronts, CoveredOpenings, CoveredExtensions, Room}
use Rattle.drt_claims.specs.declared.rule.Rule.TheVariants.{TreePerHigherTask, ShortWalks, TreeShapes, ProofShapes}
use Rattle.drt_check.specs.Deciding.{IsNextRule}
use Rattle.drt_check.proofs.Rows.{counted, decides, decides_at, decides_order, given, in_order, near}
use Rattle.drt_check.proofs.Sorted.{OfTimes, OfTrees, decides_sorted, finds_sorted, of_sorted}
use Rattle.drt_check.proofs.rules.keeps.Goals as goal
use Rattle.drt_model.specs.Each.{Each}

pub all_keep-requires-clause-counted : goal.all_keep-requires-clause-counted
all_keep-requires-clause-counted c =
    let next = subst (λ r. IsNextRule c.args.dossier.now r) c.in-PotentialPerVertex.is c.requires.next in
    rw (c.ratios_of-ratios.ensures.value, c.requires.graphs) (counted c.args.dossier.now PotentialPerVertex next next.applies (omega arith))

pub all_keep-requires-in-FittingPotentials-clause-counted : goal.all_keep-requires-in-FittingPotentials-clause-counted
all_keep-requires-in-FittingPotentials-clause-counted c =
    let next = subst (λ r. IsNextRule c.args.dossier.now r) c.in-FittingPotentials.is c.requires.next in
    rw (c.ratios_of-ratios.ensures.value, c.requires.graphs) (counted c.args.dossier.now FittingPotentials next next.applies (omega arith))

pub all_keep-requires-in-ClosedCycles-clause-counted : goal.all_keep-requires-in-ClosedCycles-clause-counted
all_keep-requires-in-ClosedCycles-clause-counted c =
    let next = subst (λ r. IsNextRule c.args.dossier.now r) c.in-ClosedCycles.is c.requires.next in
    rw (c.ratios_of-ratios.ensures.value, c.requires.graphs) (counted c.args.dossier.now ClosedCycles next next.applies (omega arith))

pub all_keep-requires-in-TightCycles-clause-counted : goal.all_keep-requires-in-TightCycles-clause-counted
all_keep-requires-in-TightCycles-clause-counted c =
    let next = subst (λ r. IsNextRule c.args.dossier.now r) c.in-TightCycles.is c.requires.next in
    rw (c.ratios_of-ratios.ensures.value, c.requires.graphs) (counted c.args.dossier.now TightCycles next next.applies (omega arith))

pub is_horizon_near-requires-clause-given : goal.is_horizon_near-requires-clause-given
is_horizon_near-requires-clause-given c =
    let next = subst (λ r. IsNextRule c.args.dossier.now r) c.in-NearHorizon.is c.requires.next in
    rw (c.ratios_of-ratios.ensures.value, c.requires.graphs) (given c.args.dossier.now NearHorizon next next.applies (omega arith))

pub near_horizon-requires-clause-given : goal.near_horizon-requires-clause-given
near_horizon-requires-clause-given c =
    let next = subst (λ r. IsNextRule c.args.dossier.now r) c.in-OrderedFronts.is c.requires.next in
    rw (c.ratios_of-ratios.ensures.value, c.requires.graphs) (given c.args.dossier.now OrderedFronts next next.applies (omega arith))

pub near_horizon-requires-clause-near : goal.near_horizon-requires-clause-near
near_horizon-requires-clause-near c =
    let next = subst (λ r. IsNextRule c.args.dossier.now r) c.in-OrderedFronts.is c.requires.next in
    rw (c.ratios_of-ratios.ensures.value, c.requires.graphs) (near c.args.dossier.now OrderedFronts next next.applies (omega arith))

pub near_horizon-requires-in-CoveredOpenings-clause-given : goal.near_horizon-requires-in-CoveredOpenings-clause-given
near_horizon-requires-in-CoveredOpenings-clause-given c =
    let next = subst (λ r. IsNextRule c.args.dossier.now r) c.in-CoveredOpenings.is c.requires.next in
    rw (c.ratios_of-ratios.ensures.value, c.requires.graphs) (given c.args.dossier.now CoveredOpenings next next.applies (omega arith))

pub near_horizon-requires-in-CoveredOpenings-clause-near : goal.near_horizon-requires-in-CoveredOpenings-clause-near
near_horizon-requires-in-CoveredOpenings-clause-near c =
    let next = subst (λ r. IsNextRule c.args.dossier.now r) c.in-CoveredOpenings.is c.requires.next in
    rw (c.ratios_of-ratios.ensures.value, c.requires.graphs) (near c.args.dossier.now CoveredOpenings next next.applies (omega arith))

pub near_horizon-requires-in-CoveredExtensions-clause-given : goal.near_horizon-requires-in-CoveredExtensions-clause-given
near_horizon-requires-in-CoveredExtensions-clause-given c =
    let next = subst (λ r. IsNextRule c.args.dossier.now r) c.in-CoveredExtensions.is c.requires.next in
    rw (c.ratios_of-ratios.ensures.value, c.requires.graphs) (given c.args.dossier.now CoveredExtensions next next.applies (omega arith))

pub near_horizon-requires-in-CoveredExtensions-clause-near : goal.near_horizon-requires-in-CoveredExtensions-clause-near
near_horizon-requires-in-CoveredExtensions-clause-near c =
    let next = subst (λ r. IsNextRule c.args.dossier.now r) c.in-CoveredExtensions.is c.requires.next in
    rw (c.ratios_of-ratios.ensures.value, c.requires.graphs) (near c.args.dossier.now CoveredExtensions next next.applies (omega arith))

pub near_horizon-requires-in-Room-clause-given : goal.near_horizon-requires-in-Room-clause-given
near_horizon-requires-in-Room-clause-given c =
    let next = subst (λ r. IsNextRule c.args.dossier.now r) c.in-Room.is c.requires.next in
    rw (c.ratios_of-ratios.ensures.value, c.requires.graphs) (given c.args.dossier.now Room next next.applies (omega arith))

pub near_horizon-requires-in-Room-clause-near : goal.near_horizon-requires-in-Room-clause-near
near_horizon-requires-in-Room-clause-near c =
    let next = subst (λ r. IsNextRule c.args.dossier.now r) c.in-Room.is c.requires.next in
    rw (c.ratios_of-ratios.ensures.value, c.requires.graphs) (near c.args.dossier.now Room next next.applies (omega arith))

pub have_openings-requires : goal.have_openings-requires
have_openings-requires c =
    let next = subst (λ r. IsNextRule c.args.dossier.now r) c.in-CoveredOpenings.is c.requires.next in
    let is = rw (c.ratios_of-ratios.ensures.value, c.requires.graphs) at c.near_horizon-in-CoveredOpenings.ensures.value in
    rw (c.fronts_of-fronts.ensures.value, c.requires.graphs) (in_order c.args.dossier.now CoveredOpenings next next.applies (omega arith) c.near_horizon-in-CoveredOpenings.result is)

pub are_closed-requires-clause-order : goal.are_closed-requires-clause-order
are_closed-requires-clause-order c =
    let next = subst (λ r. IsNextRule c.args.dossier.now r) c.in-CoveredExtensions.is c.requires.next in
    let is = rw (c.ratios_of-ratios.ensures.value, c.requires.graphs) at c.near_horizon-in-CoveredExtensions.ensures.value in
    rw (c.fronts_of-fronts.ensures.value, c.requires.graphs) (in_order c.args.dossier.now CoveredExtensions next next.applies (omega arith) c.near_horizon-in-CoveredExtensions.result is)

pub have_room-requires : goal.have_room-requires
have_room-requires c =
    let next = subst (λ r. IsNextRule c.args.dossier.now r) c.in-Room.is c.requires.next in
    let is = rw (c.ratios_of-ratios.ensures.value, c.requires.graphs) at c.near_horizon-in-Room.ensures.value in
    rw (c.fronts_of-fronts.ensures.value, c.requires.graphs) (in_order c.args.dossier.now Room next next.applies (omega arith) c.near_horizon-in-Room.result is)

pub have_short_walks-requires-clause-per_task : goal.have_short_walks-requires-clause-per_task
have_short_walks-requires-clause-per_task c =
    let next = subst (λ r. IsNextRule c.args.dossier.now r) c.in-ShortWalks.is c.requires.next in
    let set = ap (λ (s : Statement). s.set) c.dossier.view_is in
    rw (set, c.trees_of-trees.ensures.value) (next.before TreePerHigherTask next.applies (omega arith))

pub cover_walks-requires-clause-per_task : goal.cover_walks-requires-clause-per_task
cover_walks-requires-clause-per_task c =
    let next = subst (λ r. IsNextRule c.args.dossier.now r) c.in-CoveredWalks.is c.requires.next in
    let set = ap (λ (s : Statement). s.set) c.dossier.view_is in
    rw (set, c.trees_of-trees.ensures.value) (next.before TreePerHigherTask next.applies (omega arith))

pub cover_walks-requires-clause-short : goal.cover_walks-requires-clause-short
cover_walks-requires-clause-short c =
    let next = subst (λ r. IsNextRule c.args.dossier.now r) c.in-CoveredWalks.is c.requires.next in
    let set = ap (λ (s : Statement). s.set) c.dossier.view_is in
    rw (set, c.trees_of-trees.ensures.value) (of_sorted c.args.dossier.now (OfTrees c.args.dossier.now HasShortWalks) (next.before ShortWalks next.applies (omega arith)))

pub have_passing_times-requires-clause-per_task : goal.have_passing_times-requires-clause-per_task
have_passing_times-requires-clause-per_task c =
    let next = subst (λ r. IsNextRule c.args.dossier.now r) c.in-PassingTimes.is c.requires.next in
    let set = ap (λ (s : Statement). s.set) c.dossier.view_is in
    rw (set, c.trees_of-trees.ensures.value) (next.before TreePerHigherTask next.applies (omega arith))

pub have_passing_times-requires-clause-walks : goal.have_passing_times-requires-clause-walks
have_passing_times-requires-clause-walks c =
    let next = subst (λ r. IsNextRule c.args.dossier.now r) c.in-PassingTimes.is c.requires.next in
    let set = ap (λ (s : Statement). s.set) c.dossier.view_is in
    rw (set, c.trees_of-trees.ensures.value) (of_sorted c.args.dossier.now (OfTrees c.args.dossier.now HasShortWalks) (next.before ShortWalks next.applies (omega arith)))

pub have_passing_times-requires-clause-trees : goal.have_passing_times-requires-clause-trees
have_passing_times-requires-clause-trees c =
    let next = subst (λ r. IsNextRule c.args.dossier.now r) c.in-PassingTimes.is c.requires.next in
    rw c.trees_of-trees.ensures.value (next.before TreeShapes next.applies (omega arith))

pub have_passing_times-requires-clause-proofs : goal.have_passing_times-requires-clause-proofs
have_passing_times-requires-clause-proofs c =
    let next = subst (λ r. IsNextRule c.args.dossier.now r) c.in-PassingTimes.is c.requires.next in
    let set = ap (λ (s : Statement). s.set) c.dossier.view_is in
    rw (set, c.trees_of-trees.ensures.value, c.proofs_of-proofs.ensures.value) (next.before ProofShapes next.applies (omega arith))

pub returns-in-LowestTerms-clause-decided : goal.returns-in-LowestTerms-clause-decided
returns-in-LowestTerms-clause-decided c =
    decides c.args.dossier.now c.args.rule LowestTerms c.are_lowest.result c.in-LowestTerms.is (rw c.ratios_of-ratios.ensures.value at c.are_lowest.ensures)

pub returns-in-PotentialPerVertex-clause-decided : goal.returns-in-PotentialPerVertex-clause-decided
returns-in-PotentialPerVertex-clause-decided c =
    decides c.args.dossier.now c.args.rule PotentialPerVertex c.all_keep.result c.in-PotentialPerVertex.is
    (rw (c.ratios_of-ratios.ensures.value, c.requires.graphs) at c.all_keep.ensures)

pub returns-in-FittingPotentials-clause-decided : goal.returns-in-FittingPotentials-clause-decided
returns-in-FittingPotentials-clause-decided c =
    decides c.args.dossier.now c.args.rule FittingPotentials c.all_keep-in-FittingPotentials.result c.in-FittingPotentials.is
    (rw (c.ratios_of-ratios.ensures.value, c.requires.graphs) at c.all_keep-in-FittingPotentials.ensures)

pub returns-in-ClosedCycles-clause-decided : goal.returns-in-ClosedCycles-clause-decided
returns-in-ClosedCycles-clause-decided c =
    decides c.args.dossier.now c.args.rule ClosedCycles c.all_keep-in-ClosedCycles.result c.in-ClosedCycles.is
    (rw (c.ratios_of-ratios.ensures.value, c.requires.graphs) at c.all_keep-in-ClosedCycles.ensures)

pub returns-in-TightCycles-clause-decided : goal.returns-in-TightCycles-clause-decided
returns-in-TightCycles-clause-decided c =
    decides c.args.dossier.now c.args.rule TightCycles c.all_keep-in-TightCycles.result c.in-TightCycles.is
    (rw (c.ratios_of-ratios.ensures.value, c.requires.graphs) at c.all_keep-in-TightCycles.ensures)

pub returns-in-NearHorizon-clause-decided : goal.returns-in-NearHorizon-clause-decided
returns-in-NearHorizon-clause-decided c =
    decides c.args.dossier.now c.args.rule NearHorizon c.is_horizon_near.result c.in-NearHorizon.is
    (rw (c.ratios_of-ratios.ensures.value, c.requires.graphs) at c.is_horizon_near.ensures.near)

pub returns-in-OrderedFronts-clause-decided : goal.returns-in-OrderedFronts-clause-decided
returns-in-OrderedFronts-clause-decided c =
    let d = c.args.dossier.now in
    let is = rw (c.ratios_of-ratios.ensures.value, c.requires.graphs) at c.near_horizon.ensures.value in
    let order = rw (c.fronts_of-fronts.ensures.value, c.requires.graphs) at c.are_in_order.ensures in
    decides d c.args.rule OrderedFronts c.are_in_order.result c.in-OrderedFronts.is
    (decides_order (graphs_of d.set.tasks) (ratios_of d.evidence) c.near_horizon.result is (fronts_of d.evidence) c.are_in_order.result order)

pub returns-in-CoveredOpenings-clause-decided : goal.returns-in-CoveredOpenings-clause-decided
returns-in-CoveredOpenings-clause-decided c =
    let d = c.args.dossier.now in
    let is = rw (c.ratios_of-ratios.ensures.value, c.requires.graphs) at c.near_horizon-in-CoveredOpenings.ensures.value in
    let each = rw (c.fronts_of-fronts.ensures.value, c.requires.graphs) at c.have_openings.ensures in
    decides d c.args.rule CoveredOpenings c.have_openings.result c.in-CoveredOpenings.is
    (decides_at (graphs_of d.set.tasks) (ratios_of d.evidence) c.near_horizon-in-CoveredOpenings.result is
    (λ n. Each (HasOpenings n) (graphs_of d.set.tasks) (fronts_of d.evidence)) c.have_openings.result each)

pub returns-in-CoveredExtensions-clause-decided : goal.returns-in-CoveredExtensions-clause-decided
returns-in-CoveredExtensions-clause-decided c =
    let d = c.args.dossier.now in
    let is = rw (c.ratios_of-ratios.ensures.value, c.requires.graphs) at c.near_horizon-in-CoveredExtensions.ensures.value in
    let each = rw (c.fronts_of-fronts.ensures.value, c.requires.graphs) at c.are_closed.ensures in
    decides d c.args.rule CoveredExtensions c.are_closed.result c.in-CoveredExtensions.is
    (decides_at (graphs_of d.set.tasks) (ratios_of d.evidence) c.near_horizon-in-CoveredExtensions.result is
    (λ n. Each (IsClosedFront n) (graphs_of d.set.tasks) (fronts_of d.evidence)) c.are_closed.result each)

pub returns-in-ShortWalks-clause-decided : goal.returns-in-ShortWalks-clause-decided
returns-in-ShortWalks-clause-decided c =
    let d = c.args.dossier.now in
    let set = ap (λ (s : Statement). s.set) c.dossier.view_is in
    let found = rw (set, c.trees_of-trees.ensures.value) at c.have_short_walks.ensures in
    decides d c.args.rule ShortWalks c.have_short_walks.result c.in-ShortWalks.is
    (decides_sorted d (OfTrees d HasShortWalks) c.requires.known.distinct c.have_short_walks.result found)

pub returns-in-CoveredWalks-clause-decided : goal.returns-in-CoveredWalks-clause-decided
returns-in-CoveredWalks-clause-decided c =
    let d = c.args.dossier.now in
    let set = ap (λ (s : Statement). s.set) c.dossier.view_is in
    let found = rw (set, c.trees_of-trees.ensures.value) at c.cover_walks.ensures in
    rw c.in-CoveredWalks.is (finds_sorted d (OfTrees d CoversWalks) c.requires.known.distinct c.cover_walks.result found)

pub returns-in-TreeShapes-clause-decided : goal.returns-in-TreeShapes-clause-decided
returns-in-TreeShapes-clause-decided c = rw c.in-TreeShapes.is (rw c.trees_of-trees.ensures.value at c.are_trees.ensures)

pub returns-in-ProofShapes-clause-decided : goal.returns-in-ProofShapes-clause-decided
returns-in-ProofShapes-clause-decided c =
    let set = ap (λ (s : Statement). s.set) c.dossier.view_is in
    rw c.in-ProofShapes.is (rw (set, c.trees_of-trees.ensures.value, c.proofs_of-proofs.ensures.value) at c.have_shapes.ensures)

pub returns-in-PassingTimes-clause-decided : goal.returns-in-PassingTimes-clause-decided
returns-in-PassingTimes-clause-decided c =
    let d = c.args.dossier.now in
    let set = ap (λ (s : Statement). s.set) c.dossier.view_is in
    let found = rw (set, c.trees_of-trees.ensures.value, c.proofs_of-proofs.ensures.value) at c.have_passing_times.ensures in
    rw c.in-PassingTimes.is (finds_sorted d (OfTimes d) c.requires.known.distinct c.have_passing_times.result found)
