use Rattle.std.proofs.Common.{◌≡◌, ℕ, ◌<◌, Some, List, length, refl, sym, ap, ◌∙◌, subst, arith}
use Rattle.std.specs.Prelude.{slice_get}
use Rattle.drt_steps.specs.Time.{AreChosen, Passes}
use Rattle.drt_tree.specs.Tree.{Plain}
use Rattle.drt_worklist.proofs.Lists.{get_within}
use Rattle.drt_refine.specs.Combination.{Combination}
use Rattle.drt_refine.specs.Eager.{IsSplitPlace}
use Rattle.drt_refine.specs.Facts.{Facts}
use Rattle.drt_refine.specs.Machine.{NonePasses}
use Rattle.drt_refine.specs.View.{FrontierView, setting_of, IsFrontier}
use Rattle.drt_refine.proofs.Below.{chosen_nodes}
use Rattle.drt_refine.proofs.Making.{frontier_facts}
use Rattle.drt_refine.proofs.Settling.{some_if}
use Rattle.drt_refine.proofs.frontier.Frontier.choose_step.Goals as goal

-- the nodes of a combination, which were read
record IsRead (f : Plain) (v : FrontierView) (nodes : List ℕ) : Type 0 where
  chosen : AreChosen v.deadline f.pool nodes
  wide : length nodes ≡ length v.roots

read : (f : Plain) (v : FrontierView) (id : ℕ) (nodes : List ℕ) → IsFrontier f v → id < length v.combinations
    → ((x : Combination) → slice_get v.combinations id ≡ Some x → nodes ≡ x.nodes) → IsRead f v nodes
read f v id nodes front lt are =
    let x : (x : Combination) × (slice_get v.combinations id ≡ Some x) = get_within v.combinations id lt in
    let facts : Facts (setting_of f v) v.combinations = frontier_facts f v front in
    record {
      chosen = subst (λ (l : List ℕ). AreChosen v.deadline f.pool l) (sym (are x.0 x.1)) (facts.nodes id x.0 x.1).0;
      wide = ap length (are x.0 x.1) ∙ (facts.nodes id x.0 x.1).1;
    }

pub least_time-requires-clause-chosen : goal.least_time-requires-clause-chosen
least_time-requires-clause-chosen c =
    let r : IsRead c.args.forest.now c.args.self.now c.combination-nodes.result.now = read c.args.forest.now c.args.self.now c.args.id c.combination-nodes.result.now
    c.requires.frontier c.requires.within (λ x at. some_if (slice_get c.args.self.now.combinations c.args.id) _ x c.combination-nodes.ensures at) in
    subst (λ (d : ℕ). AreChosen d c.all.result.now c.combination-nodes.result.now) (sym (ap (λ (v : FrontierView). v.deadline) c.self.view_is))
    (subst (λ (p : List (List ℕ)). AreChosen c.args.self.now.deadline p c.combination-nodes.result.now) (sym c.all.ensures.value) r.chosen)

pub least_time-requires-clause-few : goal.least_time-requires-clause-few
least_time-requires-clause-few c =
    let r : IsRead c.args.forest.now c.args.self.now c.combination-nodes.result.now = read c.args.forest.now c.args.self.now c.args.id c.combination-nodes.result.now
    c.requires.frontier c.requires.within (λ x at. some_if (slice_get c.args.self.now.combinations c.args.id) _ x c.combination-nodes.ensures at) in
    let w : length c.self.inside.roots.items ≡ length c.args.self.now.roots = ap (λ (v : FrontierView). length v.roots) c.self.view_is in
    let e : length c.combination-nodes.result.now ≡ length c.args.self.now.roots = r.wide in
    omega (arith, c.self.invariant.0)

pub choose_place-requires-clause-nodes : goal.choose_place-requires-clause-nodes
choose_place-requires-clause-nodes c =
    let r : IsRead c.args.forest.now c.args.self.now c.combination-nodes.result.now = read c.args.forest.now c.args.self.now c.args.id c.combination-nodes.result.now
    c.requires.frontier c.requires.within (λ x at. some_if (slice_get c.args.self.now.combinations c.args.id) _ x c.combination-nodes.ensures at) in
    chosen_nodes c.args.forest.now c.requires.frontier.forest c.args.self.now.deadline c.combination-nodes.result.now r.chosen

pub choose_place-requires-clause-few : goal.choose_place-requires-clause-few
choose_place-requires-clause-few c =
    let r : IsRead c.args.forest.now c.args.self.now c.combination-nodes.result.now = read c.args.forest.now c.args.self.now c.args.id c.combination-nodes.result.now
    c.requires.frontier c.requires.within (λ x at. some_if (slice_get c.args.self.now.combinations c.args.id) _ x c.combination-nodes.ensures at) in
    let w : length c.self.inside.roots.items ≡ length c.args.self.now.roots = ap (λ (v : FrontierView). length v.roots) c.self.view_is in
    let e : length c.combination-nodes.result.now ≡ length c.args.self.now.roots = r.wide in
    omega (arith, c.self.invariant.0)

pub returns-in-Some-choose_place : goal.returns-in-Some-choose_place
returns-in-Some-choose_place c x at =
    let same : c.combination-nodes.result.now ≡ x.nodes = some_if (slice_get c.args.self.now.combinations c.args.id) _ x c.combination-nodes.ensures at in
    let place : IsSplitPlace c.args.forest.now c.combination-nodes.result.now (Some c.in-Some-choose_place.place) = subst
    (λ o. IsSplitPlace c.args.forest.now c.combination-nodes.result.now o) c.in-Some-choose_place.is c.choose_place.ensures in
    let none : NonePasses (setting_of c.args.forest.now c.args.self.now) c.combination-nodes.result.now =
    λ time p. c.in-None.ensures time
    (subst (λ (v : FrontierView). Passes v.wcet v.deadline c.all.result.now c.combination-nodes.result.now time) (sym c.self.view_is)
    (subst (λ (pool : List (List ℕ)). Passes c.args.self.now.wcet c.args.self.now.deadline pool c.combination-nodes.result.now time) (sym c.all.ensures.value) p)) in
    subst (λ (l : List ℕ). (c.args.id ≡ c.args.id) × NonePasses (setting_of c.args.forest.now c.args.self.now) l
    × IsSplitPlace c.args.forest.now l (Some c.in-Some-choose_place.place)) same (refl, none, place)
