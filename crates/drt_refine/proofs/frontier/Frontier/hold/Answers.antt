use Rattle.std.proofs.Common.{◌≡◌, ℕ, ◌+◌, ◌*◌, ◌≤◌, ◌∷◌, [], ap, sym, ◌∙◌, arith, length, length-append, set, List}
use Rattle.drt_worklist.specs.Places.{first, places, changed}
use Rattle.drt_worklist.proofs.Places.{places_set}
use Rattle.drt_worklist.proofs.Writes.{length_set}
use Rattle.drt_refine.specs.Combination.{with_state, is_combination_pending, is_pending_combination, is_taken_combination}
use Rattle.drt_refine.specs.View.{FrontierView, combinations_of}
use Rattle.drt_refine.specs.declared.step.CombinationState.{CombinationState}
use Rattle.drt_refine.specs.declared.step.CombinationState.TheVariants.{Taken}
use Rattle.drt_refine.specs.declared.step.FrontierStep.TheVariants.{Take}
use Rattle.drt_refine.proofs.Flat.{first_combinations, combinations_set, moved_by}
use Rattle.drt_refine.proofs.frontier.Frontier.hold.Goals as goal

pub take-requires : goal.take-requires
take-requires c =
    first_combinations is_pending_combination (length c.self.inside.roots.items) c.self.inside.nodes.items c.self.inside.states.items
    ∙ (ap (λ (v : FrontierView). first is_combination_pending v.combinations) c.self.view_is ∙ c.requires.pending)

pub invariant_of-self : goal.invariant_of-self
invariant_of-self c =
    let states : List CombinationState = c.self.inside.states.items in
    let w : ℕ = length c.self.inside.roots.items in
    let hl : length c.self.inside.log.items ≡ length c.args.self.now.log = ap (λ (v : FrontierView). length v.log) c.self.view_is in
    let hb : c.self.inside.budget ≡ c.args.self.now.budget = ap (λ (v : FrontierView). v.budget) c.self.view_is in
    let ls : length c.take.new.self.items ≡ length states = ap length c.take.ensures.items ∙ length_set states c.args.id (Taken c.args.worker) in
    let pw : length c.take.new.self.items * w ≡ length states * w = ap (λ n. n * w) ls in
    let pe : length (places is_taken_combination c.take.new.self.items) ≡ length (places is_taken_combination (set states c.args.id (Taken c.args.worker))) = ap
    (λ l. length (places is_taken_combination l)) c.take.ensures.items in
    let pl : length (places is_taken_combination (set states c.args.id (Taken c.args.worker))) ≤ length (places is_taken_combination states) + 1 = places_set
    is_taken_combination states c.args.id (Taken c.args.worker) in
    let m : length c.push_within.new.items.items ≡ length c.self.inside.log.items + 1 = ap length c.push_within.ensures.items ∙ length-append c.self.inside.log.items (_ ∷ []) in (
      c.self.invariant.0,
      c.self.invariant.1,
      c.self.invariant.2,
      omega (arith, c.requires.room),
      c.self.invariant.4
          ∙ sym pw,
      omega (arith, c.self.invariant.5),
      omega (arith, c.self.invariant.6, c.take.ensures.room),
      c.self.invariant.7,
      omega
          (arith, c.self.invariant.8, c.push_within.ensures.capacity),
    )

pub returns : goal.returns
returns c =
    let states : List CombinationState = c.self.inside.states.items in
    let w : ℕ = length c.self.inside.roots.items in
    moved_by c.self.inside.roots.items c.self.inside.wcet c.self.inside.deadline c.self.inside.budget (combinations_of w c.self.inside.nodes.items states)
    c.self.inside.log.items c.args.self.now c.self.view_is
    (λ cs. changed c.args.id (with_state (Taken c.args.worker)) cs) (record { worker = c.args.worker; step = Take })
    (combinations_of w c.self.inside.nodes.items c.take.new.self.items) c.push_within.new.items.items
    (ap (λ l. combinations_of w c.self.inside.nodes.items l) c.take.ensures.items ∙ combinations_set w c.self.inside.nodes.items states c.args.id (Taken c.args.worker)) c.push_within.ensures.items
