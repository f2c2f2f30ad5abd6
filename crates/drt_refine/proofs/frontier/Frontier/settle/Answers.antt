use Rattle.std.proofs.Common.{◌≡◌, ℕ, ◌+◌, ◌*◌, ◌≤◌, ◌∷◌, [], Some, ap, sym, ◌∙◌, arith, length, length-append, set, List}
use Rattle.std.specs.Prelude.{slice_get}
use Rattle.drt_worklist.specs.Places.{first, places, changed}
use Rattle.drt_worklist.proofs.Places.{places_set}
use Rattle.drt_worklist.proofs.Writes.{length_set}
use Rattle.drt_refine.specs.Combination.{Combination, with_state, is_failed, is_failed_state, is_taken_combination}
use Rattle.drt_refine.specs.View.{FrontierView, combinations_of}
use Rattle.drt_refine.specs.declared.step.CombinationState.{CombinationState}
use Rattle.drt_refine.proofs.Flat.{combination_at, first_combinations, combinations_set, moved_by}
use Rattle.drt_refine.proofs.frontier.Frontier.settle.Goals as goal

pub settle-requires-clause-taken : goal.settle-requires-clause-taken
settle-requires-clause-taken c =
    let w : ℕ = length c.self.inside.roots.items in
    let x : Combination = c.requires.held.0 in
    let at : slice_get (combinations_of w c.self.inside.nodes.items c.self.inside.states.items) c.args.id ≡ Some x = ap
    (λ (v : FrontierView). slice_get v.combinations c.args.id) c.self.view_is ∙ c.requires.held.1 in
    (x.state, (combination_at w c.self.inside.nodes.items c.self.inside.states.items c.args.id x at).state_at, c.requires.held.2)

pub settle-requires-clause-none : goal.settle-requires-clause-none
settle-requires-clause-none c =
    first_combinations is_failed_state (length c.self.inside.roots.items) c.self.inside.nodes.items c.self.inside.states.items
    ∙ (ap (λ (v : FrontierView). first is_failed v.combinations) c.self.view_is ∙ c.requires.none)

pub invariant_of-self : goal.invariant_of-self
invariant_of-self c =
    let states : List CombinationState = c.self.inside.states.items in
    let w : ℕ = length c.self.inside.roots.items in
    let hl : length c.self.inside.log.items ≡ length c.args.self.now.log = ap (λ (v : FrontierView). length v.log) c.self.view_is in
    let hb : c.self.inside.budget ≡ c.args.self.now.budget = ap (λ (v : FrontierView). v.budget) c.self.view_is in
    let ls : length c.settle.new.self.items ≡ length states = ap length c.settle.ensures.items ∙ length_set states c.args.id c.args.state in
    let pw : length c.settle.new.self.items * w ≡ length states * w = ap (λ n. n * w) ls in
    let pe : length (places is_taken_combination c.settle.new.self.items) ≡ length (places is_taken_combination (set states c.args.id c.args.state)) = ap
    (λ l. length (places is_taken_combination l)) c.settle.ensures.items in
    let pl : length (places is_taken_combination (set states c.args.id c.args.state)) ≤ length (places is_taken_combination states) + 1 = places_set is_taken_combination
    states c.args.id c.args.state in
    let m : length c.push_within.new.items.items ≡ length c.self.inside.log.items + 1 = ap length c.push_within.ensures.items ∙ length-append c.self.inside.log.items (_ ∷ []) in (
      c.self.invariant.0,
      c.self.invariant.1,
      c.self.invariant.2,
      omega (arith, c.requires.room),
      c.self.invariant.4
          ∙ sym pw,
      omega (arith, c.self.invariant.5),
      omega (arith, c.self.invariant.6, c.settle.ensures.room),
      c.self.invariant.7,
      omega
          (arith, c.self.invariant.8, c.push_within.ensures.capacity),
    )

pub returns : goal.returns
returns c =
    let states : List CombinationState = c.self.inside.states.items in
    let w : ℕ = length c.self.inside.roots.items in
    moved_by c.self.inside.roots.items c.self.inside.wcet c.self.inside.deadline c.self.inside.budget (combinations_of w c.self.inside.nodes.items states)
    c.self.inside.log.items c.args.self.now c.self.view_is
    (λ cs. changed c.args.id (with_state c.args.state) cs) (record { worker = c.args.worker; step = c.args.step })
    (combinations_of w c.self.inside.nodes.items c.settle.new.self.items) c.push_within.new.items.items
    (ap (λ l. combinations_of w c.self.inside.nodes.items l) c.settle.ensures.items ∙ combinations_set w c.self.inside.nodes.items states c.args.id c.args.state) c.push_within.ensures.items
