use Rattle.std.proofs.Common.{◌≡◌, ℕ, ◌+◌, ◌*◌, ◌≤◌, List, [], ◌∷◌, ◌++◌, length, take, drop, sym, ap, ◌∙◌, arith, set, length-append}
use Rattle.std.specs.Prelude.{vec_capacity}
use Rattle.std.proofs.lemmas.Option.{same_Some}
use Rattle.drt_worklist.specs.Places.{first, places}
use Rattle.drt_refine.specs.Combination.{Combination, is_failed, is_failed_state, is_taken_combination}
use Rattle.drt_refine.specs.Machine.{halves}
use Rattle.drt_refine.specs.View.{FrontierView, combinations_of}
use Rattle.drt_refine.specs.declared.step.CombinationState.{CombinationState}
use Rattle.drt_refine.specs.declared.step.FrontierStep.TheVariants.{Split}
use Rattle.drt_refine.specs.declared.step.FrontierReply.TheVariants.{Halved}
use Rattle.drt_refine.proofs.Flat.{first_combinations, length_combinations, moved_by}
use Rattle.drt_refine.proofs.Halving.{Halving, halving, first_copy, second_copy, length_copy, length_now, taken_now, flat_now, halves_now}
use Rattle.drt_refine.proofs.frontier.Frontier.halve.Goals as goal

pub copy_with-requires-clause-part : goal.copy_with-requires-clause-part
copy_with-requires-clause-part c =
    let z : Halving (length c.self.inside.roots.items) c.len-width.result c.self.inside.budget c.self.inside.nodes.items c.self.inside.states.items c.args.id c.requires.held.0 =
    halving c.self.inside.roots.items c.self.inside.wcet c.self.inside.deadline c.self.inside.budget c.self.inside.nodes.items c.self.inside.states.items
    c.self.inside.log.items c.args.self.now c.self.view_is c.self.invariant.4 c.self.invariant.5
    c.args.id c.len-width.result c.requires.held.0 c.requires.held.1 c.requires.held.2 c.requires.held.3 c.requires.room (omega (arith, c.self.inside.roots.ok.0, c.len-width.ensures)) in
    z.part

pub copy_with-requires-clause-room : goal.copy_with-requires-clause-room
copy_with-requires-clause-room c =
    let w : ℕ = length c.self.inside.roots.items in
    let z : Halving w c.len-width.result c.self.inside.budget c.self.inside.nodes.items c.self.inside.states.items c.args.id c.requires.held.0 =
    halving c.self.inside.roots.items c.self.inside.wcet c.self.inside.deadline c.self.inside.budget c.self.inside.nodes.items c.self.inside.states.items
    c.self.inside.log.items c.args.self.now c.self.view_is c.self.invariant.4 c.self.invariant.5
    c.args.id c.len-width.result c.requires.held.0 c.requires.held.1 c.requires.held.2 c.requires.held.3 c.requires.room (omega (arith, c.self.inside.roots.ok.0, c.len-width.ensures)) in
    let wd : length c.self.inside.nodes.items + (w + w) ≤ (c.self.inside.budget + 1) * w = z.room.wide in
    let c0 : (c.self.inside.budget + 1) * w ≤ vec_capacity c.self.inside.nodes = c.self.invariant.7 in
    let we : c.len-width.result ≡ w = z.same in
    omega arith

pub copy_with-requires-2-clause-part : goal.copy_with-requires-2-clause-part
copy_with-requires-2-clause-part c =
    let z : Halving (length c.self.inside.roots.items) c.len-width.result c.self.inside.budget c.self.inside.nodes.items c.self.inside.states.items c.args.id c.requires.held.0 =
    halving c.self.inside.roots.items c.self.inside.wcet c.self.inside.deadline c.self.inside.budget c.self.inside.nodes.items c.self.inside.states.items
    c.self.inside.log.items c.args.self.now c.self.view_is c.self.invariant.4 c.self.invariant.5
    c.args.id c.len-width.result c.requires.held.0 c.requires.held.1 c.requires.held.2 c.requires.held.3 c.requires.room (omega (arith, c.self.inside.roots.ok.0, c.len-width.ensures)) in
    let l1 : length c.copy_with.new.items.items ≡ length c.self.inside.nodes.items + length
    (set (take c.len-width.result (drop (c.args.id * c.len-width.result) c.self.inside.nodes.items)) c.args.place c.args.left) = ap length c.copy_with.ensures.items
    ∙ length-append c.self.inside.nodes.items _ in
    let p : c.args.id * c.len-width.result + c.len-width.result ≤ length c.self.inside.nodes.items = z.part in
    omega arith

pub copy_with-requires-2-clause-room : goal.copy_with-requires-2-clause-room
copy_with-requires-2-clause-room c =
    let w : ℕ = length c.self.inside.roots.items in
    let z : Halving w c.len-width.result c.self.inside.budget c.self.inside.nodes.items c.self.inside.states.items c.args.id c.requires.held.0 =
    halving c.self.inside.roots.items c.self.inside.wcet c.self.inside.deadline c.self.inside.budget c.self.inside.nodes.items c.self.inside.states.items
    c.self.inside.log.items c.args.self.now c.self.view_is c.self.invariant.4 c.self.invariant.5
    c.args.id c.len-width.result c.requires.held.0 c.requires.held.1 c.requires.held.2 c.requires.held.3 c.requires.room (omega (arith, c.self.inside.roots.ok.0, c.len-width.ensures)) in
    let a : List ℕ = set (take c.len-width.result (drop (c.args.id * c.len-width.result) c.self.inside.nodes.items)) c.args.place c.args.left in
    let la : length a ≡ w = ap length
    (first_copy w c.len-width.result c.self.inside.budget c.self.inside.nodes.items c.self.inside.states.items c.args.id c.requires.held.0 z c.args.place c.args.left)
    ∙ length_copy w c.len-width.result c.self.inside.budget c.self.inside.nodes.items c.self.inside.states.items c.args.id c.requires.held.0 z c.args.place c.args.left in
    let l1 : length c.copy_with.new.items.items ≡ length c.self.inside.nodes.items + length a = ap length c.copy_with.ensures.items ∙ length-append c.self.inside.nodes.items a in
    let c1 : vec_capacity c.self.inside.nodes ≤ vec_capacity c.copy_with.new.items = c.copy_with.ensures.capacity in
    let c0 : (c.self.inside.budget + 1) * w ≤ vec_capacity c.self.inside.nodes = c.self.invariant.7 in
    let wd : length c.self.inside.nodes.items + (w + w) ≤ (c.self.inside.budget + 1) * w = z.room.wide in
    let we : c.len-width.result ≡ w = z.same in
    omega arith

pub split-left-requires-clause-taken : goal.split-left-requires-clause-taken
split-left-requires-clause-taken c =
    let z : Halving (length c.self.inside.roots.items) c.len-width.result c.self.inside.budget c.self.inside.nodes.items c.self.inside.states.items c.args.id c.requires.held.0 =
    halving c.self.inside.roots.items c.self.inside.wcet c.self.inside.deadline c.self.inside.budget c.self.inside.nodes.items c.self.inside.states.items
    c.self.inside.log.items c.args.self.now c.self.view_is c.self.invariant.4 c.self.invariant.5
    c.args.id c.len-width.result c.requires.held.0 c.requires.held.1 c.requires.held.2 c.requires.held.3 c.requires.room (omega (arith, c.self.inside.roots.ok.0, c.len-width.ensures)) in
    (c.requires.held.0.state, z.state, z.taken)

pub split-left-requires-clause-none : goal.split-left-requires-clause-none
split-left-requires-clause-none c =
    first_combinations is_failed_state (length c.self.inside.roots.items) c.self.inside.nodes.items c.self.inside.states.items
    ∙ (ap (λ (v : FrontierView). first is_failed v.combinations) c.self.view_is ∙ c.requires.none)

pub split-left-requires-clause-room : goal.split-left-requires-clause-room
split-left-requires-clause-room c =
    let z : Halving (length c.self.inside.roots.items) c.len-width.result c.self.inside.budget c.self.inside.nodes.items c.self.inside.states.items c.args.id c.requires.held.0 =
    halving c.self.inside.roots.items c.self.inside.wcet c.self.inside.deadline c.self.inside.budget c.self.inside.nodes.items c.self.inside.states.items
    c.self.inside.log.items c.args.self.now c.self.view_is c.self.invariant.4 c.self.invariant.5
    c.args.id c.len-width.result c.requires.held.0 c.requires.held.1 c.requires.held.2 c.requires.held.3 c.requires.room (omega (arith, c.self.inside.roots.ok.0, c.len-width.ensures)) in
    let few : length c.self.inside.states.items + 2 ≤ c.self.inside.budget + 1 = z.room.few in
    omega (arith, c.self.invariant.6)

pub invariant_of-self : goal.invariant_of-self
invariant_of-self c =
    let w : ℕ = length c.self.inside.roots.items in
    let width : ℕ = c.len-width.result in
    let budget : ℕ = c.self.inside.budget in
    let nodes : List ℕ = c.self.inside.nodes.items in
    let states : List CombinationState = c.self.inside.states.items in
    let id : ℕ = c.args.id in
    let x : Combination = c.requires.held.0 in
    let z : Halving w width budget nodes states id x =
    halving c.self.inside.roots.items c.self.inside.wcet c.self.inside.deadline budget nodes states c.self.inside.log.items c.args.self.now c.self.view_is c.self.invariant.4 c.self.invariant.5
    id width x c.requires.held.1 c.requires.held.2 c.requires.held.3 c.requires.room (omega (arith, c.self.inside.roots.ok.0, c.len-width.ensures)) in
    let hl : length c.self.inside.log.items ≡ length c.args.self.now.log = ap (λ (v : FrontierView). length v.log) c.self.view_is in
    let hb : budget ≡ c.args.self.now.budget = ap (λ (v : FrontierView). v.budget) c.self.view_is in
    let a : List ℕ = set (take width (drop (id * width) nodes)) c.args.place c.args.left in
    let pa : a ≡ set x.nodes c.args.place c.args.left = first_copy w width budget nodes states id x z c.args.place c.args.left in
    let la : length a ≡ w = ap length pa ∙ length_copy w width budget nodes states id x z c.args.place c.args.left in
    let b : List ℕ = set (take width (drop (id * width) c.copy_with.new.items.items)) c.args.place c.args.right in
    let pb : b ≡ set x.nodes c.args.place c.args.right = ap (λ xs. set (take width (drop (id * width) xs)) c.args.place c.args.right) c.copy_with.ensures.items
    ∙ second_copy w width budget nodes states id x z c.args.place a c.args.right in
    let lb : length b ≡ w = ap length pb ∙ length_copy w width budget nodes states id x z c.args.place c.args.right in
    let l1 : length c.copy_with.new.items.items ≡ length nodes + length a = ap length c.copy_with.ensures.items ∙ length-append nodes a in
    let l2 : length c.copy_with-2.new.items.items ≡ length c.copy_with.new.items.items + length b = ap length c.copy_with-2.ensures.items ∙ length-append c.copy_with.new.items.items b in
    let n : length c.split-left.new.self.items ≡ length states + 2 = length_now w width budget nodes states id x z c.args.place c.split-left.new.self.items c.split-left.ensures.items in
    let t : length (places is_taken_combination c.split-left.new.self.items) + 1 ≡ length (places is_taken_combination states) = taken_now w width budget nodes states id
    x z c.args.place c.split-left.new.self.items c.split-left.ensures.items in
    let m : length c.push_within.new.items.items ≡ length c.self.inside.log.items + 1 = ap length c.push_within.ensures.items ∙ length-append c.self.inside.log.items (_ ∷ []) in (
      c.self.invariant.0,
      c.self.invariant.1,
      c.self.invariant.2,
      omega (arith, c.requires.room),
      flat_now w width budget nodes states id x z c.args.place c.split-left.new.self.items c.split-left.ensures.items c.copy_with-2.new.items.items (omega arith),
      omega (arith, c.self.invariant.5),
      omega (arith, c.self.invariant.6, c.split-left.ensures.room),
      omega (arith, c.self.invariant.7, c.copy_with.ensures.capacity, c.copy_with-2.ensures.capacity),
      omega (arith, c.self.invariant.8, c.push_within.ensures.capacity),
    )

pub returns-clause-new : goal.returns-clause-new
returns-clause-new c y h =
    let w : ℕ = length c.self.inside.roots.items in
    let width : ℕ = c.len-width.result in
    let budget : ℕ = c.self.inside.budget in
    let nodes : List ℕ = c.self.inside.nodes.items in
    let states : List CombinationState = c.self.inside.states.items in
    let id : ℕ = c.args.id in
    let x : Combination = c.requires.held.0 in
    let z : Halving w width budget nodes states id x =
    halving c.self.inside.roots.items c.self.inside.wcet c.self.inside.deadline budget nodes states c.self.inside.log.items c.args.self.now c.self.view_is c.self.invariant.4 c.self.invariant.5
    id width x c.requires.held.1 c.requires.held.2 c.requires.held.3 c.requires.room (omega (arith, c.self.inside.roots.ok.0, c.len-width.ensures)) in
    let a : List ℕ = set (take width (drop (id * width) nodes)) c.args.place c.args.left in
    let pa : a ≡ set x.nodes c.args.place c.args.left = first_copy w width budget nodes states id x z c.args.place c.args.left in
    let b : List ℕ = set (take width (drop (id * width) c.copy_with.new.items.items)) c.args.place c.args.right in
    let pb : b ≡ set x.nodes c.args.place c.args.right = ap (λ xs. set (take width (drop (id * width) xs)) c.args.place c.args.right) c.copy_with.ensures.items
    ∙ second_copy w width budget nodes states id x z c.args.place a c.args.right in
    let all : c.copy_with-2.new.items.items ≡ (nodes ++ a) ++ b = c.copy_with-2.ensures.items ∙ ap (λ l. l ++ b) c.copy_with.ensures.items in
    let same : x ≡ y = same_Some x y (sym c.requires.held.1 ∙ h) in
    moved_by c.self.inside.roots.items c.self.inside.wcet c.self.inside.deadline budget (combinations_of w nodes states) c.self.inside.log.items c.args.self.now c.self.view_is
    (λ cs. halves cs id c.args.place (set y.nodes c.args.place c.args.left) (set y.nodes c.args.place c.args.right))
    (record { worker = c.args.worker; step = Split id c.args.place }) (combinations_of w c.copy_with-2.new.items.items c.split-left.new.self.items) c.push_within.new.items.items
    (halves_now w width budget nodes states id x z c.args.place c.split-left.new.self.items c.split-left.ensures.items a b c.copy_with-2.new.items.items c.args.left c.args.right pa pb all
    ∙ ap (λ (u : Combination). halves (combinations_of w nodes states) id c.args.place (set u.nodes c.args.place c.args.left) (set u.nodes c.args.place c.args.right)) same) c.push_within.ensures.items

pub returns-clause-reply : goal.returns-clause-reply
returns-clause-reply c =
    let n : length c.self.inside.states.items ≡ length c.args.self.now.combinations = sym
    (length_combinations (length c.self.inside.roots.items) c.self.inside.nodes.items c.self.inside.states.items) ∙ ap (λ (v : FrontierView). length v.combinations) c.self.view_is in
    ap (λ k. Halved k c.split-left.result.1) (c.split-left.ensures.left ∙ n) ∙ ap (λ k. Halved (length c.args.self.now.combinations) k) (c.split-left.ensures.right ∙ ap (λ k. k + 1) n)
