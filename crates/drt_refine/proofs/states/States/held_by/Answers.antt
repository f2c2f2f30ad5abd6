use Rattle.std.proofs.Common.{◌≡◌, ℕ, ◌+◌, ◌<◌, Some, ap, sym, ◌∙◌, arith, length, List, refl}
use Rattle.std.specs.Prelude.{slice_get, slice_index_or}
use Rattle.std.proofs.lemmas.Option.{slice_get_within, slice_get_read}
use Rattle.drt_worklist.specs.Places.{first, places}
use Rattle.drt_worklist.proofs.Places.{IsPlaceOf, place_is}
use Rattle.drt_worklist.proofs.Writes.{first_among, none_among, unseen_more}
use Rattle.drt_refine.specs.Combination.{is_taken_combination, is_held_state}
use Rattle.drt_refine.specs.States.{CombinationStock}
use Rattle.drt_refine.specs.declared.step.CombinationState.{CombinationState}
use Rattle.drt_refine.proofs.Sorted.{held_taken}
use Rattle.drt_refine.proofs.states.States.held_by.Goals as goal

-- the taken number at the place that was read
at_place : (items : List CombinationState) (taken : List ℕ) (j n id : ℕ) → taken ≡ places is_taken_combination items → n ≡ length taken → j < n
    → id ≡ slice_index_or taken j id → (slice_get taken j ≡ Some id) × (id < length items)
at_place items taken j n id is e lt read =
    let there : slice_get taken j ≡ Some id = slice_get_read taken n j id e lt read in
    let p : IsPlaceOf 0 is_taken_combination items id = place_is is_taken_combination 0 items j id (ap (λ l. slice_get l j) (sym is) ∙ there) in
    let within : p.number < length items = slice_get_within items p.number p.item p.at in
    let same : id ≡ 0 + p.number = p.is in
    (there, omega arith)

pub index-requires : goal.index-requires
index-requires c =
    let here : (slice_get c.self.inside.taken.items c.loop-j.j ≡ Some c.index-id.result.now) × (c.index-id.result.now < length c.self.inside.items.items) =
    at_place c.self.inside.items.items c.self.inside.taken.items c.loop-j.j (length c.self.inside.taken.items) c.index-id.result.now c.self.invariant.0.taken_are refl
    (omega (arith, c.len-j-end.ensures, c.self.inside.taken.ok.0, c.loop-j-test.true)) c.index-id.ensures in
    omega (arith, here.1, c.self.inside.items.ok.0)

pub returns-then-is_held : goal.returns-then-is_held
returns-then-is_held c =
    let items : List CombinationState = c.self.inside.items.items in
    let taken : List ℕ = c.self.inside.taken.items in
    let id : ℕ = c.index-id.result.now in
    let here : (slice_get taken c.loop-j.j ≡ Some id) × (id < length items) =
    at_place items taken c.loop-j.j (length taken) id c.self.invariant.0.taken_are refl (omega (arith, c.len-j-end.ensures, c.self.inside.taken.ok.0, c.loop-j-test.true)) c.index-id.ensures in
    first_among is_taken_combination (is_held_state c.args.worker) (held_taken c.args.worker) items taken c.self.invariant.0.taken_are c.loop-j.j id c.index.result.now here.0
    (slice_get_read items (length items) id c.index.result.now refl here.1 c.index.ensures) (sym c.is_held.ensures ∙ c.if-is_held.true) (λ i k s lt there at. c.loop-j.invariant i k s lt there at)
    ∙ ap (λ (v : CombinationStock). first (is_held_state c.args.worker) v.items) c.self.view_is

pub loop-j-preserved : goal.loop-j-preserved
loop-j-preserved c =
    let items : List CombinationState = c.self.inside.items.items in
    let taken : List ℕ = c.self.inside.taken.items in
    let id : ℕ = c.index-id.result.now in
    let here : (slice_get taken c.loop-j.j ≡ Some id) × (id < length items) =
    at_place items taken c.loop-j.j (length taken) id c.self.invariant.0.taken_are refl (omega (arith, c.len-j-end.ensures, c.self.inside.taken.ok.0, c.loop-j-test.true)) c.index-id.ensures in
    unseen_more is_taken_combination (is_held_state c.args.worker) (held_taken c.args.worker) items taken c.self.invariant.0.taken_are c.loop-j.j id c.index.result.now here.0
    (slice_get_read items (length items) id c.index.result.now refl here.1 c.index.ensures) (sym c.is_held.ensures ∙ c.if-is_held.false) (λ i k s lt there at. c.loop-j.invariant i k s lt there at)

pub returns : goal.returns
returns c =
    none_among is_taken_combination (is_held_state c.args.worker) (held_taken c.args.worker) c.self.inside.items.items c.self.inside.taken.items c.self.invariant.0.taken_are
    (λ i k s lt there at. c.loop-j.invariant i k s (omega (arith, c.len-j-end.ensures, c.self.inside.taken.ok.0, c.loop-j-test.false, lt)) there at)
    ∙ ap (λ (v : CombinationStock). first (is_held_state c.args.worker) v.items) c.self.view_is

pub loop-j-init : goal.loop-j-init
loop-j-init c = λ i k s lt there at. absurd (omega (arith, lt))
