use Rattle.std.proofs.Common.{◌≡◌, Some, None, sym, ◌∙◌, refl}
use Rattle.std.proofs.lemmas.Option.{slice_get_within}
use Rattle.drt_worklist.specs.Places.{first}
use Rattle.drt_worklist.proofs.Lists.{Found, found}
use Rattle.drt_refine.specs.Combination.{is_combination_taken}
use Rattle.drt_refine.specs.Drive.{Settles}
use Rattle.drt_refine.specs.View.{setting_of, state_of}
use Rattle.drt_refine.specs.declared.step.FrontierStep.TheVariants.{Take}
use Rattle.drt_refine.proofs.Settling.{settle_can, settle_eager, settle_turn, settle_driven, take_can, take_eager}
use Rattle.drt_refine.proofs.Driving.{turn_of}
use Rattle.drt_refine.proofs.frontier.Frontier.turn.Goals as goal

pub apply-requires-clause-can : goal.apply-requires-clause-can
apply-requires-clause-can c = take_can (setting_of c.args.forest.now c.args.self.now) (state_of c.args.self.now) c.args.worker (sym c.first_taken.ensures.value ∙ c.in-None.is)

pub choose_step-step-requires-clause-within : goal.choose_step-step-requires-clause-within
choose_step-step-requires-clause-within c =
    let f : Found is_combination_taken c.args.self.now.combinations c.in-Some.id = found is_combination_taken c.args.self.now.combinations c.in-Some.id
    (sym c.first_taken.ensures.value ∙ c.in-Some.is) in
    slice_get_within c.args.self.now.combinations c.in-Some.id f.item f.at

pub apply-requires-in-Some-clause-can : goal.apply-requires-in-Some-clause-can
apply-requires-in-Some-clause-can c =
    let f : Found is_combination_taken c.args.self.now.combinations c.in-Some.id = found is_combination_taken c.args.self.now.combinations c.in-Some.id
    (sym c.first_taken.ensures.value ∙ c.in-Some.is) in
    settle_can (setting_of c.args.forest.now c.args.self.now) (state_of c.args.self.now) c.holder-holder.result c.in-Some.id f.item f.at
    (c.holder-holder.ensures f.item f.at) c.choose_step-step.result (c.choose_step-step.ensures f.item f.at)

pub returns-in-None-clause-turn : goal.returns-in-None-clause-turn
returns-in-None-clause-turn c =
    let none : first is_combination_taken c.args.self.now.combinations ≡ None = sym c.first_taken.ensures.value ∙ c.in-None.is in
    turn_of c.args.forest.now c.args.worker c.args.self.now c.args.worker Take c.apply.new.self c.apply.result c.first_taken.ensures.within
    (take_can (setting_of c.args.forest.now c.args.self.now) (state_of c.args.self.now) c.args.worker none)
    (take_eager (setting_of c.args.forest.now c.args.self.now) (state_of c.args.self.now) c.args.worker) (λ e. (refl, none)) none c.apply.ensures.step

pub returns-in-Some-clause-turn : goal.returns-in-Some-clause-turn
returns-in-Some-clause-turn c =
    let h : first is_combination_taken c.args.self.now.combinations ≡ Some c.in-Some.id = sym c.first_taken.ensures.value ∙ c.in-Some.is in
    let f : Found is_combination_taken c.args.self.now.combinations c.in-Some.id = found is_combination_taken c.args.self.now.combinations c.in-Some.id h in
    let held = c.holder-holder.ensures f.item f.at in
    let s : Settles (setting_of c.args.forest.now c.args.self.now) c.in-Some.id f.item c.choose_step-step.result = c.choose_step-step.ensures f.item f.at in
    turn_of c.args.forest.now c.args.worker c.args.self.now c.holder-holder.result c.choose_step-step.result c.apply-in-Some.new.self c.apply-in-Some.result c.first_taken.ensures.within
    (settle_can (setting_of c.args.forest.now c.args.self.now) (state_of c.args.self.now) c.holder-holder.result c.in-Some.id f.item f.at held c.choose_step-step.result s)
    (settle_eager (setting_of c.args.forest.now c.args.self.now) (state_of c.args.self.now) c.holder-holder.result c.in-Some.id f.item f.at held c.choose_step-step.result s)
    (settle_driven (setting_of c.args.forest.now c.args.self.now) (state_of c.args.self.now) c.args.worker c.holder-holder.result c.in-Some.id f.item c.choose_step-step.result s)
    (settle_turn (setting_of c.args.forest.now c.args.self.now) (state_of c.args.self.now) c.in-Some.id f.item h c.choose_step-step.result s) c.apply-in-Some.ensures.step
