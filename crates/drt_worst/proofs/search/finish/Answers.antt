use Rattle.std.proofs.Common.{rules, inl, inr, ◌≡◌, ◌≢◌, ℕ, List, [], Some, false, sym, ap, ◌∙◌, subst}
use Rattle.std.specs.Prelude.{slice_get, option_map, IfSome, IsSome}
use Rattle.std.proofs.lemmas.Option.{get_or_from_slice_get, IfSome_then}
use Rattle.drt_worst.specs.Worst.{IsWorst}
use Rattle.drt_worst.specs.Passing.{search_of_question, HasRun}
use Rattle.drt_worst.specs.Jobs.{IsHaltedOf}
use Rattle.drt_worst.specs.declared.pass.Pass.{Pass}
use Rattle.drt_worst.specs.declared.answer.Worst.TheVariants.{Spent}
use Rattle.drt_worst.proofs.Ends.{spends, each_get, IfSome_map, IsSome_map}
use Rattle.drt_worst.proofs.search.finish.Goals as goal

pub returns-in-None-clause-worst : goal.returns-in-None-clause-worst
returns-in-None-clause-worst c = c.gather.ensures c.args.budget

pub returns-in-Some-clause-worst : goal.returns-in-Some-clause-worst
returns-in-Some-clause-worst c =
    let q = c.args.word.about in
    let s = search_of_question q in
    let roots : List ℕ = q.roots.value in
    let ps : List Pass = c.args.passes.items in
    let same : c.as_slice.result.now ≡ ps = c.as_slice.ensures.value in
    let same' : c.as_slice-2.result.now ≡ ps = c.as_slice-2.ensures.value in
    let found = c.in-Some.ensures.some in
    let p : Pass = found.0 in
    let at : slice_get ps c.in-Some.place ≡ Some p = ap (λ z. slice_get z c.in-Some.place) (sym same') ∙ found.1 in
    let more : p.stack.items ≢ [] = found.2 in
    let halted = each_get (IsHaltedOf c.args.word c.args.budget) ps c.in-Some.place p c.requires.passes at in
    let at' : slice_get c.as_slice.result.now c.in-Some.place ≡ Some p = ap (λ z. slice_get z c.in-Some.place) same ∙ at in
    let well : p.failed ≡ false = each_get (λ place p. p.failed ≡ false) c.as_slice.result.now c.in-Some.place p (c.has_failed.ensures c.if-has_failed.false) at' in
    let count : p.taken.count ≡ c.args.budget = elim (halted.2 well) as (λ _. p.taken.count ≡ c.args.budget) [ inl none ↦ absurd (more none) | inr e ↦ e ] in
    let removed : c.remove-taken.result ≡ p = search (rules, get_or_from_slice_get) in
    let run : HasRun s roots p = halted.1 well in
    let worst : IfSome p.taken.told (λ v. IsWorst s roots c.args.budget (Spent v.items))
    = IfSome_then p.taken.told run.told (λ v told. spends s roots c.requires.ready c.args.budget p v.items more count run told) in
    subst (λ o. IfSome o (IsWorst s roots c.args.budget)) (sym (c.spent_on.ensures ∙ ap (λ (x : Pass). option_map (λ v. Spent v.items) x.taken.told) removed))
    (IfSome_map (λ v. Spent v.items) p.taken.told (IsWorst s roots c.args.budget) worst)

pub returns-in-Some-clause-told : goal.returns-in-Some-clause-told
returns-in-Some-clause-told c each =
    let ps : List Pass = c.args.passes.items in
    let found = c.in-Some.ensures.some in
    let p : Pass = found.0 in
    let at : slice_get ps c.in-Some.place ≡ Some p = ap (λ z. slice_get z c.in-Some.place) (sym c.as_slice-2.ensures.value) ∙ found.1 in
    let removed : c.remove-taken.result ≡ p = search (rules, get_or_from_slice_get) in
    subst (λ o. IsSome o) (sym (c.spent_on.ensures ∙ ap (λ (x : Pass). option_map (λ v. Spent v.items) x.taken.told) removed))
    (IsSome_map (λ v. Spent v.items) p.taken.told (each_get (λ place p. IsSome p.taken.told) ps c.in-Some.place p each at))
