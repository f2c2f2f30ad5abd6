use Rattle.std.proofs.Common.{rules, ◌≡◌, ℕ, List, Some, length, sym, ap, ◌∙◌, subst}
use Rattle.std.specs.Prelude.{slice_get}
use Rattle.drt_worst.specs.Splitting.{Search}
use Rattle.drt_worst.specs.Runs.{AreDealt}
use Rattle.drt_worst.specs.Subjects.{search_over}
use Rattle.drt_worst.specs.Passing.{search_of_question}
use Rattle.drt_pool.specs.Turns.{EachPlace}
use Rattle.drt_worst.specs.Jobs.{IsPassOpened, IsHaltedOf}
use Rattle.drt_worst.specs.declared.pass.Pass.{Pass}
use Rattle.drt_worst.proofs.Wholes.{whole}
use Rattle.drt_worst.proofs.search.search_tree.Goals as goal

pub run_passes-requires-clause-passes : goal.run_passes-requires-clause-passes
run_passes-requires-clause-passes g c κs within =
    let w = c.in_ok-word.word in
    let same : c.as_slice.result.now ≡ c.as_slice-2.result.now = c.as_slice.ensures.value ∙ sym c.as_slice-2.ensures.value in
    subst (λ (xs : List (List ℕ)). EachPlace (IsPassOpened w xs c.args.told) c.as_mut_slice.result.now) same
    (subst (λ (ps : List Pass). EachPlace (IsPassOpened w c.as_slice.result.now c.args.told) ps) (sym c.as_mut_slice.ensures.value) c.in_ok-passes.ensures.passes.1)

pub finish-requires-clause-passes : goal.finish-requires-clause-passes
finish-requires-clause-passes g c =
    let w = c.in_ok-word.word in
    let all = whole c.in_ok-passes.passes.items c.run_passes.new.passes c.in_ok-passes.passes.len (search rules) (search rules) in
    let halted : EachPlace (IsHaltedOf w c.budget.result) c.run_passes.new.passes
    = subst (λ (budget : ℕ). EachPlace (IsHaltedOf w budget) c.run_passes.new.passes) (sym c.budget.ensures.is) c.run_passes.ensures.halted in
    subst (λ (ps : List Pass). EachPlace (IsHaltedOf w c.budget.result) ps) (sym all) halted

pub finish-requires-clause-dealt : goal.finish-requires-clause-dealt
finish-requires-clause-dealt g c =
    let w = c.in_ok-word.word in
    let dealt : List (List ℕ) = c.as_slice-2.result.now in
    let all = whole c.in_ok-passes.passes.items c.run_passes.new.passes c.in_ok-passes.passes.len (search rules) (search rules) in
    let lengths : length c.run_passes.new.passes ≡ length dealt = search rules in
    let about : search_of_question w.about ≡ search_over c.args.subject = search rules in
    let roots : w.about.roots.value ≡ c.args.roots.now = search rules in
    let d : AreDealt c.args.subject.forest.now c.args.roots.now dealt
    = subst (λ (xs : List (List ℕ)). AreDealt c.args.subject.forest.now c.args.roots.now xs) (sym c.as_slice-2.ensures.value) c.in_ok-dealt.ensures.dealt in
    let d' : AreDealt c.args.subject.forest.now w.about.roots.value dealt = subst (λ (r : List ℕ). AreDealt c.args.subject.forest.now r dealt) (sym roots) d in (
      dealt,
      subst (λ (s : Search). AreDealt s.forest w.about.roots.value dealt) (sym about) d',
      ap length all ∙ lengths,
      subst (λ (ps : List Pass). EachPlace (λ place p. slice_get dealt place ≡ Some p.start) ps) (sym all)
          c.run_passes.ensures.dealt,
    )
