use Rattle.std.proofs.Common.{ℕ, List, refl, sym, ap, ◌∙◌, subst}
use Rattle.std.specs.Prelude.{reverse}
use Rattle.drt_refine.specs.Below.{IsConcrete}
use Rattle.drt_worst.specs.Splitting.{Search, PassesFor, IsReached}
use Rattle.drt_worst.specs.Runs.{IsFit}
use Rattle.drt_worst.specs.Subjects.{search_over}
use Rattle.drt_worst.specs.Plans.{choice_of, CanTake}
use Rattle.drt_worst.specs.Passing.{announced, leaves_after}
use Rattle.drt_worst.specs.declared.pass.Pass.{Pass}
use Rattle.drt_worst.proofs.Turns.{combo_take, combo_passes, combo_reached, follows}
use Rattle.drt_worst.proofs.pass.follow.Goals as goal

pub make_plan-requires-clause-take : goal.make_plan-requires-clause-take
make_plan-requires-clause-take c =
    let s : Search = search_over c.args.subject in
    let roots : List ℕ = c.args.word.now.about.roots.value in
    subst (λ (z : List ℕ). CanTake c.args.subject.forest.now c.args.subject.deadline z) (sym c.as_slice.ensures)
    (combo_take s roots c.requires.ready c.args.combination (reverse c.args.pass.now.stack.items) c.args.pass.now c.requires.runs)

pub make_plan-requires-clause-some : goal.make_plan-requires-clause-some
make_plan-requires-clause-some c =
    let s : Search = search_over c.args.subject in
    let roots : List ℕ = c.args.word.now.about.roots.value in
    subst (λ (z : List ℕ). IsConcrete c.args.subject.forest.now z → (t : ℕ) × PassesFor s z t) (sym c.as_slice.ensures)
    (combo_passes s roots c.requires.ready c.args.combination (reverse c.args.pass.now.stack.items) c.args.pass.now c.requires.runs)

pub announce-requires-clause-reached : goal.announce-requires-clause-reached
announce-requires-clause-reached c t is =
    let s : Search = search_over c.args.subject in
    let roots : List ℕ = c.args.word.now.about.roots.value in
    let fits : IsFit s c.args.combination c.glance-seen.result (choice_of c.in_ok-plan.plan)
    = subst (λ (z : List ℕ). IsFit s z c.glance-seen.result (choice_of c.in_ok-plan.plan)) c.as_slice.ensures c.in_ok-plan.ensures in (
      c.args.combination,
      subst (λ (z : Search). IsReached z roots t c.args.combination) (sym c.requires.about)
          (combo_reached s roots c.args.combination (reverse c.args.pass.now.stack.items) c.args.pass.now c.requires.runs c.glance-seen.result t (choice_of c.in_ok-plan.plan) fits is),
    )

pub returns-clause-runs : goal.returns-clause-runs
returns-clause-runs c =
    let s : Search = search_over c.args.subject in
    let roots : List ℕ = c.args.word.now.about.roots.value in
    let choice = choice_of c.in_ok-plan.plan in
    let fits : IsFit s c.args.combination c.glance-seen.result choice = subst (λ (z : List ℕ). IsFit s z c.glance-seen.result choice) c.as_slice.ensures c.in_ok-plan.ensures in
    let q : Pass = record {
      start = c.args.pass.now.start;
      stack = c.push_parts.new.stack;
      taken = c.note.new.self;
      known = c.known_by-known.result;
      best = c.keep_best.new.best;
      leaves = c.keep_best.new.leaves;
      seat = c.announce.new.seat;
      failed = c.args.pass.now.failed;
    } in
    follows s roots c.args.combination c.glance-seen.result choice c.args.pass.now q c.requires.runs fits c.glance-seen.ensures.raised c.glance-seen.ensures.noted
    (record {
      start = refl;
      stack = c.in_ok-push_parts.ensures;
      count = c.in_ok-note.ensures.count;
      told = c.in_ok-note.ensures.list;
      known = c.known_by-known.ensures;
      view = ap (λ m. m.0) c.announce.ensures.seat ∙ ap (λ m. announced m.0 choice) c.glance-seen.ensures.seat;
      best = c.in_ok-keep_best.ensures.best;
      leaves = c.in_ok-keep_best.ensures.leaves ∙ ap (λ (z : List ℕ). leaves_after c.args.pass.now.leaves z choice) c.as_slice-2.ensures;
    })
