use Rattle.std.proofs.Common.{rules, sym, ap, subst}
use Rattle.drt_worst.specs.declared.view.View.{View}
use Rattle.drt_worst.specs.Passing.{search_of_question, IsGreatestRaised, IsNotedIn}
use Rattle.drt_worst.proofs.Ends.{noted_left, noted_right, best_left, best_right}
use Rattle.drt_worst.proofs.search.absorb.Goals as goal

pub returns-then-own_best-best-clause-best : goal.returns-then-own_best-best-clause-best
returns-then-own_best-best-clause-best c =
    let s = search_of_question c.args.word.now.about in
    let roots = c.args.word.now.about.roots.value in
    subst (λ (v : View). IsGreatestRaised s roots c.args.pass.best c.args.pass.leaves v) (sym (ap (λ m. m.0) c.join.ensures.seat))
    (best_right s roots c.args.best.now c.args.pass.best c.args.leaves.now c.args.pass.leaves c.args.owner.now.me.0 c.args.pass.seat.me.0 (search rules) c.requires.best c.requires.runs.best)

pub returns-then-own_best-best-clause-known : goal.returns-then-own_best-best-clause-known
returns-then-own_best-best-clause-known c =
    subst (λ (v : View). IsNotedIn c.args.pass.known v) (sym (ap (λ m. m.0) c.join.ensures.seat)) (noted_right c.args.pass.known c.args.owner.now.me.0 c.args.pass.seat.me.0 c.requires.runs.noted)

pub returns-then-own_best-best-clause-kept : goal.returns-then-own_best-best-clause-kept
returns-then-own_best-best-clause-kept c n h = subst (λ (v : View). IsNotedIn n v) (sym (ap (λ m. m.0) c.join.ensures.seat)) (noted_left n c.args.owner.now.me.0 c.args.pass.seat.me.0 h)

pub returns-clause-best : goal.returns-clause-best
returns-clause-best c =
    let s = search_of_question c.args.word.now.about in
    let roots = c.args.word.now.about.roots.value in
    subst (λ (v : View). IsGreatestRaised s roots c.args.best.now c.args.leaves.now v) (sym (ap (λ m. m.0) c.join.ensures.seat))
    (best_left s roots c.args.best.now c.args.pass.best c.args.leaves.now c.args.pass.leaves c.args.owner.now.me.0 c.args.pass.seat.me.0 (search rules) c.requires.best c.requires.runs.best)

pub returns-clause-known : goal.returns-clause-known
returns-clause-known c = subst (λ (v : View). IsNotedIn c.args.pass.known v) (sym (ap (λ m. m.0) c.join.ensures.seat))
    (noted_right c.args.pass.known c.args.owner.now.me.0 c.args.pass.seat.me.0 c.requires.runs.noted)

pub returns-clause-kept : goal.returns-clause-kept
returns-clause-kept c n h = subst (λ (v : View). IsNotedIn n v) (sym (ap (λ m. m.0) c.join.ensures.seat)) (noted_left n c.args.owner.now.me.0 c.args.pass.seat.me.0 h)
