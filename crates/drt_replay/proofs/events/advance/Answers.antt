use Rattle.std.proofs.Common.{◌≡◌, ℕ, ◌+◌, ◌-◌, ◌<◌, ◌≤◌, List, All, get_or, length, set, sym, subst, arith, ap, cond, eqb, ◌∙◌}
use Rattle.drt_replay.specs.Board.{IsLeft, AreFinishes}
use Rattle.drt_replay.specs.Events.{IsCleared, IsFirstLeft, IsMoved, IsQueued, IsStretchFrom}
use Rattle.drt_replay.specs.declared.stretch.Stretch.{Stretch}
use Rattle.drt_replay.proofs.AdvanceLemmas.{lent, ready_here, run_here, run_picks, run_left, run_finishes, run_queued, rest_picks, rest_left, rest_finishes, rest_queued, written}
use Rattle.drt_replay.proofs.events.advance.Goals as goal

pub first_ready-requires : goal.first_ready-requires
first_ready-requires c =
    let moved = subst (λ (w : List Stretch). IsMoved c.args.policy c.args.jobs.now c.args.ticks w c.args.progress.now.ready c.release.new.waiting c.release.new.ready)
    c.deref_mut.ensures.value c.release.ensures.moved in
    subst (λ (xs : List ℕ). All (λ e. e.0.place < length xs) c.release.new.ready.items) (sym c.deref-2.ensures.value)
    (ready_here c.args.policy c.args.jobs.now c.args.ticks c.args.progress.now.left.items c.requires.left c.args.progress.now.waiting.items c.args.progress.now.ready
    c.release.new.waiting c.release.new.ready c.requires.queued moved)

pub run_job-count-requires-clause-in_left : goal.run_job-count-requires-clause-in_left
run_job-count-requires-clause-in_left c =
    let moved = subst (λ (w : List Stretch). IsMoved c.args.policy c.args.jobs.now c.args.ticks w c.args.progress.now.ready c.release.new.waiting c.release.new.ready)
    c.deref_mut.ensures.value c.release.ensures.moved in
    let kept = written c.args.progress.now.waiting.len c.release.new.waiting c.args.progress.now.waiting.items (omega (arith, c.release.auto.waiting, c.deref_mut.ensures.len)) in
    let calm = subst (λ (w : List Stretch). All (IsStretchFrom c.args.jobs.now c.next_release-next.result) w) (c.deref.ensures.value ∙ kept) c.next_release-next.ensures.calm in
    let cleared = subst (λ (xs : List ℕ). IsCleared xs c.release.new.ready c.first_ready.new.ready) c.deref-2.ensures.value c.in-Some.ensures.cleared in
    let found = subst (λ (xs : List ℕ). IsFirstLeft xs c.first_ready.new.ready c.in-Some.j) c.deref-2.ensures.value c.in-Some.ensures.found in
    let here = run_here c.args.policy c.args.jobs.now c.args.ticks c.args.progress.now.left.items c.requires.left c.args.progress.now.waiting.items c.args.progress.now.ready
    c.release.new.waiting c.release.new.ready c.requires.queued moved c.release.ensures.later
    c.first_ready.new.ready cleared c.requires.needs c.next_release-next.result calm c.in-Some.j found in
    subst (λ (xs : List ℕ). c.in-Some.j < length xs) (sym c.deref_mut-in-Some.ensures.value) here

pub run_job-count-requires-clause-in_finishes : goal.run_job-count-requires-clause-in_finishes
run_job-count-requires-clause-in_finishes c =
    let moved = subst (λ (w : List Stretch). IsMoved c.args.policy c.args.jobs.now c.args.ticks w c.args.progress.now.ready c.release.new.waiting c.release.new.ready)
    c.deref_mut.ensures.value c.release.ensures.moved in
    let kept = written c.args.progress.now.waiting.len c.release.new.waiting c.args.progress.now.waiting.items (omega (arith, c.release.auto.waiting, c.deref_mut.ensures.len)) in
    let calm = subst (λ (w : List Stretch). All (IsStretchFrom c.args.jobs.now c.next_release-next.result) w) (c.deref.ensures.value ∙ kept) c.next_release-next.ensures.calm in
    let cleared = subst (λ (xs : List ℕ). IsCleared xs c.release.new.ready c.first_ready.new.ready) c.deref-2.ensures.value c.in-Some.ensures.cleared in
    let found = subst (λ (xs : List ℕ). IsFirstLeft xs c.first_ready.new.ready c.in-Some.j) c.deref-2.ensures.value c.in-Some.ensures.found in
    let here = run_here c.args.policy c.args.jobs.now c.args.ticks c.args.progress.now.left.items c.requires.left c.args.progress.now.waiting.items c.args.progress.now.ready
    c.release.new.waiting c.release.new.ready c.requires.queued moved c.release.ensures.later
    c.first_ready.new.ready cleared c.requires.needs c.next_release-next.result calm c.in-Some.j found in
    omega (arith, here, c.requires.left.as_many, c.requires.finishes.as_many, ap length c.deref_mut-in-Some-2.ensures.value)

pub run_job-count-requires-clause-some_left : goal.run_job-count-requires-clause-some_left
run_job-count-requires-clause-some_left c =
    let found = subst (λ (xs : List ℕ). IsFirstLeft xs c.first_ready.new.ready c.in-Some.j) c.deref-2.ensures.value c.in-Some.ensures.found in
    subst (λ (xs : List ℕ). 0 < get_or xs c.in-Some.j 0) (sym c.deref_mut-in-Some.ensures.value) found.some_left

pub returns-in-Some-clause-ran : goal.returns-in-Some-clause-ran
returns-in-Some-clause-ran c =
    let moved = subst (λ (w : List Stretch). IsMoved c.args.policy c.args.jobs.now c.args.ticks w c.args.progress.now.ready c.release.new.waiting c.release.new.ready)
    c.deref_mut.ensures.value c.release.ensures.moved in
    let kept = written c.args.progress.now.waiting.len c.release.new.waiting c.args.progress.now.waiting.items (omega (arith, c.release.auto.waiting, c.deref_mut.ensures.len)) in
    let calm = subst (λ (w : List Stretch). All (IsStretchFrom c.args.jobs.now c.next_release-next.result) w) (c.deref.ensures.value ∙ kept) c.next_release-next.ensures.calm in
    let cleared = subst (λ (xs : List ℕ). IsCleared xs c.release.new.ready c.first_ready.new.ready) c.deref-2.ensures.value c.in-Some.ensures.cleared in
    let found = subst (λ (xs : List ℕ). IsFirstLeft xs c.first_ready.new.ready c.in-Some.j) c.deref-2.ensures.value c.in-Some.ensures.found in
    let at_most = subst (λ (xs : List ℕ). c.run_job-count.result ≤ get_or xs c.in-Some.j 0) c.deref_mut-in-Some.ensures.value c.run_job-count.ensures.at_most in
    run_picks c.args.policy c.args.jobs.now c.args.ticks c.args.progress.now.left.items c.requires.left c.args.progress.now.waiting.items c.args.progress.now.ready
    c.release.new.waiting c.release.new.ready c.requires.queued moved c.release.ensures.later
    c.first_ready.new.ready cleared c.requires.needs c.next_release-next.result calm c.in-Some.j found
    c.run_job-count.result c.run_job-count.ensures.some c.run_job-count.ensures.in_time at_most

pub returns-in-Some-clause-left : goal.returns-in-Some-clause-left
returns-in-Some-clause-left c =
    let moved = subst (λ (w : List Stretch). IsMoved c.args.policy c.args.jobs.now c.args.ticks w c.args.progress.now.ready c.release.new.waiting c.release.new.ready)
    c.deref_mut.ensures.value c.release.ensures.moved in
    let kept = written c.args.progress.now.waiting.len c.release.new.waiting c.args.progress.now.waiting.items (omega (arith, c.release.auto.waiting, c.deref_mut.ensures.len)) in
    let calm = subst (λ (w : List Stretch). All (IsStretchFrom c.args.jobs.now c.next_release-next.result) w) (c.deref.ensures.value ∙ kept) c.next_release-next.ensures.calm in
    let cleared = subst (λ (xs : List ℕ). IsCleared xs c.release.new.ready c.first_ready.new.ready) c.deref-2.ensures.value c.in-Some.ensures.cleared in
    let found = subst (λ (xs : List ℕ). IsFirstLeft xs c.first_ready.new.ready c.in-Some.j) c.deref-2.ensures.value c.in-Some.ensures.found in
    let at_most = subst (λ (xs : List ℕ). c.run_job-count.result ≤ get_or xs c.in-Some.j 0) c.deref_mut-in-Some.ensures.value c.run_job-count.ensures.at_most in
    let left : c.run_job-count.new.left ≡ set c.args.progress.now.left.items c.in-Some.j (get_or c.args.progress.now.left.items c.in-Some.j 0 - c.run_job-count.result)
    = c.run_job-count.ensures.left ∙ ap (λ (xs : List ℕ). set xs c.in-Some.j (get_or xs c.in-Some.j 0 - c.run_job-count.result)) c.deref_mut-in-Some.ensures.value in
    let lefts = written c.args.progress.now.left.len c.run_job-count.new.left c.args.progress.now.left.items (omega (arith, c.run_job-count.auto.left, c.deref_mut-in-Some.ensures.len))
    ∙ left in
    subst (IsLeft c.args.policy c.args.jobs.now (c.args.ticks + c.run_job-count.result)) (sym lefts)
    (run_left c.args.policy c.args.jobs.now c.args.ticks c.args.progress.now.left.items c.requires.left c.args.progress.now.waiting.items c.args.progress.now.ready
    c.release.new.waiting c.release.new.ready c.requires.queued moved c.release.ensures.later
    c.first_ready.new.ready cleared c.requires.needs c.next_release-next.result calm c.in-Some.j found
    c.run_job-count.result c.run_job-count.ensures.some c.run_job-count.ensures.in_time at_most)

pub returns-in-Some-clause-finishes : goal.returns-in-Some-clause-finishes
returns-in-Some-clause-finishes c =
    let moved = subst (λ (w : List Stretch). IsMoved c.args.policy c.args.jobs.now c.args.ticks w c.args.progress.now.ready c.release.new.waiting c.release.new.ready)
    c.deref_mut.ensures.value c.release.ensures.moved in
    let kept = written c.args.progress.now.waiting.len c.release.new.waiting c.args.progress.now.waiting.items (omega (arith, c.release.auto.waiting, c.deref_mut.ensures.len)) in
    let calm = subst (λ (w : List Stretch). All (IsStretchFrom c.args.jobs.now c.next_release-next.result) w) (c.deref.ensures.value ∙ kept) c.next_release-next.ensures.calm in
    let cleared = subst (λ (xs : List ℕ). IsCleared xs c.release.new.ready c.first_ready.new.ready) c.deref-2.ensures.value c.in-Some.ensures.cleared in
    let found = subst (λ (xs : List ℕ). IsFirstLeft xs c.first_ready.new.ready c.in-Some.j) c.deref-2.ensures.value c.in-Some.ensures.found in
    let at_most = subst (λ (xs : List ℕ). c.run_job-count.result ≤ get_or xs c.in-Some.j 0) c.deref_mut-in-Some.ensures.value c.run_job-count.ensures.at_most in
    let left : c.run_job-count.new.left ≡ set c.args.progress.now.left.items c.in-Some.j (get_or c.args.progress.now.left.items c.in-Some.j 0 - c.run_job-count.result)
    = c.run_job-count.ensures.left ∙ ap (λ (xs : List ℕ). set xs c.in-Some.j (get_or xs c.in-Some.j 0 - c.run_job-count.result)) c.deref_mut-in-Some.ensures.value in
    let lefts = written c.args.progress.now.left.len c.run_job-count.new.left c.args.progress.now.left.items (omega (arith, c.run_job-count.auto.left, c.deref_mut-in-Some.ensures.len))
    ∙ left in
    let ends = written c.args.progress.now.finishes.len c.run_job-count.new.finishes c.args.progress.now.finishes.items
    (omega (arith, c.run_job-count.auto.finishes, c.deref_mut-in-Some-2.ensures.len)) in
    let end : c.run_job-count.new.finishes ≡ cond (eqb (get_or c.args.progress.now.left.items c.in-Some.j 0) c.run_job-count.result)
    (set c.args.progress.now.finishes.items c.in-Some.j (c.args.ticks + c.run_job-count.result)) c.args.progress.now.finishes.items
    = c.run_job-count.ensures.finishes ∙ (ap (λ (xs : List ℕ). cond (eqb (get_or xs c.in-Some.j 0) c.run_job-count.result)
    (set c.deref_mut-in-Some-2.result.now c.in-Some.j (c.args.ticks + c.run_job-count.result)) c.deref_mut-in-Some-2.result.now) c.deref_mut-in-Some.ensures.value
    ∙ ap (λ (xs : List ℕ). cond (eqb (get_or c.args.progress.now.left.items c.in-Some.j 0) c.run_job-count.result) (set xs c.in-Some.j (c.args.ticks + c.run_job-count.result)) xs)
    c.deref_mut-in-Some-2.ensures.value) in
    subst (λ (xs : List ℕ). AreFinishes c.args.policy c.args.jobs.now (c.args.ticks + c.run_job-count.result) xs
    (lent c.args.progress.now.finishes.len c.run_job-count.new.finishes c.args.progress.now.finishes.items)) (sym lefts)
    (subst (λ (xs : List ℕ). AreFinishes c.args.policy c.args.jobs.now (c.args.ticks + c.run_job-count.result)
    (set c.args.progress.now.left.items c.in-Some.j (get_or c.args.progress.now.left.items c.in-Some.j 0 - c.run_job-count.result)) xs) (sym (ends ∙ end))
    (run_finishes c.args.policy c.args.jobs.now c.args.ticks c.args.progress.now.left.items c.requires.left c.args.progress.now.waiting.items c.args.progress.now.ready
    c.release.new.waiting c.release.new.ready c.requires.queued moved c.release.ensures.later
    c.first_ready.new.ready cleared c.requires.needs c.next_release-next.result calm c.in-Some.j found
    c.run_job-count.result c.run_job-count.ensures.some c.run_job-count.ensures.in_time at_most c.args.progress.now.finishes.items c.requires.finishes))

pub returns-in-Some-clause-queued : goal.returns-in-Some-clause-queued
returns-in-Some-clause-queued c =
    let moved = subst (λ (w : List Stretch). IsMoved c.args.policy c.args.jobs.now c.args.ticks w c.args.progress.now.ready c.release.new.waiting c.release.new.ready)
    c.deref_mut.ensures.value c.release.ensures.moved in
    let kept = written c.args.progress.now.waiting.len c.release.new.waiting c.args.progress.now.waiting.items (omega (arith, c.release.auto.waiting, c.deref_mut.ensures.len)) in
    let calm = subst (λ (w : List Stretch). All (IsStretchFrom c.args.jobs.now c.next_release-next.result) w) (c.deref.ensures.value ∙ kept) c.next_release-next.ensures.calm in
    let cleared = subst (λ (xs : List ℕ). IsCleared xs c.release.new.ready c.first_ready.new.ready) c.deref-2.ensures.value c.in-Some.ensures.cleared in
    let found = subst (λ (xs : List ℕ). IsFirstLeft xs c.first_ready.new.ready c.in-Some.j) c.deref-2.ensures.value c.in-Some.ensures.found in
    let at_most = subst (λ (xs : List ℕ). c.run_job-count.result ≤ get_or xs c.in-Some.j 0) c.deref_mut-in-Some.ensures.value c.run_job-count.ensures.at_most in
    let left : c.run_job-count.new.left ≡ set c.args.progress.now.left.items c.in-Some.j (get_or c.args.progress.now.left.items c.in-Some.j 0 - c.run_job-count.result)
    = c.run_job-count.ensures.left ∙ ap (λ (xs : List ℕ). set xs c.in-Some.j (get_or xs c.in-Some.j 0 - c.run_job-count.result)) c.deref_mut-in-Some.ensures.value in
    let lefts = written c.args.progress.now.left.len c.run_job-count.new.left c.args.progress.now.left.items (omega (arith, c.run_job-count.auto.left, c.deref_mut-in-Some.ensures.len))
    ∙ left in
    subst (λ (xs : List ℕ). IsQueued c.args.policy c.args.jobs.now (c.args.ticks + c.run_job-count.result) xs
    (lent c.args.progress.now.waiting.len c.release.new.waiting c.args.progress.now.waiting.items) c.first_ready.new.ready) (sym lefts)
    (subst (λ (w : List Stretch). IsQueued c.args.policy c.args.jobs.now (c.args.ticks + c.run_job-count.result)
    (set c.args.progress.now.left.items c.in-Some.j (get_or c.args.progress.now.left.items c.in-Some.j 0 - c.run_job-count.result)) w c.first_ready.new.ready) (sym kept)
    (run_queued c.args.policy c.args.jobs.now c.args.ticks c.args.progress.now.left.items c.requires.left c.args.progress.now.waiting.items c.args.progress.now.ready
    c.release.new.waiting c.release.new.ready c.requires.queued moved c.release.ensures.later
    c.first_ready.new.ready cleared c.requires.needs c.next_release-next.result calm c.in-Some.j found
    c.run_job-count.result c.run_job-count.ensures.some c.run_job-count.ensures.in_time at_most))

pub returns-in-None-clause-ran : goal.returns-in-None-clause-ran
returns-in-None-clause-ran c =
    let moved = subst (λ (w : List Stretch). IsMoved c.args.policy c.args.jobs.now c.args.ticks w c.args.progress.now.ready c.release.new.waiting c.release.new.ready)
    c.deref_mut.ensures.value c.release.ensures.moved in
    let kept = written c.args.progress.now.waiting.len c.release.new.waiting c.args.progress.now.waiting.items (omega (arith, c.release.auto.waiting, c.deref_mut.ensures.len)) in
    let calm = subst (λ (w : List Stretch). All (IsStretchFrom c.args.jobs.now c.next_release-next.result) w) (c.deref.ensures.value ∙ kept) c.next_release-next.ensures.calm in
    let cleared = subst (λ (xs : List ℕ). IsCleared xs c.release.new.ready c.first_ready.new.ready) c.deref-2.ensures.value c.in-None.ensures.cleared in
    rest_picks c.args.policy c.args.jobs.now c.args.ticks c.args.progress.now.left.items c.requires.left c.args.progress.now.waiting.items c.args.progress.now.ready
    c.release.new.waiting c.release.new.ready c.requires.queued moved c.release.ensures.later
    c.first_ready.new.ready cleared c.requires.needs c.next_release-next.result calm
    c.in-None.ensures.found c.next_release-next.ensures.later

pub returns-in-None-clause-left : goal.returns-in-None-clause-left
returns-in-None-clause-left c =
    let moved = subst (λ (w : List Stretch). IsMoved c.args.policy c.args.jobs.now c.args.ticks w c.args.progress.now.ready c.release.new.waiting c.release.new.ready)
    c.deref_mut.ensures.value c.release.ensures.moved in
    let kept = written c.args.progress.now.waiting.len c.release.new.waiting c.args.progress.now.waiting.items (omega (arith, c.release.auto.waiting, c.deref_mut.ensures.len)) in
    let calm = subst (λ (w : List Stretch). All (IsStretchFrom c.args.jobs.now c.next_release-next.result) w) (c.deref.ensures.value ∙ kept) c.next_release-next.ensures.calm in
    let cleared = subst (λ (xs : List ℕ). IsCleared xs c.release.new.ready c.first_ready.new.ready) c.deref-2.ensures.value c.in-None.ensures.cleared in
    rest_left c.args.policy c.args.jobs.now c.args.ticks c.args.progress.now.left.items c.requires.left c.args.progress.now.waiting.items c.args.progress.now.ready
    c.release.new.waiting c.release.new.ready c.requires.queued moved c.release.ensures.later
    c.first_ready.new.ready cleared c.requires.needs c.next_release-next.result calm
    c.in-None.ensures.found c.next_release-next.ensures.later

pub returns-in-None-clause-finishes : goal.returns-in-None-clause-finishes
returns-in-None-clause-finishes c =
    let moved = subst (λ (w : List Stretch). IsMoved c.args.policy c.args.jobs.now c.args.ticks w c.args.progress.now.ready c.release.new.waiting c.release.new.ready)
    c.deref_mut.ensures.value c.release.ensures.moved in
    let kept = written c.args.progress.now.waiting.len c.release.new.waiting c.args.progress.now.waiting.items (omega (arith, c.release.auto.waiting, c.deref_mut.ensures.len)) in
    let calm = subst (λ (w : List Stretch). All (IsStretchFrom c.args.jobs.now c.next_release-next.result) w) (c.deref.ensures.value ∙ kept) c.next_release-next.ensures.calm in
    let cleared = subst (λ (xs : List ℕ). IsCleared xs c.release.new.ready c.first_ready.new.ready) c.deref-2.ensures.value c.in-None.ensures.cleared in
    rest_finishes c.args.policy c.args.jobs.now c.args.ticks c.args.progress.now.left.items c.requires.left c.args.progress.now.waiting.items c.args.progress.now.ready
    c.release.new.waiting c.release.new.ready c.requires.queued moved c.release.ensures.later
    c.first_ready.new.ready cleared c.requires.needs c.next_release-next.result calm
    c.in-None.ensures.found c.next_release-next.ensures.later c.args.progress.now.finishes.items c.requires.finishes

pub returns-in-None-clause-queued : goal.returns-in-None-clause-queued
returns-in-None-clause-queued c =
    let moved = subst (λ (w : List Stretch). IsMoved c.args.policy c.args.jobs.now c.args.ticks w c.args.progress.now.ready c.release.new.waiting c.release.new.ready)
    c.deref_mut.ensures.value c.release.ensures.moved in
    let kept = written c.args.progress.now.waiting.len c.release.new.waiting c.args.progress.now.waiting.items (omega (arith, c.release.auto.waiting, c.deref_mut.ensures.len)) in
    let calm = subst (λ (w : List Stretch). All (IsStretchFrom c.args.jobs.now c.next_release-next.result) w) (c.deref.ensures.value ∙ kept) c.next_release-next.ensures.calm in
    let cleared = subst (λ (xs : List ℕ). IsCleared xs c.release.new.ready c.first_ready.new.ready) c.deref-2.ensures.value c.in-None.ensures.cleared in
    subst (λ (w : List Stretch). IsQueued c.args.policy c.args.jobs.now c.next_release-next.result c.args.progress.now.left.items w c.first_ready.new.ready) (sym kept)
    (rest_queued c.args.policy c.args.jobs.now c.args.ticks c.args.progress.now.left.items c.requires.left c.args.progress.now.waiting.items c.args.progress.now.ready
    c.release.new.waiting c.release.new.ready c.requires.queued moved c.release.ensures.later
    c.first_ready.new.ready cleared c.requires.needs c.next_release-next.result calm
    c.in-None.ensures.found c.next_release-next.ensures.later)
