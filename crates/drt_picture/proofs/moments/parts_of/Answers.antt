use Rattle.std.proofs.Common.{rules, ◌≡◌, ◌+◌, ◌<◌, length, get_or}
use Rattle.std.proofs.lemmas.List.{get_or_default}
use Rattle.std.proofs.lemmas.List.Elements.{All-get_or}
use Rattle.drt_picture.specs.declared.moments.Moment.{Moment}
use Rattle.drt_picture.specs.Moments.{IsMomentWithin}
use Rattle.drt_picture.proofs.PartLemmas.{so_far_cut, so_far_more}
use Rattle.drt_picture.proofs.moments.parts_of.Goals as goal
use Rattle.drt_picture.proofs.moments.parts_of.Goals.{then-is_long+in_ok-push, else-is_long}

pub loop-moment-preserved : goal.loop-moment-preserved
loop-moment-preserved c =
    let moments = c.args.moments.now in
    let i = c.loop-moment.moment-index in
    let nothing : Moment = record { start = 0; end = 0 } in
    let m = get_or moments i nothing in
    let here : i < length moments = c.loop-moment-test.true in
    let is : (d : Moment) → m ≡ get_or moments i d = λ d. get_or_default moments i nothing d here in
    let within : IsMomentWithin c.args.from c.args.until m = All-get_or (IsMomentWithin c.args.from c.args.until) moments i nothing here c.requires.each in
    elim c.if-is_long.branch [
      | then-is_long+in_ok-push w ↦ (
          let far : (length c.loop-moment.parts.items < 16) × (c.loop-moment.reached + c.in_ok-longest.longest < m.start) = search rules in
          rw (w.parts-is, w.start-is, w.in_ok-push.ensures.items, c.max-reached.ensures)
          (so_far_cut moments c.args.from c.args.until i c.loop-moment.start c.loop-moment.reached c.in_ok-longest.longest c.loop-moment.parts.items m is here c.requires.order within far.0 far.1
          c.loop-moment.invariant)
          )
      | else-is_long w ↦
          rw (w.parts-is, w.start-is, c.max-reached.ensures)
          (so_far_more moments c.args.from c.args.until i c.loop-moment.start c.loop-moment.reached c.loop-moment.parts.items m is within c.loop-moment.invariant)
    ]
