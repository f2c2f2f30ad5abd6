use Rattle.std.proofs.Common.{set, sym, subst, ◌∙◌}
use Rattle.drt_wave.specs.Openers.{HasLanes}
use Rattle.drt_wave.proofs.Places.{Place, has_emptied, place_read}
use Rattle.drt_wave.proofs.opening.Opener.lane_at.Goals as goal

pub returns-in-Some-clause-opener : goal.returns-in-Some-clause-opener
returns-in-Some-clause-opener c =
    let p = c.args.plan.now in let places = c.args.self.now.places.items in let old = c.requires.opener in record {
      blank = old.blank;
      lanes = subst (λ (q : Place). HasLanes p (set places c.args.vertex q)) (sym c.take.ensures.after) (has_emptied p places c.args.vertex old.lanes);
    }

pub returns-in-Some-clause-lane : goal.returns-in-Some-clause-lane
returns-in-Some-clause-lane c =
    let r =
    place_read c.args.plan.now c.args.self.now.places.items c.args.vertex c.index_mut.result.now c.in-Some.opened
    c.requires.opener.lanes c.requires.vertex c.index_mut.ensures.value (sym c.take.ensures.value ∙ c.in-Some.is) in r.0

pub returns-in-Some-clause-seat : goal.returns-in-Some-clause-seat
returns-in-Some-clause-seat c =
    let r =
    place_read c.args.plan.now c.args.self.now.places.items c.args.vertex c.index_mut.result.now c.in-Some.opened
    c.requires.opener.lanes c.requires.vertex c.index_mut.ensures.value (sym c.take.ensures.value ∙ c.in-Some.is) in r.1

pub returns-in-Some-clause-fresh : goal.returns-in-Some-clause-fresh
returns-in-Some-clause-fresh c =
    let r =
    place_read c.args.plan.now c.args.self.now.places.items c.args.vertex c.index_mut.result.now c.in-Some.opened
    c.requires.opener.lanes c.requires.vertex c.index_mut.ensures.value (sym c.take.ensures.value ∙ c.in-Some.is) in r.2
