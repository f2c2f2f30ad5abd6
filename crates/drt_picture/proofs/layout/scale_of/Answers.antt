use Rattle.std.proofs.Common.{List, sym, subst, IsPermutation}
use Rattle.std.proofs.lemmas.List.Sorted.{All-permutation}
use Rattle.drt_picture.specs.declared.moments.Moment.{Moment}
use Rattle.drt_picture.specs.Moments.{IsMomentWithin, moments_of}
use Rattle.drt_picture.proofs.PartLemmas.{cuts_of_all}
use Rattle.drt_picture.proofs.layout.scale_of.Goals as goal

pub parts_of-requires-clause-each : goal.parts_of-requires-clause-each
parts_of-requires-clause-each c =
    rw c.as_slice.ensures.value
    (All-permutation (IsMomentWithin c.args.from c.args.until) (moments_of c.args.spans.now c.args.events.now c.args.until) c.in_ok-moments.moments.items c.in_ok-moments.ensures.0 c.requires.each)

pub returns-clause-cuts : goal.returns-clause-cuts
returns-clause-cuts c =
    let all = moments_of c.args.spans.now c.args.events.now c.args.until in
    let perm = subst (λ (ms : List Moment). IsPermutation all ms) (sym c.as_slice.ensures.value) c.in_ok-moments.ensures.0 in
    rw c.from_vec.ensures (cuts_of_all all c.as_slice.result.now c.in_ok-parts.parts.items perm c.in_ok-parts.ensures.cuts)
