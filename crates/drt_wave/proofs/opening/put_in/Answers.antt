use Rattle.std.proofs.Common.{rules, ◌≡◌, ◌<◌, length, set, ap, ◌∙◌, sym, subst}
use Rattle.std.specs.Prelude.{Option, Some, Vec}
use mathlib.Core.Option.{some}
use lib.ListN.{get_elem?}
use Rattle.atomic_table.proofs.Lists.{at_index}
use Rattle.drt_wave.specs.Openers.{HasLanes}
use Rattle.drt_wave.proofs.Places.{has_emptied, has_put}
use Rattle.drt_wave.proofs.opening.put_in.Goals.{in-Some+in-Some-1, in-Some+in-None-1, in-None}
use Rattle.drt_wave.proofs.opening.put_in.Goals as goal

pub places-preserved : goal.places-preserved
places-preserved c =
    let p = c.args.plan.now in
    let v = c.places.v in
    let all = c.places.invariant.given in
    let others = c.places.invariant.left in
    let os = c.places.opener.places.items in
    let size : v < length os = search (rules, all.count, others.count) in
    let at : get_elem? os v ≡ some c.index_mut.result.now = at_index os v c.index_mut.result.now size c.index_mut.ensures.value in
    let put : (o : Option _) → c.take.result ≡ o → HasLanes p (set c.places.places.items v o) = λ o is.
    has_put p c.places.places.items os v o all others (at ∙ ap (λ (x : Option _). some x) (sym c.take.ensures.value ∙ is)) in
    record {
      given = elim c.match-take.branch [
        | in-Some+in-Some-1 w ↦ subst (λ (x : Vec _ _). HasLanes p x.items) (sym w.places-is) (put (Some w.in-Some.opened) w.in-Some.is)
        | in-Some+in-None-1 w ↦ subst (λ (x : Vec _ _). HasLanes p x.items) (sym w.places-is) (put (Some w.in-Some.opened) w.in-Some.is)
        | in-None w ↦ subst (λ (x : Vec _ _). HasLanes p x.items) (sym w.places-is) all
      ];
      left = subst (λ (o : Option _). HasLanes p (set os v o)) (sym c.take.ensures.after) (has_emptied p os v others);
    }
