use Rattle.std.proofs.Common.{rules, ap, ◌∙◌, ◌+◌, sym, subst, length, length-append}
use Rattle.drt_wave.proofs.Places.{AreEmpty, empty_more}
use Rattle.drt_wave.proofs.opening.empty_places.Goals as goal

pub places-preserved : goal.places-preserved
places-preserved c =
    let inv = c.places.invariant in let old = c.places.places.items in record {
      count = ap length c.push_reserved.ensures.items ∙ (length-append old _ ∙ ap (λ n. n + 1) inv.count);
      room = search (rules, inv.room);
      empty = subst AreEmpty (sym c.push_reserved.ensures.items) (empty_more old inv.empty);
    }
