-- One more part.
use Rattle.std.proofs.Common.{List, All, sym, subst}
use Rattle.std.proofs.lemmas.List.Elements.{All-push}
use Rattle.drt_sp.specs.Attempts.{IsPartOf}
use Rattle.drt_sp.specs.declared.parts.Part.{Part}
use Rattle.drt_sp.proofs.parts.end_next.Goals as goal

pub loop-turn-preserved : goal.loop-turn-preserved
loop-turn-preserved g c =
    let Is : Part → Type 0 = IsPartOf c.args.forest.now c.args.spent.now in
    let is : Is c.in-Some.part = rw c.in-Some.is at c.in_ok-part.ensures in
    subst (λ (l : List Part). All Is l) (sym c.in_ok-push-in-Some.ensures.items) (All-push Is c.loop-turn.parts.items c.in-Some.part c.loop-turn.invariant is)
