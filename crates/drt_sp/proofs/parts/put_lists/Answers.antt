-- A list of parts is the topmost one.
use Rattle.std.proofs.Common.{All}
use Rattle.std.specs.Prelude.{IfOk}
use Rattle.std.proofs.lemmas.List.Elements.{All-pop}
use Rattle.drt_sp.specs.Attempts.{IsPartOf}
use Rattle.drt_sp.proofs.parts.put_lists.Goals as goal

pub put_all-requires-clause-list : goal.put_all-requires-clause-list
put_all-requires-clause-list c =
    let part = IsPartOf c.args.forest.now c.args.spent.now in
    let two = All-pop (λ list. IfOk list (λ made. All part made.items)) c.loop-list.lists.items c.pop.new.self.items c.pop.result c.pop.ensures.items c.loop-list.invariant.lists in
    rw c.in_ok-list.was at (rw c.in-Some.is at two.1)
