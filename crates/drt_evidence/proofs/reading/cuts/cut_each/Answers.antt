use Rattle.std.proofs.Common.{subst, sym, ◌+◌}
use Rattle.std.specs.Prelude.{option_map}
use Rattle.drt_evidence.specs.Blocks.{AreSoMany, in_turn}
use Rattle.drt_evidence.specs.Cuts.{IsFormCut, left}
use Rattle.drt_evidence.proofs.Cuts.{each_broken, each_next, each_start}
use Rattle.drt_evidence.proofs.Spaces.{spaced_behind}
use Rattle.drt_evidence.proofs.reading.cuts.cut_each.Goals as goal

pub loop-init : goal.loop-init
loop-init g c =
    subst (λ xs. IsFormCut (in_turn g.G.Group.form) (AreSoMany 0 g.G.Group.is_stated) (left c.args.rest) xs (left c.args.rest)) (sym c.in_ok-found.ensures.items)
    (each_start g.G.Group.form g.G.Group.is_stated (left c.args.rest) (spaced_behind (option_map (λ r. r.now) c.args.rest)))

pub returns-in-None : goal.returns-in-None
returns-in-None g c =
    each_broken g.G.Group.form g.G.Group.is_stated g.met.G.Group.spaced c.loop.counter c.args.count c.loop-test.true (left c.args.rest) (left c.loop.rest) c.loop.found.items
    c.loop.invariant c.in-None.ensures

pub loop-preserved : goal.loop-preserved
loop-preserved g c =
    subst (λ xs. IsFormCut (in_turn g.G.Group.form) (AreSoMany (c.loop.counter + 1) g.G.Group.is_stated) (left c.args.rest) xs (left c.in-Some.others))
    (sym c.in_ok-push-in-Some.ensures.items)
    (each_next g.G.Group.form g.G.Group.is_stated g.met.G.Group.spaced c.loop.counter (left c.args.rest) (left c.loop.rest) (left c.in-Some.others) c.loop.found.items c.in-Some.value
    c.loop.invariant c.in-Some.ensures)
