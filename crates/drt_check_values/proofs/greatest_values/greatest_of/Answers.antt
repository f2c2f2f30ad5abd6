use Rattle.std.proofs.Common.{◌+◌, ◌-◌, get_or, inl, inr, ◌∙◌}
use Rattle.drt_check_values.proofs.Halving.{run, run_left, TakenOut, level_up, nothing_left}
use Rattle.drt_check_values.proofs.greatest_values.greatest_of.Goals.{then-left-eq1, else-left-eq1, then-right-eq1, else-right-eq1}
use Rattle.drt_check_values.proofs.greatest_values.greatest_of.Goals as goal

pub levels-init : goal.levels-init
levels-init c = run_left c.args.nodes.now c.args.first c.args.end c.requires.first c.requires.order c.requires.within

pub levels-preserved : goal.levels-preserved
levels-preserved c =
    let nodes = c.args.nodes.now in
    let front : TakenOut c.levels.left c.if-left-eq1.left (c.levels.left + 1) (get_or nodes c.levels.left 0) c.levels.most c.if-left-eq1.most
    = elim c.if-left-eq1.branch [ then-left-eq1 w ↦ inl (w.if-left-eq1.true, w.left-is, w.most-is ∙ w.max-most.ensures) | else-left-eq1 w ↦ inr (w.if-left-eq1.false, w.left-is, w.most-is) ] in
    let back : TakenOut c.levels.right c.if-right-eq1.right (c.levels.right - 1) (get_or nodes (c.levels.right - 1) 0) c.if-left-eq1.most c.if-right-eq1.most
    = elim c.if-right-eq1.branch [
      | then-right-eq1 w ↦ inl (w.if-right-eq1.true, w.right-is, w.most-is ∙ w.max-most-then-right-eq1.ensures)
      | else-right-eq1 w ↦ inr
          (w.if-right-eq1.false, w.right-is, w.most-is)
    ] in
    level_up nodes (run nodes c.args.first (c.args.end - c.args.first)) c.levels.left c.levels.right c.levels.most c.if-left-eq1.left c.if-left-eq1.most c.if-right-eq1.right
    c.if-right-eq1.most c.requires.joined c.levels.invariant c.levels-test.true front back

pub returns : goal.returns
returns c = nothing_left c.args.nodes.now (run c.args.nodes.now c.args.first (c.args.end - c.args.first)) c.levels.left c.levels.right c.levels.most c.levels.invariant c.levels-test.false
