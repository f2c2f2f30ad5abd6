use Rattle.std.proofs.Common.{sym, ◌∙◌}
use Rattle.drt_table.specs.View.{setting_of, state_of}
use Rattle.drt_shared.proofs.Calls.{may_take, hands_node}
use Rattle.drt_shared.proofs.board.TableBoard.take.Goals as goal

pub apply-reply-requires-clause-can : goal.apply-reply-requires-clause-can
apply-reply-requires-clause-can g c κs within = may_take g.L.Label.algebra (setting_of c.args.self.now) (state_of c.args.self.now) c.args.worker c.requires

pub hand_out-label-requires-after_bounds : goal.hand_out-label-requires-after_bounds
hand_out-label-requires-after_bounds g c κs within = hands_node c.apply-reply.new.self _ _ (sym c.node_taken.ensures ∙ c.in-Some.is) c.apply-reply.ensures.hands
