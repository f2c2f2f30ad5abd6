use Rattle.std.proofs.Common.{◌≤◌}
use Rattle.drt_refine.proofs.Widest.{AreAtMost, IsBest}
use Rattle.drt_refine.proofs.place.choose_place.Given as goal

abbrev pub invariant-loop-i : goal.invariant-loop-i
invariant-loop-i l = (1 ≤ l.most) × AreAtMost l.forest l.nodes l.i l.most × IsBest l.forest l.nodes l.i l.most l.widest
