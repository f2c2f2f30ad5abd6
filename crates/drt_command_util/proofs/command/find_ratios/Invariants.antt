-- The graphs so far have their ratios.
use Rattle.std.proofs.Common.{◌≡◌, length, take}
use Rattle.drt_ratio.specs.SetRatios.{AreRatioProofs, AreSmall}
use Rattle.drt_command_util.proofs.command.find_ratios.Given as goal

abbrev pub invariant-graphs : goal.invariant-graphs
invariant-graphs l = record {
  are : AreRatioProofs (take l.i l.graphs) l.proofs.items;
  small : AreSmall l.proofs.items;
  count : length l.proofs.items ≡ l.i;
}
