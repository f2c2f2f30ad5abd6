use Rattle.std.proofs.Common.{◌≡◌, ◌≤◌, ◌*◌, ◌^◌, take}
use Rattle.drt_picture.specs.Scale.{shown_before}
use Rattle.drt_picture.proofs.scale.shown_before.Given as goal

abbrev pub invariant-loop-part : goal.invariant-loop-part
invariant-loop-part l = record {
  so_far : l.ticks ≡ shown_before (take l.part-index l.parts) l.time;
  at_most : l.ticks ≤ l.part-index * 2 ^ 62;
}
