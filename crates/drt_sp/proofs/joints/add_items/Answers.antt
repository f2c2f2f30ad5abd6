use Rattle.std.proofs.Common.{◌∙◌}
use Rattle.drt_sp.proofs.joints.add_items.Goals as goal

pub returns-in-Pending-clause-parts : goal.returns-in-Pending-clause-parts
returns-in-Pending-clause-parts c = record {
  count = c.add_part.ensures.count ∙ c.requires.parts.count;
  are = λ id items at. c.requires.parts.are id items (c.add_part.ensures.left id items at);
}

pub returns-in-Taken-clause-parts : goal.returns-in-Taken-clause-parts
returns-in-Taken-clause-parts c = record {
  count = c.add_part-in-Taken.ensures.count ∙ c.requires.parts.count;
  are = λ id items at. c.requires.parts.are id items (c.add_part-in-Taken.ensures.left id items at);
}
