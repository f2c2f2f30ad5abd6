use Rattle.std.proofs.Common.{rules}
use Rattle.std.proofs.lemmas.Option.{get_or_from_slice_get}
use Rattle.drt_worst.proofs.plan.halves.Goals as goal

pub returns : goal.returns
returns c = record {
  place = c.args.place;
  widest = c.requires.place.0;
  left = c.in-Some.left;
  right = c.in-Some.right;
  forks = search (rules, get_or_from_slice_get);
  left_is = c.in_ok-left-in-Some.ensures;
  right_is = c.in_ok-right-in-Some.ensures;
}
