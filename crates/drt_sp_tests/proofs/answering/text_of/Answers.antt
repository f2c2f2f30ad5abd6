use Rattle.drt_sp.specs.Answers.{IsTreeNo, IsTreeYes}
use Rattle.drt_sp_tests.proofs.answering.text_of.Goals as goal

pub print_decided-requires : goal.print_decided-requires
print_decided-requires c = let said : IsTreeYes c.args.set c.in-Meets.evidence = rw c.in-Meets.is at c.requires.1 in said.1

pub print_decided-requires-in-Misses : goal.print_decided-requires-in-Misses
print_decided-requires-in-Misses c = let said : IsTreeNo c.args.set c.in-Misses.evidence = rw c.in-Misses.is at c.requires.1 in said.1
