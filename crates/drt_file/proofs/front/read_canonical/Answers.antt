use Rattle.drt_file.proofs.Fronts.{read_is}
use Rattle.drt_file.proofs.front.read_canonical.Goals as goal

pub invariant_of-result : goal.invariant_of-result
invariant_of-result c =
    (read_is c.args.bytes.now c.in_ok-n.n c.in_ok-n.above c.in_ok-n.rest.now c.in-Ok.version c.in-Ok.tasks c.in_ok-n.ensures.read.0 c.in_ok-n.ensures.read.1 c.in-Ok.ensures).limits

pub returns-in-Ok-clause-read : goal.returns-in-Ok-clause-read
returns-in-Ok-clause-read c =
    (read_is c.args.bytes.now c.in_ok-n.n c.in_ok-n.above c.in_ok-n.rest.now c.in-Ok.version c.in-Ok.tasks c.in_ok-n.ensures.read.0 c.in_ok-n.ensures.read.1 c.in-Ok.ensures).begins

pub returns-in-Ok-clause-found : goal.returns-in-Ok-clause-found
returns-in-Ok-clause-found c =
    (read_is c.args.bytes.now c.in_ok-n.n c.in_ok-n.above c.in_ok-n.rest.now c.in-Ok.version c.in-Ok.tasks c.in_ok-n.ensures.read.0 c.in_ok-n.ensures.read.1 c.in-Ok.ensures).one
