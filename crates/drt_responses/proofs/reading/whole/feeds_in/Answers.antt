use Rattle.std.proofs.Common.{◌≡◌, ◌==◌, rules}
use Rattle.std.specs.Prelude.{count_by}
use Rattle.drt_evidence.proofs.Dossiers.{feeds_above}
use Rattle.drt_responses.proofs.reading.whole.feeds_in.Goals as goal

pub returns : goal.returns
returns c =
    let is : c.count.result ≡ count_by (λ b. b == 10) c.args.bytes.now = search rules in
    let both = feeds_above c.args.bytes.now c.count.result is in
    record { count = both.0; within = both.1 }
