-- The command that was made is added.
use Rattle.std.proofs.Common.{◌≡◌}
use Rattle.std.proofs.lemmas.Result.{IfOk-weaker}
use Rattle.clap.specs.Words.{app_of}
use Rattle.drt_words.specs.CommandLine.{IsMadeFrom, bench_app, with_bench}
use Rattle.drt_words.proofs.Building.{adds_command}
use Rattle.drt_words.proofs.command_line.add_bench.Goals as goal

pub returns : goal.returns
returns c =
    let top = c.in_ok-top.field-0 in
    let step = with_bench in
    IfOk-weaker c.add.result (λ x. app_of x ≡ step (app_of top)) (IsMadeFrom c.args.top step) (λ x app. (top, c.in_ok-top.was, app))
    (adds_command top c.bench.result c.add.result bench_app c.bench.ensures.app c.bench.ensures.local c.add.ensures)
