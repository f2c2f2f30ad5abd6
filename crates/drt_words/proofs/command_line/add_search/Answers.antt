-- The command that was made is added.
use Rattle.std.proofs.Common.{◌≡◌}
use Rattle.std.proofs.lemmas.Result.{IfOk-weaker}
use Rattle.clap.specs.Words.{App, app_of}
use Rattle.drt_words.specs.CommandLine.{IsMadeFrom, search_app, with_search}
use Rattle.drt_words.proofs.Building.{adds_command}
use Rattle.drt_words.proofs.command_line.add_search.Goals as goal

pub returns : goal.returns
returns c =
    let top = c.in_ok-top.field-0 in
    let step = λ (app : App). with_search app c.args.name.now in
    IfOk-weaker c.add.result (λ x. app_of x ≡ step (app_of top)) (IsMadeFrom c.args.top step) (λ x app. (top, c.in_ok-top.was, app))
    (adds_command top c.search.result c.add.result (search_app c.args.name.now) c.search.ensures.app c.search.ensures.local c.add.ensures)
