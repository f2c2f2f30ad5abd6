-- The two options are added to the new command.
use Rattle.std.proofs.Common.{◌≡◌, false}
use Rattle.std.proofs.lemmas.Result.{IfOk-weaker}
use Rattle.clap.specs.Words.{AddsArg, app_of}
use Rattle.clap.specs.declared.builder.command.Command.TheViews.{out-Command}
use Rattle.drt_words.specs.CommandLine.{budget_rule, search_app, workers_rule}
use Rattle.drt_words.proofs.Building.{adds_rule, stays_local}
use Rattle.drt_words.proofs.command_line.search.Goals as goal

pub returns : goal.returns
returns c =
    let command = c.in_ok-command.command in
    let workers = c.workers_option.result in
    let budget = c.budget_option.result in
    let app = adds_rule c.new.result command workers c.in_ok-command.ensures c.workers_option.ensures.local _ workers_rule c.new.ensures.app c.workers_option.ensures.rule in
    let local = stays_local c.new.result command workers c.in_ok-command.ensures c.workers_option.ensures.local c.new.ensures.local in
    record {
      app = IfOk-weaker c.arg-2.result (AddsArg command budget) (λ x. app_of x ≡ search_app c.args.name.now)
          (λ x adds. adds_rule command x budget adds c.budget_option.ensures.local _ budget_rule app c.budget_option.ensures.rule) c.arg-2.ensures;
      local = IfOk-weaker c.arg-2.result (AddsArg command budget) (λ x. (out-Command x).has_globals ≡ false)
          (λ x adds. stays_local command x budget adds c.budget_option.ensures.local local) c.arg-2.ensures;
    }
