-- The flag and the two options are added to the new command.
use Rattle.std.proofs.Common.{◌≡◌, codes, false}
use Rattle.std.proofs.lemmas.Result.{IfOk-weaker}
use Rattle.clap.specs.Words.{AddsArg, app_of}
use Rattle.clap.specs.declared.builder.command.Command.TheViews.{out-Command}
use Rattle.drt_words.specs.CommandLine.{budget_rule, flag_rule, margin_options_app, workers_rule}
use Rattle.drt_words.proofs.Building.{adds_rule, stays_local}
use Rattle.drt_words.proofs.command_line.margin_options.Goals as goal

pub returns : goal.returns
returns c =
    let command = c.in_ok-command.command in
    let more = c.in_ok-more.more in
    let fixed = c.flag_option.result in
    let workers = c.workers_option.result in
    let budget = c.budget_option.result in
    let first = adds_rule c.new.result command fixed c.in_ok-command.ensures c.flag_option.ensures.local _ (flag_rule (codes "fixed")) c.new.ensures.app c.flag_option.ensures.rule in
    let alone = stays_local c.new.result command fixed c.in_ok-command.ensures c.flag_option.ensures.local c.new.ensures.local in
    let app = adds_rule command more workers c.in_ok-more.ensures c.workers_option.ensures.local _ workers_rule first c.workers_option.ensures.rule in
    let local = stays_local command more workers c.in_ok-more.ensures c.workers_option.ensures.local alone in
    record {
      app = IfOk-weaker c.arg-3.result (AddsArg more budget) (λ x. app_of x ≡ margin_options_app)
          (λ x adds. adds_rule more x budget adds c.budget_option.ensures.local _ budget_rule app c.budget_option.ensures.rule) c.arg-3.ensures;
      local = IfOk-weaker c.arg-3.result (AddsArg more budget) (λ x. (out-Command x).has_globals ≡ false)
          (λ x adds. stays_local more x budget adds c.budget_option.ensures.local local) c.arg-3.ensures;
    }
