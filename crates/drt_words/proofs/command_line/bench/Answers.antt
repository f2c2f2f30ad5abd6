-- The option and the word are added to the new command.
use Rattle.std.proofs.Common.{◌≡◌, codes, false}
use Rattle.std.proofs.lemmas.Result.{IfOk-weaker}
use Rattle.clap.specs.Words.{AddsArg, app_of}
use Rattle.clap.specs.declared.builder.command.Command.TheViews.{out-Command}
use Rattle.drt_words.specs.CommandLine.{bench_app, whole_rule, workers_rule}
use Rattle.drt_words.proofs.Building.{adds_rule, stays_local}
use Rattle.drt_words.proofs.command_line.bench.Goals as goal

pub returns : goal.returns
returns c =
    let command = c.in_ok-command.command in
    let workers = c.workers_option.result in
    let number = c.whole_word.result in
    let app = adds_rule c.new.result command workers c.in_ok-command.ensures c.workers_option.ensures.local _ workers_rule c.new.ensures.app c.workers_option.ensures.rule in
    let local = stays_local c.new.result command workers c.in_ok-command.ensures c.workers_option.ensures.local c.new.ensures.local in
    record {
      app = IfOk-weaker c.arg-2.result (AddsArg command number) (λ x. app_of x ≡ bench_app)
          (λ x adds. adds_rule command x number adds c.whole_word.ensures.local _ (whole_rule (codes "number")) app c.whole_word.ensures.rule) c.arg-2.ensures;
      local = IfOk-weaker c.arg-2.result (AddsArg command number) (λ x. (out-Command x).has_globals ≡ false)
          (λ x adds. stays_local command x number adds c.whole_word.ensures.local local) c.arg-2.ensures;
    }
