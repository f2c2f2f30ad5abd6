-- The flag and the option are added to the new command.
use Rattle.std.proofs.Common.{◌≡◌, codes, false}
use Rattle.std.proofs.lemmas.Result.{IfOk-weaker}
use Rattle.clap.specs.Words.{AddsArg, app_of}
use Rattle.clap.specs.declared.builder.command.Command.TheViews.{out-Command}
use Rattle.drt_words.specs.CommandLine.{flag_rule, pair_rule, timeline_app}
use Rattle.drt_words.proofs.Building.{adds_rule, stays_local}
use Rattle.drt_words.proofs.command_line.timeline.Goals as goal

pub returns : goal.returns
returns c =
    let command = c.in_ok-command.command in
    let svg = c.flag_option.result in
    let vertex = c.pair_option.result in
    let app = adds_rule c.new.result command svg c.in_ok-command.ensures c.flag_option.ensures.local _ (flag_rule (codes "svg")) c.new.ensures.app c.flag_option.ensures.rule in
    let local = stays_local c.new.result command svg c.in_ok-command.ensures c.flag_option.ensures.local c.new.ensures.local in
    record {
      app = IfOk-weaker c.arg-2.result (AddsArg command vertex) (λ x. app_of x ≡ timeline_app)
          (λ x adds. adds_rule command x vertex adds c.pair_option.ensures.local _ (pair_rule (codes "vertex")) app c.pair_option.ensures.rule) c.arg-2.ensures;
      local = IfOk-weaker c.arg-2.result (AddsArg command vertex) (λ x. (out-Command x).has_globals ≡ false)
          (λ x adds. stays_local command x vertex adds c.pair_option.ensures.local local) c.arg-2.ensures;
    }
