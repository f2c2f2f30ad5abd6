-- The two words are added to the options.
use Rattle.std.proofs.Common.{◌≡◌, codes, false}
use Rattle.std.proofs.lemmas.Result.{IfOk-weaker}
use Rattle.clap.specs.Words.{AddsArg, app_of}
use Rattle.clap.specs.declared.builder.command.Command.TheViews.{out-Command}
use Rattle.drt_words.specs.CommandLine.{margin_app, name_rule}
use Rattle.drt_words.proofs.Building.{adds_rule, stays_local}
use Rattle.drt_words.proofs.command_line.margin.Goals as goal

pub returns : goal.returns
returns c =
    let options = c.in_ok-options.options in
    let command = c.in_ok-command.command in
    let task = c.name_word.result in
    let vertex = c.name_word-2.result in
    let app = adds_rule options command task c.in_ok-command.ensures c.name_word.ensures.local _ (name_rule (codes "task")) c.in_ok-options.ensures.app c.name_word.ensures.rule in
    let local = stays_local options command task c.in_ok-command.ensures c.name_word.ensures.local c.in_ok-options.ensures.local in
    record {
      app = IfOk-weaker c.arg-2.result (AddsArg command vertex) (λ x. app_of x ≡ margin_app)
          (λ x adds. adds_rule command x vertex adds c.name_word-2.ensures.local _ (name_rule (codes "vertex")) app c.name_word-2.ensures.rule) c.arg-2.ensures;
      local = IfOk-weaker c.arg-2.result (AddsArg command vertex) (λ x. (out-Command x).has_globals ≡ false)
          (λ x adds. stays_local command x vertex adds c.name_word-2.ensures.local local) c.arg-2.ensures;
    }
