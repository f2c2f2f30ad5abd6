-- The settings make the rule.
use Rattle.std.proofs.Common.{◌≡◌, ◌∙◌, Some, ap}
use Rattle.clap.specs.declared.builder.ValueParser.TheVariants as vp
use Rattle.drt_words.proofs.Building.{option_local, option_rule}
use Rattle.drt_words.proofs.command_line.number_option.Goals as goal

pub returns : goal.returns
returns c =
    let given = c.value_parser.ensures.given in
    let parser : c.value_parser.result.value_parser ≡ Some (vp.Unsigned 1 c.args.most) = given.1 ∙ ap Some given.2 in
    record {
      rule = option_rule c.args.name c.args.standard c.args.most c.new.result c.long.result c.action.result c.value_parser.result c.default_value.result
          c.long.ensures c.action.ensures c.value_parser.ensures.others parser c.default_value.ensures c.new.ensures.rule;
      local = option_local c.args.name c.args.standard c.args.most c.new.result c.long.result c.action.result c.value_parser.result c.default_value.result
          c.long.ensures c.action.ensures c.value_parser.ensures.others parser c.default_value.ensures c.new.ensures.optional.1;
    }
