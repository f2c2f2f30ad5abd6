-- What is promised of each command.
use Rattle.std.specs.Prelude.{Some, None}
use Rattle.drt_command.specs.Rules.{Rules}
use Rattle.drt_words.specs.declared.meaning.Meaning.{Meaning}
use Rattle.drt_words.specs.declared.meaning.Meaning.TheVariants as means
use Rattle.drt_command_edf.specs.Edf.{edf_rules}
use Rattle.drt_command_sp.specs.Sp.{sp_rules}
use Rattle.drt_command_upgrade.specs.Upgrade.{upgrade_rules}
use Rattle.drt_command_util.specs.Util.{util_rules}
use Rattle.drt_command_check.specs.Check.{check_rules}
use Rattle.drt_command_bench.specs.Bench.{bench_rules}
use Rattle.drt_command_response.specs.Response.{response_rules}
use Rattle.drt_command_convert.specs.Convert.{convert_rules}
use Rattle.drt_command_assign.specs.Assign.{assign_rules}
use Rattle.drt_command_margin.specs.Margin.{margin_rules}
use Rattle.drt_command_timeline.specs.Timeline.{timeline_rules}
use Rattle.drt_command_timeline.specs.Response.{response_timeline_rules}

-- The promises of the command that the words mean.
abbrev pub rules_of : Meaning → Rules
rules_of (means.Edf effort) = edf_rules effort.budget
rules_of (means.Sp effort) = sp_rules effort.budget
rules_of means.Upgrade = upgrade_rules
rules_of means.Util = util_rules
rules_of means.Check = check_rules
rules_of (means.Bench workers number) = bench_rules number
rules_of (means.Response effort) = response_rules effort.budget
rules_of means.Convert = convert_rules
rules_of (means.Assign effort) = assign_rules effort.budget
rules_of (means.Margin fixed spot effort) = margin_rules fixed spot.task spot.vertex effort.budget
rules_of (means.Timeline svg None) = timeline_rules svg
rules_of (means.Timeline svg (Some spot)) = response_timeline_rules svg spot.task spot.vertex
