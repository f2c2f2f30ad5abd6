-- What is promised of `upgrade` agrees.
use Rattle.std.proofs.Common.{arith}
use Rattle.drt_file.specs.trusted.Laws.{TextsReadAsOneSet}
use Rattle.drt_command.specs.Rules.{AreLawful}
use Rattle.drt_command_upgrade.specs.Upgrade.{upgrade_rules}
use Rattle.drt_command_files.proofs.TaskFileLemmas.{accepted_well, fault_one, long_file}

pub upgrade_lawful : TextsReadAsOneSet → AreLawful upgrade_rules
upgrade_lawful law = record {
  low = λ bytes m d. omega (arith, d.status);
  apart = λ bytes m f d h. accepted_well law bytes d.set f d.accepted h;
  one_fault = fault_one law;
  longer = long_file;
  made_ends = λ bytes m d set a. d.status;
  refused_ends = λ bytes f h set a. absurd (accepted_well law bytes set f a h);
}
