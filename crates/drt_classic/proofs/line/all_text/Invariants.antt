use Rattle.std.proofs.Common.{◌≡◌, drop}
use Rattle.std.specs.List.{list_all}
use Rattle.drt_file.specs.trusted.Line.{is_text}
use Rattle.drt_classic.proofs.line.all_text.Given as goal

abbrev pub invariant-loop-b : goal.invariant-loop-b
invariant-loop-b l = list_all is_text (drop l.b-index l.line) ≡ list_all is_text l.line
