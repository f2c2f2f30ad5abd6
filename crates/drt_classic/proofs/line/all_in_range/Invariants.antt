use Rattle.std.proofs.Common.{◌≡◌, drop, map}
use Rattle.std.specs.List.{list_all}
use Rattle.drt_file.specs.trusted.Line.{is_in_range}
use Rattle.drt_classic.proofs.line.all_in_range.Given as goal

abbrev pub invariant-loop-word : goal.invariant-loop-word
invariant-loop-word l = list_all is_in_range (map (λ w. w.now) (drop l.word-index l.words)) ≡ list_all is_in_range (map (λ w. w.now) l.words)
