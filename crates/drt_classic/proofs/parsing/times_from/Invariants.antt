use Rattle.std.proofs.Common.{◌≡◌, ◌++◌, drop, map}
use Rattle.std.specs.List.{list_all}
use Rattle.std.specs.Prelude.{IsTrue}
use Rattle.drt_file.specs.trusted.Words.{value}
use Rattle.drt_file.specs.trusted.Line.{is_in_range}
use Rattle.drt_classic.proofs.parsing.times_from.Given as goal

abbrev pub invariant-loop-word : goal.invariant-loop-word
invariant-loop-word l = record {
  in_range : IsTrue (list_all is_in_range (map (λ w. w.now) (drop l.word-index l.words)));
  so_far : l.times.items ++ map value (map (λ w. w.now) (drop l.word-index l.words)) ≡ map value (map (λ w. w.now) l.words);
}
