use Rattle.std.proofs.Common.{[], map, Bor, List, ℕ, ◌∙◌}
use Rattle.drt_file.specs.trusted.Words.{value}
use Rattle.drt_classic.proofs.Loops.{next_in_range, times_more, times_all}
use Rattle.drt_classic.proofs.parsing.times_from.Goals as goal

abbrev none : Bor (List ℕ)
none = record { ref_ptr = (0, 0); now = [] }

pub time-requires : goal.time-requires
time-requires c = (next_in_range c.args.words.now c.loop-word.word-index none c.loop-word-test.true c.loop-word.invariant.in_range).0

pub loop-word-preserved : goal.loop-word-preserved
loop-word-preserved c = record {
  in_range = (next_in_range c.args.words.now c.loop-word.word-index none c.loop-word-test.true c.loop-word.invariant.in_range).1;
  so_far = rw (c.in_ok-push.ensures.items, c.time.ensures)
      (times_more c.loop-word.times.items c.args.words.now c.loop-word.word-index none (map value (map (λ w. w.now) c.args.words.now))
      c.loop-word-test.true c.loop-word.invariant.so_far);
}

pub returns : goal.returns
returns c =
    c.from_vec.ensures
    ∙ times_all c.loop-word.times.items c.args.words.now c.loop-word.word-index (map value (map (λ w. w.now) c.args.words.now))
    c.loop-word-test.false c.loop-word.invariant.so_far
