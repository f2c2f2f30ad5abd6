use Rattle.std.proofs.Common.{◌≡◌, ℕ, Some, arith}
use Rattle.std.specs.Prelude.{slice_get, slice_index_or, ◌==◌}
use Rattle.std.proofs.lemmas.Bool.Decides.{nat_tests}
use Rattle.std.proofs.lemmas.Option.{slice_get-get_or}
use Rattle.drt_worklist.proofs.Lists.{first_is, first_none, fails_more}
use Rattle.drt_table.proofs.holding.place_of.Goals as goal

pub returns-then-taken-j : goal.returns-then-taken-j
returns-then-taken-j c =
    let at : slice_get c.args.taken.now c.loop-j.j ≡ Some (slice_index_or c.args.taken.now c.loop-j.j 0) = slice_get-get_or c.args.taken.now c.loop-j.j 0 c.loop-j-test.true in
    first_is (λ (k : ℕ). k == c.args.id) c.args.taken.now c.loop-j.j (slice_index_or c.args.taken.now c.loop-j.j 0) at (grind (arith, nat_tests, c.if-taken-j.true)) c.loop-j.invariant

pub loop-j-preserved : goal.loop-j-preserved
loop-j-preserved c =
    let at : slice_get c.args.taken.now c.loop-j.j ≡ Some (slice_index_or c.args.taken.now c.loop-j.j 0) = slice_get-get_or c.args.taken.now c.loop-j.j 0 c.loop-j-test.true in
    fails_more (λ (k : ℕ). k == c.args.id) c.args.taken.now c.loop-j.j (slice_index_or c.args.taken.now c.loop-j.j 0) at (grind (arith, nat_tests, c.if-taken-j.false)) c.loop-j.invariant

pub returns : goal.returns
returns c = first_none (λ (k : ℕ). k == c.args.id) c.args.taken.now (λ k h lt at. c.loop-j.invariant k h (omega arith) at)
