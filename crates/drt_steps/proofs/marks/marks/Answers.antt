use Rattle.std.proofs.Common.{◌≡◌, ℕ, ◌-◌, ◌*◌, ◌/◌, ◌<◌, length, refl, ◌∙◌, arith}
use Rattle.std.proofs.lemmas.List.{length-set}
use Rattle.drt_steps.specs.Jumps.{values}
use Rattle.drt_steps.specs.Values.{value_at}
use Rattle.drt_steps.proofs.Marked.{mark_within, marks_more}
use Rattle.drt_steps.proofs.Kept.{long}
use Rattle.drt_steps.proofs.Places.{place_within, value_there}
use Rattle.drt_steps.proofs.marks.marks.Goals as goal

pub level_after-requires : goal.level_after-requires
level_after-requires c = place_within c.args.bound c.args.base c.args.jumps.now c.args.levels.now c.args.jumps.now c.args.levels.now _ c.place_of.result c.requires refl refl c.place_of.ensures

pub loop-k-preserved : goal.loop-k-preserved
loop-k-preserved c =
    let n : ℕ = c.args.bound in
    let k : ℕ = c.loop-k.k in
    let lt : k < 16 = omega (arith, c.loop-k-test.true) in
    let room : k < length c.loop-k.marks = omega (arith, lt, c.loop-k.invariant.0) in
    let w = mark_within n k c.requires.kept.from lt in
    let l : n ≡ length (values n c.args.base c.args.jumps.now) = long n c.args.base c.args.jumps.now _ refl in
    let e : c.level_after.result ≡ value_at (values n c.args.base c.args.jumps.now) (n - k * (n / 16)) =
    c.level_after.ensures ∙ value_there n c.args.base c.args.jumps.now c.args.levels.now _ (n - k * (n / 16)) c.place_of.result refl c.requires w.0 (omega (arith, w.1, l)) c.place_of.ensures in
    let f : ℕ → ℕ = λ i. value_at (values n c.args.base c.args.jumps.now) (n - i * (n / 16)) in
    (length-set c.loop-k.marks k c.level_after.result ∙ c.loop-k.invariant.0, marks_more c.loop-k.marks k c.level_after.result f room c.loop-k.invariant.1 e)
