use Rattle.std.proofs.Common.{◌≡◌, ℕ, ◌+◌, ◌≤◌, Some, List, [], ◌∷◌, ◌++◌, take, sym, ap, ◌∙◌, arith}
use Rattle.std.specs.Prelude.{slice_get}
use Rattle.drt_steps.specs.declared.jump.Jump.{Jump}
use Rattle.drt_steps.specs.Jumps.{total_rise, levels}
use Rattle.drt_steps.proofs.Jumps.{total_more, total_within, take_all}
use Rattle.drt_steps.proofs.Places.{jump_at, jump_there, levels_more}
use Rattle.drt_steps.proofs.level.levels.Goals as goal

pub overflow_add-level : goal.overflow_add-level
overflow_add-level c =
    let js : List Jump = c.args.jumps.now in
    let i : ℕ = c.loop-jump.jump-index in
    let a : total_rise (take (i + 1) js) ≡ total_rise (take i js) + (jump_at js i).rise = total_more js i (jump_at js i) (jump_there js i c.loop-jump-test.true) in
    let b : total_rise (take (i + 1) js) ≤ total_rise js = total_within js (i + 1) in
    let e : c.loop-jump.level ≡ c.args.base + total_rise (take i js) = c.loop-jump.invariant.1 in
    omega (arith, c.requires)

pub loop-jump-preserved : goal.loop-jump-preserved
loop-jump-preserved c =
    let js : List Jump = c.args.jumps.now in
    let p : ℕ = c.args.base in
    let i : ℕ = c.loop-jump.jump-index in
    let j : Jump = jump_at js i in
    let at : slice_get js i ≡ Some j = jump_there js i c.loop-jump-test.true in
    let e : c.loop-jump.level ≡ p + total_rise (take i js) = c.loop-jump.invariant.1 in
    let a : total_rise (take (i + 1) js) ≡ total_rise (take i js) + j.rise = total_more js i j at in (
      c.in_ok-push.ensures.items
          ∙ (ap (λ ls. ls ++ (c.loop-jump.level + j.rise) ∷ []) c.loop-jump.invariant.0
          ∙ (ap (λ n. levels p (take i js) ++ (n + j.rise) ∷ []) e ∙ sym (levels_more p js i j at))),
      omega arith,
    )

pub returns : goal.returns
returns c = c.loop-jump.invariant.0 ∙ ap (λ js. levels c.args.base js) (take_all c.args.jumps.now c.loop-jump.jump-index (omega arith))
