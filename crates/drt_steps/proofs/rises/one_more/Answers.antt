use Rattle.std.proofs.Common.{◌≡◌, ℕ, ◌+◌, List, [], ◌∷◌, ◌++◌, sym, ap, ◌∙◌, arith}
use Rattle.drt_steps.specs.declared.jump.Jump.{Jump}
use Rattle.drt_steps.specs.Jumps.{total_rise, levels}
use Rattle.drt_steps.proofs.Behind.{last_level, levels_behind}
use Rattle.drt_steps.proofs.rises.one_more.Goals as goal

pub overflow_add-level : goal.overflow_add-level
overflow_add-level c =
    let js : List Jump = c.args.rises.now.jumps.items in
    let e : c.level_after-level.result ≡ c.args.base + total_rise js =
    c.level_after-level.ensures ∙ last_level c.args.base js c.deref.result.now c.len.result (c.deref.ensures.value ∙ c.requires.levels) (c.len.ensures ∙ sym c.deref.ensures.len) in
    omega (arith, c.requires.small)

pub returns-clause-levels : goal.returns-clause-levels
returns-clause-levels c =
    let p : ℕ = c.args.base in
    let js : List Jump = c.args.rises.now.jumps.items in
    let new : Jump = c.args.new in
    let e : c.level_after-level.result ≡ p + total_rise js =
    c.level_after-level.ensures ∙ last_level p js c.deref.result.now c.len.result (c.deref.ensures.value ∙ c.requires.levels) (c.len.ensures ∙ sym c.deref.ensures.len) in
    let more : c.in_ok-with_last.field-0.items ≡ js ++ new ∷ [] = c.in_ok-with_last.ensures ∙ ap (λ ks. ks ++ new ∷ []) c.deref-2.ensures.value in
    c.in_ok-with_last-2.ensures
    ∙ (ap (λ ls. ls ++ (c.level_after-level.result + new.rise) ∷ []) (c.deref-3.ensures.value ∙ c.requires.levels)
    ∙ (ap (λ n. levels p js ++ (n + new.rise) ∷ []) e ∙ (sym (levels_behind p js new) ∙ ap (λ ks. levels p ks) (sym more))))
