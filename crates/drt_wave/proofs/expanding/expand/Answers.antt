use Rattle.std.proofs.Common.{ℕ, ◌/◌, rules, arith}
use Rattle.drt_wave.proofs.Going.{kept_more, kept_some, expanded_by}
use Rattle.drt_wave.proofs.expanding.expand.Goals as goal

pub returns-then-value-eq0-clause-expanded : goal.returns-then-value-eq0-clause-expanded
returns-then-value-eq0-clause-expanded c =
    let p = c.args.table.now.plan in let wave : ℕ = c.args.offset / p.span in
    expanded_by p c.glance_at-value.new.seat c.args.vertex c.args.offset c.glance_at-value.result c.requires.offset
    (c.glance_at-value.ensures.best wave c.requires.known (omega arith)) (λ ne. absurd (ne (search rules)))

pub pass_on-requires-clause-parts : goal.pass_on-requires-clause-parts
pass_on-requires-clause-parts c = kept_some _ _ c.glance_at-value.ensures.kept c.requires.parts

pub returns-clause-kept : goal.returns-clause-kept
returns-clause-kept c = kept_more _ _ _ c.glance_at-value.ensures.kept c.pass_on.ensures.kept

pub returns-clause-expanded : goal.returns-clause-expanded
returns-clause-expanded c =
    let p = c.args.table.now.plan in let wave : ℕ = c.args.offset / p.span in
    expanded_by p c.pass_on.new.seat c.args.vertex c.args.offset c.glance_at-value.result c.requires.offset
    (c.glance_at-value.ensures.best wave c.requires.known (omega arith)) (λ ne. c.pass_on.ensures.passed)
