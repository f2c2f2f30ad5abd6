use Rattle.std.proofs.Common.{◌≡◌, ℕ, ◌+◌, ◌/◌, ◌%◌, ◌<◌, sym, subst, arith}
use Rattle.std.proofs.lemmas.Nat.{div-mul-add}
use Rattle.drt_wave.specs.Cells.{cell_at}
use Rattle.drt_wave.specs.Seats.{KnowsTo, IsExpanded}
use Rattle.drt_wave.proofs.Going.{kept_more, kept_some, block_more}
use Rattle.drt_wave.proofs.expanding.expand_block.Goals as goal

pub expand-requires-clause-parts : goal.expand-requires-clause-parts
expand-requires-clause-parts c = kept_some _ _ c.cells.invariant.1 c.requires.parts

pub expand-requires-clause-known : goal.expand-requires-clause-known
expand-requires-clause-known c =
    let p = c.args.table.now.plan in let within : c.cells.at < p.span = omega arith in
    subst (λ first. KnowsTo ((first + c.cells.at) / p.span) c.cells.seat) (sym c.first_offset-first.ensures.value)
    (subst (λ k. KnowsTo k c.cells.seat) (sym (div-mul-add c.args.wave p.span c.cells.at within)) (c.cells.invariant.1.known c.args.wave c.requires.known))

pub cells-preserved : goal.cells-preserved
cells-preserved c =
    let p = c.args.table.now.plan in let inv = c.cells.invariant in let n : ℕ = c.cells._number in
    let place = subst (λ w. (k : ℕ) → c.cells.vertex ≡ k / w → c.cells.at ≡ k % w
    → (c.next_place.result.0 ≡ (k + 1) / w) × (c.next_place.result.1 ≡ (k + 1) % w)) c.offsets-width.ensures.value c.next_place.ensures n inv.2 inv.3 in
    let here = subst (λ (q : ℕ × ℕ × ℕ). IsExpanded p c.expand.new.seat (cell_at p q.0 (q.1 + q.2)))
    (λ i. (inv.2 i, c.first_offset-first.ensures.value i, inv.3 i)) c.expand.ensures.expanded in (
      c.expand.ensures.seat,
      kept_more _ _ _ inv.1 c.expand.ensures.kept,
      place.0,
      place.1,
      block_more p _ _ c.args.wave _ n c.expand.ensures.kept inv.4 here,
    )
