use Rattle.std.proofs.Common.{rules, ℕ, arith, ap, length, length-append, refl, ◌≡◌, ◌+◌, ◌∷◌, [], Some}
use Rattle.drt_shared_frontier.specs.Passes.{FrontierPassOf}
use Rattle.drt_pool.proofs.Places.{places_last}
use Rattle.drt_shared_frontier.proofs.Totals.{total_last}
use Rattle.drt_shared_frontier.proofs.passes.gather.Goals as goal

pub loop-pass-preserved : goal.loop-pass-preserved
loop-pass-preserved c =
    let i = c.loop-pass.invariant in
    let last = places_last (λ p. (p.name ≡ c.args.lock.name) × (p.setting ≡ Some c.args.lock.fixed)) _ _ _ c.in-Some.ensures.items i.each in
    let counts : FrontierPassOf → ℕ = λ p. p.count in
    let sum = total_last counts _ _ _ c.in-Some.ensures.items in
    let longer : length c.loop-pass.passes.items ≡ length c.pop.new.self.items + 1 = omega (arith, ap length c.in-Some.ensures.items, length-append c.pop.new.self.items (c.in-Some.pass ∷ [])) in
    let t = c.join.ensures.seat in
    record {
      name = search rules;
      owner = (omega (arith, t.0.1, i.owner.0), omega (arith, t.0.1, i.owner.1, c.pass.invariant.0, longer), ((t.0.0, refl, refl), t.1, t.2));
      count = omega (arith, i.count, sum, t.0.2, c.pass.invariant.1, ap (λ p. p.count) c.pass.view_is);
      each = last.0;
    }
