use Rattle.std.proofs.Common.{◌≡◌, ℕ, ◌<◌, ◌≤◌, List, length, reverse, arith, ap, ◌∙◌, sym, max}
use Rattle.std.specs.Ordering.{nat_cmp}
use Rattle.std.specs.Cmp.Lexicographic.{slice_cmp}
use Rattle.drt_steps.specs.Values.{value_at}
use Rattle.drt_steps.proofs.Ends.{down, down_level, reverse_down}
use Rattle.drt_steps.proofs.steps.Steps.compare_from_end.Goals as goal

pub loop-t-init : goal.loop-t-init
loop-t-init c =
    let xs : List ℕ = c.args.self.now in
    let ys : List ℕ = c.args.other.now in
    let n : c.bound-t.result ≡ length xs = c.bound-t.ensures.value in
    let m : c.bound-t.result ≡ length ys = n ∙ c.requires in
    record {
      within = omega arith;
      rest = ap (λ zs. slice_cmp nat_cmp zs (reverse ys)) (reverse_down xs ∙ ap (λ k. down xs k) (sym n)) ∙ ap (λ zs. slice_cmp nat_cmp (down xs c.bound-t.result) zs)
          (reverse_down ys ∙ ap (λ k. down ys k) (sym m));
    }

pub loop-t-preserved : goal.loop-t-preserved
loop-t-preserved c =
    let xs : List ℕ = c.args.self.now in
    let ys : List ℕ = c.args.other.now in
    let t : ℕ = c.loop-t.t in
    let e : c.max-t.result ≡ max c.level_since.result c.level_since-in-loop-t.result = c.max-t.ensures in
    let a : c.level_since.result < t = c.level_since.ensures.before in
    let b : c.level_since-in-loop-t.result < t = c.level_since-in-loop-t.ensures.before in
    let w : t ≤ length xs = c.loop-t.invariant.within in
    let same : value_at xs t ≡ value_at ys t = sym c.at-own.ensures.value ∙ (c.if-own-others.false ∙ c.at-others.ensures.value) in
    record {
      within = omega arith;
      rest = c.loop-t.invariant.rest ∙ down_level xs ys c.max-t.result t (omega arith) (λ s late le.
          c.level_since.ensures.level s (omega arith) le ∙ (same ∙ sym (c.level_since-in-loop-t.ensures.level s (omega arith) le)));
    }
