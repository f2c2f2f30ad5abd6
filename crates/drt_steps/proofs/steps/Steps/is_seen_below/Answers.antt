use Rattle.std.proofs.Common.{◌≡◌, sym, ap, ◌∙◌, refl}
use Rattle.drt_steps.specs.Values.{covers}
use Rattle.drt_steps.specs.Jumps.{values}
use Rattle.drt_steps.proofs.Kept.{long}
use Rattle.drt_steps.proofs.Marked.{mark_below}
use Rattle.drt_steps.proofs.steps.Steps.is_seen_below.Goals as goal

pub returns-then-self-k : goal.returns-then-self-k
returns-then-self-k c _ =
    let own = c.self.inside in let o = c.other.inside in
    let same : own.bound ≡ o.bound = long own.bound own.base own.rises.value.jumps.items c.args.self.now c.self.view_is
    ∙ (c.requires ∙ sym (long o.bound o.base o.rises.value.jumps.items c.args.other.now c.other.view_is)) in
    sym (ap (λ xs. covers xs (values o.bound o.base o.rises.value.jumps.items)) c.self.view_is ∙ ap (λ ys. covers c.args.self.now ys) c.other.view_is)
    ∙ mark_below own.bound o.bound _ _ own.marks o.marks c.marks.k c.self.invariant.1 c.other.invariant.1 same
    (long own.bound own.base own.rises.value.jumps.items _ refl) c.self.invariant.0.kept.from c.marks-test.true c.if-self-k.true
