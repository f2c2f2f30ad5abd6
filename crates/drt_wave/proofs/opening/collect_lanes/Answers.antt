use Rattle.std.proofs.Common.{rules, ◌≡◌, length, ◌∙◌, sym, subst}
use Rattle.std.specs.Prelude.{vec_len}
use Rattle.std.proofs.lemmas.Iterator.Adapters.{YieldsList-from_vec}
use Rattle.std.proofs.lemmas.Iterator.Consumers.{YieldsList-turn}
use Rattle.drt_wave.specs.declared.opening.Opener.{Opener}
use Rattle.drt_wave.specs.Openers.{IsOpener}
use Rattle.drt_wave.proofs.opening.collect_lanes.Goals as goal

pub put_in-requires-clause-opener : goal.put_in-requires-clause-opener
put_in-requires-clause-opener c =
    let all = c.args.openers.items in
    let o : Opener = c.in-Some.opener in
    let gives = c.into_iter-opener-iterator.ensures.into_iter_gives in
    let size : vec_len c.args.openers ≡ length all = search rules in
    let road = YieldsList-from_vec all gives.0 (gives.1 ∙ size) in
    let t = YieldsList-turn road c.openers.yielded c.openers.opener-iterator c.openers.yielded_by c.next.result c.next.new.self o c.in-Some.is c.next.ensures.steps in
    subst (λ (r : Opener). IsOpener c.args.plan.now r) (sym t.1) (c.requires.each (length c.openers.yielded) o t.0)
