use Rattle.std.proofs.Common.{ℕ, List}
use Rattle.drt_worst.specs.Splitting.{IsReached}
use Rattle.drt_worst.specs.Passing.{search_of_question}
use Rattle.drt_worst.specs.Jobs.{IsDoneOf}
use Rattle.drt_worst.proofs.Ends.{settles, from_places, each_get}
use Rattle.drt_worst.proofs.search.gather.Goals as goal

pub returns : goal.returns
returns c budget =
    let q = c.args.word.about in
    let s = search_of_question q in
    let roots : List ℕ = q.roots.value in
    let ps = c.args.passes.items in
    settles s roots c.requires.ready (λ t. (tuple : List ℕ) × IsReached s roots t tuple) c.close.result c.absorb_all.new.best c.absorb_all.new.leaves c.absorb_all.new.owner.me.0 ps c.requires.dealt.0
    c.close.ensures c.absorb_all.ensures.best c.requires.dealt.1 (from_places ps c.requires.dealt.0 c.requires.dealt.2 c.requires.dealt.3)
    (λ i p at. (let h = each_get (IsDoneOf c.args.word) ps i p c.requires.passes at in (h.1, h.2, c.absorb_all.ensures.known i p at)))
