use Rattle.std.proofs.Common.{rules, ◌≡◌, ℕ, ◌+◌, ◌-◌, List, Some, length, sym, ap, ◌∙◌, subst, arith}
use Rattle.std.specs.Prelude.{slice_get}
use Rattle.std.proofs.lemmas.Option.{slice_get-get_or}
use Rattle.drt_worst.specs.Rising.{fresh_view, split_left}
use Rattle.drt_worst.specs.declared.view.View.{View}
use Rattle.drt_worst.specs.Passing.{search_of_question}
use Rattle.drt_pool.specs.Turns.{EachPlace}
use Rattle.drt_worst.specs.Jobs.{IsPassOpened}
use Rattle.drt_worst.specs.declared.pass.Pass.{Pass}
use Rattle.drt_worst.proofs.Ends.{parts_at, each_push}
use Rattle.drt_worst.proofs.search.open_all.Goals as goal

pub open_one-requires-clause-part : goal.open_one-requires-clause-part
open_one-requires-clause-part c =
    let q = c.args.word.now.about in
    let at : slice_get c.args.dealt.now c.loop-i.i ≡ Some c.from_vec-combination.result = search (rules, slice_get-get_or) in
    parts_at (search_of_question q) q.roots.value c.args.dealt.now c.loop-i.i c.from_vec-combination.result c.requires.parts at

pub loop-i-preserved : goal.loop-i-preserved
loop-i-preserved c =
    let at : slice_get c.args.dealt.now c.loop-i.i ≡ Some c.from_vec-combination.result = search (rules, slice_get-get_or) in
    let p : Pass = c.in_ok-open_one.field-0 in
    let start : slice_get c.args.dealt.now (length c.loop-i.passes.items) ≡ Some p.start
    = ap (λ k. slice_get c.args.dealt.now k) c.loop-i.invariant.2 ∙ (at ∙ ap (λ (z : List ℕ). Some z) (sym c.in_ok-open_one.ensures.new.2)) in
    let opened : IsPassOpened c.args.word.now c.args.dealt.now c.args.told (length c.loop-i.passes.items) p
    = (c.in_ok-open_one.ensures.seat, c.in_ok-open_one.ensures.runs, c.in_ok-open_one.ensures.new.0, c.in_ok-open_one.ensures.new.1, start, c.in_ok-open_one.ensures.new.3) in
    let view : c.open_one.new.owner.me.0 ≡ split_left (fresh_view (1024 - c.loop-i.i)) = ap (λ m. m.0) c.in_ok-open_one.ensures.owner ∙ ap (λ (v : View). split_left v) c.loop-i.invariant.1 in
    let less : (1024 - c.loop-i.i) - 1 ≡ 1024 - (c.loop-i.i + 1) = omega arith in (
      c.open_one.ensures.name ∙ c.loop-i.invariant.0,
      view ∙ ap (λ k. fresh_view k) less,
      search (rules, c.loop-i.invariant.2),
      subst (λ (z : List Pass). EachPlace (IsPassOpened c.args.word.now c.args.dealt.now c.args.told) z) (sym c.in_ok-push.ensures.items)
          (each_push (IsPassOpened c.args.word.now c.args.dealt.now c.args.told) c.loop-i.passes.items p c.loop-i.invariant.3 opened),
    )
