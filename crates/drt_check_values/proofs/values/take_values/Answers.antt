use Rattle.std.proofs.Common.{ℕ, List, length, ap, sym, subst, All}
use Rattle.std.specs.Prelude.{◌↔◌, IsTrue}
use Rattle.drt_check_values.specs.declared.rises.Rise.{Rise}
use Rattle.drt_check_values.specs.Sweeps.{AreReady, HasRunOfPlaces}
use Rattle.drt_check_values.specs.Values.{AreLeft, AreValuesWithin}
use Rattle.drt_check_values.proofs.Valuing.{answers_same, has_runs, rises_ready}
use Rattle.drt_check_values.proofs.values.take_values.Goals as goal

pub sweep-requires-clause-runs : goal.sweep-requires-clause-runs
sweep-requires-clause-runs c =
    let firsts = c.in_ok-places.places.firsts.items in
    let sizes = c.in_ok-places.places.sizes.items in
    subst (λ n. All (HasRunOfPlaces firsts sizes n) c.args.queries.now) (sym (ap length c.as_slice-count.ensures)) (has_runs c.args.tree.now c.requires.tree firsts sizes c.args.queries.now
    c.in_ok-places.ensures.firsts c.in_ok-places.ensures.sizes c.requires.nodes)

pub sweep-requires-clause-rises : goal.sweep-requires-clause-rises
sweep-requires-clause-rises c =
    let ready = rises_ready c.args.graph.now c.keep_limits.ensures c.args.tree.now c.args.bound c.requires.bound c.requires.short c.in_ok-rises.rises.items
    c.put_in_order.new.rises.items c.in_ok-rises.ensures c.put_in_order.ensures.same c.put_in_order.ensures.order in
    let counted = subst (λ n. AreReady n c.put_in_order.new.rises.items) (sym (ap length c.as_slice-count.ensures)) ready in
    subst (λ (rs : List Rise). AreReady (length c.as_slice-count.result.now) rs) (sym c.as_slice-3.ensures.value) counted

pub returns-clause-fits : goal.returns-clause-fits
returns-clause-fits c =
    let same =
    answers_same c.args.graph.now c.args.tree.now c.requires.tree c.in_ok-places.places.firsts.items c.in_ok-places.places.sizes.items c.in_ok-rises.rises.items c.put_in_order.new.rises.items
    c.as_slice-3.result.now (length c.as_slice-count.result.now) c.args.queries.now c.in_ok-places.ensures.firsts c.in_ok-places.ensures.sizes c.in_ok-rises.ensures c.put_in_order.ensures.same
    c.requires.nodes c.as_slice-3.ensures.value (ap length c.as_slice-count.ensures) in
    subst (λ (vs : List ℕ). IsTrue c.in_ok-fit.fit ↔ AreValuesWithin vs c.args.rooms.now) same c.in_ok-fit.ensures.fits

pub returns-clause-left : goal.returns-clause-left
returns-clause-left c =
    let same =
    answers_same c.args.graph.now c.args.tree.now c.requires.tree c.in_ok-places.places.firsts.items c.in_ok-places.places.sizes.items c.in_ok-rises.rises.items c.put_in_order.new.rises.items
    c.as_slice-3.result.now (length c.as_slice-count.result.now) c.args.queries.now c.in_ok-places.ensures.firsts c.in_ok-places.ensures.sizes c.in_ok-rises.ensures c.put_in_order.ensures.same
    c.requires.nodes c.as_slice-3.ensures.value (ap length c.as_slice-count.ensures) in
    subst (λ (vs : List ℕ). IsTrue c.in_ok-fit.fit → AreLeft vs c.args.rooms.now c.sweep.new.rooms) same c.in_ok-fit.ensures.left
