use Rattle.std.proofs.Common.{◌≡◌, ◌+◌, ◌<◌, List, All, get_or, arith, refl, subst, sym}
use Rattle.std.specs.Prelude.{Some, None}
use Rattle.drt_model.specs.Digraph.{vertex_count}
use Rattle.drt_states.specs.States.{entry_at}
use Rattle.drt_states.specs.declared.claims.StateEntry.{StateEntry}
use Rattle.drt_check_states.specs.Children.{IsEntryCut}
use Rattle.drt_check_states.specs.Places.{ArePlacesInOrder, no_entry}
use Rattle.drt_check_states.proofs.Cuts.{cut_in, cut_over, entry_absent, entry_there, greater_at}
use Rattle.drt_check_states.proofs.Splits.{from_absent, from_there, to_absent, to_there}
use Rattle.drt_check_states.proofs.children.are_dominated.Goals as goal

pub moves_on-requires : goal.moves_on-requires
moves_on-requires c =
    let es = c.as_slice-entries.result.now in
    let at = c.first_from-at.result in
    let here = c.stands_at.ensures.0 c.if-stands_at.true in
    let all = subst (λ (xs : List StateEntry). All (λ e. e.place ≡ c.args.place → e.vertex < vertex_count c.args.graph.now) xs) (sym c.as_slice-entries.ensures) c.requires.vertices in
    record {
      vertex = all at no_entry here.0 here.1;
      cut = subst (λ (xs : List StateEntry). IsEntryCut (get_or es at no_entry).place xs (record { at = at; rest = at + 1 })) c.as_slice-entries.ensures
          (cut_over (get_or es at no_entry).place es at no_entry here.0 (λ i b h. (let lower = c.first_from-at.ensures.before i b h in omega (arith, lower, here.1))) refl);
    }

pub begins-requires : goal.begins-requires
begins-requires c =
    let es = c.as_slice-entries.result.now in
    let at = c.first_from-at.result in
    subst (λ (xs : List StateEntry). IsEntryCut c.args.place xs (record { at = at; rest = at })) c.as_slice-entries.ensures
    (cut_in c.args.place es at c.first_from-at.ensures.within c.first_from-at.ensures.before
    (greater_at es at c.args.place c.stands_at.result c.stands_at.ensures.1 c.if-stands_at.false c.first_from-at.ensures.after))

pub returns-then-stands_at : goal.returns-then-stands_at
returns-then-stands_at c =
    let es = c.as_slice-entries.result.now in
    let at = c.first_from-at.result in
    let from = get_or es at no_entry in
    let here = c.stands_at.ensures.0 c.if-stands_at.true in
    let e : entry_at c.args.state.now.entries c.args.place ≡ Some from
    = subst (λ (xs : List StateEntry). entry_at xs c.args.place ≡ Some from) c.as_slice-entries.ensures (entry_there c.args.place es at no_entry here.0 c.first_from-at.ensures.before here.1) in (
      λ t. from_there c.args.graph.now c.args.deadline c.args.states.now c.args.state.now c.args.place c.args.numbers.now from e here.1 (c.moves_on.ensures.0 t),
      λ all. c.moves_on.ensures.1 (to_there c.args.graph.now c.args.deadline c.args.states.now c.args.state.now c.args.place c.args.numbers.now from e here.1 all),
    )

pub returns-else-stands_at : goal.returns-else-stands_at
returns-else-stands_at c =
    let es = c.as_slice-entries.result.now in
    let at = c.first_from-at.result in
    let order = subst ArePlacesInOrder (sym c.as_slice-entries.ensures) c.requires.in_order in
    let e : entry_at c.args.state.now.entries c.args.place ≡ None
    = subst (λ (xs : List StateEntry). entry_at xs c.args.place ≡ None) c.as_slice-entries.ensures
    (entry_absent c.args.place es at order c.first_from-at.ensures.before
    (greater_at es at c.args.place c.stands_at.result c.stands_at.ensures.1 c.if-stands_at.false c.first_from-at.ensures.after)) in (
      λ t. from_absent c.args.graph.now c.args.deadline c.args.states.now c.args.state.now c.args.place c.args.numbers.now e (c.begins.ensures.0 t),
      λ all. c.begins.ensures.1 (to_absent c.args.graph.now c.args.deadline c.args.states.now c.args.state.now c.args.place c.args.numbers.now e all),
    )
