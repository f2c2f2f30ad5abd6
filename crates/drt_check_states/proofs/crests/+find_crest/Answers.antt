use Rattle.std.proofs.Common.{◌≡◌, ◌/◌, List, [], take, drop, length, sym, subst, rules}
use Rattle.std.proofs.lemmas.Result.{IfOk-weaker}
use Rattle.drt_states.specs.declared.claims.Jump.{Jump}
use Rattle.drt_check_states.specs.Crests.{IsGreatest, IsJoin}
use Rattle.drt_check_states.proofs.Joins.{greatest_both, greatest_none, greatest_one}
use Rattle.drt_check_states.proofs.crests.+find_crest.Goals as goal

pub returns-then-is_empty : goal.returns-then-is_empty
returns-then-is_empty t c =
    let none : length c.args.curves.now ≡ 0 = search rules in
    subst (IsGreatest c.args.curves.now) (sym c.new.ensures.items) (greatest_none c.args.curves.now none)

pub returns-then-curves-eq1 : goal.returns-then-curves-eq1
returns-then-curves-eq1 t c =
    let same : c.as_slice.result.now ≡ c.index-curves-0.result = c.as_slice.ensures in
    IfOk-weaker c.join.result _ _ (λ joined is.
    greatest_one c.args.curves.now c.index-curves-0.result joined.items c.if-curves-eq1.true c.index-curves-0.is (subst (λ (js : List Jump). IsJoin js [] joined.items) same is)) c.join.ensures

pub returns : goal.returns
returns t c =
    let curves : List (List Jump) = c.args.curves.now in
    let front : IsGreatest (take (length curves / 2) curves) c.in_ok-first.first.items
    = subst (λ (cs : List (List Jump)). IsGreatest cs c.in_ok-first.first.items) c.split_at.ensures.front c.in_ok-first.ensures in
    let back : IsGreatest (drop (length curves / 2) curves) c.in_ok-second.second.items
    = subst (λ (cs : List (List Jump)). IsGreatest cs c.in_ok-second.second.items) c.split_at.ensures.back c.in_ok-second.ensures in
    IfOk-weaker c.join-2.result _ _ (λ joined is.
    let left = subst (λ (js : List Jump). IsJoin js c.as_slice-3.result.now joined.items) c.as_slice-2.ensures.value is in
    greatest_both curves (length curves / 2) c.in_ok-first.first.items c.in_ok-second.second.items joined.items front back
    (subst (λ (js : List Jump). IsJoin c.in_ok-first.first.items js joined.items) c.as_slice-3.ensures.value left)) c.join-2.ensures
