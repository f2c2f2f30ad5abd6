-- One more table with nothing in it.
use Rattle.std.proofs.Common.{◌≡◌, ◌+◌, ◌++◌, ◌∷◌, [], List, length, Some, sym, ap, subst, arith, ◌∙◌}
use Rattle.std.specs.Prelude.{slice_get}
use Rattle.std.proofs.lemmas.Option.{get_or_from_slice_get}
use Rattle.drt_worklist.proofs.Lists.{length_join}
use Rattle.drt_sp.specs.Attempts.{AreTables, Table}
use Rattle.drt_sp.specs.declared.attempts.Attempt.{Attempt}
use Rattle.drt_sp.proofs.Attempted.{no_parts_yet, tables_push}
use Rattle.drt_sp.proofs.parts.no_tables.Goals as goal

pub loop-place-preserved : goal.loop-place-preserved
loop-place-preserved c =
    let spent = c.args.spent.now in
    let place = c.loop-place.place in
    let tables = c.loop-place.tables.items in
    let table = c.in_ok-no_parts.field-0 in
    let longer : length (tables ++ table ∷ []) ≡ length tables + 1 = length_join tables (table ∷ []) in
    let pushed : c.push.new.self.items ≡ tables ++ table ∷ [] = c.in_ok-push.ensures.items in
    record {
      count = ap length pushed ∙ (let n = c.loop-place.invariant.count in omega (arith, longer, n));
      are = λ f. subst (λ (l : List Table). AreTables f spent l) (sym pushed) (tables_push f spent tables table (c.loop-place.invariant.are f) (λ a at.
          let here : slice_get spent place ≡ Some a = ap (λ n. slice_get spent n) (sym c.loop-place.invariant.count) ∙ at in
          let same = get_or_from_slice_get spent place a c.index-spent-place.result here in
          no_parts_yet f a.wcet a.deadline a.frontier.combinations table.items
          (c.in_ok-no_parts.ensures.count ∙ (c.count.ensures ∙ ap (λ (x : Attempt). length x.frontier.combinations) same)) c.in_ok-no_parts.ensures.none));
    }
