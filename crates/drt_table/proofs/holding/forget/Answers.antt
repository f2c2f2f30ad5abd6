use Rattle.std.proofs.Common.{◌≡◌, ◌<◌, ℕ, true, Some, length, sym, ap, ◌∙◌, subst, arith}
use Rattle.std.specs.Prelude.{◌==◌}
use Rattle.std.specs.List.{Contains}
use Rattle.std.proofs.lemmas.Bool.Decides.{nat_tests}
use Rattle.std.proofs.lemmas.Option.{slice_get_within, get_or_from_slice_get}
use Rattle.drt_worklist.specs.Places.{first}
use Rattle.drt_worklist.proofs.Lists.{Found, found}
use Rattle.drt_table.proofs.Scan.{others_stay}
use Rattle.drt_table.proofs.holding.forget.Goals as goal

pub swap_remove-requires : goal.swap_remove-requires
swap_remove-requires c =
    let taken = c.args.taken.now.items in
    let there : first (λ (k : ℕ). k == c.args.id) c.as_slice.result.now ≡ Some c.in-Some.j = sym c.place_of.ensures ∙ c.in-Some.is in
    let f : Found (λ (k : ℕ). k == c.args.id) c.as_slice.result.now c.in-Some.j = found (λ (k : ℕ). k == c.args.id) c.as_slice.result.now c.in-Some.j there in
    let lt : c.in-Some.j < length c.as_slice.result.now = slice_get_within c.as_slice.result.now c.in-Some.j f.item f.at in
    omega (arith, lt, c.as_slice.ensures.len)

pub returns-in-Some-clause-others : goal.returns-in-Some-clause-others
returns-in-Some-clause-others c k ne old =
    let taken = c.args.taken.now.items in
    let there : first (λ (k : ℕ). k == c.args.id) taken ≡ Some c.in-Some.j = ap (λ xs. first (λ (k : ℕ). k == c.args.id) xs) (sym c.as_slice.ensures.value) ∙ (sym c.place_of.ensures ∙ c.in-Some.is) in
    let f : Found (λ (k : ℕ). k == c.args.id) taken c.in-Some.j = found (λ (k : ℕ). k == c.args.id) taken c.in-Some.j there in
    let lt : c.in-Some.j < length taken = slice_get_within taken c.in-Some.j f.item f.at in
    let passes : (f.item == c.args.id) ≡ true = f.passes in
    let item : f.item ≡ c.args.id = grind (arith, nat_tests) in
    subst (λ xs. Contains xs k) (sym c.swap_remove.ensures.items)
    (others_stay taken c.in-Some.j c.args.id c.swap_remove.result lt (c.swap_remove.ensures.value)
    (c.swap_remove.ensures.value ∙ (get_or_from_slice_get taken c.in-Some.j f.item c.swap_remove.result f.at ∙ item)) k ne old)
