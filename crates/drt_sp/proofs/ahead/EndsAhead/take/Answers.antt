-- What was found at the place is taken.
use Rattle.std.proofs.Common.{◌≡◌, ◌-◌, None, subst}
use Rattle.std.specs.Prelude.{slice_index_or}
use Rattle.drt_sp.specs.Searches.{IsEndAt}
use Rattle.drt_sp.proofs.EndsAhead.{taken_there}
use Rattle.drt_sp.proofs.ahead.EndsAhead.take.Goals as goal

pub returns-in-Ok-clause-taken : goal.returns-in-Ok-clause-taken
returns-in-Ok-clause-taken c gs order bound budget there =
    let from = c.args.self.now.from in
    let number : c.in-Ok.number ≡ c.args.place - from = c.in-Ok.ensures.1 in
    taken_there (IsEndAt gs order bound budget) from c.args.place c.args.self.now.found.items c.if-place-self.false there c.take_found.result
    (subst (λ n. c.take_found.result ≡ slice_index_or c.args.self.now.found.items n None) number c.take_found.ensures.taken)
