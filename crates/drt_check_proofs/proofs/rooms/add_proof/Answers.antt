use Rattle.std.proofs.Common.{◌≡◌, ◌++◌, List, length, map, refl, ap, subst, ◌∙◌}
use Rattle.std.specs.Prelude.{◌↔◌, IfOk, IsTrue, Some, slice_get}
use Rattle.std.specs.List.{AllByRecursion}
use Rattle.std.proofs.lemmas.Option.{slice_get_read}
use Rattle.drt_claims.specs.declared.evidence.Item.{Item}
use Rattle.drt_check_proofs.specs.Passing.{passing_times}
use Rattle.drt_check_proofs.specs.Points.{IsTimely, Mark, make_mark, room}
use Rattle.drt_check_proofs.proofs.Rest.{marks_are}
use Rattle.drt_check_proofs.proofs.rooms.add_proof.Goals as goal

pub returns-clause-timely : goal.returns-clause-timely
returns-clause-timely c =
    let t = c.index-tasks-proof.result in
    let at : slice_get c.args.tasks.now c.args.proof.now.task ≡ Some t = slice_get_read c.args.tasks.now (length c.args.tasks.now) c.args.proof.now.task t refl
    c.if-proof-tasks.false c.index-tasks-proof.is in
    let e = ap (λ (items : List Item). map (make_mark c.numbers-wcet.result.0 c.numbers-wcet.result.1) (passing_times items)) c.as_slice.ensures
    ∙ marks_are c.args.tasks.now c.args.proof.now t c.numbers-wcet.result.0 c.numbers-wcet.result.1 at c.numbers-wcet.ensures.wcet c.numbers-wcet.ensures.deadline in
    subst (λ (ms : List Mark). IfOk c.add_times.result (λ are. IsTrue are ↔ AllByRecursion IsTimely ms)) e c.add_times.ensures.timely

pub returns-clause-rooms : goal.returns-clause-rooms
returns-clause-rooms c =
    let t = c.index-tasks-proof.result in
    let at : slice_get c.args.tasks.now c.args.proof.now.task ≡ Some t = slice_get_read c.args.tasks.now (length c.args.tasks.now) c.args.proof.now.task t refl
    c.if-proof-tasks.false c.index-tasks-proof.is in
    let e = ap (λ (items : List Item). map (make_mark c.numbers-wcet.result.0 c.numbers-wcet.result.1) (passing_times items)) c.as_slice.ensures
    ∙ marks_are c.args.tasks.now c.args.proof.now t c.numbers-wcet.result.0 c.numbers-wcet.result.1 at c.numbers-wcet.ensures.wcet c.numbers-wcet.ensures.deadline in
    subst (λ (ms : List Mark). IfOk c.add_times.result (λ are. IsTrue are → c.add_times.new.rooms.items ≡ c.args.rooms.now.items ++ map room ms)) e c.add_times.ensures.rooms
