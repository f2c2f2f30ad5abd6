use Rattle.std.proofs.Common.{◌&&◌, ◌==◌, inl, refl}
use Rattle.drt_responses.specs.Ranges.{IsInRangeResponse}
use Rattle.drt_responses.specs.declared.response.Response.{Response}
use Rattle.drt_command_timeline.proofs.ReachedLemmas.{found_has}
use Rattle.drt_command_timeline.proofs.ResponseLemmas.{names_none}
use Rattle.drt_command_timeline.proofs.response.draw_named.Goals as goal

pub returns-in-None-clause-unmade : goal.returns-in-None-clause-unmade
returns-in-None-clause-unmade c =
    let o = c.args.command.now in
    inl (names_none c.args.set.now.tasks c.as_slice.result.now c.as_slice-2.result.now o.task o.vertex c.as_slice.ensures c.as_slice-2.ensures c.in-None.ensures, refl)

pub draw_response-requires : goal.draw_response-requires
draw_response-requires c =
    let spot = c.in-Some.spot in
    found_has (λ (r : Response). r.task == spot.0 && r.vertex == spot.1) IsInRangeResponse c.args.responses.now c.in-Some-response_of.response.now c.requires c.in-Some-response_of.ensures
