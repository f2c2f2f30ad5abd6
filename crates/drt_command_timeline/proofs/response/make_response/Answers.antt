use Rattle.std.proofs.Common.{◌-◌, length, take, drop}
use Rattle.drt_command.specs.Rules.{IsUnmadeCause}
use Rattle.drt_command_timeline.specs.Response.{IsResponseFault}
use Rattle.drt_command_timeline.proofs.ResponseLemmas.{err_then, file_cause, input_at, named_cause, named_draws, ok_then, passed, text_cause}
use Rattle.drt_command_timeline.proofs.response.make_response.Goals as goal

pub returns-in_err-set-clause-unmade : goal.returns-in_err-set-clause-unmade
returns-in_err-set-clause-unmade c =
    let o = c.args.command.now in
    let at = c.cut_at-at.result in
    passed (IsUnmadeCause (IsResponseFault o.task o.vertex) c.args.bytes.now) c.from_residual.result c.in_err-set.field-0.0 c.from_residual.ensures.1
    (file_cause o.task o.vertex c.args.bytes.now (take at c.args.bytes.now) (take (length c.args.bytes.now - at) (drop at c.args.bytes.now))
    (input_at c.args.bytes.now at c.requires c.cut_at-at.ensures) c.in_err-set.field-0.0 c.in_err-set.ensures.unmade)

pub returns-in_err-responses-clause-unmade : goal.returns-in_err-responses-clause-unmade
returns-in_err-responses-clause-unmade c =
    let o = c.args.command.now in
    let at = c.cut_at-at.result in
    passed (IsUnmadeCause (IsResponseFault o.task o.vertex) c.args.bytes.now) c.from_residual-in_err-responses.result c.in_err-responses.field-0.0 c.from_residual-in_err-responses.ensures.1
    (text_cause o.task o.vertex c.args.bytes.now (take at c.args.bytes.now) (take (length c.args.bytes.now - at) (drop at c.args.bytes.now)) c.in_ok-set.set
    (input_at c.args.bytes.now at c.requires c.cut_at-at.ensures)
    c.in_ok-set.ensures.accepted c.in_err-responses.field-0.0 c.in_err-responses.ensures.unmade)

pub returns-clause-draws : goal.returns-clause-draws
returns-clause-draws c =
    let o = c.args.command.now in
    let at = c.cut_at-at.result in
    let rs = c.in_ok-responses in
    ok_then
    (λ m d. named_draws o.svg o.task o.vertex c.args.bytes.now (take at c.args.bytes.now) (take (length c.args.bytes.now - at) (drop at c.args.bytes.now)) c.in_ok-set.set rs.responses m
    (record { input = input_at c.args.bytes.now at c.requires c.cut_at-at.ensures; accepted = c.in_ok-set.ensures.accepted; are = rs.ensures.read; only = rs.ensures.only })
    (rw c.as_slice.ensures at d))
    c.draw_named.result c.draw_named.ensures.draws

pub returns-clause-unmade : goal.returns-clause-unmade
returns-clause-unmade c =
    let o = c.args.command.now in
    let at = c.cut_at-at.result in
    let rs = c.in_ok-responses in
    err_then
    (λ e h. named_cause o.task o.vertex c.args.bytes.now (take at c.args.bytes.now) (take (length c.args.bytes.now - at) (drop at c.args.bytes.now)) c.in_ok-set.set rs.responses
    (record { input = input_at c.args.bytes.now at c.requires c.cut_at-at.ensures; accepted = c.in_ok-set.ensures.accepted; are = rs.ensures.read; only = rs.ensures.only }) e
    (rw c.as_slice.ensures at h))
    c.draw_named.result c.draw_named.ensures.unmade
