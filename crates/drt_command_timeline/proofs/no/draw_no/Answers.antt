use Rattle.std.proofs.Common.{◌≤◌, ◌^◌, All, ap, arith, length, subst, sym}
use Rattle.drt_model.specs.Legal.{IsLegal}
use Rattle.drt_claims.specs.Kinds.{stated_releases}
use Rattle.drt_command_timeline.proofs.NoLemmas.{known_no, times_of}
use Rattle.drt_command_timeline.proofs.no.draw_no.Goals as goal

pub draw-requires : goal.draw-requires
draw-requires c =
    let d = c.dossier.inside in
    let known = known_no c.args.bytes.now c.args.dossier.now (record { policy = d.policy; set = d.set; evidence = d.evidence }) c.args.judgement c.requires (sym c.dossier.view_is)
    c.in_default.not-Rejected c.in-Some.ensures.0 in
    let same = c.in-Some.ensures.1 in
    let count = ap length same in
    let counted = known.1.counted in
    let deadline = known.1.named.deadline in
    let until = c.in-Some.ensures.2 in
    record {
      legal = subst (IsLegal d.set.tasks) (sym same) known.0;
      times = subst (λ rs. All (λ r. r.time ≤ 10 ^ 18) rs) (sym same) (times_of (stated_releases d.evidence) known.1.each);
      few = omega (arith, count, counted);
      within = omega (arith, deadline, until);
    }
