use Rattle.std.proofs.Common.{inl, inr, ◌<◌, length, set, arith, subst, sym}
use Rattle.std.proofs.lemmas.Bool.{cases_eq}
use Rattle.std.proofs.lemmas.List.{get_or-set_same, get_or-set_other}
use Rattle.std.proofs.lemmas.List.Elements.{All-from_get_or}
use Rattle.drt_replay.specs.Events.{IsLater, stretch_at}
use Rattle.drt_replay.proofs.Stretches.{moved_none, moved_more, no_stretch}
use Rattle.drt_replay.proofs.events.release.Goals as goal

pub loop-i-init : goal.loop-i-init
loop-i-init c = record {
  moved = moved_none c.args.policy c.args.jobs.now c.args.now c.args.waiting.now c.args.ready.now c.requires.waits c.requires.readies c.requires.room;
  later = λ k h. absurd (omega arith);
}

pub loop-i-preserved : goal.loop-i-preserved
loop-i-preserved c =
    let i = c.loop-i.i in
    let w = c.loop-i.waiting in
    let s = c.release_from.result in
    let here : i < length w = omega (arith, c.loop-i-test.true, c.loop-i.auto.waiting) in
    record {
      moved = moved_more c.args.policy c.args.jobs.now c.args.now c.args.waiting.now c.args.ready.now w c.loop-i.ready c.loop-i.invariant.moved i here s
          c.release_from.new.ready c.release_from.ensures.moved;
      later = λ k h. elim (cases_eq k i) [
        | inl e ↦ subst (λ x. IsLater c.args.jobs.now c.args.now (stretch_at (set w i s) x)) (sym e) (rw (get_or-set_same w i s no_stretch here) c.release_from.ensures.later)
        | inr ne ↦ rw (get_or-set_other w i k s no_stretch ne) (c.loop-i.invariant.later k (omega arith))
      ];
    }

pub returns-clause-later : goal.returns-clause-later
returns-clause-later c = All-from_get_or (IsLater c.args.jobs.now c.args.now) c.loop-i.waiting no_stretch (λ k h. c.loop-i.invariant.later k (omega arith))
