use Rattle.std.proofs.Common.{Ok, Some, map, sym, ap, ◌∙◌}
use Rattle.drt_file.specs.declared.state.State.{State}
use Rattle.drt_file.specs.internal.Kinds.{kind, first_word}
use Rattle.drt_file.specs.internal.Steps.{after_kind}
use Rattle.drt_file.proofs.Parses.{stops, goes}
use Rattle.drt_file.proofs.steps.below.Goals as goal

pub after-requires : goal.after-requires
after-requires c = (goes c.args.n c.args.r c.args.line.now (map (λ w. w.now) c.args.words.now) c.in-Ok.said c.in-Ok.ensures).new

pub returns-in_ok-after-in-Ok : goal.returns-in_ok-after-in-Ok
returns-in_ok-after-in-Ok c =
    (goes c.args.n c.args.r c.args.line.now (map (λ w. w.now) c.args.words.now) c.in-Ok.said c.in-Ok.ensures).leaves
    ∙ ap (λ (t : State). Ok (Some t)) (sym c.in_ok-after-in-Ok.ensures)

pub returns-in-Err : goal.returns-in-Err
returns-in-Err c =
    let words = map (λ w. w.now) c.args.words.now in
    stops c.args.n c.args.r c.args.line.now words (after_kind (kind c.args.r.version (first_word words)) c.args.n c.args.r words) c.in-Err.e c.in-Err.ensures
