use Rattle.std.proofs.Common.{◌≡◌, ◌-◌, ◌⊎◌, inl, inr, arith, refl, sym, ◌∙◌}
use Rattle.std.specs.Prelude.{slice_index}
use Rattle.drt_command_timeline.proofs.InputLemmas.{no_marker, rest_all}
use Rattle.drt_command_timeline.proofs.inputs.begins_at.Goals as goal
use Rattle.drt_command_timeline.proofs.inputs.begins_at.Goals.{else-at-gt0-via-then-at-gt0+else-bytes-at-ne10, else-at-gt0-via-else-at-gt0}

pub returns-in-Some : goal.returns-in-Some
returns-in-Some c =
    let line : (c.args.at ≡ 0) ⊎ (slice_index c.args.bytes.now (c.args.at - 1) ≡ 10) = elim c.else-at-gt0.branch [
      | else-at-gt0-via-then-at-gt0+else-bytes-at-ne10 w ↦ inr (grind (arith, w.if-bytes-at-ne10.false))
      | else-at-gt0-via-else-at-gt0 w ↦ inl (omega (arith, w.if-at-gt0.false))
    ] in
    (λ t. record { line = line; rest = c.in-Some.field-0.now; is = sym (rest_all c.args.bytes.now c.args.at) ∙ c.in-Some.ensures }, λ b. refl)

pub returns-in-None : goal.returns-in-None
returns-in-None c = (λ t. absurd (cc), λ b. absurd (no_marker c.args.bytes.now c.args.at (λ rest e. c.in-None.ensures rest (rest_all c.args.bytes.now c.args.at ∙ e)) b))
