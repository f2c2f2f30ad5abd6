use Rattle.std.proofs.Common.{subst, ◌<◌, ◌∙◌}
use Rattle.drt_wave.proofs.ClaimSteps.{claims_one}
use Rattle.drt_wave.proofs.claims.Claims.claim.Goals as goal

pub fetch_add-requires : goal.fetch_add-requires
fetch_add-requires c =
    let t = c.args.self.now in (c.requires.seat.id, c.requires.wave, claims_one t.table.shared.key _ _ _ _ c.requires.parts (subst (λ n. c.args.wave < n) t.counted c.requires.wave))

pub returns-clause-seat : goal.returns-clause-seat
returns-clause-seat c = record { id = c.fetch_add.ensures.0 ∙ c.requires.seat.id; slots = c.fetch_add.ensures.2.1 ∙ c.requires.seat.slots }

pub returns-clause-drawn : goal.returns-clause-drawn
returns-clause-drawn c = c.fetch_add.ensures.2.0
