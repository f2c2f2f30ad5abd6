use Rattle.std.proofs.Common.{◌≡◌, ℕ, ◌+◌, ◌≤◌, true, false, List, sym, ap, ◌∙◌, subst}
use Rattle.drt_steps.specs.declared.jump.Jump.{Jump}
use Rattle.drt_steps.specs.Values.{covers}
use Rattle.drt_steps.specs.Jumps.{risen, values, IsBelowAt}
use Rattle.drt_steps.proofs.Kept.{long, covers_is}
use Rattle.drt_steps.proofs.steps.Steps.covers.Goals as goal

pub returns : goal.returns
returns c =
    let p : ℕ = c.self.inside.base in
    let q : ℕ = c.other.inside.base in
    let own : List Jump = c.self.inside.rises.value.jumps.items in
    let other : List Jump = c.other.inside.rises.value.jumps.items in
    let same : c.self.inside.bound ≡ c.other.inside.bound = long c.self.inside.bound p own c.args.self.now c.self.view_is
    ∙ (c.requires ∙ sym (long c.other.inside.bound q other c.args.other.now c.other.view_is)) in
    let yes : c.stays_above.result ≡ true → (t : ℕ) → q + risen other t ≤ p + risen own t =
    subst (λ (xs : List Jump). c.stays_above.result ≡ true → (t : ℕ) → q + risen other t ≤ p + risen xs t) c.jumps_of.ensures
    (subst (λ (ys : List Jump). c.stays_above.result ≡ true → (t : ℕ) → q + risen ys t ≤ p + risen c.jumps_of.result.now t) c.jumps_of-2.ensures c.stays_above.ensures.above) in
    let no : c.stays_above.result ≡ false → (s : ℕ) × IsBelowAt p own q other s =
    subst (λ (xs : List Jump). c.stays_above.result ≡ false → (s : ℕ) × IsBelowAt p xs q other s) c.jumps_of.ensures
    (subst (λ (ys : List Jump). c.stays_above.result ≡ false → (s : ℕ) × IsBelowAt p c.jumps_of.result.now q ys s) c.jumps_of-2.ensures c.stays_above.ensures.below) in
    covers_is c.stays_above.result c.self.inside.bound c.other.inside.bound p q own other same c.self.invariant.0.kept.from c.other.invariant.0.kept.below yes no
    ∙ (ap (λ xs. covers xs (values c.other.inside.bound q other)) c.self.view_is ∙ ap (λ ys. covers c.args.self.now ys) c.other.view_is)

pub returns-then-is_seen_below : goal.returns-then-is_seen_below
returns-then-is_seen_below c = sym (c.is_seen_below.ensures c.if-is_seen_below.true)
