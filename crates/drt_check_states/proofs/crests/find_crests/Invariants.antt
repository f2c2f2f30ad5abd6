-- The lists so far are the greatest values of the tails so far.
use Rattle.std.proofs.Common.{◌≡◌, ℕ, ◌<◌, List, length, get_or}
use Rattle.drt_states.specs.declared.claims.Jump.{Jump}
use Rattle.drt_states.specs.declared.claims.TailClaim.{TailClaim}
use Rattle.drt_check_states.specs.Crests.{IsCrest}
use Rattle.drt_check_states.proofs.crests.find_crests.Given as goal

abbrev pub invariant-tails : goal.invariant-tails
invariant-tails l =
    (length l.crests.items ≡ l.i) × ((k : ℕ) (d : TailClaim) (e : List Jump) → k < l.i → IsCrest (get_or l.tails k d) (get_or l.crests.items k e))
