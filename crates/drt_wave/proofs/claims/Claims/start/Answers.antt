use Rattle.std.proofs.Common.{rules, ◌≡◌, ℕ, replicate, sym, subst, ◌∙◌, []}
use Rattle.std.proofs.lemmas.List.{length-replicate}
use Rattle.atomic_table.specs.Table.{opening}
use Rattle.drt_wave.specs.Claims.{InClaims, fresh_claims}
use Rattle.drt_wave.proofs.ClaimSteps.{opens, zeros_at}
use Rattle.drt_wave.proofs.claims.Claims.start.Goals as goal

pub of_words-requires : goal.of_words-requires
of_words-requires c =
    let n : ℕ = c.args.waves in let zeros : c.in_ok-words.words.items ≡ replicate n 0 = search rules in
    subst (λ ws. InClaims {S = Unit {0}} n (opening ws [] (fresh_claims 1024))) (sym (c.as_slice.ensures.value ∙ zeros)) (opens n (replicate n 0) (length-replicate n 0) (zeros_at n))
