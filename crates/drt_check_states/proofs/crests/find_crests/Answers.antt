use Rattle.std.proofs.Common.{◌≡◌, ◌+◌, List, ap, arith, length, rules, subst, sym, ◌∙◌}
use Rattle.drt_states.specs.declared.claims.Jump.{Jump}
use Rattle.drt_states.specs.declared.claims.TailClaim.{TailClaim}
use Rattle.drt_check_states.specs.Crests.{AreCrests, IsCrest}
use Rattle.drt_check_states.proofs.Joins.{crest_of, crests_more}
use Rattle.drt_check_states.proofs.Zips.{zip_all}
use Rattle.drt_check_states.proofs.crests.find_crests.Goals as goal

pub tails-preserved : goal.tails-preserved
tails-preserved c =
    let curves = c.as_slice.ensures ∙ ap (λ (x : TailClaim). x.curves) (sym c.index-tails-i.is) in
    let crest = crest_of c.index-tails-i.result c.as_slice.result.now c.from_vec.result c.in_ok-crest.crest.items curves c.from_vec.ensures c.in_ok-crest.ensures in
    let long : length c.push.new.self.items ≡ c.tails.i + 1 = search rules in (
      long,
      crests_more c.args.tails.now c.tails.crests.items c.push.new.self.items c.tails.i c.index-tails-i.result c.from_vec.result c.tails.invariant.0 c.tails-test.true c.index-tails-i.is crest
          c.in_ok-push.ensures.items c.tails.invariant.1,
    )

pub returns : goal.returns
returns c =
    let crests : List (List Jump) = c.tails.crests.items in
    let long : length c.args.tails.now ≡ length crests = omega (arith, c.tails.invariant.0, c.tails-test.false, c.tails.auto.i-end) in
    let all : AreCrests c.args.tails.now crests
    = zip_all IsCrest c.args.tails.now crests long (λ k d e l. c.tails.invariant.1 k d e (omega (arith, l, c.tails-test.false))) in
    subst (AreCrests c.args.tails.now) (sym c.from_vec-2.ensures) all
