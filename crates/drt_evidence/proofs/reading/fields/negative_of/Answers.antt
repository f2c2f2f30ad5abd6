use Rattle.std.proofs.Common.{◌∷◌, FitsSigned, rules, subst, sym, w64}
use Rattle.std.proofs.lemmas.Int.{to_z-of_z}
use Rattle.std.specs.Fmt.{signed_decimal}
use Rattle.drt_evidence.specs.LineForms.{IsForm}
use Rattle.drt_claims.specs.Ranges.{IsInRangePotential}
use Rattle.drt_evidence.proofs.Numerals.{negative_is, negative_zero, negative_other}
use Rattle.drt_evidence.proofs.reading.fields.negative_of.Goals as goal

pub returns-in-Some-eq0 : goal.returns-in-Some-eq0
returns-in-Some-eq0 c = negative_zero c.args.digits.now c.in-Some-eq0.field-0 c.in-Some-eq0.field-0-test c.in-Some-eq0.ensures

pub returns-in-Some : goal.returns-in-Some
returns-in-Some c =
    let fits : FitsSigned w64 c.negated.result = search rules in
    subst (λ h. IsForm signed_decimal IsInRangePotential (45 ∷ c.args.digits.now) h) (sym (to_z-of_z w64 c.negated.result fits))
    (negative_is c.args.digits.now c.in-Some.n c.negated.result c.in-Some.n-test.1 c.negated.ensures c.in-Some.ensures)

pub returns-in-None : goal.returns-in-None
returns-in-None c = negative_other c.args.digits.now c.in-None.ensures
