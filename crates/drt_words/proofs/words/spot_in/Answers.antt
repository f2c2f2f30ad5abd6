-- The words of the option are those of its rows.
use Rattle.std.proofs.Common.{ap, sym, ◌∙◌, codes, Some}
use Rattle.clap.specs.Words.{found_of}
use Rattle.clap.proofs.WalkLemmas.{raw_values-rows}
use Rattle.drt_words.specs.Meaning.{spot_by}
use Rattle.drt_words.proofs.Spots.{other_names, two_names}
use Rattle.drt_words.proofs.words.spot_in.Goals as goal

pub returns-in_default-clause-spot : goal.returns-in_default-clause-spot
returns-in_default-clause-spot c = ap spot_by (sym (c.in_default.ensures ∙ raw_values-rows (found_of c.args.matches.now) (codes "vertex")))

pub returns-then-names-ne2-clause-refused : goal.returns-then-names-ne2-clause-refused
returns-then-names-ne2-clause-refused c = λ same.
    ap spot_by (sym (c.in-Some.ensures ∙ raw_values-rows (found_of c.args.matches.now) (codes "vertex"))) ∙ other_names c.in-Some.names.now c.if-names-ne2.true

pub returns-in-Ok-clause-spot : goal.returns-in-Ok-clause-spot
returns-in-Ok-clause-spot c =
    ap spot_by (sym (c.in-Some.ensures ∙ raw_values-rows (found_of c.args.matches.now) (codes "vertex")))
    ∙ (two_names c.in-Some.names.now _ c.if-names-ne2.false ∙ ap (λ spot. Some (Some spot)) (sym c.in-Ok.ensures))
