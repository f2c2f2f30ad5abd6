use Rattle.std.proofs.Common.{◌≡◌, ◌≢◌, length, option_map, sym, ◌∙◌, rules}
use Rattle.std.specs.Prelude.{vec_len}
use Rattle.drt_evidence.proofs.Spaces.{cut_spaced}
use Rattle.drt_evidence.proofs.Forms.{list_is, list_broken, list_miscounted, list_uncounted}
use Rattle.drt_evidence.proofs.reading.list_lines.list_of.Goals as goal

pub returns-in-None : goal.returns-in-None
returns-in-None g c =
    list_uncounted g.F.Field.field g.F.Field.is_stated c.args.bytes.now c.cut_field.result.0.now (option_map (λ r. r.now) c.cut_field.result.1) c.cut_field.ensures.field
    (cut_spaced c.args.bytes.now c.cut_field.result.0.now c.cut_field.result.1 c.cut_field.ensures.rest) c.in-None.ensures

pub returns-in-None-2 : goal.returns-in-None-2
returns-in-None-2 g c =
    list_broken g.F.Field.field g.F.Field.is_stated c.args.bytes.now c.cut_field.result.0.now (option_map (λ r. r.now) c.cut_field.result.1) c.cut_field.ensures.field
    (cut_spaced c.args.bytes.now c.cut_field.result.0.now c.cut_field.result.1 c.cut_field.ensures.rest) (rw c.in-None-2.is at c.in_ok-found.ensures)

pub returns-then-len-count : goal.returns-then-len-count
returns-then-len-count g c =
    let size : vec_len c.in-Some-2.found ≡ length c.in-Some-2.found.items = search rules in
    let differ : length c.in-Some-2.found.items ≢ c.in-Some.count = λ e. c.if-len-count.true (c.len.ensures ∙ size ∙ e) in
    list_miscounted g.F.Field.field g.F.Field.is_stated c.args.bytes.now c.cut_field.result.0.now (option_map (λ r. r.now) c.cut_field.result.1) c.in-Some.count
    c.in-Some-2.found.items c.cut_field.ensures.field
    (cut_spaced c.args.bytes.now c.cut_field.result.0.now c.cut_field.result.1 c.cut_field.ensures.rest) c.in-Some.ensures (rw c.in-Some-2.is at c.in_ok-found.ensures) differ

pub returns : goal.returns
returns g c =
    let size : vec_len c.in-Some-2.found ≡ length c.in-Some-2.found.items = search rules in
    let same : length c.in-Some-2.found.items ≡ c.in-Some.count = sym size ∙ sym c.len.ensures ∙ c.if-len-count.false in
    list_is g.F.Field.field g.F.Field.is_stated c.args.bytes.now c.cut_field.result.0.now (option_map (λ r. r.now) c.cut_field.result.1) c.in-Some.count
    c.in-Some-2.found.items c.cut_field.ensures.field
    (cut_spaced c.args.bytes.now c.cut_field.result.0.now c.cut_field.result.1 c.cut_field.ensures.rest) c.in-Some.ensures (rw c.in-Some-2.is at c.in_ok-found.ensures) same

pub values_behind-requires : goal.values_behind-requires
values_behind-requires g c = c.requires
