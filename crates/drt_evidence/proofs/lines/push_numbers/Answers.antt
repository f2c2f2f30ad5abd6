use Rattle.std.proofs.Common.{[], ◌∷◌, ◌++◌, ap, ◌∙◌, sym, length, map}
use Rattle.std.proofs.lemmas.List.{length-map}
use Rattle.std.specs.Prelude.{decimal}
use Rattle.drt_evidence.specs.Fields.{behind}
use Rattle.drt_evidence.proofs.Joins.{fields_done}
use Rattle.drt_evidence.proofs.lines.push_numbers.Goals as goal

pub returns : goal.returns
returns c =
    fields_done c.args.text.now.items c.push_opening.new.text.items c.push_each_number.new.text.items c.push.new.self.items c.args.word.now
    (decimal (length (map decimal c.args.numbers.now)) ∷ []) (map decimal c.args.numbers.now)
    (c.in_ok-push_opening.ensures ∙ ap (λ n. c.args.text.now.items ++ (c.args.word.now ++ behind (decimal n ∷ []))) (sym (length-map c.args.numbers.now decimal)))
    c.in_ok-push_each_number.ensures c.in_ok-push.ensures.items
