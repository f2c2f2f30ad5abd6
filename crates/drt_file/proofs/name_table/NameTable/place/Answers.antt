use Rattle.std.proofs.Common.{ℕ, ap, ◌∙◌, Vec, Global}
use Rattle.std.specs.Prelude.{bytes_eq}
use Rattle.std.specs.List.{position_or_len}
use Rattle.drt_file.proofs.NamesAbove.{placed_either_way, at_that_place, at_no_place}
use Rattle.drt_file.proofs.name_table.NameTable.place.Goals as goal

pub returns-in-Some : goal.returns-in-Some
returns-in-Some c =
    at_that_place (λ (k : Vec ℕ Global). bytes_eq c.args.name.now k.items) c.self.inside.names.keys c.in-Some.place c.in-Some.ensures.index
    ∙ placed_either_way (λ (k : Vec ℕ Global). k.items) c.args.name.now c.self.inside.names.keys
    ∙ ap (λ ns. position_or_len (λ n. bytes_eq n c.args.name.now) ns) c.self.view_is

pub returns-in-None : goal.returns-in-None
returns-in-None c =
    c.len.ensures.len ∙ at_no_place (λ (k : Vec ℕ Global). bytes_eq c.args.name.now k.items) c.self.inside.names.keys c.in-None.ensures.index
    ∙ placed_either_way (λ (k : Vec ℕ Global). k.items) c.args.name.now c.self.inside.names.keys
    ∙ ap (λ ns. position_or_len (λ n. bytes_eq n c.args.name.now) ns) c.self.view_is
