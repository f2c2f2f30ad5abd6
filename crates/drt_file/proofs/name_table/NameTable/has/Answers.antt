use Rattle.std.proofs.Common.{ℕ, ap, ◌∙◌, Vec, Global}
use Rattle.std.specs.Prelude.{bytes_eq}
use Rattle.std.specs.List.{list_any}
use Rattle.drt_file.proofs.NamesAbove.{found_either_way}
use Rattle.drt_file.proofs.name_table.NameTable.has.Goals as goal

pub returns : goal.returns
returns c =
    c.contains.ensures ∙ found_either_way (λ (k : Vec ℕ Global). k.items) c.args.name.now c.self.inside.names.keys
    ∙ ap (λ ns. list_any (λ n. bytes_eq n c.args.name.now) ns) c.self.view_is
