use Rattle.std.proofs.Common.{ℕ, Vec, Global}
use Rattle.drt_file.proofs.NamesAbove.{added}
use Rattle.drt_file.proofs.name_table.NameTable.add.Goals as goal

pub returns : goal.returns
returns c =
    added (λ (k : Vec ℕ Global). k.items) c.self.inside.names.keys c.insert_full.new.self.keys c.args.name c.args.self.now
    c.in_ok-insert_full.ensures.keys c.self.view_is c.requires
