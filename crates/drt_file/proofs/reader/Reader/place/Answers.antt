use Rattle.std.proofs.Common.{ap, ◌∙◌}
use Rattle.std.specs.Prelude.{bytes_eq}
use Rattle.std.specs.List.{position_or_len}
use Rattle.drt_file.specs.internal.StateFaults.{place_of_name}
use Rattle.drt_file.specs.internal.Reader.{own_vertices}
use Rattle.drt_file.proofs.NamesAbove.{vertex_placed}
use Rattle.drt_file.proofs.reader.Reader.place.Goals as goal

pub returns : goal.returns
returns c =
    c.place.ensures ∙ ap (λ ns. position_or_len (λ n. bytes_eq n c.args.name.now) ns) c.self.invariant.of_vertices
    ∙ vertex_placed c.self.inside.state c.args.name.now ∙ ap (λ s. place_of_name c.args.name.now (own_vertices s)) c.self.view_is
