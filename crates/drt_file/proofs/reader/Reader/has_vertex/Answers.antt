use Rattle.std.proofs.Common.{ap, ◌∙◌}
use Rattle.std.specs.Prelude.{bytes_eq}
use Rattle.std.specs.List.{list_any}
use Rattle.drt_file.specs.internal.StateFaults.{has_vertex}
use Rattle.drt_file.specs.internal.Reader.{own_vertices}
use Rattle.drt_file.proofs.NamesAbove.{vertex_among}
use Rattle.drt_file.proofs.reader.Reader.has_vertex.Goals as goal

pub returns : goal.returns
returns c =
    c.has.ensures ∙ ap (λ ns. list_any (λ n. bytes_eq n c.args.name.now) ns) c.self.invariant.of_vertices
    ∙ vertex_among c.self.inside.state c.args.name.now ∙ ap (λ s. has_vertex c.args.name.now (own_vertices s)) c.self.view_is
