use Rattle.drt_fixed.proofs.looking.search_at.Goals as goal

pub returns : goal.returns
returns g c = c.search_vertex.ensures
