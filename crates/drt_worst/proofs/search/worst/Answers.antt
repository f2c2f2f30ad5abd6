use Rattle.drt_worst.proofs.Places.{roots_ready}
use Rattle.drt_worst.proofs.search.worst.Goals as goal

pub search_tree-requires-clause-ready : goal.search_tree-requires-clause-ready
search_tree-requires-clause-ready g c κs within = roots_ready _ _ _ _ c.show_sound.ensures c.requires.few c.requires.roots c.requires.wcet.1 c.requires.passes

pub search_tree-requires-2-clause-ready : goal.search_tree-requires-2-clause-ready
search_tree-requires-2-clause-ready g c κs within = roots_ready _ _ _ _ c.show_sound.ensures c.requires.few c.requires.roots c.requires.wcet.1 c.requires.passes
