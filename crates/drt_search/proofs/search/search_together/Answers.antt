use Rattle.drt_search.proofs.search.search_together.Goals as goal

pub turn_passes-passes-requires-clause-passes : goal.turn_passes-passes-requires-clause-passes
turn_passes-passes-requires-clause-passes g c κs within = λ i d lt. (c.in_ok-shared.ensures.passes i d lt).of_table
