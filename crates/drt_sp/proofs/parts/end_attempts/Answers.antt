use Rattle.drt_sp.proofs.parts.end_attempts.Goals as goal

pub put_lists-requires-clause-tables : goal.put_lists-requires-clause-tables
put_lists-requires-clause-tables g c = record { count = c.in_ok-tables.ensures.count; are = c.in_ok-tables.ensures.none c.args.forest.now }
