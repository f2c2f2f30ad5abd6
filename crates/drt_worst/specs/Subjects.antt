-- The search of a subject.
use Rattle.drt_worst.specs.Splitting.{Search, search_for}
use Rattle.drt_worst.specs.declared.subject.Subject.{Subject}

-- The search over its forest, for its vertex.
abbrev pub search_over : Subject → Search
search_over s = search_for s.forest.now s.wcet s.deadline
