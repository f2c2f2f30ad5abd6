use Rattle.std.proofs.Common.{◌≡◌, ◌++◌, take, map}
use Rattle.drt_classic.proofs.digraphs.push_edges.Given as goal

abbrev pub invariant-loop-to : goal.invariant-loop-to
invariant-loop-to l = l.edges.items ≡ l.initial.edges.items ++ map (λ j. record { from = l.from; to = j; sep = l.sep }) (take l.to-index l.after)
