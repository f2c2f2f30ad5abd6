use Rattle.std.proofs.Common.{◌≡◌, ◌-◌, length}
use Rattle.drt_worst.specs.Rising.{fresh_view}
use Rattle.drt_pool.specs.Turns.{EachPlace}
use Rattle.drt_worst.specs.Jobs.{IsPassOpened}
use Rattle.drt_worst.proofs.search.open_all.Given as goal

abbrev pub invariant-loop-i : goal.invariant-loop-i
invariant-loop-i l =
    (l.owner.table_id ≡ l.fn.owner.table_id) × (l.owner.me.0 ≡ fresh_view (1024 - l.i)) × (length l.passes.items ≡ l.i) × EachPlace (IsPassOpened l.word l.dealt l.told) l.passes.items
