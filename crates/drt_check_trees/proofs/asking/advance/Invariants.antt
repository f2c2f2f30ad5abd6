-- What the walk asks for stays the same at each later time.
use Rattle.std.proofs.Common.{◌≡◌, ℕ, ◌-◌, ◌<◌, length}
use Rattle.drt_check_trees.specs.Asking.{IsCursorPlaced, asked_at}
use Rattle.drt_check_trees.proofs.asking.advance.Given as goal

abbrev pub invariant-loop-cursor : goal.invariant-loop-cursor
invariant-loop-cursor l = IsCursorPlaced l.walk l.cursor × ((t : ℕ) → l.offset < t → asked_at l.graph l.walk l.cursor t ≡ asked_at l.graph l.walk l.fn.from t)

abbrev pub decreases-loop-cursor : goal.decreases-loop-cursor
decreases-loop-cursor l = length l.walk - l.cursor.place
