-- Passes: as they are given out, and what they may ask for.
use Rattle.std.proofs.Common.{◌≡◌, ℕ, Option, List, length, sym, ap, subst}
use Rattle.drt_steps.specs.Time.{AreChosen}
use Rattle.drt_refine.specs.Facts.{AreInPlace}
use Rattle.drt_refine.specs.Machine.{FrontierSetting}
use Rattle.drt_refine.specs.declared.step.FrontierStep.{FrontierStep}
use Rattle.drt_refine.specs.declared.step.FrontierStep.TheVariants.{Take, Pass, Split, Fail}
use Rattle.drt_frontier_board.specs.FrontierBoard.{CanMake, CanSettle}
use Rattle.drt_shared_frontier.specs.Passes.{FrontierPassOf, SharedFrontierOf, IsNewPass}
use Rattle.drt_shared_frontier.specs.Shared.{IsFresh}

-- a pass that may settle may make the step
pub may_settle : (t : FrontierSetting) (held : Option ℕ) (nodes : List ℕ) (step : FrontierStep) → CanSettle t held nodes step → CanMake t held nodes step
may_settle t held nodes Take can = absurd can
may_settle t held nodes (Pass id time) can = can
may_settle t held nodes (Split id place) can = can
may_settle t held nodes (Fail id) can = can

-- a pass as it is given out is one of the shared frontier
pub new_pass : (s : SharedFrontierOf) (roots : List ℕ) (i : ℕ) (p : FrontierPassOf) → s.setting.roots ≡ roots
    → AreChosen s.setting.deadline s.setting.forest.pool roots → IsFresh s.name s.setting roots i p → IsNewPass s i p
new_pass s roots i p are chosen f = record {
  of_frontier = record { name = f.name_is; setting = f.setting_is; nodes = subst (λ ns. AreInPlace s.setting ns) (sym f.nodes) (chosen, ap length (sym are)) };
  number = f.number;
  count = f.count;
  held = f.held;
}
