use Rattle.std.proofs.Common.{◌≡◌, ◌≢◌, ℕ, ◌<◌, List}
use Rattle.std.specs.Prelude.{slice_index}
use Rattle.drt_columns.specs.Slots.{AreColumns, samples_at}
use Rattle.drt_columns.proofs.block.write_samples.Given as goal

-- the samples up to here are written, and no other slot is changed
pub record AreWritten (columns initial : List (List ℕ)) (slot : ℕ) (samples : List ℕ) (k : ℕ) : Type 0 where
  pub are : AreColumns columns
  pub here : (j : ℕ) → j < k → slice_index (samples_at columns slot) j ≡ slice_index samples j
  pub others : (other : ℕ) → other ≢ slot → samples_at columns other ≡ samples_at initial other

abbrev pub invariant-loop-k : goal.invariant-loop-k
invariant-loop-k l = AreWritten l.columns l.initial.columns l.slot l.samples l.k
