use Rattle.std.proofs.Common.{◌≡◌, ℕ, ◌+◌, ◌<◌, List, [], length, get_or, set, arith, sym, ◌∙◌}
use Rattle.std.specs.Prelude.{slice_index}
use Rattle.std.proofs.lemmas.Grind.{same_number_lists}
use Rattle.drt_columns.specs.Slots.{samples_at}
use Rattle.drt_columns.proofs.Slots.{column_long, samples_many, write_columns, write_here, write_other, written_more}
use Rattle.drt_columns.proofs.block.write_samples.Invariants.{AreWritten}
use Rattle.drt_columns.proofs.block.write_samples.Goals as goal

one_more : (columns initial : List (List ℕ)) (slot : ℕ) (samples : List ℕ) (k : ℕ) → slot < 64 → k < 16 → AreWritten columns initial slot samples k
    → AreWritten (set columns k (set (get_or columns k []) slot (slice_index samples k))) initial slot samples (k + 1)
one_more columns initial slot samples k fits lt h =
    let few : k < length columns = omega (arith, h.are.many) in
    let long : length (get_or columns k []) ≡ 64 = column_long columns k lt h.are in
    let e : samples_at (set columns k (set (get_or columns k []) slot (slice_index samples k))) slot ≡ set (samples_at columns slot) k (slice_index samples k) =
    write_here slot (slice_index samples k) columns k few (omega arith) in
    record {
      are = write_columns columns k slot (slice_index samples k) lt h.are;
      here = λ j less. rw e (written_more (samples_at columns slot) samples k (omega (arith, samples_many columns slot)) h.here j less);
      others = λ other ne. write_other slot (slice_index samples k) columns k other ne ∙ h.others other ne;
    }

pub loop-k-preserved : goal.loop-k-preserved
loop-k-preserved c = one_more _ _ _ _ _ c.requires.slot c.loop-k-test.true c.loop-k.invariant

pub returns-clause-here : goal.returns-clause-here
returns-clause-here c =
    let h : length c.loop-k.columns ≡ 16 = c.loop-k.invariant.are.many in
    same_number_lists _ _
    (samples_many c.loop-k.columns c.args.slot ∙ (h ∙ sym c.told-samples))
    (λ k lt. c.loop-k.invariant.here k (omega (arith, samples_many c.loop-k.columns c.args.slot)))
