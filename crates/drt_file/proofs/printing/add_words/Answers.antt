use Rattle.std.proofs.Common.{[], ap, ◌∙◌}
use Rattle.std.proofs.Common.{Bor, List, ℕ}
use Rattle.drt_file.proofs.Joins.{word_more, word_first, words_done, kept_front, kept_spaced}
use Rattle.drt_file.proofs.printing.add_words.Goals as goal
use Rattle.drt_file.proofs.printing.add_words.Goals.{then-i-gt0+in_ok-push, else-i-gt0}

pub loop-i-preserved : goal.loop-i-preserved
loop-i-preserved c =
    let nothing : Bor (List ℕ) = record { ref_ptr = (0, 0); now = [] } in
    elim c.if-i-gt0.branch [
      | then-i-gt0+in_ok-push w ↦
          word_more c.args.text.now.items c.loop-i.text.items c.if-i-gt0.text.items c.extend_from_slice.new.self.items c.args.words.now c.loop-i.i nothing
          w.if-i-gt0.true c.loop-i-test.true c.loop-i.invariant (ap (λ t. t.items) w.text-is ∙ w.in_ok-push.ensures.items) c.in_ok-extend_from_slice.ensures.items
      | else-i-gt0 w ↦
          word_first c.args.text.now.items c.loop-i.text.items c.if-i-gt0.text.items c.extend_from_slice.new.self.items c.args.words.now c.loop-i.i nothing
          w.if-i-gt0.false c.loop-i-test.true c.loop-i.invariant (ap (λ t. t.items) w.text-is) c.in_ok-extend_from_slice.ensures.items
    ]

pub returns-clause-words : goal.returns-clause-words
returns-clause-words c = words_done c.args.text.now.items c.loop-i.text.items c.args.words.now c.loop-i.i c.loop-i-test.false c.loop-i.invariant

pub returns-clause-kept : goal.returns-clause-kept
returns-clause-kept c = kept_front c.args.text.now.items c.loop-i.text.items _ c.loop-i.invariant

pub returns-in_err-push-clause-kept : goal.returns-in_err-push-clause-kept
returns-in_err-push-clause-kept c = kept_front c.args.text.now.items c.push.new.self.items _ (c.in_err-push.ensures.items ∙ c.loop-i.invariant)

pub returns-in_err-extend_from_slice-clause-kept : goal.returns-in_err-extend_from_slice-clause-kept
returns-in_err-extend_from_slice-clause-kept c =
    elim c.if-i-gt0.branch [
      | then-i-gt0+in_ok-push w ↦
          kept_spaced c.args.text.now.items c.loop-i.text.items c.extend_from_slice.new.self.items _ c.loop-i.invariant
          (c.in_err-extend_from_slice.ensures.items ∙ ap (λ t. t.items) w.text-is ∙ w.in_ok-push.ensures.items)
      | else-i-gt0 w ↦
          kept_front c.args.text.now.items c.extend_from_slice.new.self.items _
          (c.in_err-extend_from_slice.ensures.items ∙ ap (λ t. t.items) w.text-is ∙ c.loop-i.invariant)
    ]
