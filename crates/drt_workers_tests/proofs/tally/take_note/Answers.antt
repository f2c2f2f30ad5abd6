use Rattle.std.proofs.Common.{ℕ, List, refl, sym, ap, subst, ◌≡◌, ◌∙◌, ◌+◌, MatchBool, length}
use Rattle.std.specs.Prelude.{slice_index_or}
use Rattle.drt_workers_tests.specs.declared.tally.Tally.{Tally}
use Rattle.drt_workers_tests.proofs.tally.take_note.Goals as goal

pub slot_mut-tally-requires : goal.slot_mut-tally-requires
slot_mut-tally-requires c = (c.requires.name ∙ sym c.slots.ensures, (c.requires.machine.0, rw c.requires.machine.1 refl))

pub returns-clause-machine : goal.returns-clause-machine
returns-clause-machine c = λ y h.
    let same : c.slot_mut-tally.result.now ≡ y = sym (ap (λ (xs : List (ℕ × Tally)). (slice_index_or xs 0 (0, y)).1) (sym h ∙ c.slot_mut-tally.ensures.value)) in (
      c.note.new.self,
      rw h refl,
      c.note.ensures.start ∙ ap (λ (t : Tally). t.start) same,
      subst (λ (t : Tally). MatchBool c.note.result (length c.note.new.self.notes.items ≡ length t.notes.items + 1)
          (length c.note.new.self.notes.items ≡ length t.notes.items)) same c.note.ensures.notes,
    )
