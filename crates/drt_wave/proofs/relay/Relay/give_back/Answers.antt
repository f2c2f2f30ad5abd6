use Rattle.std.proofs.Common.{◌≡◌, ℕ, List, [], ◌∷◌, ap, sym, subst, ◌∙◌}
use Rattle.std.specs.Prelude.{IfSome, slice_index_or}
use Rattle.atomic_table.specs.Table.{rest}
use Rattle.drt_wave.specs.declared.table.WaveTable.{WaveTable}
use Rattle.drt_wave.specs.Seats.{HasRoomForLanes}
use Rattle.drt_wave.specs.Shifts.{IsShift}
use Rattle.drt_wave.proofs.relay.Relay.give_back.Goals as goal

-- the desk that is lent out is the one that the seat holds
is_held : (y z : WaveTable) (l : List (ℕ × WaveTable)) → l ≡ (0, z) ∷ rest l → l ≡ (0, y) ∷ [] → z ≡ y
is_held y z l lent held = ap (λ xs. (slice_index_or {A = ℕ × WaveTable} xs 0 (0, y)).1) (sym lent ∙ held)

pub slot_mut-desk-requires : goal.slot_mut-desk-requires
slot_mut-desk-requires c =
    let t = c.args.self.now.lock.fixed in let h = c.requires.desk in (c.requires.name ∙ sym c.slots.ensures, (t, h ∙ ap (λ l. (0, t) ∷ rest l) (sym h)))

pub give_back-room-requires : goal.give_back-room-requires
give_back-room-requires c =
    let same = is_held c.args.self.now.lock.fixed c.slot_mut-desk.result.now c.args.seat.now.me.1 c.slot_mut-desk.ensures.value c.requires.desk in
    subst (λ t. IsShift t c.args.shift.wave c.args.shift.seat) (sym same) c.requires.shift

pub returns-clause-me : goal.returns-clause-me
returns-clause-me c =
    let m = c.args.seat.now.me in
    ap (λ t. (m.0, (0, t) ∷ rest m.1)) (c.work_on.ensures ∙ c.give_back-room.ensures.kept) ∙ ap (λ l. (m.0, l)) (sym c.slot_mut-desk.ensures.value)

pub returns-clause-room : goal.returns-clause-room
returns-clause-room c =
    let same = is_held c.args.self.now.lock.fixed c.slot_mut-desk.result.now c.args.seat.now.me.1 c.slot_mut-desk.ensures.value c.requires.desk in
    subst (λ (t : WaveTable). IfSome c.give_back-room.result (λ room. HasRoomForLanes t room)) same c.give_back-room.ensures.room
