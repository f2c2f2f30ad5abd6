use Rattle.drt_wave.proofs.Dealing.{shift_turned}
use Rattle.drt_wave.proofs.relay.Relay.work.Goals as goal

pub returns-then-turn_some-clause-held : goal.returns-then-turn_some-clause-held
returns-then-turn_some-clause-held c =
    let e = c.turn_some.ensures in
    shift_turned c.args.self.now.table.now c.args.shift.wave c.args.shift.seat c.turn_some.new.seat c.requires.shift e.seat e.turned e.all

pub hand_in-requires-clause-shift : goal.hand_in-requires-clause-shift
hand_in-requires-clause-shift c =
    let e = c.turn_some.ensures in
    shift_turned c.args.self.now.table.now c.args.shift.wave c.args.shift.seat c.turn_some.new.seat c.requires.shift e.seat e.turned e.all
