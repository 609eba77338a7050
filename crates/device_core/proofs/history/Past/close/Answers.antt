use Rattle.std.proofs.Common.{arith}
use Rattle.device_core.proofs.Endings.{last_over}
use Rattle.device_core.proofs.Pasts.{history_closed, keeps_closed, room_where, some_open}
use Rattle.device_core.proofs.history.Past.close.Goals as goal

pub note_program-requires-clause-room : goal.note_program-requires-clause-room
note_program-requires-clause-room c = let room = room_where c.args.self.now c.requires.keeps c.requires.running in omega (arith, room)

pub follow_resets-requires : goal.follow_resets-requires
follow_resets-requires c = let room = room_where c.args.self.now c.requires.keeps c.requires.running in omega (arith, room, c.note_program.ensures.spare)

pub returns-clause-history : goal.returns-clause-history
returns-clause-history c =
    λ o is. history_closed c.args.self.now c.note_program.new.self c.follow_resets.new.self o c.args.how c.note_program.ensures.over
    (c.note_program.ensures.items o is) c.note_program.ensures.rest.0 c.follow_resets.ensures.items c.follow_resets.ensures.running
    c.follow_resets.ensures.kept

pub returns-clause-keeps : goal.returns-clause-keeps
returns-clause-keeps c =
    let it = some_open c.args.self.now.running c.requires.running in
    keeps_closed c.args.self.now c.note_program.new.self c.follow_resets.new.self it.0 c.args.how c.note_program.ensures.over
    (c.note_program.ensures.items it.0 it.1) c.note_program.ensures.rest.0 c.requires.keeps it.1 c.note_program.ensures.spare c.note_program.ensures.rest.1
    c.follow_resets.ensures.items c.follow_resets.ensures.running c.follow_resets.ensures.kept c.follow_resets.ensures.spare c.follow_resets.ensures.rest.0

pub returns-clause-last : goal.returns-clause-last
returns-clause-last c =
    λ o is. last_over c.args.self.now c.note_program.new.self c.follow_resets.new.self o c.args.how c.note_program.ensures.over
    (c.note_program.ensures.items o is) c.note_program.ensures.last c.follow_resets.ensures.items c.follow_resets.ensures.running
    c.follow_resets.ensures.rest.1
