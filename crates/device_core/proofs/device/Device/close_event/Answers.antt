use Rattle.std.proofs.Common.{◌≡◌, ◌≤◌, ◌+◌, ◌∙◌, sym, ap, subst, length, arith}
use Rattle.event_notes.specs.Loose.{loose_count, weight}
use Rattle.device_core.specs.Kept.{ActRoom}
use Rattle.device_core.proofs.Acting.{less_room}
use Rattle.device_core.proofs.Eventful.{acted_device, at_word_same}
use Rattle.device_core.proofs.Halves.{count_of, waits_same}
use Rattle.device_store.specs.State.{state_of}
use Rattle.device_core.proofs.device.Device.close_event.Goals as goal

pub note_acts-requires-clause-room : goal.note_acts-requires-clause-room
note_acts-requires-clause-room g c =
    let l = c.args.self.now.store.loose in
    let le : length c.acts.result.now ≤ weight l = omega (arith, ap length c.acts.ensures) in
    less_room (length c.acts.result.now) (weight l) c.args.self.now.past le c.requires.room

pub returns-clause-device : goal.returns-clause-device
returns-clause-device g c =
    acted_device (state_of c.end_event.new.self) c.args.self.now.paths c.args.self.now.plans c.args.self.now.past c.note_acts.new.self
    c.args.self.now.store.loose.acts c.acts.result.now c.note_acts.ensures.history c.acts.ensures c.note_acts.ensures.chain

pub invariant_of-self-2 : goal.invariant_of-self-2
invariant_of-self-2 g c =
    let l = c.args.self.now.store.loose in
    let whole : weight l ≡ loose_count l.loose + length c.acts.result.now = omega (arith, ap length c.acts.ensures) in
    record {
      at_word = at_word_same c.note_acts.new.self.running c.args.self.now.past.running _ _ c.note_acts.ensures.chain c.end_event.ensures.leaves.cylinders
          c.args.self.now.at_word;
      keeps = c.note_acts.ensures.keeps;
      half_waits = λ one. waits_same c.note_acts.new.self.running c.args.self.now.past.running c.note_acts.ensures.chain c.note_acts.ensures.ends
          (c.args.self.now.half_waits (ap count_of (sym c.end_event.ensures.leaves.half) ∙ one));
      act_room = subst (λ x. ActRoom (loose_count x.loose) c.note_acts.new.self) (sym c.end_event.ensures.leaves.loose)
          (c.note_acts.ensures.room (loose_count l.loose) (subst (λ n. ActRoom n c.args.self.now.past) whole c.requires.room));
    }
