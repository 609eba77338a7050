use Rattle.std.proofs.Common.{◌∙◌, ◌≤◌, ◌+◌, ℕ, Option, length, refl, sym, ap, subst, arith}
use Rattle.std.specs.Prelude.{option_map, IsSome, if◌then◌else◌}
use Rattle.device_outside.proofs.Runs.{ended, joined}
use Rattle.device_defs.specs.declared.answers.SecondEnd.{SecondEnd}
use Rattle.device_defs.specs.declared.answers.SecondEnd.TheVariants.{Finished, Unwritten}
use Rattle.device_defs.specs.Contents.{contents}
use Rattle.device_defs.specs.Device.{with_store}
use Rattle.device_defs.specs.Events.{second_of, second_ended, second_told, second_turn}
use Rattle.device_defs.specs.Outcomes.{Turn, turned}
use Rattle.event_notes.specs.Loose.{loose_count, weight}
use Rattle.device_store.specs.State.{half_of, origin_of, state_of}
use Rattle.device_store.proofs.Moves.{from_equal}
use Rattle.device_core.specs.State.{device_by, device_of, last_end_of}
use Rattle.device_core.proofs.Acting.{less_room}
use Rattle.device_core.proofs.Commands.{same_running}
use Rattle.device_core.proofs.Eventful.{acted_device, at_word_same, cylinders_held}
use Rattle.device_core.proofs.Halves.{none_counts, waits_same}
use Rattle.device_core.proofs.Parts.{by_took, commands_one, ended_command, ended_other, not_opened, same_told, some_chain, some_half}
use Rattle.device_core.proofs.Pasts.{some_open}
use Rattle.device_core.proofs.device.Device.second_ready.Goals as goal

pub note_acts-requires-clause-room : goal.note_acts-requires-clause-room
note_acts-requires-clause-room g c =
    let l = c.second-part.new.self.loose in
    let le : length c.acts.result.now ≤ weight c.args.self.now.store.loose = omega (arith, ap length c.acts.ensures, c.second-part.ensures.leaves.weight) in
    less_room (length c.acts.result.now) (weight c.args.self.now.store.loose) c.args.self.now.past le c.requires.room

pub end_write-requires-clause-waits : goal.end_write-requires-clause-waits
end_write-requires-clause-waits g c =
    let it = some_half c.args.self.now.store.half c.requires.open in
    waits_same c.note_acts.new.self.running c.args.self.now.past.running c.note_acts.ensures.chain c.note_acts.ensures.ends
    (c.args.self.now.half_waits (commands_one c.args.self.now.store.half it.0 c.second-part.result.of_command it.1
    (c.second-part.ensures.command it.0 it.1) c.if-part.true))

pub end_write-requires-clause-whole : goal.end_write-requires-clause-whole
end_write-requires-clause-whole g c = not_opened c.second-part.result.done c.took_of.result c.took_of.ensures

pub returns-then-part-clause-run : goal.returns-then-part-clause-run
returns-then-part-clause-run g c =
    let old = c.args.self.now in
    let d = device_of old in
    let s = state_of c.second-part.new.self in
    let q = c.note_acts.new.self in
    let part = c.second-part.result in
    let it = some_half old.store.half c.requires.open in
    let count = commands_one old.store.half it.0 part.of_command it.1 (c.second-part.ensures.command it.0 it.1) c.if-part.true in
    let runs = same_running q.running old.past.running c.note_acts.ensures.chain (c.args.self.now.half_waits count).runs in
    let ran = some_open q.running runs in
    let at = some_chain q.running runs in
    let turn = by_took at.0 part.track part.done c.took_of.result c.took_of.ensures in
    λ e is. from_equal (λ x. second_of contents d x) (sym (ap (option_map half_of) it.1)) refl
    (joined (λ z done. second_ended contents (with_store d z) it.0.track (origin_of it.0.origin) done) (c.second-part.ensures.run it.0 it.1)
    (from_equal (λ z. second_ended contents z it.0.track (origin_of it.0.origin) part.done)
    (acted_device s old.paths old.plans old.past q c.second-part.new.self.loose.acts c.acts.result.now c.note_acts.ensures.history c.acts.ensures
    c.note_acts.ensures.chain) refl
    (from_equal (λ i. i)
    (sym (ended_command (device_by s old.paths old.plans q) it.0.track (origin_of it.0.origin) part.done ran.0 at.0
    (sym (c.second-part.ensures.command it.0 it.1) ∙ c.if-part.true) ran.1 at.1)) refl
    (ended (sym (c.end_write.ensures.state s old.plans ran.0 at.0 ran.1 at.1
    ∙ ap (λ (t : Turn). turned (device_by s old.paths old.plans q) ran.0.path t) turn))
    (ap (λ (n : ℕ). second_told contents n (second_turn contents at.0 part.done).came) (sym (c.second-part.ensures.track it.0 it.1))
    ∙ ap (λ (t : Turn). second_told contents part.track t.came) (sym turn)
    ∙ same_told _ _ e (c.end_write.ensures.answer at.0 at.1) is)))))

pub returns-then-part-clause-seen : goal.returns-then-part-clause-seen
returns-then-part-clause-seen g c =
    let old = c.args.self.now in
    let q = c.note_acts.new.self in
    let it = some_half old.store.half c.requires.open in
    let count = commands_one old.store.half it.0 c.second-part.result.of_command it.1 (c.second-part.ensures.command it.0 it.1) c.if-part.true in
    let at = some_chain q.running (same_running q.running old.past.running c.note_acts.ensures.chain (c.args.self.now.half_waits count).runs) in
    subst (λ (x : Option SecondEnd). IsSome x) (sym (c.end_write.ensures.answer at.0 at.1)) refl

pub returns-clause-run : goal.returns-clause-run
returns-clause-run g c =
    let old = c.args.self.now in
    let d = device_of old in
    let s = state_of c.second-part.new.self in
    let q = c.note_acts.new.self in
    let part = c.second-part.result in
    let it = some_half old.store.half c.requires.open in
    λ e is. from_equal (λ x. second_of contents d x) (sym (ap (option_map half_of) it.1)) refl
    (joined (λ z done. second_ended contents (with_store d z) it.0.track (origin_of it.0.origin) done) (c.second-part.ensures.run it.0 it.1)
    (from_equal (λ i. i)
    (sym (ended_other (with_store d s) it.0.track (origin_of it.0.origin) part.done (sym (c.second-part.ensures.command it.0 it.1) ∙ c.if-part.false)))
    refl
    (ended (sym (acted_device s old.paths old.plans old.past q c.second-part.new.self.loose.acts c.acts.result.now c.note_acts.ensures.history
    c.acts.ensures c.note_acts.ensures.chain))
    (ap (λ (n : ℕ). if part.done then Finished n else Unwritten n) (sym (c.second-part.ensures.track it.0 it.1))
    ∙ same_told _ _ e (c.told.ensures (last_end_of q)) is))))

pub invariant_of-self-then-part : goal.invariant_of-self-then-part
invariant_of-self-then-part g c =
    let old = c.args.self.now in
    let s = c.second-part.new.self in
    let w = weight old.store.loose in
    let le : loose_count s.loose.loose + length c.acts.result.now ≤ w = omega (arith, c.second-part.ensures.leaves.weight, ap length c.acts.ensures) in
    record {
      at_word = c.end_write.ensures.word s.cylinders (cylinders_held c.note_acts.new.self.running old.past.running s.cylinders old.store.cylinders
          c.note_acts.ensures.chain c.second-part.ensures.leaves.cylinders old.at_word);
      half_waits = λ one. absurd (none_counts s.half c.second-part.ensures.half one);
      keeps = c.end_write.ensures.keeps;
      act_room = c.end_write.ensures.room (loose_count s.loose.loose) (c.note_acts.ensures.room (loose_count s.loose.loose)
          (less_room (loose_count s.loose.loose + length c.acts.result.now) w old.past le c.requires.room));
    }

pub invariant_of-self-else-part : goal.invariant_of-self-else-part
invariant_of-self-else-part g c =
    let old = c.args.self.now in
    let s = c.second-part.new.self in
    let w = weight old.store.loose in
    let le : loose_count s.loose.loose + length c.acts.result.now ≤ w = omega (arith, c.second-part.ensures.leaves.weight, ap length c.acts.ensures) in
    record {
      at_word = at_word_same c.note_acts.new.self.running old.past.running s.cylinders old.store.cylinders c.note_acts.ensures.chain
          c.second-part.ensures.leaves.cylinders old.at_word;
      half_waits = λ one. absurd (none_counts s.half c.second-part.ensures.half one);
      keeps = c.note_acts.ensures.keeps;
      act_room = c.note_acts.ensures.room (loose_count s.loose.loose)
          (less_room (loose_count s.loose.loose + length c.acts.result.now) w old.past le c.requires.room);
    }
