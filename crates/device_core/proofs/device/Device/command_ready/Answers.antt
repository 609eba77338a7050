use Rattle.std.proofs.Common.{◌≤◌, ◌+◌, length, ◌∙◌, refl, sym, ap, arith}
use Rattle.device_defs.specs.Device.{all_acted}
use Rattle.event_notes.specs.Loose.{loose_count, weight}
use Rattle.device_store.specs.State.{state_of}
use Rattle.device_store.proofs.Moves.{from_equal}
use Rattle.device_core.specs.Kept.{history_of}
use Rattle.device_core.specs.State.{device_of}
use Rattle.device_core.specs.TrackWalk.{Left}
use Rattle.device_core.proofs.Acting.{less_room}
use Rattle.device_core.proofs.Eventful.{at_word_same}
use Rattle.device_core.proofs.Halves.{counts_some, none_counts}
use Rattle.device_core.proofs.Commands.{by_command, lacked_to, ended_to, same_chain, to_answer}
use Rattle.device_core.proofs.Whole.{to_equal}
use Rattle.device_core.proofs.device.Device.command_ready.Goals as goal

pub returns-in-Err-clause-run : goal.returns-in-Err-clause-run
returns-in-Err-clause-run g c =
    let old = c.args.self.now in
    let mid = record old.past { running = c.on_past.new.running } in
    from_equal (λ i. i) (sym (by_command (device_of old) old.past.running c.requires.running)) refl
    (to_equal (lacked_to (state_of c.on_past.new.store) c.on_past.new.paths old.plans (state_of old.store) old.paths
    old.past c.on_past.new.running c.note_acts.new.self c.in-Err.ensures.open (c.note_acts.ensures.history ∙ ap (all_acted (history_of mid)) c.acts.ensures)
    c.note_acts.ensures.chain _ c.in-Err.ensures.running)
    (c.in-Err.ensures.run (device_of old) refl refl))

pub returns-in-Ok-clause-run : goal.returns-in-Ok-clause-run
returns-in-Ok-clause-run g c =
    let old = c.args.self.now in
    let mid = record old.past { running = c.on_past.new.running } in
    to_answer (sym c.turned.ensures.answer)
    (from_equal (λ i. i) (sym (by_command (device_of old) old.past.running c.requires.running)) refl
    (to_equal (ended_to (state_of c.on_past.new.store) c.on_past.new.paths old.plans (state_of old.store) old.paths
    old.past c.on_past.new.running c.note_acts-in-Ok.new.self c.in-Ok.ensures.open
    (c.note_acts-in-Ok.ensures.history ∙ ap (all_acted (history_of mid)) c.acts-in-Ok.ensures) c.note_acts-in-Ok.ensures.chain c.in-Ok.came _
    c.in-Ok.ensures.running (c.turned.ensures.state (state_of c.on_past.new.store) old.plans))
    (c.in-Ok.ensures.run (device_of old) refl refl)))

pub invariant_of-self-in-Err-clause-at_word : goal.invariant_of-self-in-Err-clause-at_word
invariant_of-self-in-Err-clause-at_word g c =
    at_word_same c.note_acts.new.self.running c.on_past.new.running c.on_past.new.store.cylinders c.args.self.now.store.cylinders c.note_acts.ensures.chain
    c.on_past.ensures.fixed.1 c.in-Err.ensures.word

pub invariant_of-self-in-Err-clause-keeps : goal.invariant_of-self-in-Err-clause-keeps
invariant_of-self-in-Err-clause-keeps g c = c.note_acts.ensures.keeps

pub invariant_of-self-in-Err-clause-act_room : goal.invariant_of-self-in-Err-clause-act_room
invariant_of-self-in-Err-clause-act_room g c =
    let new = c.on_past.new.store.loose in
    let acts = c.acts.result.now in
    let w = weight c.args.self.now.store.loose in
    let le : loose_count new.loose + length acts ≤ w + 2 = omega (arith, c.on_past.ensures.weight, ap length c.acts.ensures) in
    c.note_acts.ensures.room (loose_count new.loose) (less_room (loose_count new.loose + length acts) (w + 2)
    (record c.args.self.now.past { running = c.on_past.new.running }) le (c.requires.room.0, c.on_past.ensures.acts (w + 2) c.requires.room.1))

pub invariant_of-self-in-Ok-2-clause-at_word : goal.invariant_of-self-in-Ok-2-clause-at_word
invariant_of-self-in-Ok-2-clause-at_word g c =
    let n = c.args.self.now.store.cylinders in
    at_word_same c.turned.new.self.running c.turned.new.self.running c.on_past.new.store.cylinders n refl c.on_past.ensures.fixed.1
    (c.turned.ensures.word n (same_chain (λ z. Left n z c.in-Ok.came) c.note_acts-in-Ok.new.self.running c.on_past.new.running
    c.note_acts-in-Ok.ensures.chain c.in-Ok.ensures.left))

pub invariant_of-self-in-Ok-2-clause-keeps : goal.invariant_of-self-in-Ok-2-clause-keeps
invariant_of-self-in-Ok-2-clause-keeps g c = c.turned.ensures.keeps

pub invariant_of-self-in-Ok-2-clause-act_room : goal.invariant_of-self-in-Ok-2-clause-act_room
invariant_of-self-in-Ok-2-clause-act_room g c =
    let new = c.on_past.new.store.loose in
    let acts = c.acts-in-Ok.result.now in
    let w = weight c.args.self.now.store.loose in
    let le : loose_count new.loose + length acts ≤ w + 2 = omega (arith, c.on_past.ensures.weight, ap length c.acts-in-Ok.ensures) in
    c.turned.ensures.room (loose_count new.loose) (c.note_acts-in-Ok.ensures.room (loose_count new.loose)
    (less_room (loose_count new.loose + length acts) (w + 2) (record c.args.self.now.past { running = c.on_past.new.running }) le
    (c.requires.room.0, c.on_past.ensures.acts (w + 2) c.requires.room.1)))

pub invariant_of-self-in-Err-clause-half_waits : goal.invariant_of-self-in-Err-clause-half_waits
invariant_of-self-in-Err-clause-half_waits g c = λ one. absurd (none_counts c.on_past.new.store.half c.in-Err.ensures.same one)

pub invariant_of-self-in-Ok-2-clause-half_waits : goal.invariant_of-self-in-Ok-2-clause-half_waits
invariant_of-self-in-Ok-2-clause-half_waits g c =
    let n = c.args.self.now.store.cylinders in
    λ one. c.turned.ensures.waits n (sym c.in-Ok.ensures.half ∙ counts_some c.on_past.new.store.half one)
    (same_chain (λ z. Left n z c.in-Ok.came) c.note_acts-in-Ok.new.self.running c.on_past.new.running c.note_acts-in-Ok.ensures.chain c.in-Ok.ensures.left)

pub returns-in-Ok-clause-half : goal.returns-in-Ok-clause-half
returns-in-Ok-clause-half g c = c.in-Ok.ensures.half ∙ sym c.turned.ensures.half
