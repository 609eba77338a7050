use Rattle.std.proofs.Common.{◌≤◌, refl, sym, ap, subst, arith}
use Rattle.std.specs.Prelude.{IfOk}
use Rattle.device_outside.specs.Interaction.{Done, and_then}
use Rattle.device_outside.specs.Outside.{done}
use Rattle.device_outside.proofs.Runs.{joined}
use Rattle.device_defs.specs.Contents.{contents}
use Rattle.device_defs.specs.Device.{event_begun, with_store}
use Rattle.device_defs.specs.Owed as owed
use Rattle.device_defs.specs.Peek.{peek, peek_track}
use Rattle.event_notes.specs.Loose.{loose_count, weight}
use Rattle.device_store.specs.Looks.{StoreOf, peeked_by, IsPeeked}
use Rattle.device_store.specs.State.{state_of, outside_of, had}
use Rattle.device_store.proofs.Moves.{from_equal, weaker}
use Rattle.device_core.specs.State.{device_of}
use Rattle.device_core.proofs.Commands.{to_answer}
use Rattle.device_core.proofs.Eventful.{quiet_run, begun_weight, fits_room}
use Rattle.device_laws.proofs.counted.EventCounts.{peek_moved}
use Rattle.device_laws.proofs.counted.Others.{peek_keeps}
use Rattle.device_core.proofs.Away.{peek_lent_on}
use Rattle.device_core.proofs.Promising.{peek_answers, peek_excused, peek_stays_same, peek_sound, peek_stays_plain}
use Rattle.device_core.proofs.device.Device.peek_with.Goals as goal

pub close_event-requires : goal.close_event-requires
close_event-requires g c =
    let l = c.args.self.now.store.loose in
    let first = begun_weight l c.begin_event.new.self.loose c.begin_event.ensures.loose (ap (λ s. s.acts) c.begin_event.ensures.state) in
    let le : weight c.peek-peeked.new.self.loose ≤ loose_count l.loose = omega (arith, c.peek-peeked.ensures.leaves.weight, first) in
    record { room = fits_room l c.peek-peeked.new.self.loose c.args.self.now.past c.args.self.now.act_room le }

pub returns-clause-run : goal.returns-clause-run
unfolding peek
returns-clause-run g c =
    let d = device_of c.args.self.now in
    let s = state_of c.peek-peeked.new.self in
    to_answer (ap (λ (q : StoreOf). had (peeked_by q c.args.t) c.peek-peeked.result) (sym c.close_event.ensures.rest))
    (quiet_run d (λ y. and_then (peek_track contents y.store c.args.t) (λ q found. Done (with_store y q) found)) (with_store (event_begun d) s)
    (device_of c.close_event.new.self)
    (joined (λ q found. Done (with_store (event_begun d) q) found)
    (from_equal (λ q. peek_track contents q c.args.t) c.begin_event.ensures.state
    (ap (λ x. outside_of (g.P.Port.view c.args.port.now) g.V.Volume.view x c.args.keep.now) c.begin_event.ensures.leaves.volume) c.peek-peeked.ensures.run) done)
    (from_equal (λ n. owed.noted_end contents n s) c.waiting_count-before.ensures refl (weaker c.peek-peeked.result (c.close_event.ensures.run _)))
    c.close_event.ensures.device)

pub returns-clause-there : goal.returns-clause-there
returns-clause-there g c =
    subst (λ (q : StoreOf). IfOk c.peek-peeked.result (IsPeeked q c.args.t)) (sym c.close_event.ensures.rest) c.peek-peeked.ensures.there

pub returns-clause-paths : goal.returns-clause-paths
returns-clause-paths g c = peek_keeps _ _ _ _ (returns-clause-run g c)

pub returns-clause-transfers : goal.returns-clause-transfers
returns-clause-transfers g c = peek_moved _ _ _ _ (returns-clause-run g c)

pub returns-clause-sound : goal.returns-clause-sound
returns-clause-sound g c may = peek_sound _ _ _ _ _ _ c.args.t c.requires.track may (returns-clause-run g c)

pub returns-clause-plain : goal.returns-clause-plain
returns-clause-plain g c may = peek_stays_plain _ _ _ _ _ _ c.args.t c.requires.track may (returns-clause-run g c)

pub returns-clause-excused : goal.returns-clause-excused
returns-clause-excused g c may = peek_excused _ _ _ _ _ _ c.args.t c.requires.track may (returns-clause-run g c)

pub returns-clause-same : goal.returns-clause-same
returns-clause-same g c may = peek_stays_same _ _ _ _ _ _ c.args.t c.requires.track may (returns-clause-run g c)

pub returns-clause-lent : goal.returns-clause-lent
returns-clause-lent g c = peek_lent_on _ _ _ _ _ _ c.args.t (returns-clause-run g c)

pub returns-clause-answers : goal.returns-clause-answers
returns-clause-answers g c past first stands may =
    peek_answers c.args.self.now c.close_event.new.self _ _ _ _ c.args.t c.requires.track may (state_of c.close_event.new.self.store) c.peek-peeked.result (returns-clause-run g c) past first stands
