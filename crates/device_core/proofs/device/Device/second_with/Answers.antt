use Rattle.std.proofs.Common.{◌∙◌, refl, ap}
use Rattle.std.specs.Prelude.{option_map}
use Rattle.device_defs.specs.Contents.{contents}
use Rattle.device_defs.specs.Events.{second, second_of}
use Rattle.device_defs.specs.Owed as owed
use Rattle.device_defs.specs.Owed.{hear}
use Rattle.device_store.specs.State.{half_of, state_of, outside_of}
use Rattle.device_store.proofs.Moves.{from_equal}
use Rattle.device_core.specs.State.{device_of}
use Rattle.device_core.proofs.Eventful.{event_run}
use Rattle.device_laws.proofs.counted.Calls.{ends_as_kept}
use Rattle.device_laws.proofs.counted.EventCounts.{second_moved}
use Rattle.device_core.proofs.Promising.{second_excused, second_sound, second_stays_plain, seen_there}
use Rattle.device_core.proofs.device.Device.second_with.Goals as goal

pub returns-clause-whole : goal.returns-clause-whole
returns-clause-whole g c = ap (option_map half_of) (c.end_event.ensures.leaves.half ∙ c.second_where-step.ensures.whole)

pub returns-clause-run : goal.returns-clause-run
unfolding second
returns-clause-run g c =
    let d = device_of c.args.self.now in
    λ e is. event_run d (λ x. second_of contents x x.store.half) (device_of c.second_where-step.new.self)
    (record (device_of c.second_where-step.new.self) { store = state_of c.end_event.new.self })
    (from_equal (hear contents 960) c.begin_event.ensures.state
    (ap (λ v. outside_of (g.P.Port.view c.args.port.now) g.V.Volume.view v c.args.keep.now) c.begin_event.ensures.leaves.volume) (c.hear.ensures.run c.args.keep.now))
    (c.second_where-step.ensures.run e is)
    (from_equal (λ n. owed.noted_end contents n (state_of c.second_where-step.new.self.store)) c.waiting_count-before.ensures refl (c.end_event.ensures.run _)) refl

pub returns-clause-ends_as_kept : goal.returns-clause-ends_as_kept
returns-clause-ends_as_kept g c = λ e is. ends_as_kept _ _ _ (returns-clause-run g c e is)

pub returns-clause-transfers : goal.returns-clause-transfers
returns-clause-transfers g c = λ e is. second_moved _ _ _ (returns-clause-run g c e is)

pub returns-clause-sound : goal.returns-clause-sound
returns-clause-sound g c half = let e = seen_there _ c.second_where-step.ensures.seen in second_sound _ _ _ _ _ _ half (returns-clause-run g c e.0 e.1)

pub returns-clause-plain : goal.returns-clause-plain
returns-clause-plain g c half = let e = seen_there _ c.second_where-step.ensures.seen in second_stays_plain _ _ _ _ _ _ half (returns-clause-run g c e.0 e.1)

pub returns-clause-excused : goal.returns-clause-excused
returns-clause-excused g c half = let e = seen_there _ c.second_where-step.ensures.seen in second_excused _ _ _ _ _ _ half (returns-clause-run g c e.0 e.1)
