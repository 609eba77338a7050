use Rattle.std.proofs.Common.{◌≤◌, ◌∙◌, refl, ap, arith}
use Rattle.device_outside.specs.Interaction.{Done, and_then}
use Rattle.device_outside.specs.Outside.{done}
use Rattle.device_outside.proofs.Runs.{joined}
use Rattle.device_defs.specs.Background.{work}
use Rattle.device_defs.specs.Contents.{contents}
use Rattle.device_defs.specs.Device.{with_store, event_begun}
use Rattle.device_defs.specs.Events.{background}
use Rattle.device_defs.specs.Owed.{hear, noted_end}
use Rattle.event_notes.specs.Loose.{loose_count, weight}
use Rattle.device_store.specs.State.{half_of, state_of, outside_of}
use Rattle.device_store.proofs.Moves.{from_equal, weaker}
use Rattle.device_core.proofs.Parts.{none_unmapped}
use Rattle.device_core.specs.State.{device_of}
use Rattle.device_core.proofs.Eventful.{event_run, begun_weight, fits_room}
use Rattle.device_laws.proofs.counted.EventCounts.{background_moved}
use Rattle.device_laws.proofs.counted.Others.{background_keeps}
use Rattle.device_core.proofs.Away.{background_lent_on}
use Rattle.device_core.proofs.Promising.{background_excused, background_stays_same, background_sound, background_stays_plain}
use Rattle.device_core.proofs.device.Device.background_with.Goals as goal

pub close_event-requires : goal.close_event-requires
close_event-requires g c =
    let l = c.args.self.now.store.loose in
    let first = begun_weight l c.begin_event.new.self.loose c.begin_event.ensures.loose (ap (λ s. s.acts) c.begin_event.ensures.state) in
    let le : weight c.background-did.new.self.loose ≤ loose_count l.loose =
    omega (arith, c.background-did.ensures.leaves.weight, ap weight c.hear.ensures.leaves.loose, first) in
    record { room = fits_room l c.background-did.new.self.loose c.args.self.now.past c.args.self.now.act_room le }

pub returns-clause-run : goal.returns-clause-run
unfolding background
returns-clause-run g c =
    let d = device_of c.args.self.now in
    let r = c.background-did.result in
    let z = record (event_begun d) { store = state_of c.hear.new.self } in
    event_run d (λ e. and_then (work contents e.store) (λ s did. Done (with_store e s) did))
    (with_store z (state_of c.background-did.new.self)) (device_of c.close_event.new.self)
    (weaker r (from_equal (hear contents 960) c.begin_event.ensures.state
    (ap (λ v. outside_of (g.P.Port.view c.args.port.now) g.V.Volume.view v c.args.keep.now) c.begin_event.ensures.leaves.volume) (c.hear.ensures.run c.args.keep.now)))
    (joined (λ s did. Done (with_store z s) did) c.background-did.ensures.run done)
    (weaker r (from_equal (λ n. noted_end contents n (state_of c.background-did.new.self)) c.waiting_count-before.ensures refl (c.close_event.ensures.run _)))
    c.close_event.ensures.device

pub background-did-requires-clause-none : goal.background-did-requires-clause-none
background-did-requires-clause-none g c =
    c.hear.ensures.leaves.half ∙ c.begin_event.ensures.leaves.half ∙ none_unmapped half_of c.args.self.now.store.half c.requires.whole

pub returns-clause-paths : goal.returns-clause-paths
returns-clause-paths g c = background_keeps _ _ _ (returns-clause-run g c)

pub returns-clause-transfers : goal.returns-clause-transfers
returns-clause-transfers g c = background_moved _ _ _ (returns-clause-run g c)

pub returns-clause-sound : goal.returns-clause-sound
returns-clause-sound g c = background_sound _ _ _ _ _ _ c.requires.whole c.background-did.result (returns-clause-run g c)

pub returns-clause-plain : goal.returns-clause-plain
returns-clause-plain g c = background_stays_plain _ _ _ _ _ _ c.requires.whole c.background-did.result (returns-clause-run g c)

pub returns-clause-excused : goal.returns-clause-excused
returns-clause-excused g c = background_excused _ _ _ _ _ _ c.requires.whole c.background-did.result (returns-clause-run g c)

pub returns-clause-same_without_memory : goal.returns-clause-same_without_memory
returns-clause-same_without_memory g c = background_stays_same _ _ _ _ _ _ c.requires.whole c.background-did.result (returns-clause-run g c)

pub returns-clause-lent : goal.returns-clause-lent
returns-clause-lent g c = background_lent_on _ _ _ _ _ _ c.background-did.result (returns-clause-run g c)
