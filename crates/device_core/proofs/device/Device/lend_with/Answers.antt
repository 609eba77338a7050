use Rattle.std.proofs.Common.{◌∙◌, refl, sym, ap}
use Rattle.std.specs.Prelude.{is_some, option_map}
use Rattle.device_outside.proofs.Runs.{ended}
use Rattle.device_defs.specs.Contents.{contents}
use Rattle.device_defs.specs.Device.{event_begun}
use Rattle.device_defs.specs.Losses.{over}
use Rattle.device_defs.specs.Orders.{given_up, lend, lent_to, with_tracks}
use Rattle.device_defs.specs.Owed as owed
use Rattle.device_defs.specs.Store.{tracks_of}
use Rattle.device_outside.specs.Interaction.{Done}
use Rattle.device_store.specs.Looks.{StoreOf}
use Rattle.device_store.specs.State.{on_a, outside, state_of}
use Rattle.device_store.proofs.Moves.{from_equal, lands}
use Rattle.device_core.specs.State.{device_of}
use Rattle.device_core.proofs.Away.{lend_leaves_plain, lend_loses_none, lend_sound}
use Rattle.device_core.proofs.Eventful.{quiet_run}
use Rattle.device_core.proofs.Halves.{none_by}
use Rattle.device_core.proofs.Lending.{beside, down_alone}
use Rattle.device_core.proofs.device.Device.lend_with.Goals as goal

pub lend-volume-requires : goal.lend-volume-requires
lend-volume-requires g c =
    let pair = c.args.self.now.store.pair in
    ap (λ (s : StoreOf). s.b.up) c.begin_event.ensures.state ∙ down_alone pair.b.up (is_some pair.volumes.b) pair.b_there c.requires

pub returns-clause-b : goal.returns-clause-b
returns-clause-b g c =
    ap (λ v. v.b) c.end_event.ensures.leaves.volume ∙ c.lend-volume.ensures.b ∙ ap (λ v. v.b) c.begin_event.ensures.leaves.volume
    ∙ none_by c.args.self.now.store.pair.volumes.b c.requires

pub returns-clause-run : goal.returns-clause-run
unfolding lend
returns-clause-run g c =
    let old = c.args.self.now.store in
    let d = device_of c.args.self.now in
    let lent = c.lend-volume.new.self in
    let view = g.V.Volume.view in
    let store_is = c.lend-volume.ensures.state
    ∙ ap (λ (s : StoreOf). lent_to (over (tracks_of s) (given_up contents) s) c.args.to) c.begin_event.ensures.state in
    let b_is = c.lend-volume.ensures.b ∙ ap (λ v. v.b) c.begin_event.ensures.leaves.volume in
    let a_is = c.lend-volume.ensures.back ∙ ap (λ v. v.a) c.begin_event.ensures.leaves.volume in
    λ k. lands (ap (λ v. record (outside (g.P.Port.view c.end_event.new.port) c.end_event.new.self k) { a = option_map view v }) (sym a_is))
    (quiet_run d (λ z. Done (with_tracks z (lent_to (over (tracks_of z.store) (given_up contents) z.store) c.args.to)) tt)
    (with_tracks (event_begun d) (state_of lent)) (with_tracks (event_begun d) (state_of c.end_event.new.self))
    (ended (ap (with_tracks (event_begun d)) (sym store_is)) refl)
    (from_equal (λ n. owed.noted_end contents n (state_of lent)) c.waiting_count-before.ensures
    (ap (λ v. record (outside (g.P.Port.view c.args.port.now) lent k) { a = option_map view (on_a old); b = option_map view v }) b_is)
    (beside (option_map view (on_a old)) (c.end_event.ensures.run k) (ap (option_map view) c.lend-volume.ensures.a)
    (ap (option_map view) (b_is ∙ none_by old.pair.volumes.b c.requires)))) refl)

pub returns-clause-sound : goal.returns-clause-sound
returns-clause-sound g c k idle =
    lend_sound c.args.self.now _ c.requires c.args.to _ _ k _ (ap (λ v. v.a) c.end_event.ensures.leaves.volume ∙ c.lend-volume.ensures.a)
    (returns-clause-run g c k) idle

pub returns-clause-plain : goal.returns-clause-plain
returns-clause-plain g c k idle =
    lend_leaves_plain c.args.self.now _ c.requires c.args.to _ _ k _ (ap (λ v. v.a) c.end_event.ensures.leaves.volume ∙ c.lend-volume.ensures.a)
    (returns-clause-run g c k) idle

pub returns-clause-excused : goal.returns-clause-excused
returns-clause-excused g c k idle =
    lend_loses_none c.args.self.now _ c.requires c.args.to _ _ k _ (ap (λ v. v.a) c.end_event.ensures.leaves.volume ∙ c.lend-volume.ensures.a)
    (returns-clause-run g c k) idle
