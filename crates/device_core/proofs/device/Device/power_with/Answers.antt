use Rattle.std.proofs.Common.{refl, sym, ap, ◌∙◌}
use Rattle.device_outside.specs.Interaction.{Done, and_then}
use Rattle.device_outside.proofs.Runs.{ended, joined}
use Rattle.device_defs.specs.Contents.{contents}
use Rattle.device_defs.specs.Cutting.{counts_one_by, half_cut, power, powered_off}
use Rattle.device_defs.specs.Device.{event_begun}
use Rattle.device_defs.specs.Owed as owed
use Rattle.device_store.specs.State.{state_of, outside_of}
use Rattle.device_store.proofs.Moves.{from_equal}
use Rattle.device_core.specs.State.{device_by, device_of}
use Rattle.device_core.proofs.Eventful.{quiet_run}
use Rattle.device_core.proofs.Powers.{off_is}
use Rattle.device_laws.proofs.counted.EventCounts.{power_moved}
use Rattle.device_core.proofs.Away.{power_lent_on}
use Rattle.device_core.proofs.Promising.{power_excused, power_sound, power_stays_plain}
use Rattle.device_core.proofs.device.Device.power_with.Goals as goal

pub returns-clause-run : goal.returns-clause-run
unfolding power
returns-clause-run g c =
    let d = device_of c.args.self.now in
    let off = device_by (state_of c.lose_power.new.self) c.new-self.result c.args.self.now.plans c.lose_power-2.new.self in
    quiet_run d (λ z. and_then (half_cut contents z.store z.store.half) (λ s _. Done (powered_off contents z s) tt))
    off (record off { store = state_of c.end_event.new.self })
    (joined (λ s _. Done (powered_off contents (event_begun d) s) tt)
    (from_equal (λ s. half_cut contents s s.half) c.begin_event.ensures.state
    (ap (λ v. outside_of (g.P.Port.view c.args.port.now) g.V.Volume.view v c.args.keep.now) c.begin_event.ensures.leaves.volume) (c.cut_half.ensures.run _))
    (from_equal (λ i. i) refl
    (ap (λ v. outside_of (g.P.Port.view c.args.port.now) g.V.Volume.view v c.cut_half.new.keep) c.lose_power.ensures.volume)
    (ended (off_is (event_begun d).store c.cut_half.new.self c.lose_power.new.self c.args.self.now.past c.lose_power-2.new.self c.args.self.now.paths
    c.new-self.result c.args.self.now.plans c.half_count-more.result
    (sym (c.half_count-more.ensures.count ∙ ap (λ s. counts_one_by s.half) c.begin_event.ensures.state))
    c.lose_power.ensures.state c.new-self.ensures c.lose_power-2.ensures.history c.lose_power-2.ensures.over) refl)))
    (from_equal (λ n. owed.noted_end contents n (state_of c.lose_power.new.self)) c.waiting_count-before.ensures refl (c.end_event.ensures.run _)) refl

pub returns-clause-transfers : goal.returns-clause-transfers
returns-clause-transfers g c = power_moved _ _ _ (returns-clause-run g c)

pub returns-clause-sound : goal.returns-clause-sound
returns-clause-sound g c = power_sound _ _ _ _ _ _ (returns-clause-run g c)

pub returns-clause-plain : goal.returns-clause-plain
returns-clause-plain g c = power_stays_plain _ _ _ _ _ _ (returns-clause-run g c)

pub returns-clause-excused : goal.returns-clause-excused
returns-clause-excused g c = power_excused _ _ _ _ _ _ (returns-clause-run g c)

pub returns-clause-lent : goal.returns-clause-lent
returns-clause-lent g c = power_lent_on _ _ _ _ _ _ (returns-clause-run g c)
