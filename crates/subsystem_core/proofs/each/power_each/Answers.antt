use Rattle.std.proofs.Common.{◌≡◌, ◌<◌, ◌∙◌, refl, add-one, get_or, length}
use Rattle.device_outside.specs.Keeper.{Heard}
use Rattle.device_defs.specs.Contents.{contents}
use Rattle.device_defs.specs.Cutting.{power}
use Rattle.device_laws.proofs.BasedEvents.{power_based}
use Rattle.device_core.specs.State.{device_of}
use Rattle.subsystem_core.specs.Comes.{SweepsKept, over}
use Rattle.subsystem_core.proofs.Found.{read_again}
use Rattle.subsystem_core.proofs.Hearing.{spans_kept, swept_still, takes_on}
use Rattle.subsystem_core.proofs.Numbers.{above_same, below_same}
use Rattle.subsystem_core.proofs.Seating.{ran_lent, seats_kept}
use Rattle.subsystem_core.proofs.Standing.{set_stands, stays_by}
use Rattle.subsystem_core.proofs.Sweeping.{swept_more, rest_more, swept_all}
use Rattle.subsystem_core.proofs.each.power_each.Goals as goal

pub loop-i-init : goal.loop-i-init
loop-i-init g c = record { seats = refl; spans = refl; stands = λ pasts firsts all. all; rest = refl; each = over }

pub loop-i-preserved : goal.loop-i-preserved
loop-i-preserved g c =
    let ds = c.loop-i.devices in
    let how = SweepsKept (Heard g.K.Keep.hears g.K.Keep.takes) (power contents) in
    let within : c.loop-i.i < length ds = below_same c.loop-i-test.true c.loop-i.auto.devices in
    let here : c.loop-i.i < length c.args.devices.now = c.loop-i-test.true in
    let x = get_or ds c.loop-i.i c.index-devices-i.result in
    let read : x ≡ get_or ds c.loop-i.i x = read_again ds c.loop-i.i c.index-devices-i.result within in
    record {
      seats = seats_kept ds c.loop-i.i x c.power_with.new.self read (record {
        number = c.power_with.ensures.fixed.0;
        cylinders = c.power_with.ensures.fixed.1;
        lent = ran_lent (power_based contents (device_of x)) c.power_with.ensures.run;
      }) ∙ c.loop-i.invariant.seats;
      spans = spans_kept ds c.loop-i.i x c.power_with.new.self read c.power_with.ensures.fixed.0 c.power_with.ensures.fixed.1 c.power_with.ensures.fixed.2
          ∙ c.loop-i.invariant.spans;
      stands = λ pasts firsts all.
          set_stands ds c.loop-i.i x c.power_with.new.self within read c.power_with.ensures.fixed.0
          (stays_by x c.power_with.new.self (ran_lent (power_based contents (device_of x)) c.power_with.ensures.run) c.power_with.ensures.plain.stands c.power_with.ensures.lent.stands)
          pasts firsts (c.loop-i.invariant.stands pasts firsts all);
      rest = rw add-one (rest_more how c.loop-i.i c.args.devices.now ds c.power_with.new.self here within c.loop-i.invariant.rest);
      each = rw add-one (swept_more how c.loop-i.i c.args.devices.now ds x c.power_with.new.self within c.loop-i.invariant.rest read c.loop-i.invariant.each
          c.power_with.ensures.run);
    }

pub power_with-requires : goal.power_with-requires
power_with-requires g c =
    let ds = c.loop-i.devices in
    let within : c.loop-i.i < length ds = below_same c.loop-i-test.true c.loop-i.auto.devices in
    record {
      takes = takes_on c.args.keep.now c.loop-i.keep c.args.devices.now ds
          (swept_still g.K.Keep.hears g.K.Keep.takes (power contents) c.loop-i.invariant.each)
          c.loop-i.invariant.spans c.requires.takes c.loop-i.i c.index-devices-i.result within;
    }

pub returns-clause-each : goal.returns-clause-each
returns-clause-each g c =
    swept_all (SweepsKept (Heard g.K.Keep.hears g.K.Keep.takes) (power contents)) c.loop-i.i c.args.devices.now c.loop-i.devices c.loop-i-test.false
    (above_same c.loop-i-test.false c.loop-i.auto.devices) c.loop-i.invariant.each
