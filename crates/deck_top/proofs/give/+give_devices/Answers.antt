use Rattle.std.proofs.Common.{◌<◌, ℕ, [], ◌∷◌, ap, arith, length, subst}
use Rattle.std.proofs.lemmas.List.{length-append}
use Rattle.deck_top.specs.Handed.{all_taken, taken_of}
use Rattle.deck_top.proofs.HandedBack.{both_given, held_more, room_one, room_two, taken_more}
use Rattle.deck_top.proofs.give.+give_devices.Goals as goal

pub give_devices-requires : goal.give_devices-requires
give_devices-requires g t c =
    let whole = taken_more c.args.devices.items c.pop.new.self.items c.in-Some.device c.in-Some.ensures.items in
    let last = c.in-Some.device ∷ [] in
    let fewer : length c.pop.new.self.items < length c.args.devices.items =
    omega (arith, ap length c.in-Some.ensures.items, length-append c.pop.new.self.items last) in
    λ κs outlives. (
      subst (λ (n : ℕ). length c.pop.new.self.items < n) c.decreases fewer,
      (
        outlives.0,
        (
          outlives.1,
          room_one (g.B.VolumeBay.view c.args.bay.now) (all_taken c.args.devices.items) (all_taken c.pop.new.self.items) (taken_of c.in-Some.device) whole
              c.requires,
        ),
      ),
    )

pub give_device-requires : goal.give_device-requires
give_device-requires g t c =
    let whole = taken_more c.args.devices.items c.pop.new.self.items c.in-Some.device c.in-Some.ensures.items in
    room_two (g.B.VolumeBay.view c.args.bay.now) (all_taken c.args.devices.items) (all_taken c.pop.new.self.items) (taken_of c.in-Some.device) whole
    (g.B.VolumeBay.view c.give_devices.new.bay) c.give_devices.ensures.bay c.requires

pub returns-clause-bay : goal.returns-clause-bay
returns-clause-bay g t c =
    let whole = taken_more c.args.devices.items c.pop.new.self.items c.in-Some.device c.in-Some.ensures.items in
    both_given (g.B.VolumeBay.view c.args.bay.now) (all_taken c.args.devices.items) (all_taken c.pop.new.self.items) (taken_of c.in-Some.device) whole
    (g.B.VolumeBay.view c.give_devices.new.bay) (g.B.VolumeBay.view c.give_device.new.bay) c.give_devices.ensures.bay c.give_device.ensures.bay

pub returns-clause-bytes : goal.returns-clause-bytes
returns-clause-bytes g t c =
    held_more c.args.devices.items c.pop.new.self.items c.in-Some.device c.in-Some.ensures.items c.give_devices.ensures.bytes c.give_device.ensures.bytes
