use Rattle.std.proofs.Common.{refl, take, None, arith}
use Rattle.std.proofs.lemmas.List.{take_more}
use Rattle.deck_run.specs.Opening.{HasTracks, HoldsFirst}
use Rattle.deck_run.proofs.Accounted.{fresh_append}
use Rattle.deck_run.proofs.Found.{own_more}
use Rattle.deck_run.proofs.Lines.{open_at}
use Rattle.deck_run.proofs.NewVolumes.{first_left, rest_left, some_left}
use Rattle.deck_run.proofs.Opened.{none_mounted, numbers_more, stands_more, unused_more}
use Rattle.deck_run.proofs.open.open_devices.Goals as goal

pub loop-i-init : goal.loop-i-init
loop-i-init g c = record {
  numbers = rw c.new-made.ensures.items refl;
  tracks = c.requires.tracks;
  hold = λ firsts all. all;
  mounted = λ p firsts all. rw c.new-made.ensures.items (none_mounted p);
  own = rw c.new-made.ensures.items tt;
  fresh = rw c.new-made.ensures.items tt;
  unused = rw c.new-made.ensures.items tt;
  count = c.device_count-i-end.ensures;
}

pub remove-volume-requires : goal.remove-volume-requires
remove-volume-requires g c =
    let inside = rw c.loop-i.invariant.count at c.loop-i-test.true in
    let k = c.loop-i.volumes.ok.0 in
    let some = some_left HasTracks g.V.Volume.view c.args.deck.now.devices c.loop-i.i c.device_at-line.result c.loop-i.volumes.items inside
    c.device_at-line.ensures c.loop-i.invariant.tracks in
    omega (arith, k, some)

pub open_device-requires-clause-line : goal.open_device-requires-clause-line
open_device-requires-clause-line g c =
    open_at c.args.deck.now.devices c.loop-i.i None c.device_at-line.result (rw c.loop-i.invariant.count at c.loop-i-test.true) c.device_at-line.ensures
    c.requires.devices

pub open_device-requires-clause-tracks : goal.open_device-requires-clause-tracks
open_device-requires-clause-tracks g c =
    first_left HasTracks g.V.Volume.view c.args.deck.now.devices c.loop-i.i c.device_at-line.result c.loop-i.volumes.items
    (rw c.loop-i.invariant.count at c.loop-i-test.true) c.device_at-line.ensures c.loop-i.invariant.tracks c.remove-volume.result c.remove-volume.ensures.value

pub loop-i-preserved : goal.loop-i-preserved
loop-i-preserved g c =
    let ds = c.args.deck.now.devices in
    let d = c.device_at-line.result in
    let view = g.V.Volume.view in
    let inside = rw c.loop-i.invariant.count at c.loop-i-test.true in
    let taken = take_more ds c.loop-i.i d inside in
    record {
      numbers = rw (taken, c.in_ok-push.ensures.items, ← c.device_at-line.ensures)
          (numbers_more c.loop-i.made.items c.in_ok-open_device.field-0 (take c.loop-i.i ds) d c.loop-i.invariant.numbers c.in_ok-open_device.ensures.number);
      tracks = rest_left HasTracks view ds c.loop-i.i d c.loop-i.volumes.items inside c.device_at-line.ensures c.loop-i.invariant.tracks
          c.remove-volume.new.self.items c.remove-volume.ensures.items;
      hold = λ firsts all.
          rest_left (HoldsFirst firsts c.args.deck.now) view ds c.loop-i.i d c.loop-i.volumes.items inside c.device_at-line.ensures
          (c.loop-i.invariant.hold firsts all) c.remove-volume.new.self.items c.remove-volume.ensures.items;
      mounted = λ p firsts all. rw (taken, c.in_ok-push.ensures.items, ← c.device_at-line.ensures)
          (stands_more firsts p c.args.deck.now c.loop-i.made.items c.in_ok-open_device.field-0 (take c.loop-i.i ds) d
          (c.loop-i.invariant.mounted p firsts all)
          (c.in_ok-open_device.ensures.mounted firsts
          (first_left (HoldsFirst firsts c.args.deck.now) view ds c.loop-i.i d c.loop-i.volumes.items inside c.device_at-line.ensures
          (c.loop-i.invariant.hold firsts all) c.remove-volume.result c.remove-volume.ensures.value)));
      own = own_more c.loop-i.made.items c.push.new.self.items c.in_ok-open_device.field-0 c.in_ok-push.ensures.items c.loop-i.invariant.own
          c.in_ok-open_device.ensures.own;
      fresh = fresh_append c.loop-i.made.items c.push.new.self.items c.in_ok-open_device.field-0 c.in_ok-push.ensures.items c.loop-i.invariant.fresh
          c.in_ok-open_device.ensures.fresh;
      unused = rw c.in_ok-push.ensures.items
          (unused_more c.loop-i.made.items c.in_ok-open_device.field-0 c.loop-i.invariant.unused c.in_ok-open_device.ensures.unused);
      count = c.loop-i.invariant.count;
    }
