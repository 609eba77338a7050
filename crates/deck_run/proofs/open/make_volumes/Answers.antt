use Rattle.std.proofs.Common.{◌∙◌, refl, None}
use Rattle.device_outside.specs.Disk.{disk_view}
use Rattle.subsystem_defs.specs.Decks.{empty_firsts}
use Rattle.deck_run.specs.Opening.{HasTracks, HoldsFirst}
use Rattle.deck_run.proofs.Lines.{open_at}
use Rattle.deck_run.proofs.NewVolumes.{one_made}
use Rattle.deck_run.proofs.Opened.{made_more, none_made}
use Rattle.deck_run.proofs.open.make_volumes.Goals as goal

pub loop-i-init : goal.loop-i-init
loop-i-init c = record {
  tracks = rw c.new-volumes.ensures.items tt;
  holds = λ none. rw c.new-volumes.ensures.items tt;
  count = c.device_count-i-end.ensures;
  made = none_made c.args.deck.now.devices c.args.bay.now.made;
  spoiled = refl;
  taken = refl;
}

pub make_volume-requires : goal.make_volume-requires
make_volume-requires c =
    open_at c.args.deck.now.devices c.loop-i.i None c.device_at.result (rw c.loop-i.invariant.count at c.loop-i-test.true) c.device_at.ensures c.requires

pub loop-i-preserved : goal.loop-i-preserved
loop-i-preserved c =
    let ds = c.args.deck.now.devices in
    let i = c.loop-i.i in
    let d = c.device_at.result in
    let volume = c.in_ok-make_volume.field-0 in
    let inside = rw c.loop-i.invariant.count at c.loop-i-test.true in
    record {
      tracks = one_made HasTracks disk_view ds i d c.loop-i.volumes.items c.push.new.self.items volume inside c.device_at.ensures c.in_ok-push.ensures.items
          c.loop-i.invariant.tracks c.in_ok-make_volume.ensures.tracks;
      holds = λ none.
          one_made (HoldsFirst empty_firsts c.args.deck.now) disk_view ds i d c.loop-i.volumes.items c.push.new.self.items volume inside
          c.device_at.ensures c.in_ok-push.ensures.items (c.loop-i.invariant.holds none)
          (c.in_ok-make_volume.ensures.holds (c.loop-i.invariant.spoiled ∙ none));
      count = c.loop-i.invariant.count;
      made = made_more ds i _ _ _ inside c.loop-i.invariant.made c.in_ok-make_volume.ensures.made;
      spoiled = c.in_ok-make_volume.ensures.spoiled ∙ c.loop-i.invariant.spoiled;
      taken = c.in_ok-make_volume.ensures.taken ∙ c.loop-i.invariant.taken;
    }
