use Rattle.std.proofs.Common.{◌∙◌, refl, None}
use Rattle.deck_run.specs.Opening.{HasTracks, HoldsFirst}
use Rattle.deck_run.proofs.Lines.{open_at}
use Rattle.deck_run.proofs.NewVolumes.{one_made}
use Rattle.deck_run.proofs.Opened.{made_more, none_made}
use Rattle.deck_top.proofs.HandedOut.{still_hands}
use Rattle.deck_top.proofs.handing.hand_out_all.Goals as goal

pub loop-i-init : goal.loop-i-init
loop-i-init g c = record {
  tracks = rw c.new-volumes.ensures.items tt;
  holds = λ firsts hands. rw c.new-volumes.ensures.items tt;
  count = c.device_count-i-end.ensures;
  made = none_made c.args.deck.now.devices (g.B.VolumeBay.view c.args.bay.now).made;
  firsts = refl;
  spoiled = refl;
  taken = refl;
}

pub hand_out_one-requires : goal.hand_out_one-requires
hand_out_one-requires g c =
    open_at c.args.deck.now.devices c.loop-i.i None c.device_at.result (rw c.loop-i.invariant.count at c.loop-i-test.true) c.device_at.ensures c.requires

pub loop-i-preserved : goal.loop-i-preserved
loop-i-preserved g c =
    let ds = c.args.deck.now.devices in
    let i = c.loop-i.i in
    let d = c.device_at.result in
    let volume = c.in_ok-hand_out_one.field-0 in
    let inside = rw c.loop-i.invariant.count at c.loop-i-test.true in
    record {
      tracks = one_made HasTracks g.V.Volume.view ds i d c.loop-i.volumes.items c.push.new.self.items volume inside c.device_at.ensures
          c.in_ok-push.ensures.items c.loop-i.invariant.tracks c.in_ok-hand_out_one.ensures.tracks;
      holds = λ firsts hands.
          one_made (HoldsFirst firsts c.args.deck.now) g.V.Volume.view ds i d c.loop-i.volumes.items c.push.new.self.items volume inside
          c.device_at.ensures c.in_ok-push.ensures.items (c.loop-i.invariant.holds firsts hands)
          (c.in_ok-hand_out_one.ensures.holds firsts
          (still_hands (g.B.VolumeBay.view c.args.bay.now) (g.B.VolumeBay.view c.loop-i.bay) firsts c.loop-i.invariant.firsts c.loop-i.invariant.spoiled
          hands));
      count = c.loop-i.invariant.count;
      made = made_more ds i _ _ _ inside c.loop-i.invariant.made c.in_ok-hand_out_one.ensures.made;
      firsts = c.in_ok-hand_out_one.ensures.firsts ∙ c.loop-i.invariant.firsts;
      spoiled = c.in_ok-hand_out_one.ensures.spoiled ∙ c.loop-i.invariant.spoiled;
      taken = c.in_ok-hand_out_one.ensures.taken ∙ c.loop-i.invariant.taken;
    }
