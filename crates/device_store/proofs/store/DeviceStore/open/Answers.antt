use Rattle.std.proofs.Common.{◌∙◌, ◌*◌, false, length, ap, sym, subst, List, Option}
use Rattle.std.proofs.lemmas.List.{length-replicate}
use Rattle.device_defs.specs.Store.{SideMarks}
use Rattle.device_store.proofs.Losing.{no_marks}
use Rattle.track_cache.specs.declared.frames.Frame.{Frame}
use Rattle.device_store.specs.Images.{AreImagesOf}
use Rattle.device_store.proofs.Orders.{not_both}
use Rattle.device_store.proofs.Placed.{none_framed}
use Rattle.device_store.proofs.store.DeviceStore.open.Goals as goal

pub invariant_of-result-clause-stale_of_each : goal.invariant_of-result-clause-stale_of_each
invariant_of-result-clause-stale_of_each g c =
    ap (λ (m : SideMarks). length m.stale) c.single.ensures.a ∙ ap length c.in-Ok.ensures.stale ∙ length-replicate (c.args.cylinders * 15) false

pub invariant_of-result-clause-loose_modified : goal.invariant_of-result-clause-loose_modified
invariant_of-result-clause-loose_modified g c = λ here t is. absurd (not_both _ is (rw c.in-Ok.ensures.loose (no_marks _ t)))

pub invariant_of-result-clause-frames_of_tracks : goal.invariant_of-result-clause-frames_of_tracks
invariant_of-result-clause-frames_of_tracks g c =
    subst (λ (fs : List (Option Frame)). AreImagesOf c.args.geometry fs) (sym c.in-Ok.ensures.frames) (none_framed c.args.geometry (c.args.cylinders * 15))
