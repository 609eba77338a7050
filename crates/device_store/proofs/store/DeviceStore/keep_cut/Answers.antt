use Rattle.std.proofs.Common.{◌∙◌, Bool, List, Some, Option, ap, sym}
use Rattle.track_cache.specs.declared.frames.Frame.{Frame}
use Rattle.device_defs.specs.Contents.{contents}
use Rattle.device_defs.specs.Losses.{without_patch}
use Rattle.device_defs.specs.Store.{frame_at, with_frame}
use Rattle.device_store.specs.State.{state_of}
use Rattle.device_store.proofs.Seconds.{cut_bare, cut_framed}
use Rattle.device_store.proofs.store.DeviceStore.keep_cut.Goals as goal

pub returns-then-has-clause-state : goal.returns-then-has-clause-state
returns-then-has-clause-state g c =
    let s = state_of c.args.self.now in
    c.give_up_patch.ensures.state
    ∙ ap (λ (fs : List (Option Frame)). without_patch contents (record s { frames = fs }) c.args.t) c.set.ensures
    ∙ ap (λ (m : Bool). without_patch contents (with_frame s c.args.t (Some (record { image = c.args.image; modified = m }))) c.args.t)
    c.modified-modified.ensures
    ∙ sym (cut_framed s c.args.t c.args.image (frame_at s c.args.t) (sym c.has.ensures ∙ c.if-has.true))

pub returns-else-has-clause-state : goal.returns-else-has-clause-state
returns-else-has-clause-state g c =
    let s = state_of c.args.self.now in sym (cut_bare s c.args.t c.args.image (frame_at s c.args.t) (sym c.has.ensures ∙ c.if-has.false))
