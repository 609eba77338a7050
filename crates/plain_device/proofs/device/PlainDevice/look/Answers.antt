use Rattle.std.proofs.Common.{◌≡◌, ◌<◌, ◌*◌, ℕ, Some, sym, ap, subst, ◌∙◌}
use Rattle.ckd_types.specs.declared.geometry.Geometry.{Geometry}
use Rattle.ckd_types.specs.Fixed.{Fixed}
use Rattle.ckd_types.specs.Volume.{track_in}
use Rattle.ckd_chain.specs.declared.progress.Progress.{Progress}
use Rattle.ckd_chain.specs.Facts.{CountsEnd, NeedsTrack, SuitsTrack}
use Rattle.plain_defs.specs.PlainState.{PlainState}
use Rattle.plain_device.specs.declared.done.Done.{Done}
use Rattle.plain_device.specs.Between.{IsEditOn}
use Rattle.plain_device.proofs.Looks.{image_for, look_ended, look_onward, look_edited, look_fits}
use Rattle.plain_device.proofs.device.PlainDevice.look.Goals as goal

pub returns-in-Ended : goal.returns-in-Ended
returns-in-Ended c =
    let image : c.image.result.now ≡ image_for c.args.self.now c.args.chain.now =
    c.image.ensures
    ∙ ap (λ (g : Geometry). record { geometry = g; track = track_in c.self.inside.volume.tracks c.args.track })
    c.self.invariant.0
    ∙ ap (λ (x : PlainState). record { geometry = x.geometry; track = track_in x.volume c.args.track }) c.self.view_is
    ∙ ap (λ (u : ℕ). record { geometry = c.args.self.now.geometry; track = track_in c.args.self.now.volume u })
    c.requires.track
    in record {
      went = look_ended c.args.self.now c.args.chain.now c.requires.looking.stage c.image.result.now image
          c.in_ok-end.field-0 c.step.new.self c.in_ok-end.ensures.progress c.in_ok-end.ensures.chain c.args.path
          c.in-Ended.end c.unwritten.result c.in-Ended.is c.unwritten.ensures
          (subst (λ (p : Progress). CountsEnd c.args.chain.now c.step.new.self p) c.in-Ended.is
          c.in_ok-end.ensures.counted);
      fits = subst (λ (x : Done). IsEditOn c.args.self.now x.edit) (sym c.unwritten.ensures) tt;
    }

pub returns-in-Need : goal.returns-in-Need
returns-in-Need c =
    let image : c.image.result.now ≡ image_for c.args.self.now c.args.chain.now =
    c.image.ensures
    ∙ ap (λ (g : Geometry). record { geometry = g; track = track_in c.self.inside.volume.tracks c.args.track })
    c.self.invariant.0
    ∙ ap (λ (x : PlainState). record { geometry = x.geometry; track = track_in x.volume c.args.track }) c.self.view_is
    ∙ ap (λ (u : ℕ). record { geometry = c.args.self.now.geometry; track = track_in c.args.self.now.volume u })
    c.requires.track
    in record {
      went = look_onward c.args.self.now c.args.chain.now c.requires.looking.stage c.image.result.now image
          c.in_ok-end.field-0 c.step.new.self c.in_ok-end.ensures.progress c.in_ok-end.ensures.chain c.in-Need.next
          c.in-Need.is
          (subst (λ (f : Fixed). c.in-Need.next < f.cylinders * 15) c.requires.looking.fixed
          (subst (λ (p : Progress). NeedsTrack (c.args.chain.now.fixed.cylinders * 15) p) c.in-Need.is
          c.in_ok-end.ensures.needs));
      fits = tt;
    }

pub returns-in-Write : goal.returns-in-Write
returns-in-Write c =
    let image : c.image.result.now ≡ image_for c.args.self.now c.args.chain.now =
    c.image.ensures
    ∙ ap (λ (g : Geometry). record { geometry = g; track = track_in c.self.inside.volume.tracks c.args.track })
    c.self.invariant.0
    ∙ ap (λ (x : PlainState). record { geometry = x.geometry; track = track_in x.volume c.args.track }) c.self.view_is
    ∙ ap (λ (u : ℕ). record { geometry = c.args.self.now.geometry; track = track_in c.args.self.now.volume u })
    c.requires.track
    in record {
      went = look_edited c.args.self.now c.args.chain.now c.requires.looking.stage c.image.result.now image
          c.in_ok-end.field-0 c.step.new.self c.in_ok-end.ensures.progress c.in_ok-end.ensures.chain c.args.path
          c.in-Write.track c.in-Write.edit c.settle-end.result c.settle-end.new.self _
          c.in-Write.is c.settle-end.ensures.end c.settle-end.ensures.chain
          (ap (λ (x : Done). record x { edit = Some (record { track = c.in-Write.track; edit = c.in-Write.edit }) })
          c.unwritten-done.ensures)
          c.settle-end.ensures.counted;
      fits = look_fits c.args.self.now c.args.chain.now c.requires.looking.stage c.image.result.now image
          c.in_ok-end.field-0 c.step.new.self c.in_ok-end.ensures.progress c.in_ok-end.ensures.chain
          c.in-Write.track c.in-Write.edit
          (subst (λ (t : ℕ). t < c.args.self.now.cylinders * 15) c.requires.track c.requires.on_device) c.in-Write.is
          (subst (λ (p : Progress). SuitsTrack (Some c.image.result.now) p) c.in-Write.is c.in_ok-end.ensures.suits);
    }
