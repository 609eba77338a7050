use Rattle.std.proofs.Common.{◌≡◌, refl, sym, subst, ◌∙◌, arith}
use Rattle.std.specs.Io.KnownBytes.{Consumes}
use Rattle.std.proofs.lemmas.Result.{err_from_is_err_and}
use Rattle.track_image.specs.Image.{Image}
use Rattle.volume_file.specs.File.{ImageVolume, file_of}
use Rattle.volume_file.proofs.Told.{caused_behind}
use Rattle.volume_file.proofs.ReadSo.{ended, end_told, head_told, reads_on, so_far, starts_so, track_told, whole}
use Rattle.volume_file.proofs.loading.read_volume.Goals as goal

pub returns-in_err-file-clause-told : goal.returns-in_err-file-clause-told
returns-in_err-file-clause-told g c =
    let p = err_from_is_err_and c.from_residual.result c.from_residual.ensures.1 in
    rw (p.1, p.2) (head_told _ _ c.in_err-file.ensures.told)

pub tracks-init : goal.tracks-init
tracks-init g c = record {
  so = starts_so _ _ c.in_ok-file.file c.in_ok-images.images.items c.in_ok-file.ensures.told c.in_ok-file.ensures.start c.in_ok-images.ensures.items;
  next = c.in_ok-file.ensures.start.1;
  count = c.track_count-end.ensures;
  calm = c.in_ok-file.ensures.cause;
}

pub track-requires : goal.track-requires
track-requires g c = omega (arith, c.tracks.invariant.next, c.tracks.invariant.count)

pub returns-in_err-image-clause-told : goal.returns-in_err-image-clause-told
returns-in_err-image-clause-told g c =
    let p = err_from_is_err_and c.from_residual-in_err-image.result c.from_residual-in_err-image.ensures.1 in
    rw (p.1, p.2) (track_told _ _ c.tracks.file c.tracks.images.items _ c.tracks.invariant.so (omega
    (arith, c.tracks.invariant.next, c.tracks.invariant.count)) c.in_err-image.ensures.told)

pub returns-in_err-image-clause-cause : goal.returns-in_err-image-clause-cause
returns-in_err-image-clause-cause g c =
    let p = err_from_is_err_and c.from_residual-in_err-image.result c.from_residual-in_err-image.ensures.1 in
    rw (p.1, p.2) (caused_behind Image ImageVolume _ _ _ _ c.tracks.invariant.calm c.in_err-image.ensures.cause)

pub returns-in_err-push-clause-cause : goal.returns-in_err-push-clause-cause
returns-in_err-push-clause-cause g c =
    let p = err_from_is_err_and c.from_residual-in_err-push.result c.from_residual-in_err-push.ensures.1 in
    rw (p.1, p.2) (c.in_ok-image.ensures.cause ∙ c.tracks.invariant.calm)

pub tracks-preserved : goal.tracks-preserved
tracks-preserved g c =
    let moved = c.in_ok-image.ensures.moved in
    record {
      so = reads_on _ _ _ c.tracks.file c.track.new.self c.tracks.images.items c.push.new.self.items c.in_ok-image.image c.tracks.invariant.so
          c.in_ok-image.ensures.told c.in_ok-image.ensures.placed moved c.in_ok-push.ensures.items;
      next = rw moved (omega (arith, c.tracks.invariant.next));
      count = rw moved c.tracks.invariant.count;
      calm = c.in_ok-image.ensures.cause ∙ c.tracks.invariant.calm;
    }

pub returns-in_err-finish-clause-told : goal.returns-in_err-finish-clause-told
returns-in_err-finish-clause-told g c =
    let p = err_from_is_err_and c.from_residual-in_err-finish.result c.from_residual-in_err-finish.ensures.1 in
    rw (p.1, p.2) (end_told _ _ c.tracks.file c.tracks.images.items _ c.tracks.invariant.so (omega
    (arith, c.tracks.invariant.next, c.tracks.invariant.count)) c.in_err-finish.ensures.told)

pub returns-in_err-finish-clause-cause : goal.returns-in_err-finish-clause-cause
returns-in_err-finish-clause-cause g c =
    let p = err_from_is_err_and c.from_residual-in_err-finish.result c.from_residual-in_err-finish.ensures.1 in
    rw (p.1, p.2) (caused_behind (Unit {0}) ImageVolume _ _ _ _ c.tracks.invariant.calm c.in_err-finish.ensures.cause)

pub of-requires : goal.of-requires
of-requires g c =
    rw (c.geometry.ensures, c.cylinders.ensures)
    (whole _ _ c.tracks.file c.tracks.images.items c.tracks.invariant.so (omega (arith, c.tracks.invariant.next, c.tracks.invariant.count)))

pub returns-clause-told : goal.returns-clause-told
returns-clause-told g c =
    let same : c.of.result ≡ so_far c.tracks.file c.tracks.images.items = c.of.ensures ∙ rw (c.geometry.ensures, c.cylinders.ensures) refl in
    subst (λ (v : ImageVolume). Consumes (g.S.Source.left c.args.source.now) (g.S.Source.left c.finish.new.source) (file_of v)) (sym same)
    (ended _ _ _ _ c.tracks.invariant.so.read c.in_ok-finish.ensures.told)

pub returns-clause-cause : goal.returns-clause-cause
returns-clause-cause g c = c.in_ok-finish.ensures.cause ∙ c.tracks.invariant.calm
