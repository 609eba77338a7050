use Rattle.std.proofs.lemmas.Result.{err_from_is_err_and}
use Rattle.volume_file.proofs.Through.{length_told, track_told}
use Rattle.volume_file.proofs.track.read_track.Goals as goal

pub returns-in_err-size-clause-told : goal.returns-in_err-size-clause-told
returns-in_err-size-clause-told g c =
    let p = err_from_is_err_and c.from_residual.result c.from_residual.ensures.1 in
    rw (p.1, p.2) (length_told c.args.geometry c.args.track c.args.offset _ _ c.in_err-size.ensures.told)

pub returns-clause-told : goal.returns-clause-told
returns-clause-told g c =
    track_told c.args.geometry c.args.track c.args.offset c.in_ok-size.size _ _ _ c.read_image.result c.in_ok-size.ensures.most c.in_ok-size.ensures.told
    c.read_image.ensures.told
    c.read_image.ensures.size
