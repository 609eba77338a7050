use Rattle.ckd_types.specs.Track.{track_bytes}
use Rattle.volume_file.specs.Loading.{image_at}
use Rattle.volume_file.proofs.Told.{field_told}
use Rattle.volume_file.proofs.track.read_image.Goals as goal

pub returns-clause-told : goal.returns-clause-told
returns-clause-told g c =
    field_told (image_at c.args.geometry c.args.track c.args.offset c.args.size) (λ i. track_bytes i.track) _ _ c.args.size c.in_ok-field.field.items
    c.image_at.result
    c.in_ok-field.ensures.field
    (rw c.deref.ensures.value at c.image_at.ensures.exact)
    (rw c.deref.ensures.value at c.image_at.ensures.bytes)
