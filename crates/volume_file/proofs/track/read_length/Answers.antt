use Rattle.byteorder.specs.Endian.{big_bytes}
use Rattle.volume_file.specs.Loading.{length_in}
use Rattle.volume_file.proofs.Told.{field_told, gives_same}
use Rattle.volume_file.proofs.track.read_length.Goals as goal

pub returns-clause-told : goal.returns-clause-told
returns-clause-told g c =
    field_told (length_in c.args.track c.args.offset) (big_bytes 4) _ _ 4 c.in_ok-field.field.items c.length_in.result c.in_ok-field.ensures.field
    (gives_same c.length_in.result _ (rw c.deref.ensures.value at c.length_in.ensures.exact))
    (rw c.deref.ensures.value at c.length_in.ensures.spelled)
