use Rattle.std.proofs.Common.{[]}
use Rattle.nv_store.proofs.Fits.{others_fit}
use Rattle.nv_store.proofs.apply.put_all.Goals as goal

pub put_records-requires : goal.put_records-requires
put_records-requires c =
    rw c.set_zero.ensures (others_fit c.args.image.now.geometry [] c.args.records.now
    c.index-records-0.result c.requires.some c.index-records-0.is c.requires.fit)
