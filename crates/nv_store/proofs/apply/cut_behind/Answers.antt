use Rattle.std.proofs.Common.{◌+◌, take}
use Rattle.nv_store.proofs.Fits.{first_fits, others_fit}
use Rattle.nv_store.proofs.apply.cut_behind.Goals as goal

pub put_behind-requires : goal.put_behind-requires
put_behind-requires c = first_fits _ c.args.image.now.track.records c.args.behind.now c.args.last
    c.index-behind-0.result c.requires.place c.requires.some c.index-behind-0.is c.requires.fit

pub put_records-requires : goal.put_records-requires
put_records-requires c =
    rw c.in_ok-put_behind.ensures (others_fit c.args.image.now.geometry
    (take (c.args.last + 1) c.args.image.now.track.records) c.args.behind.now c.index-behind-0.result
    c.requires.some c.index-behind-0.is c.requires.fit)
