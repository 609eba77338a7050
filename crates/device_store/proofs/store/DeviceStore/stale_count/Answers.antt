use Rattle.std.proofs.Common.{◌∙◌, ◌*◌, ap}
use Rattle.track_table.specs.Tracks.{count_below}
use Rattle.device_defs.specs.Store.{SideMarks, stale_at}
use Rattle.duplex_pair.specs.Sides.{state_in}
use Rattle.device_store.proofs.Orders.{side_is}
use Rattle.device_store.proofs.store.DeviceStore.stale_count.Goals as goal

pub returns : goal.returns
returns g c =
    let x = c.args.self.now in
    c.stale_count.ensures ∙ ap (λ n. count_below n (stale_at (state_in x.pair c.args.side))) x.stale_of_each
    ∙ ap (λ (m : SideMarks). count_below (x.cylinders * 15) (stale_at m)) (side_is x c.args.side)
