use Rattle.std.proofs.Common.{◌∙◌, refl, sym, ap, true, false}
use Rattle.std.specs.Prelude.{is_some}
use Rattle.device_outside.specs.Interaction.{and_then}
use Rattle.device_outside.specs.Outside.{done}
use Rattle.device_outside.proofs.Runs.{tries, ended}
use Rattle.device_defs.specs.Choosing.{choose}
use Rattle.device_defs.specs.Contents.{contents}
use Rattle.device_defs.specs.Editing.{write, write_chosen}
use Rattle.device_store.specs.State.{outside_of}
use Rattle.device_store.proofs.Firmly.{modified_there}
use Rattle.device_store.proofs.Moves.{lands, had_ok, from_equal}
use Rattle.device_store.proofs.store.DeviceStore.write.Goals as goal

pub returns-in-Err-clause-run : goal.returns-in-Err-clause-run
unfolding write
returns-in-Err-clause-run g c = tries false tt done

pub returns-in-Err-make_room-clause-run : goal.returns-in-Err-make_room-clause-run
unfolding write
returns-in-Err-make_room-clause-run g c = lands (ap (λ v. outside_of (g.P.Port.view c.args.port.now) g.V.Volume.view v c.args.keep.now)
    (sym c.make_room.ensures.leaves.volume)) (tries false tt (ended (sym c.make_room.ensures.state) refl))

pub returns-in-Ok-make_room-clause-run : goal.returns-in-Ok-make_room-clause-run
unfolding write
returns-in-Ok-make_room-clause-run g c =
    tries true (had_ok c.chosen_read.result) (from_equal
    (λ z. and_then (choose contents z c.args.usage.now c.args.t) (write_chosen contents c.args.usage.now c.args.first c.args.t c.args.old.now c.args.edit))
    c.make_room.ensures.state (ap (λ v. outside_of (g.P.Port.view c.args.port.now) g.V.Volume.view v c.args.keep.now) c.make_room.ensures.leaves.volume)
    c.chosen_read.ensures.run)

pub chosen_read-requires-clause-kept : goal.chosen_read-requires-clause-kept
chosen_read-requires-clause-kept g c = λ loose.
    let here = ap (λ z. is_some z.lent) c.make_room.ensures.state ∙ c.requires.here in
    modified_there _ (c.make_room.new.self.loose_modified here c.args.t loose)
