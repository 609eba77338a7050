use Rattle.std.proofs.Common.{◌∙◌}
use Rattle.disk_image.specs.Image.{ImageState, last_read}
use Rattle.disk_image.proofs.Views.{read_here}
use Rattle.disk_image.proofs.image.DiskImageVolume.read_track.Goals as goal

pub returns-in-Ok : goal.returns-in-Ok
returns-in-Ok g c =
    let s : ImageState = record {
      held = g.F.DiskFile.held c.self.inside.file;
      layout = c.self.inside.layout;
      delivered = last_read c.self.inside.has_read c.self.inside.last;
      reads = c.self.inside.reads;
      writes = c.self.inside.writes;
      faults = c.self.inside.faults;
    } in
    read_here s c.args.self.now _ _ _ c.read_room.new.room c.set.new.self _ c.self.view_is c.requires c.in-Ok.ensures.held c.in-Ok.ensures.room
    (c.set.ensures ∙ c.track.ensures.value) (c.set-in-Ok.ensures ∙ c.bytes.ensures.bytes) c.counted-self-inside.ensures.value
