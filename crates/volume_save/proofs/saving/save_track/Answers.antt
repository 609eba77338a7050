use Rattle.std.proofs.Common.{◌∙◌, ap}
use Rattle.track_looks.specs.Looking.{look_seen}
use Rattle.volume_file.specs.File.{ImageVolume}
use Rattle.volume_save.proofs.Stepping.{all_below, fits_on, is_placed, never_bad, off_track}
use Rattle.volume_save.proofs.saving.save_track.Goals as goal

pub look-requires-clause-track : goal.look-requires-clause-track
look-requires-clause-track g c =
    all_below c.args.sub.now c.requires.stands.0 c.args.d c.args.t c.args.volume.now c.requires.stands.1 c.requires.stands.2 c.has_all_tracks.ensures
    c.requires.track

pub set-requires-clause-model : goal.set-requires-clause-model
set-requires-clause-model g c =
    let run = c.requires.stands.0 in
    let fits = c.requires.stands.2 in
    let so = c.in-Ok-Track.ensures.happened run c.requires.stands.1 (off_track run c.args.d c.args.t c.args.volume.now fits) in
    (is_placed c.args.sub.now run c.args.d c.args.t c.args.volume.now c.in-Ok-Track.image c.requires.stands.1 fits c.has_all_tracks.ensures c.requires.track
    (so.0 ∙ ap look_seen c.in-Ok-Track.field-0-is)).0

pub set-requires-clause-home : goal.set-requires-clause-home
set-requires-clause-home g c =
    let run = c.requires.stands.0 in
    let fits = c.requires.stands.2 in
    let so = c.in-Ok-Track.ensures.happened run c.requires.stands.1 (off_track run c.args.d c.args.t c.args.volume.now fits) in
    (is_placed c.args.sub.now run c.args.d c.args.t c.args.volume.now c.in-Ok-Track.image c.requires.stands.1 fits c.has_all_tracks.ensures c.requires.track
    (so.0 ∙ ap look_seen c.in-Ok-Track.field-0-is)).1

pub unreachable-requires : goal.unreachable-requires
unreachable-requires g c =
    let run = c.requires.stands.0 in
    let fits = c.requires.stands.2 in
    let so = c.in-Ok-BadBytes.ensures.happened run c.requires.stands.1 (off_track run c.args.d c.args.t c.args.volume.now fits) in
    never_bad run c.args.d c.args.t c.args.volume.now c.in-Ok-BadBytes.field-0-0 fits (so.0 ∙ ap look_seen c.in-Ok-BadBytes.field-0-is)

pub returns-in-Ok-Track-clause-found : goal.returns-in-Ok-Track-clause-found
returns-in-Ok-Track-clause-found g c = λ run stands fits.
    let so = c.in-Ok-Track.ensures.happened run stands (off_track run c.args.d c.args.t c.args.volume.now fits) in
    record {
      image = c.in-Ok-Track.image;
      found = so.0 ∙ ap look_seen c.in-Ok-Track.field-0-is;
      set = c.set.ensures;
      stands = so.1;
      fits = fits_on run c.args.d c.args.t c.args.volume.now c.set.new.self fits (ap (λ (v : ImageVolume). v.geometry) c.set.ensures)
          (ap (λ (v : ImageVolume). v.cylinders) c.set.ensures);
    }
