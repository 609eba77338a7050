use Rattle.disk_image.proofs.Found.{bad_told, good_told, track_told}
use Rattle.disk_image.proofs.volume.read_image.Goals as goal

pub returns-clause-track : goal.returns-clause-track
returns-clause-track g c = track_told _ _ _ _ _ _ c.in_ok-read_room.ensures.room c.track.ensures.value c.image_of.ensures.track

pub returns-clause-good : goal.returns-clause-good
returns-clause-good g c = good_told _ _ _ _ _ _ c.in_ok-read_room.ensures.room c.track.ensures.value c.image_of.ensures.good

pub returns-clause-bad : goal.returns-clause-bad
returns-clause-bad g c = bad_told _ _ _ _ _ _ c.in_ok-read_room.ensures.room c.track.ensures.value c.image_of.ensures.bad
