-- How a command goes from track to track.
use Rattle.std.specs.Prelude.{ℕ, zero, suc, List, [], ◌∷◌, Option, None, Some}
use Rattle.ckd_types.specs.declared.channel.Ccw.{Ccw}
use Rattle.ckd_types.specs.declared.geometry.Geometry.{Geometry}
use Rattle.ckd_types.specs.declared.record.Edit.{Edit}
use Rattle.ckd_types.specs.declared.record.Track.{Track}
use Rattle.ckd_types.specs.Sense.{equipment_sense}
use Rattle.ckd_rules.specs.declared.order.Look.{Look}
use Rattle.ckd_rules.specs.declared.stance.Stance.{Stance}
use Rattle.ckd_rules.specs.declared.turned.Turned.{Turned}
use Rattle.ckd_rules.specs.declared.turned.Turned.TheVariants.{Ended, Onward, Edits}
use Rattle.ckd_rules.specs.Ending.{Outcome, refused}
use Rattle.ckd_rules.specs.Look.{look_on}

-- an edit of a track
pub record TrackEdit : Type 0 where
  pub track : ℕ
  pub edit : Edit

-- how a command came out over the tracks: its outcome, the tracks that it looked at in order, and its edit
pub record Walked : Type 0 where
  pub outcome : Outcome
  pub touched : List ℕ
  pub edit : Option TrackEdit

abbrev pub untouched : Outcome → Walked
untouched o = record { outcome = o; touched = []; edit = None }

-- it looked at this track first
abbrev pub touching : ℕ → Walked → Walked
touching t w = record w { touched = t ∷ w.touched }

-- what comes of a look at a track, where it goes on by what it does from the next one on
abbrev pub walked : ℕ → (Stance → Walked) → Stance → Turned → Walked
walked t on s (Ended e) = record { outcome = record { stance = s; ending = e }; touched = t ∷ []; edit = None }
walked t on s Onward = touching t (on s)
walked t on s (Edits edit e) = record { outcome = record { stance = s; ending = e }; touched = t ∷ []; edit = Some (record { track = t; edit = edit }) }

-- from the track of a stance on, at most this many: a command that began on a device ends before it has looked at more tracks than there
-- are, or else it would end with equipment check, as if it had done nothing from its start on
unfoldable pub walk : ℕ → Geometry → (ℕ → Track) → Stance → Ccw → Look → Stance → Walked
walk zero g tracks start c look s = untouched (refused start c equipment_sense)
walk (suc n) g tracks start c look s = walked s.track (walk n g tracks start c look)
    (look_on g (tracks s.track) s c look).stance (look_on g (tracks s.track) s c look).turned
