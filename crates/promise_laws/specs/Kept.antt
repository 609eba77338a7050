-- What the writes since the last new volume made of a device's firm volume: what each track is without data of cache fast write.
use Rattle.std.specs.Prelude.{◌≡◌, ℕ, false, List, [], ◌∷◌, ◌++◌, Option, Some, None, All}
use Rattle.ckd_types.specs.declared.record.Track.{Track}
use Rattle.ckd_types.specs.Volume.{track_in, empty_volume}
use Rattle.ckd_rules.specs.Walk.{TrackEdit}
use Rattle.plain_defs.specs.declared.journal.Item.{Item}
use Rattle.plain_defs.specs.declared.journal.Item.TheVariants as items
use Rattle.plain_defs.specs.Acknowledged.{EditTold, acknowledged_of}
use Rattle.plain_defs.specs.Effect.{edited_volume}
use Rattle.plain_defs.specs.History.{OpenEntry, History, open_part}
use Rattle.plain_defs.specs.Journal.{Plans, entry_part, effects_of, replay, replay_item, item_told}
use Rattle.plain_defs.specs.PlainState.{PlainState}
use Rattle.device_defs.specs.Marks.{MarksDevice}
use Rattle.device_defs.specs.Store.{is_loose}
use Rattle.subsystem_defs.specs.Lines.{Logged}
use Rattle.subsystem_defs.specs.Decks.{Firsts, empty_firsts}
use Rattle.subsystem_defs.specs.Promised.{first_of}
use Rattle.subsystem_defs.specs.Subsystem.{devices_of}

-- The writes

-- what is told of an item's edits; of a program that was cut, of all that took effect: beside those that were told as done the one of which
-- a half write was open
abbrev pub item_done : Plans → PlainState → Item → List EditTold
item_done plans state (items.Program e) = (entry_part plans state e (effects_of e.how e.ends)).told
item_done plans state x = item_told plans state x

-- what items tell of edits, behind what was told before; a new volume begins anew
abbrev pub told_since : (PlainState → Item → List EditTold) → Plans → PlainState → List EditTold → List Item → List EditTold
told_since tells plans state told [] = told
told_since tells plans state told (items.Fresh ∷ xs) = told_since tells plans (replay_item plans state items.Fresh) [] xs
told_since tells plans state told (x ∷ xs) = told_since tells plans (replay_item plans state x) (told ++ tells state x) xs

-- the commands of the running program that ended
abbrev pub running_told : Plans → PlainState → Option OpenEntry → List EditTold
running_told plans state (Some o) = (open_part plans state o).told
running_told plans state None = []

abbrev pub history_told : (PlainState → Item → List EditTold) → Plans → PlainState → History → List EditTold
history_told tells plans empty h = told_since tells plans empty [] h.items ++ running_told plans (replay plans empty h.items) h.running

-- the plain device that it began as, where its volume held these tracks first
abbrev pub begun_of : Firsts → MarksDevice → PlainState
begun_of firsts d = first_of (firsts d.store.device) d

-- the edits since the last new volume that were acknowledged, in the journal's order
abbrev pub acknowledged_on : Firsts → MarksDevice → List TrackEdit
acknowledged_on firsts d = acknowledged_of (history_told (item_told d.plans) d.plans (begun_of firsts d) d.history)

-- and with them those of commands that were cut in the midst of their write
abbrev pub kept_on : Firsts → MarksDevice → List TrackEdit
kept_on firsts d = acknowledged_of (history_told (item_done d.plans) d.plans (begun_of firsts d) d.history)

-- on empty volumes
abbrev pub acknowledged_edits : MarksDevice → List TrackEdit
acknowledged_edits d = acknowledged_on empty_firsts d

abbrev pub kept_edits : MarksDevice → List TrackEdit
kept_edits d = kept_on empty_firsts d

-- what the last new volume held: empty tracks, or where there was none what the volume held first
abbrev pub held_since : ℕ → List Track → List Item → List Track
held_since cylinders v [] = v
held_since cylinders v (items.Fresh ∷ xs) = held_since cylinders (empty_volume cylinders) xs
held_since cylinders v (x ∷ xs) = held_since cylinders v xs

-- the first edits are among the others, in their order
pub data Among : List TrackEdit → List TrackEdit → Type 0 where
  none : Among [] []
  one : (e : TrackEdit) (es fs : List TrackEdit) → Among es fs → Among (e ∷ es) (e ∷ fs)
  another : (e : TrackEdit) (es fs : List TrackEdit) → Among es fs → Among es (e ∷ fs)

-- What they made

abbrev pub edited_by : List Track → List TrackEdit → List Track
edited_by v [] = v
edited_by v (e ∷ edits) = edited_by (edited_volume v (Some e)) edits

-- the firm volume is that of the last new volume with these edits, among which is each that was acknowledged; and a track without data of cache
-- fast write is its firm one
pub record KeepsWritesOn (firsts : Firsts) (d : MarksDevice) : Type 0 where
  pub firm : d.store.firm ≡ edited_by (held_since d.store.cylinders (firsts d.store.device d.store.cylinders) d.history.items) (kept_on firsts d)
  pub all : Among (acknowledged_on firsts d) (kept_on firsts d)
  pub plain : (t : ℕ) → is_loose d.store t ≡ false → track_in d.store.plain t ≡ track_in d.store.firm t

abbrev pub KeepWritesOn : Firsts → Logged → Type 0
KeepWritesOn firsts x = All (KeepsWritesOn firsts) (devices_of x.happened.behind)

-- the same on empty volumes, where each new volume is one
pub record KeepsWrites (d : MarksDevice) : Type 0 where
  pub firm : d.store.firm ≡ edited_by (empty_volume d.store.cylinders) (kept_edits d)
  pub all : Among (acknowledged_edits d) (kept_edits d)
  pub plain : (t : ℕ) → is_loose d.store t ≡ false → track_in d.store.plain t ≡ track_in d.store.firm t

abbrev pub KeepWrites : Logged → Type 0
KeepWrites x = All KeepsWrites (devices_of x.happened.behind)
