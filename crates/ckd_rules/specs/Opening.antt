-- How a command begins: what it does before it looks at a track.
use Rattle.std.specs.Prelude.{ℕ, [], Option, None, Some, Result, Ok, Err}
use Rattle.ckd_types.specs.declared.channel.Ccw.{Ccw}
use Rattle.ckd_types.specs.declared.command.Read.{Read}
use Rattle.ckd_types.specs.declared.command.ReadArea.{ReadArea}
use Rattle.ckd_types.specs.declared.command.ReadArea.TheVariants as reads
use Rattle.ckd_types.specs.declared.command.Write.TheVariants.{NextTrack}
use Rattle.ckd_types.specs.declared.parameters.Domain.{Domain}
use Rattle.ckd_types.specs.declared.sense.Sense.{Sense}
use Rattle.ckd_types.specs.Fixed.{Fixed}
use Rattle.ckd_rules.specs.declared.opening.Opening.{Opening}
use Rattle.ckd_rules.specs.declared.opening.Opening.TheVariants as openings
use Rattle.ckd_rules.specs.declared.order.Look.{Look}
use Rattle.ckd_rules.specs.declared.order.Look.TheVariants.{Finds, Searches, Reads, Writes}
use Rattle.ckd_rules.specs.declared.order.CommandOrder.{CommandOrder}
use Rattle.ckd_rules.specs.declared.order.CommandOrder.TheVariants.{Nothing, Seeks, Recalibrates, SetsSector, SetsMask, Defines, Locates, Looks, Asks}
use Rattle.ckd_rules.specs.declared.stance.Place.{Place}
use Rattle.ckd_rules.specs.declared.stance.Place.TheVariants.{Index}
use Rattle.ckd_rules.specs.declared.stance.Stance.{Stance}
use Rattle.ckd_rules.specs.Checks.{order_of}
use Rattle.ckd_rules.specs.Control.{controlled, went_to, extended, masked, placed, unseen_place}
use Rattle.ckd_rules.specs.Ending.{Outcome, normal, refused, immediate, outcome_with}
use Rattle.ckd_rules.specs.Finding.{track_after}

-- a command that began: it is over, or looks at the track of this stance, or asks the device
pub record Opened : Type 0 where
  pub stance : Stance
  pub opening : Opening

abbrev pub over_at_once : Outcome → Opened
over_at_once o = record { stance = o.stance; opening = openings.Over o.ending }

abbrev pub looking : Stance → Look → Opened
looking s look = record { stance = s; opening = openings.Looks look }

-- a command on the next track goes there first, whatever the mask says of moves
abbrev pub moved : Stance → Ccw → Look → Result ℕ Sense → Opened
moved s c look (Ok t) = looking (record s { track = t; place = Index }) look
moved s c look (Err sense) = over_at_once (refused s c sense)

-- read track begins at an index: elsewhere it goes to the next track
abbrev pub read_from : Stance → Ccw → Read → ReadArea → Place → Opened
read_from s c r reads.Track Index = looking s (Reads r)
read_from s c r reads.Track _ = moved s c (Reads r) (track_after s.extent s.track)
read_from s c r _ _ = looking s (Reads r)

-- every other look is at the track at hand
abbrev pub look_from : Stance → Ccw → Look → Opened
look_from s c (Writes NextTrack) = moved s c (Writes NextTrack) (track_after s.extent s.track)
look_from s c (Reads r) = read_from s c r r.area s.place
look_from s c look = looking s look

-- locate record looks at the track that it seeks, unless it needs no record there
abbrev pub locating : Stance → Ccw → Domain → Option Place → Opened
locating s c d (Some place) = over_at_once (placed s c d place)
locating s c d None = looking (record s { track = d.seek }) (Finds d)

-- an order is begun
abbrev pub begun : Stance → Ccw → CommandOrder → Opened
begun s c Nothing = over_at_once (immediate (controlled s) c)
begun s c (Seeks t) = over_at_once (outcome_with (went_to s t) c 6 normal [])
begun s c Recalibrates = over_at_once (immediate (went_to s 0) c)
begun s c SetsSector = over_at_once (outcome_with (controlled s) c 1 normal [])
begun s c (SetsMask mask) = over_at_once (outcome_with (masked s mask) c 1 normal [])
begun s c (Defines e) = over_at_once (outcome_with (extended s e) c 16 normal [])
begun s c (Locates d) = locating s c d (unseen_place d.orientation)
begun s c (Looks look) = look_from s c look
begun s c (Asks act) = record { stance = s; opening = openings.Asks act }

abbrev pub opening_with : Stance → Ccw → Result CommandOrder Sense → Opened
opening_with s c (Ok order) = begun s c order
opening_with s c (Err sense) = over_at_once (refused s c sense)

-- a command that a check refuses is over
abbrev pub opening_of : Fixed → Stance → Ccw → Opened
opening_of f s c = opening_with s c (order_of f s c)
