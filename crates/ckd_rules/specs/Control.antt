-- Stances and outcomes of the control commands.
use Rattle.std.specs.Prelude.{ℕ, [], Option, None, Some, true, if◌then◌else◌}
use Rattle.ckd_types.specs.declared.channel.Ccw.{Ccw}
use Rattle.ckd_types.specs.declared.parameters.Extent.{Extent}
use Rattle.ckd_types.specs.declared.parameters.Domain.{Domain}
use Rattle.ckd_types.specs.declared.parameters.Orientation.{Orientation}
use Rattle.ckd_types.specs.declared.parameters.Orientation.TheVariants as orientations
use Rattle.ckd_types.specs.Domains.{is_reading_tracks}
use Rattle.ckd_types.specs.Parameters.{is_orient}
use Rattle.ckd_types.specs.Sense.{no_record_sense}
use Rattle.ckd_rules.specs.declared.stance.Stance.{Stance}
use Rattle.ckd_rules.specs.declared.stance.Place.{Place}
use Rattle.ckd_rules.specs.declared.stance.Place.TheVariants.{Index, Home, Count, Body}
use Rattle.ckd_rules.specs.declared.stance.After.TheVariants.{Other}
use Rattle.ckd_rules.specs.Ending.{Outcome, normal, refused, outcome_with}

-- behind a command that neither searches, reads nor writes
abbrev pub controlled : Stance → Stance
controlled s = record s { passes = 0; after = Other }

-- the chain is before the index of a track
abbrev pub went_to : Stance → ℕ → Stance
went_to s t = record (controlled s) { track = t; place = Index }

-- place and track stay as they were
abbrev pub extended : Stance → Extent → Stance
extended s e = record (controlled s) { extent = Some e; mask = e.mask; mask_set = true }

abbrev pub masked : Stance → ℕ → Stance
masked s mask = record (controlled s) { mask = mask; mask_set = true }

-- orient opens no domain
abbrev pub opened_domain : Domain → Option Domain
opened_domain d = if is_orient d.operation then None else Some d

-- for read tracks the place is the index, whatever was looked for
abbrev pub place_for : Domain → Place → Place
place_for d place = if is_reading_tracks d.operation then Index else place

-- the chain is on the track that was sought
abbrev pub placed : Stance → Ccw → Domain → Place → Outcome
placed s c d place = outcome_with (record (controlled s) { domain = opened_domain d; left = d.count; track = d.seek; place = place_for d place }) c 16 normal []

-- home address and index need no look at the track
abbrev pub unseen_place : Orientation → Option Place
unseen_place orientations.Count = None
unseen_place orientations.Body = None
unseen_place orientations.Home = Some Home
unseen_place orientations.Index = Some Index

-- the record that was looked for, by its count area or its data
abbrev pub record_place : Orientation → ℕ → Place
record_place orientations.Count i = Count i
record_place orientations.Body i = Body i
record_place orientations.Home i = Home
record_place orientations.Index i = Index

-- a locate record that looked for its record: where it was found, if it was
abbrev pub located : Stance → Ccw → Domain → Option ℕ → Outcome
located s c d (Some i) = placed s c d (record_place d.orientation i)
located s c d None = refused s c no_record_sense
