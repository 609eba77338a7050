-- The marks of one track, when they are good, and what settling makes of them.
use Rattle.std.proofs.Common.{◌≡◌, ◌&&◌, ◌||◌, not, ℕ, Bool, true, false, Option, Some, None, refl}
use Rattle.std.specs.Prelude.{is_some, if◌then◌else◌}
use Rattle.track_image.specs.Image.{Image}
use Rattle.device_defs.specs.Contents.{Contents, contents, by_plain}
use Rattle.device_defs.specs.Store.{Store, has_level, frame_at, patch_at, is_lost, is_loose, half_is}

pub record TrackMarks : Type 0 where
  pub frame : Option Bool  -- whether it is modified
  pub patched : Bool
  pub lost : Bool
  pub loose : Bool
  pub half : Bool  -- an open half write is of it
  pub level : Bool  -- on some side

abbrev pub marks : Option Bool → Bool → Bool → Bool → Bool → Bool → TrackMarks
marks frame patched lost loose half level = record { frame = frame; patched = patched; lost = lost; loose = loose; half = half; level = level }

abbrev pub is_true : Option Bool → Bool
is_true None = false
is_true (Some m) = m

abbrev pub is_false : Option Bool → Bool
is_false None = false
is_false (Some m) = not m

abbrev pub is_bare : TrackMarks → Bool
is_bare x = not (is_some x.frame) && not x.patched && not x.loose

-- what there is, is in order
abbrev pub is_in_order : TrackMarks → Bool
is_in_order x = (not (is_false x.frame) || (not x.patched && not x.loose)) && (not x.loose || (is_true x.frame && not x.patched))

-- before a track is settled: it may be level on no side
abbrev pub is_near : TrackMarks → Bool
is_near x = if x.lost then is_bare x && not x.level else if x.half then not x.loose else is_in_order x

-- and it is somewhere
abbrev pub is_somewhere : TrackMarks → Bool
is_somewhere x =
    (not (is_false x.frame) || (x.level && not x.patched && not x.loose)) && (is_some x.frame || x.level)
    && (not x.loose || (is_true x.frame && not x.patched && x.level))

abbrev pub is_good : TrackMarks → Bool
is_good x = if x.lost then is_bare x && not x.level else if x.half then not x.loose else is_somewhere x

-- What settling makes of them

abbrev pub framed : Bool → TrackMarks → TrackMarks
framed loose x = if loose then record x { loose = false } else record x { frame = Some true }

abbrev pub unframed : Bool → TrackMarks → TrackMarks
unframed half x = if half then x else record x { lost = true; patched = false }

abbrev pub settled_frame : Option Bool → Bool → Bool → TrackMarks → TrackMarks
settled_frame (Some m) loose half x = framed loose x
settled_frame None loose half x = unframed half x

abbrev pub settled_marks : TrackMarks → TrackMarks
settled_marks x = if x.lost then x else if x.level then x else settled_frame x.frame x.loose x.half x

-- it makes them good
settles : (frame : Option Bool) (patched lost loose half level : Bool) → is_near (marks frame patched lost loose half level) ≡ true →
    is_good (settled_marks (marks frame patched lost loose half level)) ≡ true
settles f p true o h v e = e
settles f p false true true v e = absurd (cc)
settles f p false false true true e = refl
settles (Some m) p false false true false e = refl
settles None p false false true false e = refl
settles None p false true false v e = absurd (cc)
settles None p false false false true e = refl
settles None p false false false false e = refl
settles (Some true) p false false false true e = refl
settles (Some true) p false false false false e = refl
settles (Some true) true false true false v e = absurd (cc)
settles (Some true) false false true false true e = refl
settles (Some true) false false true false false e = refl
settles (Some false) true false o false v e = absurd (cc)
settles (Some false) false false true false v e = absurd (cc)
settles (Some false) false false false false true e = refl
settles (Some false) false false false false false e = refl

pub settling_makes_good : (x : TrackMarks) → is_near x ≡ true → is_good (settled_marks x) ≡ true
settling_makes_good x e = settles x.frame x.patched x.lost x.loose x.half x.level e

-- good ones are near, and are sound
good_near : (frame : Option Bool) (patched lost loose half level : Bool) → is_good (marks frame patched lost loose half level) ≡ true →
    is_near (marks frame patched lost loose half level) ≡ true
good_near f p true o h v e = e
good_near f p false o true v e = e
good_near None p false false false v e = refl
good_near None p false true false true e = absurd (cc)
good_near None p false true false false e = absurd (cc)
good_near (Some true) p false false false v e = refl
good_near (Some true) false false true false v e = refl
good_near (Some true) true false true false v e = absurd (cc)
good_near (Some false) false false false false v e = refl
good_near (Some false) true false o false true e = absurd (cc)
good_near (Some false) true false o false false e = absurd (cc)
good_near (Some false) false false true false true e = absurd (cc)
good_near (Some false) false false true false false e = absurd (cc)

pub good_is_near : (x : TrackMarks) → is_good x ≡ true → is_near x ≡ true
good_is_near x e = good_near x.frame x.patched x.lost x.loose x.half x.level e

-- a side that goes down, or on which the track becomes stale, leaves what was near as near
near_off : (frame : Option Bool) (patched lost loose half level : Bool) → is_near (marks frame patched lost loose half level) ≡ true →
    (v : Bool) → (v ≡ true → level ≡ true) → is_near (marks frame patched lost loose half v) ≡ true
near_off f p false o true l e v g = e
near_off f p false o false l e v g = e
near_off f p true o h l e false g = bare_near (is_bare (marks f p true o h l)) l e
  where
    bare_near : (b l : Bool) → (b && not l) ≡ true → (b && true) ≡ true
    bare_near true l e = refl
    bare_near false l e = e
near_off f p true o h false e true g = absurd (let f = g refl in cc)
near_off f p true o h true e true g = e

pub near_with_fewer_sides : (x : TrackMarks) (v : Bool) → is_near x ≡ true → (v ≡ true → x.level ≡ true) → is_near (record x { level = v }) ≡ true
near_with_fewer_sides x v e g = near_off x.frame x.patched x.lost x.loose x.half x.level e v g

-- The marks of a track of a store

module _ {F P H R : Type 0} (c : Contents F P H R) where
  abbrev pub frame_mark : Option F → Option Bool
  frame_mark None = None
  frame_mark (Some f) = Some (c.modified f)

  unfoldable pub track_at : Store F P H → ℕ → TrackMarks
  track_at s t = marks (frame_mark (frame_at s t)) (is_some (patch_at s t)) (is_lost s t) (is_loose s t) (half_is s.half t) (has_level s t)

  -- a frame is modified as it was made or marked
  pub record IsFaithful : Type 0 where
    pub marked : (f : F) (m : Bool) → c.modified (c.marked f m) ≡ m
    pub made : (i : Image) (m : Bool) → c.modified (c.frame i m) ≡ m

pub device_is_faithful : IsFaithful contents
device_is_faithful = record { marked = λ f m. refl; made = λ i m. refl }

pub marks_are_faithful : IsFaithful by_plain
marks_are_faithful = record { marked = λ f m. refl; made = λ i m. refl }
