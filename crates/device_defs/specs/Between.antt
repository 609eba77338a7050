-- What a device has on its marks between two of its events, beside what is said of each track.
use Rattle.std.specs.Prelude.{◌≡◌, ◌<◌, ◌≤◌, ℕ, true, false, List, [], ◌∷◌, length, replicate, None, Some, is_some}
use Rattle.device_defs.specs.Store.{HalfWrite, Store, tracks_of, has_level, is_lost, no_debt}

module _ {F P H : Type 0} where
  -- how many tracks each list has
  abbrev pub sizes : Store F P H → List ℕ
  sizes s =
      length s.a.stale ∷ length s.b.stale ∷ length s.frames ∷ length s.patches ∷ length s.lost ∷ length s.loose ∷ length s.owed ∷ []

  -- there is one for each track
  pub record HasSizes (s : Store F P H) : Type 0 where
    pub are : sizes s ≡ replicate 7 (tracks_of s)

  -- a volume that is alone has no other side, and none is held
  pub record HasSides (s : Store F P H) : Type 0 where
    pub alone : s.paired ≡ false → s.b.up ≡ false
    pub free : s.paired ≡ false → s.held ≡ false

  -- a device that is lent has no side, and nothing of its tracks
  pub record IsAway (s : Store F P H) : Type 0 where
    pub single : s.paired ≡ false
    pub down : s.a.up ≡ false
    pub frames : s.frames ≡ replicate (tracks_of s) None
    pub patches : s.patches ≡ replicate (tracks_of s) None
    pub lost : s.lost ≡ replicate (tracks_of s) false
    pub queue : s.queue ≡ []
    pub half : s.half ≡ None

  pub record IsBetween (s : Store F P H) : Type 0 where
    pub sizes : HasSizes s
    pub sides : HasSides s
    pub half : (h : HalfWrite H) → s.half ≡ Some h → h.track < tracks_of s
    pub nowhere : (t : ℕ) → is_lost s t ≡ true → has_level s t ≡ false  -- a lost track stays that until the device is lent
    pub queue : length s.queue ≤ 64
    pub owed : s.owed ≡ replicate (tracks_of s) no_debt  -- the outside was told all
    pub away : is_some s.lent ≡ true → IsAway s
