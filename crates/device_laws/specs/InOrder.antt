-- A device's store that is in order, where its volumes tell what they hold, and what the parts of its events leave.
use Rattle.std.specs.Prelude.{◌≡◌, ◌≢◌, ◌<◌, ℕ, Bool, true, false, List, [], ◌∷◌, Option, Some, None, is_some, if◌then◌else◌}
use Rattle.ckd_types.specs.declared.paths.Side.{Side}
use Rattle.ckd_types.specs.declared.record.Edit.{Edit}
use Rattle.ckd_types.specs.declared.record.Track.{Track}
use Rattle.ckd_types.specs.Volume.{track_in}
use Rattle.track_image.specs.Image.{Image}
use Rattle.device_defs.specs.declared.answers.Took.{Took}
use Rattle.device_defs.specs.Contents.{contents}
use Rattle.device_defs.specs.Image.{Imaged, Has, BadTrack}
use Rattle.device_defs.specs.Sound.{DeviceStore, has_sound_marks}
use Rattle.device_defs.specs.Store.{Origin, HalfWrite, tracks_of, has_level, patch_at, is_lost, has_loose, half_is, owed_at}
use Rattle.device_laws.specs.Agrees.{Held, image_in, PatchFits, PatchOf, Agrees}
use Rattle.device_laws.specs.PlainWrites.{OriginSuits, plain_had, plain_second}

-- each of these is one of the first n
abbrev pub AreBelow : ℕ → List ℕ → Type 0
AreBelow n [] = Unit {0}
AreBelow n (t ∷ ts) = (t < n) × AreBelow n ts

-- of an open half write: a command's edit suits its track, and what the patch of that is good for
pub record IsOpen (v : List Track) (s : DeviceStore) (i : HalfWrite Image) : Type 0 where
  pub suits : OriginSuits s.geometry (track_in v i.track) i.origin
  pub patch : PatchOf i.origin (patch_at s i.track) (image_in s v i.track)

-- it isn't lent, its marks are sound, it holds what it should, and the keeper was told all
pub record IsInOrder (v w : List Track) (s : DeviceStore) (h : Held) : Type 0 where
  pub agrees : Agrees v w s h
  pub told : (t : ℕ) → (owed_at s t).firm ≡ false
  pub free : is_some s.lent ≡ false
  pub alone : s.paired ≡ false → s.b.up ≡ false
  pub whole : s.paired ≡ false → s.half ≡ None
  pub marks : (t : ℕ) → t < tracks_of s → has_sound_marks contents s t ≡ true
  pub queued : AreBelow (tracks_of s) s.queue
  pub nowhere : (t : ℕ) → t < tracks_of s → is_lost s t ≡ true → has_level s t ≡ false
  pub within : (i : HalfWrite Image) → s.half ≡ Some i → i.track < tracks_of s
  pub there : (i : HalfWrite Image) → s.half ≡ Some i → is_lost s i.track ≡ false
  pub patched : (t : ℕ) → t < tracks_of s → is_lost s t ≡ false → half_is s.half t ≡ false → PatchFits (patch_at s t) (image_in s v t) (image_in s w t)
  pub opened : (i : HalfWrite Image) → s.half ≡ Some i → IsOpen v s i

-- the plain volume behind the loss of the cache: without data of cache fast write, where there are some
abbrev pub plain_lost : DeviceStore → List Track → List Track → List Track
plain_lost s v w = if has_loose s then w else v

-- and behind a cut, where an open half write of a command counts as done
abbrev pub plain_cut : Option (HalfWrite Image) → List Track → List Track
plain_cut None v = v
plain_cut (Some i) v = plain_second i.origin true v i.track

-- What is left. The first arguments are what a part began with

pub record StaysInOrder {A : Type 0} (v : List Track) (v' w' : List Track) (z : DeviceStore) (a b : A) (k : Held) : Type 0 where
  pub order : IsInOrder v' w' z k
  pub plain : v' ≡ v
  pub same : a ≡ b

-- an image is the plain track, and no bytes are bad
pub record ImageIs (v : List Track) (s : DeviceStore) (t : ℕ) (v' w' : List Track) (z : DeviceStore) (a b : Option Imaged) (k : Held) : Type 0 where
  pub left : StaysInOrder v v' w' z a b k
  pub image : (i : Image) → a ≡ Some (Has i) → i ≡ image_in s v t
  pub good : (side : Side) → a ≢ Some (BadTrack side)

-- the plain volume has the edit where the write is done
pub record WriteIs (v : List Track) (t : ℕ) (e : Edit) (v' w' : List Track) (z : DeviceStore) (a b : Option Took) (k : Held) : Type 0 where
  pub order : IsInOrder v' w' z k
  pub plain : v' ≡ plain_had a v t e
  pub same : a ≡ b

pub record SecondIs (v : List Track) (t : ℕ) (origin : Origin) (v' w' : List Track) (z : DeviceStore) (a b : Bool) (k : Held) : Type 0 where
  pub order : IsInOrder v' w' z k
  pub plain : v' ≡ plain_second origin a v t
  pub same : a ≡ b
