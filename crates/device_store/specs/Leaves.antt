-- What a call of a device's store leaves as it was; all that it changes, its own clauses say.
use Rattle.std.specs.Prelude.{◌≡◌}
use Rattle.device_outside.specs.declared.volume.Volume.{Ghosts}
use Rattle.device_store.specs.declared.store.DeviceStore.{DeviceStore}
use Rattle.event_notes.specs.Loose.{weight}

-- it is the same device
pub record IsSameDevice {V : Type 0} {G : Ghosts V} (old new : DeviceStore V G) : Type 0 where
  pub number : new.number ≡ old.number
  pub cylinders : new.cylinders ≡ old.cylinders
  pub geometry : new.geometry ≡ old.geometry

-- no more room is needed for the acts of its loose tracks
pub record KeepsWeight {V : Type 0} {G : Ghosts V} (old new : DeviceStore V G) : Type 0 where
  pub number : new.number ≡ old.number
  pub cylinders : new.cylinders ≡ old.cylinders
  pub geometry : new.geometry ≡ old.geometry
  pub weight : weight new.loose ≡ weight old.loose

-- nor is a half write opened or ended
pub record KeepsHalfWrite {V : Type 0} {G : Ghosts V} (old new : DeviceStore V G) : Type 0 where
  pub number : new.number ≡ old.number
  pub cylinders : new.cylinders ≡ old.cylinders
  pub geometry : new.geometry ≡ old.geometry
  pub half : new.half ≡ old.half
  pub weight : weight new.loose ≡ weight old.loose

-- nor is a volume called
pub record MovesNothing {V : Type 0} {G : Ghosts V} (old new : DeviceStore V G) : Type 0 where
  pub number : new.number ≡ old.number
  pub cylinders : new.cylinders ≡ old.cylinders
  pub geometry : new.geometry ≡ old.geometry
  pub volume : new.pair.volumes ≡ old.pair.volumes
  pub half : new.half ≡ old.half
  pub weight : weight new.loose ≡ weight old.loose

-- no volume is called, and no half write is opened or ended
pub record KeepsVolumes {V : Type 0} {G : Ghosts V} (old new : DeviceStore V G) : Type 0 where
  pub number : new.number ≡ old.number
  pub cylinders : new.cylinders ≡ old.cylinders
  pub geometry : new.geometry ≡ old.geometry
  pub volume : new.pair.volumes ≡ old.pair.volumes
  pub half : new.half ≡ old.half

-- no track becomes loose or firm, and no half write is opened or ended
pub record KeepsLooseTracks {V : Type 0} {G : Ghosts V} (old new : DeviceStore V G) : Type 0 where
  pub number : new.number ≡ old.number
  pub cylinders : new.cylinders ≡ old.cylinders
  pub geometry : new.geometry ≡ old.geometry
  pub half : new.half ≡ old.half
  pub loose : new.loose ≡ old.loose

-- nor is a volume called
pub record ChangesMarksAlone {V : Type 0} {G : Ghosts V} (old new : DeviceStore V G) : Type 0 where
  pub number : new.number ≡ old.number
  pub cylinders : new.cylinders ≡ old.cylinders
  pub geometry : new.geometry ≡ old.geometry
  pub volume : new.pair.volumes ≡ old.pair.volumes
  pub half : new.half ≡ old.half
  pub loose : new.loose ≡ old.loose
