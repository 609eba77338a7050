-- A device's interaction, and its twin on marks: what both leave and answer.
use Rattle.std.specs.Prelude.{◌≡◌, ℕ, Bool, true, List, []}
use Rattle.ckd_types.specs.declared.record.Track.{Track}
use Rattle.track_image.specs.Image.{Image}
use Rattle.device_outside.specs.Both.{Both}
use Rattle.device_outside.specs.Interaction.{Interaction}
use Rattle.device_defs.specs.Marks.{MarksStore, marks_of}
use Rattle.device_defs.specs.Sound.{DeviceStore}
use Rattle.device_laws.specs.Agrees.{Held}

-- What a claim says of the plain volume, the firm one, the store, the two answers and what the sides hold
abbrev pub Claim : Type 0 → Type 0 → Type 1
Claim A B = List Track → List Track → DeviceStore → A → B → Held → Type 0

-- the twin has the marks of the device, with a plain volume and a firm one of which this holds
pub record Twin {A B : Type 0} (q : Claim A B) (s : DeviceStore) (a : A) (m : MarksStore) (b : B) (h : Held) : Type 0 where
  pub plain : List Track
  pub firm : List Track
  pub marks : marks_of plain firm s ≡ m
  pub is : q plain firm s a b h

-- both ask the same, go on alike, and lead to such a twin
abbrev pub Twins : {A B : Type 0} → Claim A B → Interaction (List ℕ) Image DeviceStore A → Interaction Bool Image MarksStore B → Held → Type 0
Twins q i j h = Both [] true (Twin q) i j h
