-- What a call leaves of a file, where that tells what it holds.
use Rattle.std.specs.Prelude.{◌≡◌, ℕ, ◌+◌, ◌≤◌, ◌<◌, List, ◌++◌, length, take, drop, ⊤, Option, Some, None, Result, Ok, Err, IfOk, OnErr}
use Rattle.ckd_types.specs.declared.geometry.Geometry.{Geometry}
use Rattle.ckd_outside.specs.Causes.{Rose}
use Rattle.disk_image.specs.File.{file_size, room_in}

-- bytes over those that stand at an offset, or behind the last one
abbrev pub patched : List ℕ → ℕ → List ℕ → List ℕ
patched all at bytes = take at all ++ (bytes ++ drop (at + length bytes) all)

-- these bytes stand at an offset
abbrev pub IsAt : Option (List ℕ) → ℕ → List ℕ → Type 0
IsAt None at bytes = ⊤
IsAt (Some all) at bytes = take (length bytes) (drop at all) ≡ bytes

-- the file has so many bytes
abbrev pub IsLong : Option (List ℕ) → ℕ → Type 0
IsLong None size = ⊤
IsLong (Some all) size = length all ≡ size

-- of bytes that were to be written at an offset so many were
abbrev pub Puts : {E : Type 0} → Option (List ℕ) → ℕ → List ℕ → Result ℕ E → Option (List ℕ) → Type 0
Puts None at bytes result new = new ≡ None
Puts (Some all) at bytes (Ok n) new = (at ≤ length all) × (new ≡ Some (patched all at (take n bytes)))
Puts (Some all) at bytes (Err e) new = (n : ℕ) × ((new ≡ Some (patched all at (take n bytes))) × (0 < n → at ≤ length all))

-- all were written, or at an error a front of them
abbrev pub PutsAll : {E : Type 0} → Option (List ℕ) → ℕ → List ℕ → Result (Unit {0}) E → Option (List ℕ) → Type 0
PutsAll None at bytes result new = new ≡ None
PutsAll (Some all) at bytes (Ok x) new = (at ≤ length all) × (new ≡ Some (patched all at bytes))
PutsAll (Some all) at bytes (Err e) new = (n : ℕ) × ((new ≡ Some (patched all at (take n bytes))) × (0 < n → at ≤ length all))

-- a count of faults rises where a call fails, or moves fewer bytes than were asked for
pub record CountsShort {E : Type 0} (before now want : ℕ) (result : Result ℕ E) : Type 0 where
  pub later : before ≤ now
  pub failed : OnErr result (Rose before now)
  pub short : IfOk result (λ n. n < want → Rose before now)

-- a track's room holds these bytes
abbrev pub IsRoom : Option (List ℕ) → Geometry → ℕ → List ℕ → Type 0
IsRoom None g t room = ⊤
IsRoom (Some all) g t room = room_in g all t ≡ room
